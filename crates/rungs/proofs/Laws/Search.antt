-- Laws of the search for a label. Assumes nothing.
use Rattle.std.specs.Prelude.{ℕ, zero, suc, ◌+◌, ◌≤◌, ◌<◌, Bool, true, false, ◌≡◌, List, [], ◌∷◌, T, not, cond, Option, Some, None, ◌==◌, eqb, ltb, length, get_or, take}
use Rattle.std.specs.List.{position_or_len}
use Rattle.std.proofs.Math.Decide.{ℕ_discrete}
use Rattle.std.proofs.Common.{arith, ap, ◌∙◌, ltb→lt, ltb-true, ltb-false, lt-ltb, le-ltb, eq-eqb, ne_eqb}
use Rattle.std.proofs.Math.Path.{refl, sym}
use Rattle.std.proofs.Math.Option.{some}
use Rattle.std.proofs.Math.Dec.{lt→ltb}
use Rattle.std.proofs.Math.ListN.{get_elem?}
use Rattle.rungs.specs.Records.{search, present, looked_at, look_up}
use Rattle.rungs.specs.Parts.{place_of}
use Rattle.rungs.specs.declared.Search.{Search}
use Rattle.rungs.specs.Records.{found, missing}

-- ---- the place

-- one label more
one_more : (t : Bool) (a b : ℕ) → a ≤ b → elim t [ true ↦ 0 | false ↦ suc a ] ≤ suc b
one_more true a b h = omega arith
one_more false a b h = omega arith

-- it goes no further than a place that has the label, nor past the last, and not to one that has not
pub search_before : (l : ℕ) (ms : List ℕ) (i : ℕ) → i < length ms → get_or ms i 0 ≡ l → search l ms ≤ i
unfolding search
search_before l [] i h e = absurd (omega arith)
search_before l (m ∷ ms) zero h e = rw (eq-eqb m l e, search) (omega arith)
search_before l (m ∷ ms) (suc i) h e = one_more (eqb m l) (search l ms) i (search_before l ms i (omega arith) e)

pub search_within : (l : ℕ) (ms : List ℕ) → search l ms ≤ length ms
unfolding search
search_within l [] = omega arith
search_within l (m ∷ ms) = one_more (eqb m l) (search l ms) (length ms) (search_within l ms)

pub search_at : (l : ℕ) (ms : List ℕ) → search l ms < length ms → get_or ms (search l ms) 0 ≡ l
unfolding search
search_at l [] h = absurd (omega arith)
search_at l (m ∷ ms) h = go (ℕ_discrete m l) h (search_at l ms)
  where
    go : Dec (m ≡ l) → search l (m ∷ ms) < suc (length ms) → (search l ms < length ms → get_or ms (search l ms) 0 ≡ l) → get_or (m ∷ ms) (search l (m ∷ ms)) 0 ≡ l
    go (yes e) h more = rw (eq-eqb m l e, search) e
    go (no e) h more =
        let p : search l (m ∷ ms) ≡ suc (search l ms) = rw (ne_eqb m l e, search) in
        rw p (more (omega arith))

pub search_past : (l : ℕ) (ms : List ℕ) → ((i : ℕ) → i < length ms → get_or ms i 0 ≡ l → ⊥) → search l ms ≡ length ms
unfolding search
search_past l [] h = refl
search_past l (m ∷ ms) h = rw (ne_eqb m l (h 0 (omega arith)), search, search_past l ms (λ i k. h (suc i) (omega arith)))

-- the library's word for it
pub search_position : (l : ℕ) (ms : List ℕ) → search l ms ≡ position_or_len (λ m. m == l) ms
unfolding search
search_position l [] = refl
search_position l (m ∷ ms) = go (eqb m l) (search_position l ms)
  where
    go : (t : Bool) → search l ms ≡ position_or_len (λ x. x == l) ms → elim t [ true ↦ 0 | false ↦ suc (search l ms) ] ≡ cond (not t) (1 + position_or_len (λ x. x == l) ms) 0
    go true e = refl
    go false e = let n = ap suc e in omega arith

-- ---- the labels looked at

-- none after the match, and none is left out
looked_next : (l : ℕ) (ms : List ℕ) → search l ms < length ms → length (looked_at l ms) ≡ search l ms + 1
unfolding search looked_at
looked_next l [] h = absurd (omega arith)
looked_next l (m ∷ ms) h = go (ℕ_discrete m l) h (looked_next l ms)
  where
    go : Dec (m ≡ l) → search l (m ∷ ms) < suc (length ms) → (search l ms < length ms → length (looked_at l ms) ≡ search l ms + 1)
        → length (looked_at l (m ∷ ms)) ≡ search l (m ∷ ms) + 1
    go (yes e) h more =
        let p : search l (m ∷ ms) ≡ 0 = rw (eq-eqb m l e, search) in
        let q : looked_at l (m ∷ ms) ≡ m ∷ [] = ap (λ (t : Bool). m ∷ elim t [ true ↦ [] | false ↦ looked_at l ms ]) (eq-eqb m l e) in
        let n = ap length q in
        omega arith
    go (no e) h more =
        let p : search l (m ∷ ms) ≡ suc (search l ms) = rw (ne_eqb m l e, search) in
        let q : looked_at l (m ∷ ms) ≡ m ∷ looked_at l ms = rw (ne_eqb m l e, looked_at) in
        let n = ap length q in
        omega (arith, more (omega arith))

looked_all : (l : ℕ) (ms : List ℕ) → search l ms ≡ length ms → looked_at l ms ≡ ms
unfolding search looked_at
looked_all l [] h = refl
looked_all l (m ∷ ms) h = go (ℕ_discrete m l) h (looked_all l ms)
  where
    go : Dec (m ≡ l) → search l (m ∷ ms) ≡ suc (length ms) → (search l ms ≡ length ms → looked_at l ms ≡ ms) → looked_at l (m ∷ ms) ≡ m ∷ ms
    go (yes e) h more =
        let p : search l (m ∷ ms) ≡ 0 = rw (eq-eqb m l e, search) in
        absurd (omega arith)
    go (no e) h more =
        let p : search l (m ∷ ms) ≡ suc (search l ms) = rw (ne_eqb m l e, search) in
        let q : looked_at l (m ∷ ms) ≡ m ∷ looked_at l ms = rw (ne_eqb m l e, looked_at) in
        q ∙ ap (λ ns. m ∷ ns) (more (omega arith))

pub looked_first : (l : ℕ) (ms : List ℕ) → looked_at l ms ≡ take (length (looked_at l ms)) ms
unfolding looked_at
looked_first l [] = refl
looked_first l (m ∷ ms) = go (eqb m l) (looked_first l ms)
  where
    go : (t : Bool) → looked_at l ms ≡ take (length (looked_at l ms)) ms → (let ns : List ℕ = m ∷ elim t [ true ↦ [] | false ↦ looked_at l ms ] in ns ≡ take (length ns) (m ∷ ms))
    go true more = refl
    go false more = ap (λ ns. m ∷ ns) more

-- ---- what the search tells

absurd_some : {P : Type 0} {n : ℕ} → ◌≡◌ {A = Option ℕ} (Some n) None → P
absurd_some e = let z : ◌≡◌ {A = ℕ} 0 1 = cc in absurd (omega arith)

pub look_found : (l : ℕ) (ms : List ℕ) → search l ms < length ms → look_up l ms ≡ found (search l ms) (search l ms + 1)
unfolding look_up present
look_found l ms h = rw (lt-ltb (search l ms) (length ms) h, look_up) (ap (λ n. found (search l ms) n) (looked_next l ms h))

pub look_missing : (l : ℕ) (ms : List ℕ) → search l ms ≡ length ms → look_up l ms ≡ missing (length ms)
unfolding look_up present
look_missing l ms h = rw (le-ltb (search l ms) (length ms) (omega arith), look_up) (ap (λ ns. missing (length ns)) (looked_all l ms h))

-- what the library's search by position gives is what the search tells
module _ (l : ℕ) (ms : List ℕ) where
  abbrev pub placed : Bool → Option ℕ
  placed t = cond t (Some (position_or_len (λ m. m == l) ms)) None

  pub position_found : (place : ℕ) → Some place ≡ placed (ltb (position_or_len (λ m. m == l) ms) (length ms)) → found place (place + 1) ≡ look_up l ms
  position_found place e = go (ltb (position_or_len (λ m. m == l) ms) (length ms)) refl e
    where
      go : (t : Bool) → ltb (position_or_len (λ m. m == l) ms) (length ms) ≡ t → Some place ≡ placed t → found place (place + 1) ≡ look_up l ms
      go true q p =
          let same = search_position l ms in
          let here : place ≡ search l ms = cc in
          let inside : search l ms < length ms = omega (arith, ltb-true _ _ q) in
          sym (look_found l ms inside ∙ ap (λ k. found k (k + 1)) (sym here))
      go false q p = absurd_some p

  pub position_none : None ≡ placed (ltb (position_or_len (λ m. m == l) ms) (length ms)) → missing (length ms) ≡ look_up l ms
  position_none e = go (ltb (position_or_len (λ m. m == l) ms) (length ms)) refl e
    where
      go : (t : Bool) → ltb (position_or_len (λ m. m == l) ms) (length ms) ≡ t → None ≡ placed t → missing (length ms) ≡ look_up l ms
      go true q p = absurd_some (sym p)
      go false q p =
          let same = search_position l ms in
          let past : search l ms ≡ length ms = omega (arith, ltb-false _ _ q, search_within l ms) in
          sym (look_missing l ms past)

-- the one or the other
by_search : {P : Type 0} (l : ℕ) (ms : List ℕ) → (search l ms < length ms → P) → (search l ms ≡ length ms → P) → P
by_search {P} l ms f g = go (ltb (search l ms) (length ms)) refl (search_within l ms)
  where
    go : (t : Bool) → ltb (search l ms) (length ms) ≡ t → search l ms ≤ length ms → P
    go true e h = f (ltb-true (search l ms) (length ms) e)
    go false e h = let p = ltb-false (search l ms) (length ms) e in g (omega arith)

-- a search ends where the search of the definitions does
pub place_of_lem : (l : ℕ) (ms : List ℕ) → place_of (look_up l ms) ≡ search l ms
unfolding place_of
place_of_lem l ms = by_search l ms (λ h. rw (look_found l ms h)) (λ e. rw (look_missing l ms e) (sym e))

pub ends_at : (l : ℕ) (ms : List ℕ) (s : Search) (place : ℕ) → s ≡ look_up l ms → place ≡ place_of s → place ≡ search l ms
ends_at l ms s place e p = p ∙ ap place_of e ∙ place_of_lem l ms

-- ---- what the search tells, exactly

elem_at : (ms : List ℕ) (i : ℕ) → i < length ms → get_elem? ms i ≡ some (get_or ms i 0)
elem_at [] i h = absurd (omega arith)
elem_at (m ∷ ms) zero h = refl
elem_at (m ∷ ms) (suc i) h = elem_at ms i (omega arith)

-- a label that stands at a place
record StandsAt (ms : List ℕ) (i l : ℕ) : Type 0 where
  inside : i < length ms
  has : get_or ms i 0 ≡ l

elem_stands : (ms : List ℕ) (i l : ℕ) → get_elem? ms i ≡ some l → StandsAt ms i l
elem_stands [] i l e = let z : ◌≡◌ {A = ℕ} 0 1 = cc in absurd (omega arith)
elem_stands (m ∷ ms) zero l e = record { inside = omega arith; has = cc }
elem_stands (m ∷ ms) (suc i) l e = let h = elem_stands ms i l e in record { inside = omega (arith, h.inside); has = h.has }

module _ (l : ℕ) (ms : List ℕ) where
  pub place_found : (place looked : ℕ) → look_up l ms ≡ found place looked → search l ms ≡ place
  unfolding place_of
  place_found place looked e = sym (ends_at l ms (look_up l ms) place refl (sym (ap place_of e)))

  pub told_found : (place looked : ℕ) → look_up l ms ≡ found place looked
      → (get_elem? ms place ≡ some l) × ((i : ℕ) → i < place → get_elem? ms i ≡ some l → ⊥) × (looked ≡ place + 1)
  told_found place looked e = by_search l ms
      (λ h.
      let p = place_found place looked e in
      let n : looked ≡ search l ms + 1 = ap (λ (s : Search). s.looked) (sym e ∙ look_found l ms h) in (
        ap (λ k. get_elem? ms k) (sym p) ∙ elem_at ms (search l ms) h ∙ ap some (search_at l ms h),
        (λ i k q. let s = elem_stands ms i l q in omega (arith, s.inside, search_before l ms i s.inside s.has)),
        omega arith,
      ))
      (λ h. let q = ap (λ (s : Search). s.place) (sym e ∙ look_missing l ms h) in let z : ◌≡◌ {A = ℕ} 0 1 = cc in absurd (omega arith))

  pub found_told : (place looked : ℕ) → get_elem? ms place ≡ some l → ((i : ℕ) → i < place → get_elem? ms i ≡ some l → ⊥) → looked ≡ place + 1
      → look_up l ms ≡ found place looked
  found_told place looked has least exactly =
      let s = elem_stands ms place l has in
      let upto = search_before l ms place s.inside s.has in
      let inside : search l ms < length ms = omega (arith, s.inside) in
      let here : search l ms ≡ place = at_least (ℕ_discrete (search l ms) place) upto (elem_at ms (search l ms) inside ∙ ap some (search_at l ms inside)) in
      look_found l ms inside ∙ ap (λ k. found k (k + 1)) here ∙ ap (λ k. found place k) (sym exactly)
    where
      at_least : Dec (search l ms ≡ place) → search l ms ≤ place → get_elem? ms (search l ms) ≡ some l → search l ms ≡ place
      at_least (yes e) h q = e
      at_least (no e) h q = absurd (least (search l ms) (omega arith) q)

  pub told_missing : (looked : ℕ) → look_up l ms ≡ missing looked → ((i : ℕ) → get_elem? ms i ≡ some l → ⊥) × (looked ≡ length ms)
  told_missing looked e = by_search l ms
      (λ h. let q = ap (λ (s : Search). s.place) (sym e ∙ look_found l ms h) in let z : ◌≡◌ {A = ℕ} 0 1 = cc in absurd (omega arith))
      (λ h. (
        (λ i q. let s = elem_stands ms i l q in omega (arith, s.inside, search_before l ms i s.inside s.has)),
        ap (λ (s : Search). s.looked) (sym e ∙ look_missing l ms h),
      ))

  pub missing_told : (looked : ℕ) → ((i : ℕ) → get_elem? ms i ≡ some l → ⊥) → looked ≡ length ms → look_up l ms ≡ missing looked
  missing_told looked none all =
      look_missing l ms (search_past l ms (λ i h e. none i (elem_at ms i h ∙ ap some e))) ∙ ap (λ k. missing k) (sym all)

  pub present_found : T (present l ms) → (place : ℕ) × (looked : ℕ) × (look_up l ms ≡ found place looked)
  unfolding present
  present_found h = (search l ms, search l ms + 1, look_found l ms (ltb→lt (search l ms) (length ms) h))

  pub found_is_present : (place looked : ℕ) → look_up l ms ≡ found place looked → T (present l ms)
  unfolding present
  found_is_present place looked e =
      let h = elem_stands ms place l (told_found place looked e).0 in
      lt→ltb (search l ms) (length ms) (omega (arith, h.inside, search_before l ms place h.inside h.has))
