-- Laws of a part that is read, over whatever tree it is and whatever words it makes. Assumes nothing.
use mathlib.Core.Path.{◌≡◌, refl, sym, ap, subst, ◌∙◌}
use mathlib.Core.List.{List}
use Prim.Native.Nat.{ℕ, ◌+◌, ◌≤◌, ◌<◌}
use native.Mathlib.Omega.{arith}
use borrow.Author.Tests.{eq-eqb, ne_eqb}
use lib.ListN.{length, set}
use lib.Seq.{sets}
use Rattle.std.specs.Prelude.{Some, None, Result, Ok, Err, IsErr, IsErrAnd}
use Rattle.rungs.specs.Words.{word}
use Rattle.text_grammar.specs.Reader.{Parse, read, stuck, map_p, followed}
use Rattle.text_grammar.specs.Numbers.{NumberRead}
use Rattle.text_grammar.specs.declared.Numeral.{Numeral}
use Rattle.text_grammar.proofs.Laws.Parses.{same_tree, not_both}
use Rattle.text_fronts.specs.Parts.{parsed_of, PartRead, ByteRead, one_word, leaf_of}
use Rattle.text_fronts.specs.declared.part.Parsed.{Parsed}
use Rattle.text_fronts.specs.declared.part.Stuck.{Stuck}

-- what a `?` passes on is the error that it met
pub error_is : {A E : Type 0} {e : E} (r : Result A E) → IsErr r × IsErrAnd r (λ x. x ≡ e) → r ≡ Err e
error_is (Ok a) h = absurd h.1
error_is (Err x) h = ap Err h.1

-- a part and the byte b after it
module _ {A : Type 0} (s : List ℕ) (b : ℕ) (p : Parse A) where
  pub followed_read : (n m : ℕ) (t : A) → p ≡ read n t → ByteRead s n b (Ok m) → followed s b p ≡ read m t
  unfolding followed
  followed_read n m t r q = rw (r, q.0, eq-eqb _ _ q.1) refl

  pub followed_short : (n : ℕ) (x : Stuck) (t : A) → p ≡ read n t → ByteRead s n b (Err x) → followed s b p ≡ stuck x.place
  unfolding followed
  followed_short n x t r q = rw (r, q.0, ne_eqb _ _ q.1) refl

  pub followed_stuck : (x : ℕ) → p ≡ stuck x → followed s b p ≡ stuck x
  unfolding followed
  followed_stuck x r = rw r refl

module _ {A : Type 0} (words : A → List ℕ) where
  -- what the reader gave, by the code's answer
  pub read_of : (p : Parse A) (r : Parsed) → Ok r ≡ parsed_of words p → (t : A) × (p ≡ read r.next t) × (length (words t) ≡ r.count)
  read_of (read m t) r e = let q : r ≡ record { next = m; count = length (words t) } = cc in (t, rw q refl, rw q refl)
  read_of (stuck p) r e = let z : ◌≡◌ {A = ℕ} 0 1 = cc in absurd (omega arith)

  pub stuck_of : (p : Parse A) (x : Stuck) → Err x ≡ parsed_of words p → p ≡ stuck x.place
  stuck_of (read m t) x e = let z : ◌≡◌ {A = ℕ} 0 1 = cc in absurd (omega arith)
  stuck_of (stuck p) x e = let q : x ≡ record { place = p } = cc in rw q refl

  module _ (p : Parse A) (s : List ℕ) (at : ℕ) where
    -- a part that is stuck says nothing of the words
    pub part_stuck : (x : Stuck) (put : ℕ) (e y : List ℕ) → p ≡ stuck x.place → PartRead words p s at (Err x) put e y
    part_stuck x put e y q = record { same = rw q refl; within = tt; out = λ n t b h. absurd (not_both p x.place n t q b) }

    -- a part that is read as a known tree
    pub part_read : (r : Parsed) (t : A) (put : ℕ) (e x : List ℕ) → p ≡ read r.next t → length (words t) ≡ r.count
        → at < r.next → r.next ≤ length s → r.count + at ≤ r.next
        → (put + length (words t) ≤ length e → x ≡ sets e put (words t)) → PartRead words p s at (Ok r) put e x
    part_read r t put e x q c past within few h =
        record {
          same = rw (q, c) refl;
          within = (past, within, few);
          out = λ m u b r. let k : t ≡ u = same_tree (sym q ∙ b) in rw (← k) (h (rw k r));
        }

  -- the same part under another name
  pub renamed : (p q : Parse A) (s : List ℕ) (at : ℕ) (r : Result Parsed Stuck) (put : ℕ) (e x : List ℕ) → p ≡ q → PartRead words p s at r put e x
      → PartRead words q s at r put e x
  renamed p q s at r put e x h f = subst (λ (a : Parse A). PartRead words a s at r put e x) h f

  -- a part, and then the byte b, which closes a bracket or ends a line
  module _ (p : Parse A) (s : List ℕ) (from at b : ℕ) (less : at ≤ from) where
    pub closed : (r : Parsed) (m put : ℕ) (e y : List ℕ) → PartRead words p s from (Ok r) put e y → ByteRead s r.next b (Ok m)
        → PartRead words (followed s b p) s at (Ok (record { next = m; count = r.count })) put e y
    closed r m put e y f q =
        let t = read_of p r f.same in
        let n = q.0 in
        let i = q.2 in
        part_read (followed s b p) s at (record { next = m; count = r.count }) t.0 put e y (followed_read s b p r.next m t.0 t.1 q) t.2
        (omega (arith, f.within.0)) (omega arith) (omega (arith, f.within.2)) (f.out r.next t.0 t.1)

    pub not_closed : (r : Parsed) (x : Stuck) (put : ℕ) (e y : List ℕ) (put' : ℕ) (e' y' : List ℕ) → PartRead words p s from (Ok r) put e y
        → ByteRead s r.next b (Err x) → PartRead words (followed s b p) s at (Err x) put' e' y'
    not_closed r x put e y put' e' y' f q =
        let t = read_of p r f.same in
        part_stuck (followed s b p) s at x put' e' y' (followed_short s b p r.next x t.0 t.1 q)

    pub inner_stuck : (x : Stuck) (put : ℕ) (e y : List ℕ) (put' : ℕ) (e' y' : List ℕ) → PartRead words p s from (Err x) put e y
        → PartRead words (followed s b p) s at (Err x) put' e' y'
    inner_stuck x put e y put' e' y' f = part_stuck (followed s b p) s at x put' e' y' (followed_stuck s b p x.place (stuck_of p x f.same))

-- one thing read as two trees that make the same words
pub other_tree : {A B C : Type 0} (words : B → List ℕ) (others : C → List ℕ) (f : A → B) (g : A → C) → ((t : A) → others (g t) ≡ words (f t))
    → (p : Parse A) (s : List ℕ) (at : ℕ) (r : Result Parsed Stuck) (put : ℕ) (e x : List ℕ) → PartRead words (map_p f p) s at r put e x → PartRead others (map_p g p) s at r put e x
unfolding map_p
other_tree words others f g same (read n t) s at r put e x h =
    record {
      same = h.same ∙ ap (λ (l : List ℕ). Ok (record { next = n; count = length l })) (sym (same t));
      within = h.within;
      out = λ m u q k.
          let z : others u ≡ words (f t) = ap others (sym (same_tree q)) ∙ same t in
          rw z (h.out n (f t) refl (omega (arith, ap length z)));
    }
other_tree words others f g same (stuck p) s at r put e x h =
    record { same = h.same; within = h.within; out = λ m u q k. absurd (not_both (stuck p) p m u refl q) }

-- a contact or an output, by the number after its letter
module _ (s : List ℕ) (at kind put : ℕ) (e x : List ℕ) where
  pub leaf_read : (v : Numeral) → NumberRead s (at + 1) (Some v) → x ≡ set e put (word kind v.value)
      → PartRead one_word (leaf_of kind s at) s at (Ok (record { next = v.next; count = 1 })) put e x
  unfolding leaf_of map_p
  leaf_read v f h =
      part_read one_word (leaf_of kind s at) s at (record { next = v.next; count = 1 }) (word kind v.value) put e x (rw (← f.same) refl) refl
      (omega (arith, f.within.0)) f.within.1 (omega (arith, f.within.0)) (λ k. h)

  pub leaf_stuck : NumberRead s (at + 1) None → PartRead one_word (leaf_of kind s at) s at (Err (record { place = at + 1 })) put e x
  unfolding leaf_of map_p
  leaf_stuck f = part_stuck one_word (leaf_of kind s at) s at (record { place = at + 1 }) put e x (rw (← f.same) refl)
