-- Laws of the first record that does not begin before an index: found by halving, and carried along straight runs. Assumes nothing.
use Rattle.std.specs.Prelude.{ℕ, zero, suc, ◌+◌, ◌-◌, ◌≤◌, ◌<◌, ◌≡◌, refl, Bool, true, false, List, [], ◌∷◌, T, eqb, ltb, length, get_or}
use Rattle.std.proofs.Common.{arith, ltb→lt, eqb→eq, ltb-true, ltb-false}
use Rattle.std.proofs.Math.Decide.{ℕ_discrete, dec_lt}
use Rattle.std.proofs.Math.Dec.{leb-suc-suc}
use borrow.Author.Tests.{eq-eqb, ne_eqb, lt-ltb, le-ltb}
use Rattle.std.proofs.Math.Facts.{and_yes}
use Rattle.std.specs.List.Sorted.{IsPartitionPoint, IsPartitionedBy, IsNonDecreasingBy}
use Rattle.std.proofs.lemmas.List.Sorted.{IsPartitionedBy-ltb}
use Rattle.questions.specs.Tests.{bit, all}
use Rattle.rungs.specs.Records.{RungRecord, offsets, laid, is_start}
use Rattle.list_machine.specs.Parts.{starts_here, ascending, before, Sought}

-- ---- halving

pub before_most : (os : List ℕ) (i : ℕ) → before os i ≤ length os
unfolding before
before_most [] i = omega arith
before_most (o ∷ os) i = go (ltb o i) refl (before_most os i)
  where
    go : (b : Bool) → ltb o i ≡ b → before os i ≤ length os → before (o ∷ os) i ≤ suc (length os)
    go true e h = rw (e, before) (omega arith)
    go false e h = rw (e, before) (omega arith)

least_at : (least : ℕ) (os : List ℕ) (k d : ℕ) → ascending least os → k < length os → least ≤ get_or os k d
unfolding ascending
least_at least [] k d a h = absurd (omega arith)
least_at least (o ∷ os) zero d a h = a.0
least_at least (o ∷ os) (suc k) d a h = let r = least_at (suc o) os k d a.1 (omega arith) in let s = a.0 in omega arith

rising : (least : ℕ) (os : List ℕ) → ascending least os → IsNonDecreasingBy (λ o. o) os
unfolding ascending
rising least [] a i j d o l = absurd (omega arith)
rising least (o ∷ os) a zero zero d h l = omega arith
rising least (o ∷ os) a zero (suc j) d h l = let r = least_at (suc o) os j d a.1 (omega arith) in omega arith
rising least (o ∷ os) a (suc i) zero d h l = absurd (omega arith)
rising least (o ∷ os) a (suc i) (suc j) d h l = rising (suc o) os a.1 i j d (omega arith) (omega arith)

below_at : (least : ℕ) (os : List ℕ) (k i : ℕ) → ascending least os → k < length os → get_or os k 0 < i → k + 1 ≤ before os i
unfolding ascending before
below_at least [] k i a h l = absurd (omega arith)
below_at least (o ∷ os) zero i a h l = rw (lt-ltb o i l, before) (omega arith)
below_at least (o ∷ os) (suc k) i a h l =
    let r = least_at (suc o) os k 0 a.1 (omega arith) in
    let s = below_at (suc o) os k i a.1 (omega arith) l in
    rw (lt-ltb o i (omega arith), before) (omega arith)

above_at : (os : List ℕ) (k i : ℕ) → k < length os → i ≤ get_or os k 0 → before os i ≤ k
unfolding before
above_at [] k i h l = omega arith
above_at (o ∷ os) zero i h l = rw (le-ltb o i l, before) (omega arith)
above_at (o ∷ os) (suc k) i h l = go (ltb o i) refl (above_at os k i (omega arith) l)
  where
    go : (b : Bool) → ltb o i ≡ b → before os i ≤ k → before (o ∷ os) i ≤ suc k
    go true e r = rw (e, before) (omega arith)
    go false e r = rw (e, before) (omega arith)

-- offsets that ascend are parted by an index: those before it come first
pub parted : (os : List ℕ) (index : ℕ) → ascending 0 os → IsPartitionedBy (λ o. ltb o index) os
parted os index a = IsPartitionedBy-ltb (λ o. o) os index (rising 0 os a)

-- where they are parted
parted_at : (os : List ℕ) (index r : ℕ) → r ≤ length os → ascending 0 os → IsPartitionPoint (λ o. ltb o index ≡ true) (λ o. ltb o index ≡ false) os r → r ≡ before os index
parted_at os index r within a parts =
    let least = from_below r (dec_lt 0 r) within parts.0 in
    let most = from_above (dec_lt r (length os)) in
    omega arith
  where
    from_below : (r : ℕ) → Dec (0 < r) → r ≤ length os → ((k : ℕ) (d : ℕ) → 0 ≤ k → k < r → ltb (get_or os k d) index ≡ true) → r ≤ before os index
    from_below r (no z) w p = omega arith
    from_below r (yes z) w p =
        let below = below_at 0 os (r - 1) index a (omega arith) (ltb-true _ _ (p (r - 1) 0 (omega arith) (omega arith))) in
        omega arith

    from_above : Dec (r < length os) → before os index ≤ r
    from_above (yes l) = above_at os r index l (ltb-false _ _ (parts.1 r 0 (omega arith) l))
    from_above (no l) = let most = before_most os index in omega arith

pub sought : (os : List ℕ) (index r : ℕ) → r ≤ length os → (ascending 0 os → IsPartitionPoint (λ o. ltb o index ≡ true) (λ o. ltb o index ≡ false) os r) → Sought os index r
sought os index r within parts = record { same = λ a. parted_at os index r within a (parts a); within = within }

-- ---- straight runs

none_before : (least : ℕ) (os : List ℕ) (i : ℕ) → ascending least os → i ≤ least → before os i ≡ 0
unfolding before ascending
none_before least [] i a h = refl
none_before least (o ∷ os) i a h = let s = a.0 in rw (le-ltb o i (omega arith), before)

pub no_start : (least : ℕ) (rs : List RungRecord) (i : ℕ) → ascending least (offsets rs) → i < least → is_start rs i ≡ false
unfolding is_start ascending
no_start least [] i a h = refl
no_start least (r ∷ rs) i a h = let s = a.0 in rw (ne_eqb r.offset i (λ e. omega arith)) (no_start (suc r.offset) rs i a.1 (omega arith))

pub before_zero : (os : List ℕ) → before os 0 ≡ 0
unfolding before
before_zero [] = refl
before_zero (o ∷ os) = rw (le-ltb o 0 (omega arith), before)

pub starts_suc : (o : ℕ) (os : List ℕ) (n i : ℕ) → starts_here (o ∷ os) (suc n) i ≡ starts_here os n i
unfolding starts_here
starts_suc o os n i = rw (leb-suc-suc (suc n) (length os))

pub starts_zero : (o : ℕ) (os : List ℕ) (i : ℕ) → starts_here (o ∷ os) 0 i ≡ bit (eqb o i)
unfolding starts_here
starts_zero o os i = rw (lt-ltb 0 (suc (length os)) (omega arith))

pub before_pass : (o : ℕ) (os : List ℕ) (i : ℕ) → o < i → before (o ∷ os) i ≡ suc (before os i)
unfolding before
before_pass o os i h = rw (lt-ltb o i h, before)

pub before_stay : (o : ℕ) (os : List ℕ) (i : ℕ) → i ≤ o → before (o ∷ os) i ≡ 0
unfolding before
before_stay o os i h = rw (le-ltb o i h, before)

-- the record `next` begins here just when a record does, and is then passed
pub record Carried (rs : List RungRecord) (os : List ℕ) (i : ℕ) : Type 0 where
  pub start : starts_here os (before os i) i ≡ bit (is_start rs i)
  pub next : before os (i + 1) ≡ before os i + starts_here os (before os i) i

module _ (r : RungRecord) (rs : List RungRecord) (i : ℕ) (above : ascending (suc r.offset) (offsets rs)) where
  abbrev o : ℕ
  o = r.offset

  abbrev os : List ℕ
  os = offsets rs

  carried_pass : o < i → Carried rs os i → Carried (r ∷ rs) (o ∷ os) i
  unfolding is_start
  carried_pass h ih =
      let e = before_pass o os i h in
      let f = before_pass o os (i + 1) (omega arith) in
      let s = starts_suc o os (before os i) i in
      let n = ih.next in
      record { start = rw (e, s, ne_eqb o i (λ q. omega arith)) ih.start; next = rw (e, f, s) (omega arith) }

  carried_here : o ≡ i → Carried (r ∷ rs) (o ∷ os) i
  unfolding is_start
  carried_here q =
      let e = before_stay o os i (omega arith) in
      let f = before_pass o os (i + 1) (omega arith) in
      let z = none_before (suc o) os (i + 1) above (omega arith) in
      let s = starts_zero o os i in
      record { start = rw (e, s, eq-eqb o i q); next = rw (e, f, s, eq-eqb o i q, z) }

  carried_short : i < o → Carried (r ∷ rs) (o ∷ os) i
  unfolding is_start
  carried_short h =
      let e = before_stay o os i (omega arith) in
      let f = before_stay o os (i + 1) (omega arith) in
      let s = starts_zero o os i in
      let n = ne_eqb o i (λ q. omega arith) in
      record { start = rw (e, s, n, no_start (suc o) rs i above (omega arith)); next = rw (e, f, s, n) }

pub carried_on : (least : ℕ) (rs : List RungRecord) (i : ℕ) → ascending least (offsets rs) → Carried rs (offsets rs) i
unfolding starts_here before is_start ascending
carried_on least [] i a = record { start = refl; next = refl }
carried_on least (r ∷ rs) i a = go (dec_lt r.offset i) (ℕ_discrete r.offset i) (carried_on (suc r.offset) rs i a.1)
  where
    go : Dec (r.offset < i) → Dec (r.offset ≡ i) → Carried rs (offsets rs) i → Carried (r ∷ rs) (offsets (r ∷ rs)) i
    go (yes h) d ih = carried_pass r rs i a.1 h ih
    go (no h) (yes q) ih = carried_here r rs i a.1 q
    go (no h) (no q) ih = carried_short r rs i a.1 (omega arith)

-- ---- offsets of laid records ascend

weaken : (least lower : ℕ) (os : List ℕ) → lower ≤ least → ascending least os → ascending lower os
unfolding ascending
weaken least lower [] h a = tt
weaken least lower (o ∷ os) h a = let s = a.0 in (omega arith, a.1)

pub laid_ascend : (start end : ℕ) (rs : List RungRecord) → T (laid start end rs) → T (all (λ r. ltb 0 r.length) rs) → ascending start (offsets rs)
unfolding ascending laid
laid_ascend start end [] h k = tt
laid_ascend start end (r ∷ rs) h k =
    let hh = and_yes (eqb r.offset start) (laid (start + r.length) end rs) h in
    let kk = and_yes (ltb 0 r.length) (all (λ (q : RungRecord). ltb 0 q.length) rs) k in
    let e = eqb→eq r.offset start hh.0 in
    let l = ltb→lt 0 r.length kk.0 in
    (omega arith, weaken (start + r.length) (suc r.offset) (offsets rs) (omega arith) (laid_ascend (start + r.length) end rs hh.1 kk.1))
