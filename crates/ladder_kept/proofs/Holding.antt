-- Laws of the loops that put question 4: a word after the other, and a record after the other. Assumes nothing.
use Prim.Native.Nat.{ℕ, zero, suc, ◌+◌, ◌-◌, ◌≤◌, ◌<◌}
use native.Mathlib.Numerals.{add-one}
use native.Mathlib.Omega.{arith}
use mathlib.Core.Path.{◌≡◌, refl, sym, ap, ◌∙◌}
use mathlib.Core.Bool.{Bool, true, false, true≢false, ◌&&◌, and-false}
use mathlib.Core.Logic.{◌⊎◌, inl, inr}
use mathlib.Core.List.{List, [], ◌∷◌}
use lib.Dec.{eqb, leb}
use Rattle.std.proofs.Math.Decide.{ℕ_discrete}
use Rattle.std.specs.Bool.{then_some}
use lib.ListN.{length, take, drop, get_or, drop_of_length-le, length-drop}
use lib.Seq.{drop-cons}
use borrow.Author.Tests.{eq-eqb, ne_eqb, le-leb, lt-leb}
use Rattle.rungs.specs.Words.{number_of, operand_of}
use Rattle.rungs.specs.Records.{RungRecord, fields_of, row_of}
use Rattle.rungs.proofs.Laws.Rows.{Even, row_length, row_at, row_uneven_first, row_uneven_second, row_fields, row_uneven}
use Rattle.ladder_definitions.specs.Kept.{KindSort, contact_sort, joined_sort, output_sort, rear_and_sort, rear_or_sort, no_sort, kind_sort, decode_from, decode}
use Rattle.ladder_definitions.specs.Questions.{ladder_of, holds_ladder}
use Rattle.ladder_kept.specs.Pending.{misplaced, pending, take_front, split_front, take_rear, front_rear, split_rear, pending_after, completes, pending_in, WordTaken, holds_from}
use Rattle.ladder_definitions.proofs.Laws.Trees.{starts_front, starts_rear}
use Rattle.ladder_kept.proofs.Laws.Pending.{holds_counted}
use Rattle.std.specs.Prelude.{Option, Some, None}
use Rattle.ladder_kept.specs.declared.Pending.{Pending as PendingParts}

-- ---- a word, by the sort of its kind

abbrev still : ℕ → ℕ → Option PendingParts
still f r = Some (record { fronts = f; rears = r })

module _ (k o f r : ℕ) where
  taken_misplaced : pending_after (kind_sort k) o f r ≡ misplaced → WordTaken k o f r None
  unfolding pending_in
  taken_misplaced e = record { same = sym e; few = tt }

  pub front_taken : kind_sort k ≡ contact_sort → 0 < f → WordTaken k o f r (still (f - 1) r)
  unfolding pending_in pending_after take_front
  front_taken e h = let n : f ≡ suc (f - 1) = omega arith in record { same = rw e (sym (ap (λ n. take_front n r) n)); few = (omega arith, omega arith) }

  -- a root, whose operand is 0
  pub front_split : kind_sort k ≡ joined_sort → 0 < f → (s : Option PendingParts) → s ≡ then_some (eqb o 0) (record { fronts = f + 1; rears = r }) → WordTaken k o f r s
  unfolding pending_in pending_after split_front
  front_split e h s t = go (ℕ_discrete o 0)
    where
      go : Dec (o ≡ 0) → WordTaken k o f r s
      go (yes z) =
          let n : f ≡ suc (f - 1) = omega arith in
          let m : f + 1 ≡ suc (suc (f - 1)) = omega arith in
          rw (t, z) (record { same = rw (e, m) (sym (ap (λ n. split_front 0 n r) n)); few = (omega arith, omega arith) })
      go (no q) =
          let p : o ≡ suc (o - 1) = omega arith in
          rw (t, ne_eqb o 0 q) (taken_misplaced (rw e (ap (λ o. split_front o f r) p)))

  -- a word where a front is pending and none begins with it
  pub front_past : starts_front (kind_sort k) ≡ false → 0 < f → WordTaken k o f r None
  unfolding pending_after take_rear front_rear split_rear
  front_past n h = let m : f ≡ suc (f - 1) = omega arith in taken_misplaced (rw m (none (kind_sort k) n o))
    where
      none : (s : KindSort) → starts_front s ≡ false → (o : ℕ) → pending_after s o (suc (f - 1)) r ≡ misplaced
      none contact_sort q o = absurd (true≢false q)
      none joined_sort q o = absurd (true≢false q)
      none output_sort q o = refl
      none rear_and_sort q zero = refl
      none rear_and_sort q (suc o) = refl
      none rear_or_sort q zero = refl
      none rear_or_sort q (suc o) = refl
      none no_sort q o = refl

module _ (k o r : ℕ) where
  pub rear_taken : kind_sort k ≡ output_sort → 0 < r → WordTaken k o 0 r (still 0 (r - 1))
  unfolding pending_in pending_after take_rear
  rear_taken e h = let n : r ≡ suc (r - 1) = omega arith in record { same = rw e (sym (ap (λ n. take_rear 0 n) n)); few = (omega arith, omega arith) }

  -- the roots, whose operand is 0
  pub rear_front : kind_sort k ≡ rear_and_sort → 0 < r → (s : Option PendingParts) → s ≡ then_some (eqb o 0) (record { fronts = 1; rears = r }) → WordTaken k o 0 r s
  unfolding pending_in pending_after front_rear
  rear_front e h s t = go (ℕ_discrete o 0)
    where
      go : Dec (o ≡ 0) → WordTaken k o 0 r s
      go (yes z) =
          let n : r ≡ suc (r - 1) = omega arith in
          rw (t, z) (record { same = rw e (sym (ap (λ n. front_rear 0 0 n) n ∙ ap (λ n. pending 1 n) (sym n))); few = (omega arith, omega arith) })
      go (no q) =
          let p : o ≡ suc (o - 1) = omega arith in
          rw (t, ne_eqb o 0 q) (taken_misplaced k o 0 r (rw e (ap (λ o. front_rear o 0 r) p)))

  pub rear_split : kind_sort k ≡ rear_or_sort → 0 < r → (s : Option PendingParts) → s ≡ then_some (eqb o 0) (record { fronts = 0; rears = r + 1 }) → WordTaken k o 0 r s
  unfolding pending_in pending_after split_rear
  rear_split e h s t = go (ℕ_discrete o 0)
    where
      go : Dec (o ≡ 0) → WordTaken k o 0 r s
      go (yes z) =
          let n : r ≡ suc (r - 1) = omega arith in
          let m : r + 1 ≡ suc (suc (r - 1)) = omega arith in
          rw (t, z) (record { same = rw (e, m) (sym (ap (λ n. split_rear 0 0 n) n)); few = (omega arith, omega arith) })
      go (no q) =
          let p : o ≡ suc (o - 1) = omega arith in
          rw (t, ne_eqb o 0 q) (taken_misplaced k o 0 r (rw e (ap (λ o. split_rear o 0 r) p)))

  -- a word where a rear is pending and none begins with it
  pub rear_past : starts_rear (kind_sort k) ≡ false → WordTaken k o 0 r None
  unfolding pending_after take_front split_front
  rear_past n = taken_misplaced k o 0 r (none (kind_sort k) n o)
    where
      none : (s : KindSort) → starts_rear s ≡ false → (o : ℕ) → pending_after s o 0 r ≡ misplaced
      none contact_sort q o = refl
      none joined_sort q zero = refl
      none joined_sort q (suc o) = refl
      none output_sort q o = absurd (true≢false q)
      none rear_and_sort q o = absurd (true≢false q)
      none rear_or_sort q o = absurd (true≢false q)
      none no_sort q o = refl

-- a word where no front, and where nothing is pending
nothing_follows : (s : KindSort) (o : ℕ) → pending_after s o 0 0 ≡ misplaced
unfolding pending_after take_front split_front take_rear front_rear split_rear
nothing_follows contact_sort o = refl
nothing_follows joined_sort zero = refl
nothing_follows joined_sort (suc o) = refl
nothing_follows output_sort o = refl
nothing_follows rear_and_sort zero = refl
nothing_follows rear_and_sort (suc o) = refl
nothing_follows rear_or_sort zero = refl
nothing_follows rear_or_sort (suc o) = refl
nothing_follows no_sort o = refl

pub nothing_pending : (k o f r : ℕ) → f ≤ 0 → r ≤ 0 → WordTaken k o f r None
nothing_pending k o f r h g =
    let e : f ≡ 0 = omega arith in
    let q : r ≡ 0 = omega arith in
    rw (e, q) (taken_misplaced k o 0 0 (nothing_follows (kind_sort k) o))

-- ---- a rung's words, one after the other

-- the loop's invariant: the words from i on are the parts that are still pending just when the rung's are a front and a rear
pub record Counting (ws : List ℕ) (f r i : ℕ) : Type 0 where
  pub same : completes f r (drop i ws) ≡ completes 1 1 ws
  pub fronts : f ≤ i + 1
  pub rears : r ≤ i + 1

module _ {ws : List ℕ} {f r i : ℕ} (inv : Counting ws f r i) where
  module _ (h : i < length ws) where
    pub word_misplaced : WordTaken (number_of (get_or ws i 0)) (operand_of (get_or ws i 0)) f r None → false ≡ completes 1 1 ws
    unfolding completes pending_in
    word_misplaced t =
        let e : pending_after (kind_sort (number_of (get_or ws i 0))) (operand_of (get_or ws i 0)) f r ≡ misplaced = sym t.same in
        let q : completes f r (drop i ws) ≡ false = rw (drop-cons ws i 0 h) (rw (e, completes)) in
        sym q ∙ inv.same

    pub word_counted : (s : PendingParts) → WordTaken (number_of (get_or ws i 0)) (operand_of (get_or ws i 0)) f r (Some s) → Counting ws s.fronts s.rears (i + 1)
    unfolding completes pending_in
    word_counted s t =
        let e : pending_after (kind_sort (number_of (get_or ws i 0))) (operand_of (get_or ws i 0)) f r ≡ pending s.fronts s.rears = sym t.same in
        let q : completes f r (drop i ws) ≡ completes s.fronts s.rears (drop (suc i) ws) = rw (drop-cons ws i 0 h) (rw (e, completes)) in
        let a = t.few.0 in let d = t.few.1 in let g = inv.fronts in let j = inv.rears in
        record { same = rw add-one (sym q ∙ inv.same); fronts = omega arith; rears = omega arith }

  pub ended : length ws ≤ i → (eqb f 0 && eqb r 0) ≡ completes 1 1 ws
  unfolding completes
  ended h = (rw (drop_of_length-le ws h) at inv.same)

-- ---- records, one after the other

no_rungs : (ws : List ℕ) (rs : List RungRecord) → rs ≡ [] → false ≡ holds_ladder (record { words = ws; records = rs })
unfolding holds_ladder ladder_of decode decode_from
no_rungs ws rs e = rw e (none_held ws)
  where
    none_held : (ws : List ℕ) → false ≡ holds_ladder (record { words = ws; records = [] })
    none_held [] = refl
    none_held (w ∷ ws) = refl

-- slices that are no row, or an empty one
pub no_row : (ws ls os ns ts : List ℕ)
    → (length ls ≡ length ts → ⊥)
    ⊎ ((length ls ≡ length ts × (length ls ≡ length os → ⊥))
    ⊎ ((length ls ≡ length ts × length ls ≡ length os × (length ls ≡ length ns → ⊥))
    ⊎ (length ls ≡ length ts × length ls ≡ length os × length ls ≡ length ns × length ls ≡ 0)))
    → false ≡ holds_ladder (record { words = ws; records = row_of ls os ns ts })
no_row ws ls os ns ts (inl n) = no_rungs ws (row_of ls os ns ts) (row_uneven ls os ns ts n)
no_row ws ls os ns ts (inr (inl (t, n))) = no_rungs ws (row_of ls os ns ts) (row_fields ls os ns ts t ∙ row_uneven_first ls os ns n)
no_row ws ls os ns ts (inr (inr (inl (t, p, n)))) = no_rungs ws (row_of ls os ns ts) (row_fields ls os ns ts t ∙ row_uneven_second ls os ns (λ q. n (p ∙ q)))
no_row ws ls os ns ts (inr (inr (inr (t, p, q, z)))) =
    no_rungs ws (row_of ls os ns ts) (row_fields ls os ns ts t ∙ nil (fields_of ls os ns) (row_length ls os ns (record { first = p; second = sym p ∙ q })))
  where
    nil : (rs : List RungRecord) → length rs ≡ length ls → rs ≡ []
    nil [] e = refl
    nil (r ∷ rs) e = absurd (omega (arith, z))

-- the loop's invariant: the records from i on and the words left hold rungs just when all do
pub record Walking (ws : List ℕ) (rs : List RungRecord) (rest : List ℕ) (i : ℕ) : Type 0 where
  pub same : holds_from (length ws - length rest) (drop i rs) rest ≡ holds_from 0 rs ws
  pub within : length rest ≤ length ws

pub walk_start : (ws : List ℕ) (rs : List RungRecord) → Walking ws rs ws 0
walk_start ws rs = let z : length ws - length ws ≡ 0 = omega arith in record { same = rw z refl; within = omega arith }

module _ (ws ls os ns ts : List ℕ) (t : length ls ≡ length ts) (p : length ls ≡ length os) (q : length ls ≡ length ns) (n : length ls ≡ 0 → ⊥) where
  abbrev row : List RungRecord
  row = fields_of ls os ns

  abbrev asked : Bool
  asked = holds_ladder (record { words = ws; records = row_of ls os ns ts })

  abbrev even : Even ls os ns
  even = record { first = p; second = sym p ∙ q }

  module _ {rest : List ℕ} {i : ℕ} (inv : Walking ws row rest i) where
    whole : holds_from (length ws - length rest) (drop i row) rest ≡ asked
    whole =
        let e = row_length ls os ns even in
        inv.same ∙ sym (holds_counted row ws (omega arith)) ∙ ap (λ rs. holds_ladder (record { words = ws; records = rs })) (sym (row_fields ls os ns ts t))

    pub records_end : length ls ≤ i → eqb (length rest) 0 ≡ asked
    unfolding holds_from
    records_end h =
        let e = row_length ls os ns even in
        let d : drop i row ≡ [] = drop_of_length-le row (omega arith) in
        rw d at whole

    module _ (h : i < length ls) (size : ℕ) (z : size ≡ get_or ns i 0) where
      heads : holds_from (length ws - length rest) (drop i row) rest
          ≡ ((eqb (get_or os i 0) (length ws - length rest) && leb size (length rest))
          && (completes 1 1 (take size rest) && holds_from (length ws - length rest + size) (drop (suc i) row) (drop size rest)))
      unfolding holds_from
      heads = rw (row_at ls os ns even i h, z) refl

      pub record_long : length rest < size → false ≡ asked
      record_long l = sym (sym whole ∙ heads ∙ rw (lt-leb size (length rest) l, and-false (eqb (get_or os i 0) (length ws - length rest))) refl)

      pub record_off : (get_or os i 0 ≡ length ws - length rest → ⊥) → false ≡ asked
      record_off n = sym (sym whole ∙ heads ∙ rw (ne_eqb _ _ n) refl)

      pub rung_wrong : completes 1 1 (take size rest) ≡ false → false ≡ asked
      rung_wrong b = sym (sym whole ∙ heads ∙ rw (b, and-false (eqb (get_or os i 0) (length ws - length rest) && leb size (length rest))) refl)

      pub rung_right : get_or os i 0 ≡ length ws - length rest → size ≤ length rest → completes 1 1 (take size rest) ≡ true → Walking ws row (drop size rest) (i + 1)
      rung_right e l b =
          let w = inv.within in
          let m = length-drop size rest in
          let s : length ws - length (drop size rest) ≡ length ws - length rest + size = omega arith in
          record { same = rw (s, add-one) (sym (rw (eq-eqb _ _ e, le-leb size (length rest) l, b) at heads) ∙ inv.same); within = omega arith }
