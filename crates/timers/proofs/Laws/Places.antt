-- Where the numbers of a timer record stand. Assumes nothing.
use Rattle.std.specs.Prelude.{◌≡◌, ℕ, zero, suc, ◌+◌, ◌*◌, ◌<◌, ◌≤◌, List, [], ◌∷◌, length, slice_index, slice_set, refl}
use Rattle.std.proofs.Common.{arith, sym, ap, ◌∙◌}
use Rattle.std.proofs.Math.Option.{none, some}
use Rattle.std.proofs.lemmas.List.Edits.{sets}
use Rattle.std.proofs.Math.ListN.{get_elem?}
use Rattle.table.specs.Timer.{Timer}
use Rattle.table.specs.TimerRecords.{numbers_of, timers_in}
use Rattle.timers.specs.Parts.{timer_at}

-- ---- past the first record

module _ (p s v r d : ℕ) (later : List ℕ) where
  later_at : (i j : ℕ) → j ≡ i + 5 → slice_index (p ∷ s ∷ v ∷ r ∷ d ∷ later) j ≡ slice_index later i
  later_at i j e = let z : j ≡ suc (suc (suc (suc (suc i)))) = omega arith in rw z refl

  later_timer : (n : ℕ) → timer_at (p ∷ s ∷ v ∷ r ∷ d ∷ later) (suc n * 5) ≡ timer_at later (n * 5)
  later_timer n i = record {
    preset = later_at (n * 5) (suc n * 5) (omega arith) i;
    start = later_at (n * 5 + 1) (suc n * 5 + 1) (omega arith) i;
    variable = later_at (n * 5 + 2) (suc n * 5 + 2) (omega arith) i;
    running = later_at (n * 5 + 3) (suc n * 5 + 3) (omega arith) i;
    done = later_at (n * 5 + 4) (suc n * 5 + 4) (omega arith) i;
  }

  later_sets : (n : ℕ) (t : Timer) → sets (p ∷ s ∷ v ∷ r ∷ d ∷ later) (suc n * 5) (numbers_of t) ≡ p ∷ s ∷ v ∷ r ∷ d ∷ sets later (n * 5) (numbers_of t)
  unfolding numbers_of
  later_sets n t = let z : suc n * 5 ≡ suc (suc (suc (suc (suc (n * 5))))) = omega arith in rw z refl

-- ---- the record of a number

pub record_there : (ns : List ℕ) (n : ℕ) → n * 5 + 5 ≤ length ns → get_elem? (timers_in ns) n ≡ some (timer_at ns (n * 5))
unfolding timers_in
record_there (p ∷ s ∷ v ∷ r ∷ d ∷ later) zero h = refl
record_there (p ∷ s ∷ v ∷ r ∷ d ∷ later) (suc n) h = record_there later n (omega arith) ∙ ap some (sym (later_timer p s v r d later n))
record_there (p ∷ s ∷ v ∷ r ∷ []) n h = absurd (omega arith)
record_there (p ∷ s ∷ v ∷ []) n h = absurd (omega arith)
record_there (p ∷ s ∷ []) n h = absurd (omega arith)
record_there (p ∷ []) n h = absurd (omega arith)
record_there [] n h = absurd (omega arith)

pub record_none : (ns : List ℕ) (n : ℕ) → length ns < n * 5 + 5 → get_elem? (timers_in ns) n ≡ none
unfolding timers_in
record_none (p ∷ s ∷ v ∷ r ∷ d ∷ later) zero h = absurd (omega arith)
record_none (p ∷ s ∷ v ∷ r ∷ d ∷ later) (suc n) h = record_none later n (omega arith)
record_none (p ∷ s ∷ v ∷ r ∷ []) n h = refl
record_none (p ∷ s ∷ v ∷ []) n h = refl
record_none (p ∷ s ∷ []) n h = refl
record_none (p ∷ []) n h = refl
record_none [] n h = refl

-- a record, put there
pub record_put : (ns : List ℕ) (n : ℕ) (t : Timer) → n * 5 + 5 ≤ length ns → timers_in (sets ns (n * 5) (numbers_of t)) ≡ slice_set (timers_in ns) n t
unfolding timers_in numbers_of
record_put (p ∷ s ∷ v ∷ r ∷ d ∷ later) zero t h = refl
record_put (p ∷ s ∷ v ∷ r ∷ d ∷ later) (suc n) t h =
    ap timers_in (later_sets p s v r d later n t) ∙ ap (λ ts. record { preset = p; start = s; variable = v; running = r; done = d } ∷ ts) (record_put later n t (omega arith))
record_put (p ∷ s ∷ v ∷ r ∷ []) n t h = absurd (omega arith)
record_put (p ∷ s ∷ v ∷ []) n t h = absurd (omega arith)
record_put (p ∷ s ∷ []) n t h = absurd (omega arith)
record_put (p ∷ []) n t h = absurd (omega arith)
record_put [] n t h = absurd (omega arith)
