-- Timer records as numbers and back. Assumes nothing.
use Rattle.std.specs.Prelude.{◌≡◌, ℕ, suc, ◌+◌, ◌*◌, ◌%◌, ◌≤◌, Bool, true, false, List, [], ◌∷◌, length, drop, ◌==◌, nat_eq, refl}
use Rattle.std.proofs.Common.{arith, sym, ap, ◌∙◌, eq-eqb, drop-cons}
use mathlib.Core.List.{flat_map}
use Rattle.table.specs.Timer.{Timer}
use Rattle.table.specs.TimerRecords.{numbers_of, timer_numbers, timers_in, whole, numbers_after}
use Rattle.timers.specs.Parts.{timer_at}

pub false_true : {A : Type 0} → ◌≡◌ {A = Bool} false true → A
false_true e = let z : ◌≡◌ {A = ℕ} 0 1 = cc in absurd (omega arith)

pub numbers_whole : (ts : List Timer) → whole (timer_numbers ts) ≡ true
unfolding timer_numbers numbers_of whole flat_map
numbers_whole [] = refl
numbers_whole (t ∷ ts) = numbers_whole ts

pub numbers_length : (ts : List Timer) → length (timer_numbers ts) ≡ 5 * length ts
unfolding timer_numbers numbers_of flat_map
numbers_length [] = refl
numbers_length (t ∷ ts) = let h = numbers_length ts in omega arith

pub whole_back : (ns : List ℕ) → whole ns ≡ true → timer_numbers (timers_in ns) ≡ ns
unfolding timer_numbers numbers_of timers_in whole flat_map
whole_back (p ∷ s ∷ v ∷ r ∷ d ∷ later) h = ap (λ ns. p ∷ s ∷ v ∷ r ∷ d ∷ ns) (whole_back later h)
whole_back (p ∷ s ∷ v ∷ r ∷ []) h = false_true h
whole_back (p ∷ s ∷ v ∷ []) h = false_true h
whole_back (p ∷ s ∷ []) h = false_true h
whole_back (p ∷ []) h = false_true h
whole_back [] h = refl

-- whether numbers are left over rests on their count alone
pub whole_count : (ns : List ℕ) → whole ns ≡ (length ns % 5 == 0)
unfolding whole
whole_count (p ∷ s ∷ v ∷ r ∷ d ∷ later) =
    let z : suc (suc (suc (suc (suc (length later))))) % 5 ≡ length later % 5 = omega arith in
    whole_count later ∙ rw z refl
whole_count (p ∷ s ∷ v ∷ r ∷ []) = refl
whole_count (p ∷ s ∷ v ∷ []) = refl
whole_count (p ∷ s ∷ []) = refl
whole_count (p ∷ []) = refl
whole_count [] = refl

pub same_whole : (ns ms : List ℕ) → length ns ≡ length ms → whole ns ≡ whole ms
same_whole ns ms e = whole_count ns ∙ ap (λ n. nat_eq (n % 5) 0) e ∙ sym (whole_count ms)

pub five_whole : (ns : List ℕ) (k : ℕ) → length ns ≡ 5 * k → whole ns ≡ true
five_whole ns k e = whole_count ns ∙ eq-eqb (length ns % 5) 0 (omega arith)

pub whole_length : (ns : List ℕ) → whole ns ≡ true → length ns ≡ 5 * length (timers_in ns)
whole_length ns h = sym (ap length (whole_back ns h)) ∙ numbers_length (timers_in ns)

pub five_length : (ns : List ℕ) (k : ℕ) → length ns ≡ 5 * k → length (timers_in ns) ≡ k
five_length ns k e = let l = whole_length ns (five_whole ns k e) in omega arith

-- ---- what a call that gets numbers sees

pub numbers_after_lem : (ns : List ℕ) (ts : List Timer) → whole ns ≡ true → numbers_after ns ts ≡ timer_numbers ts
unfolding numbers_after
numbers_after_lem ns ts h = rw h refl

-- numbers that a scan left: as many as there were, of these records
pub numbers_left : (ns ms : List ℕ) (ts : List Timer) → length ms ≡ length ns → timers_in ms ≡ ts → whole ns ≡ true → ms ≡ numbers_after ns ts
numbers_left ns ms ts l e h =
    sym (whole_back ms (same_whole ms ns l ∙ h)) ∙ ap timer_numbers e ∙ sym (numbers_after_lem ns ts h)

-- ---- record by record

-- what stands from a record on
pub timers_more : (ns : List ℕ) (at : ℕ) → at + 5 ≤ length ns → timers_in (drop at ns) ≡ timer_at ns at ∷ timers_in (drop (at + 5) ns)
unfolding timers_in
timers_more ns at h =
    let a : suc at ≡ at + 1 = omega arith in
    let b : suc (at + 1) ≡ at + 2 = omega arith in
    let c : suc (at + 2) ≡ at + 3 = omega arith in
    let d : suc (at + 3) ≡ at + 4 = omega arith in
    let e : suc (at + 4) ≡ at + 5 = omega arith in
    rw (
      drop-cons ns at 0 (omega arith),
      a,
      drop-cons ns (at + 1) 0 (omega arith),
      b,
      drop-cons ns (at + 2) 0 (omega arith),
      c,
      drop-cons ns (at + 3) 0 (omega arith),
      d,
      drop-cons ns (at + 4) 0 (omega arith),
      e,
    ) refl
