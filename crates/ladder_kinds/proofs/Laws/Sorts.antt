-- Sorts of kinds by tests of their number. Assumes nothing.
use Rattle.std.specs.Prelude.{ℕ, zero, suc, ◌≤◌, ◌<◌, ◌≡◌, refl, Bool, ◌||◌, eqb, length}
use Rattle.std.proofs.Common.{arith, sym, ne_eqb}
use Rattle.std.proofs.Math.Decide.{dec_lt}
use Rattle.std.proofs.Math.ListN.{get_or-eq_default}
use Rattle.rungs.proofs.Laws.Numbers.{Firsts, ◌then◌, past, every}
use Rattle.ladder_definitions.specs.Kept.{no_sort, kind_sorts, kind_sort, name_sorts, name_sort}
use Rattle.ladder_kinds.specs.Kinds.{names_variable, names_label, names_timer}

-- before the first kind and past the last there is no sort
pub no_sort_lem : (k : ℕ) → (1 ≤ k → k < length kind_sorts → ⊥) → no_sort ≡ kind_sort k
unfolding kind_sort kind_sorts
no_sort_lem zero h = refl
no_sort_lem (suc k) h = go (dec_lt (suc k) (length kind_sorts))
  where
    go : Dec (suc k < length kind_sorts) → no_sort ≡ kind_sort (suc k)
    go (yes l) = absurd (h (omega arith) l)
    go (no l) = sym (get_or-eq_default kind_sorts no_sort {n = suc k} (omega arith))

abbrev variable_tests : ℕ → Bool
variable_tests k = eqb k 1 || eqb k 2 || eqb k 5 || eqb k 6 || eqb k 11 || eqb k 12

pub variable_tests_lem : (k : ℕ) → variable_tests k ≡ names_variable k
unfolding names_variable name_sort name_sorts Firsts past
variable_tests_lem = every 14 (λ k. variable_tests k ≡ names_variable k) (refl then refl then refl then refl then refl then refl then refl then refl then refl then refl then refl then refl then refl then refl then tt)
    (λ k. let n = past 14 k in
    rw (
      ne_eqb n 1 (λ e. omega arith),
      ne_eqb n 2 (λ e. omega arith),
      ne_eqb n 5 (λ e. omega arith),
      ne_eqb n 6 (λ e. omega arith),
      ne_eqb n 11 (λ e. omega arith),
      ne_eqb n 12 (λ e. omega arith),
    ) refl)

abbrev label_tests : ℕ → Bool
label_tests k = eqb k 7 || eqb k 8

pub label_tests_lem : (k : ℕ) → label_tests k ≡ names_label k
unfolding names_label name_sort name_sorts Firsts past
label_tests_lem = every 14 (λ k. label_tests k ≡ names_label k) (refl then refl then refl then refl then refl then refl then refl then refl then refl then refl then refl then refl then refl then refl then tt)
    (λ k. let n = past 14 k in rw (ne_eqb n 7 (λ e. omega arith), ne_eqb n 8 (λ e. omega arith)) refl)

pub timer_tests : (k : ℕ) → eqb k 13 ≡ names_timer k
unfolding names_timer name_sort name_sorts Firsts past
timer_tests = every 14 (λ k. eqb k 13 ≡ names_timer k) (refl then refl then refl then refl then refl then refl then refl then refl then refl then refl then refl then refl then refl then refl then tt)
    (λ k. let n = past 14 k in rw (ne_eqb n 13 (λ e. omega arith)) refl)
