-- Timer records in numbers, and back; numbers that question 16 takes. Assumes nothing.
use Rattle.std.specs.Prelude.{ℕ, ◌≤◌, ◌≡◌, refl, Bool, true, false, ◌&&◌, T, leb, length}
use Rattle.std.proofs.Common.{ap, leb→le}
use Rattle.std.proofs.Math.Option.{none}
use mathlib.Core.List.{List, [], ◌∷◌, flat_map}
use Rattle.std.proofs.Math.Facts.{and_yes, yes_and}
use Rattle.questions.specs.Tests.{all}
use Rattle.questions.proofs.Laws.Tests.{all_head, all_tail, all_cons}
use Rattle.questions.proofs.Laws.Answers.{ask_passed}
use Rattle.table.specs.Timer.{Timer}
use Rattle.table.specs.Questions.{most_timers, timers_in_range, question16}
use Rattle.table.specs.TimerRecords.{too_many, numbers_of, timer_numbers, timers_in, whole, number_timers}

pub numbers_back : (ts : List Timer) → timers_in (timer_numbers ts) ≡ ts
unfolding timers_in timer_numbers numbers_of flat_map
numbers_back [] = refl
numbers_back (t ∷ ts) = ap (λ us. t ∷ us) (numbers_back ts)

-- numbers that question 16 takes are those of whole records
pub asked_whole : (vars : ℕ) (ns : List ℕ) → question16 vars (number_timers ns) ≡ none → whole ns ≡ true
unfolding question16 timers_in_range number_timers
asked_whole vars ns e = go (whole ns) refl
  where
    go : (b : Bool) → whole ns ≡ b → whole ns ≡ true
    go true q = q
    go false q = absurd (ask_passed 16 (timers_in_range vars too_many) (rw (q, number_timers) at e))

pub whole_timers : (ns : List ℕ) → whole ns ≡ true → number_timers ns ≡ timers_in ns
unfolding number_timers
whole_timers ns e = rw (e, number_timers)

-- and of 32 at most
pub asked_few : (vars : ℕ) (ts : List Timer) → question16 vars ts ≡ none → length ts ≤ most_timers
unfolding question16 timers_in_range
asked_few vars ts e = leb→le (length ts) most_timers (and_yes (leb (length ts) most_timers) _ (ask_passed 16 _ e)).0

-- a test of start and flags, from a test of all numbers
pub timers_pass : (small : ℕ → Bool) (ns : List ℕ) → T (all small ns) → T (all (λ t. small t.start && (small t.running && small t.done)) (timers_in ns))
unfolding timers_in
timers_pass small (p ∷ s ∷ v ∷ r ∷ d ∷ later) h =
    let test : Timer → Bool = λ t. small t.start && (small t.running && small t.done) in
    let h1 = all_tail small p (s ∷ v ∷ r ∷ d ∷ later) h in
    let h2 = all_tail small s (v ∷ r ∷ d ∷ later) h1 in
    let h3 = all_tail small v (r ∷ d ∷ later) h2 in
    let h4 = all_tail small r (d ∷ later) h3 in
    all_cons test (record { preset = p; start = s; variable = v; running = r; done = d }) (timers_in later)
    (yes_and (small s) (small r && small d) (all_head small s (v ∷ r ∷ d ∷ later) h1)
    (yes_and (small r) (small d) (all_head small r (d ∷ later) h3) (all_head small d later h4)))
    (timers_pass small later (all_tail small d later h4))
timers_pass small (p ∷ s ∷ v ∷ r ∷ []) h = tt
timers_pass small (p ∷ s ∷ v ∷ []) h = tt
timers_pass small (p ∷ s ∷ []) h = tt
timers_pass small (p ∷ []) h = tt
timers_pass small [] h = tt
