-- A "yes" and the test behind it, each from the other.
use Rattle.std.specs.Prelude.{ℕ, ◌≤◌, ◌≡◌, refl, Bool, true, false, List, [], ◌∷◌, ◌++◌, map, T, leb, Result, Ok, Err, IsErrAnd}
use Rattle.std.proofs.Common.{sym, ap, ◌∙◌, arith, leb→le, le→leb}
use Rattle.std.proofs.lemmas.Result.{err_from_is_err_and}
use Rattle.std.proofs.Math.Option.{none, some, map-eq-none_iff}
use Rattle.std.proofs.Math.Facts.{and_yes}
use Rattle.questions.specs.Tests.{all, first_failed}
use Rattle.questions.specs.Questions.{Answer, ask, ask_each, first_no, vars_in_range, question1, most_variables, question12}
use Rattle.questions.specs.Refusals.{refusal_of, verdict_answer}
use Rattle.questions.specs.declared.Refusal.{Refusal as RefusalCase}
use Rattle.questions.proofs.Laws.Tests.{none_failed, failed_none}

pub ask_passed : (number : ℕ) (test : Bool) → ask number test ≡ none → T test
unfolding ask
ask_passed number true e = tt
ask_passed number false e = let z : ◌≡◌ {A = ℕ} 0 1 = cc in absurd (omega arith)

pub passed_ask : (number : ℕ) (test : Bool) → T test → ask number test ≡ none
unfolding ask
passed_ask number true h = refl
passed_ask number false h = absurd h

pub each_passed : {A : Type 0} (number : ℕ) (test : A → Bool) (xs : List A) → ask_each number (map test xs) ≡ none → T (all test xs)
unfolding ask_each
each_passed number test xs e = none_failed test xs ((map-eq-none_iff _ (first_failed (map test xs))).0 e)

pub passed_each : {A : Type 0} (number : ℕ) (test : A → Bool) (xs : List A) → T (all test xs) → ask_each number (map test xs) ≡ none
unfolding ask_each
passed_each number test xs h = rw (failed_none test xs h) refl

-- every question in order got a "yes" just when the first did and the later ones did
pub first_yes : (answer : Answer) (later : List Answer) → first_no (answer ∷ later) ≡ none → answer ≡ none
unfolding first_no
first_yes none later e = refl
first_yes (some r) later e = cc

pub later_yes : (answer : Answer) (later : List Answer) → first_no (answer ∷ later) ≡ none → first_no later ≡ none
unfolding first_no
later_yes none later e = e
later_yes (some r) later e = cc

-- questions in order, the first of them put together: one answer stands for them
pub first_append : (answers later : List Answer) → first_no (answers ++ later) ≡ first_no (first_no answers ∷ later)
unfolding first_no
first_append [] later = refl
first_append (none ∷ answers) later = first_append answers later
first_append (some r ∷ answers) later = refl

pub vars_in_range_lem : (vars : ℕ) → question1 vars ≡ none → (1 ≤ vars) × (vars ≤ most_variables)
unfolding question1 vars_in_range
vars_in_range_lem vars e =
    let h = and_yes (leb 1 vars) (leb vars most_variables) (ask_passed 1 _ e) in
    (leb→le 1 vars h.0, leb→le vars most_variables h.1)

pub watchdog_in_range : (most watchdog : ℕ) → question12 most watchdog ≡ none → watchdog ≤ most
unfolding question12
watchdog_in_range most watchdog e = leb→le watchdog most (ask_passed 12 _ e)

pub in_range_watchdog : (most watchdog : ℕ) → watchdog ≤ most → question12 most watchdog ≡ none
unfolding question12
in_range_watchdog most watchdog h = passed_ask 12 _ (le→leb watchdog most h)

-- the refusal that `?` passes on
pub err_passed : {A : Type 0} {r : Result A RefusalCase} {x : RefusalCase} → IsErrAnd r (λ y. y ≡ x) → r ≡ Err x
err_passed {r = r} {x = x} h = let p = err_from_is_err_and {Q = λ y. y ≡ x} r h in p.1 ∙ ap Err p.2

-- a verdict's answer, by its cases
pub verdict_refused : {v : Result (Unit {0}) RefusalCase} {a : Answer} (refusal : RefusalCase) → verdict_answer v ≡ a → v ≡ Err refusal → a ≡ some (refusal_of refusal)
unfolding verdict_answer
verdict_refused refusal e q = sym e ∙ ap verdict_answer q

pub verdict_accepted : {v : Result (Unit {0}) RefusalCase} {a : Answer} → verdict_answer v ≡ a → v ≡ Ok tt → a ≡ none
unfolding verdict_answer
verdict_accepted e q = sym e ∙ ap verdict_answer q
