-- Questions before work. Document 01, "Questions before work": what a refusal is, the order of the questions, and questions 1, 2, 12 and 13.
-- Question 3 stands in the crate text_grammar, 4 to 9 in ladder_definitions, 10 in list_definitions, 11 in table. An answer is no refusal, a "yes", or the
-- refusal of a "no". Assumes nothing.
use Rattle.std.specs.Prelude.{ℕ, Bool, true, false, ◌&&◌, List, [], ◌∷◌, leb}
use Rattle.std.proofs.Math.Option.{Option, none, some, map}
use Rattle.questions.specs.Tests.{all, first_failed}

-- "A refusal returns number and place."
pub record Refusal : Type 0 where
  pub number : ℕ
  pub place : ℕ

abbrev pub Answer : Type 0
Answer = Option Refusal

-- the answer "yes": no refusal
abbrev pub yes : Answer
yes = none

-- a question whose "no" has place 0: "Place is 0 but for 3 and 6 to 8."
unfoldable pub ask : ℕ → Bool → Answer
ask number true = yes
ask number false = some (record { number = number; place = 0 })

-- a question that is put to each rung, in the row's order: "place the first such rung, from 0"
unfoldable pub ask_each : ℕ → List Bool → Answer
ask_each number tests = map (λ i. record { number = number; place = i }) (first_failed tests)

-- "They are put in this order to the calls named; the first "no" gives its number."
unfoldable pub first_no : List Answer → Answer
first_no [] = yes
first_no (none ∷ later) = first_no later
first_no (some refusal ∷ later) = some refusal

-- 1. "V from 1 to 1,024?"
abbrev pub most_variables : ℕ
most_variables = 1024

unfoldable pub vars_in_range : ℕ → Bool
vars_in_range vars = leb 1 vars && leb vars most_variables

unfoldable pub question1 : ℕ → Answer
question1 vars = ask 1 (vars_in_range vars)

-- 2. "Text of 1 to 65,535 bytes?", over the number of bytes
abbrev pub most_text_bytes : ℕ
most_text_bytes = 65535

unfoldable pub question2 : ℕ → Answer
question2 bytes = ask 2 (leb 1 bytes && leb bytes most_text_bytes)

-- 12. "Watchdog within its range?", from 0 to `most`
abbrev pub most_rung_watchdog : ℕ
most_rung_watchdog = 65535

abbrev pub most_instruction_watchdog : ℕ
most_instruction_watchdog = 16777215

unfoldable pub question12 : ℕ → ℕ → Answer
question12 most watchdog = ask 12 (leb watchdog most)

-- an output buffer: how many entries the call writes, and how many were lent
pub record Buffer : Type 0 where
  pub needed : ℕ
  pub lent : ℕ

-- 13. "Every output buffer long enough?"
unfoldable pub long_enough : Buffer → Bool
long_enough b = leb b.needed b.lent

unfoldable pub question13 : List Buffer → Answer
question13 buffers = ask 13 (all long_enough buffers)
