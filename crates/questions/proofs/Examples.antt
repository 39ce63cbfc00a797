-- Worked questions 1, 2, 12 and 13, and their order. Assumes nothing.
use Rattle.std.specs.Prelude.{◌≡◌, refl, List, [], ◌∷◌, ℕ}
use Rattle.std.proofs.Math.Option.{some}
use Rattle.questions.specs.Questions.{Answer, yes, ask, first_no, vars_in_range, question1, question2, question12, most_rung_watchdog, most_instruction_watchdog, Buffer, long_enough, question13}

refused : ℕ → Answer
refused number = some (record { number = number; place = 0 })

buffer : ℕ → ℕ → Buffer
buffer needed lent = record { needed = needed; lent = lent }

answers : List Answer
answers =
    question1 0
    ∷ question1 1
    ∷ question1 1024
    ∷ question1 1025
    ∷ question2 0
    ∷ question2 65535
    ∷ question2 65536
    ∷ question12 most_rung_watchdog 65535
    ∷ question12 most_rung_watchdog 65536
    ∷ question12 most_instruction_watchdog 16777216
    ∷ question13 (buffer 8 8 ∷ buffer 0 0 ∷ [])
    ∷ question13 (buffer 8 8 ∷ buffer 9 8 ∷ [])
    ∷ first_no (question1 5 ∷ question2 0 ∷ question1 0 ∷ [])
    ∷ first_no (question1 5 ∷ question2 1 ∷ [])
    ∷ []

answers_worked : answers ≡
    refused 1 ∷ yes ∷ yes ∷ refused 1 ∷ refused 2 ∷ yes ∷ refused 2 ∷ yes ∷ refused 12 ∷ refused 12 ∷ yes ∷ refused 13 ∷ refused 2 ∷ yes ∷ []
unfolding answers refused buffer question1 vars_in_range question2 question12 question13 long_enough ask first_no
answers_worked = refl
