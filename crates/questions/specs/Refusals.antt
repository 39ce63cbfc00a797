-- The number and place of each case of the enum Refusal, and what a Result of questions says. Document 01, "Questions before work"; 14 and 15: 02, Req 05; 16 and 17: Req 06. Assumes nothing.
use Rattle.std.specs.Prelude.{ℕ, Result, Ok, Err}
use Rattle.std.proofs.Math.Option.{some}
use Rattle.questions.specs.Questions.{Refusal, Answer, yes}
use Rattle.questions.specs.declared.Refusal.{Refusal as RefusalCase}
use Rattle.questions.specs.declared.Refusal.TheVariants.{Variables, TextLength, Text, Kept, Sizes, Variable, Label, Jump, Scratch, List as ListCase, Table, Watchdog, Buffer as BufferCase, NameTable, ListText, Timers, TimerNumber}

abbrev pub numbered : ℕ → ℕ → Refusal
numbered number place = record { number = number; place = place }

unfoldable pub refusal_of : RefusalCase → Refusal
refusal_of Variables = numbered 1 0
refusal_of TextLength = numbered 2 0
refusal_of (Text place) = numbered 3 place
refusal_of Kept = numbered 4 0
refusal_of Sizes = numbered 5 0
refusal_of (Variable rung) = numbered 6 rung
refusal_of (Label rung) = numbered 7 rung
refusal_of (Jump rung) = numbered 8 rung
refusal_of Scratch = numbered 9 0
refusal_of ListCase = numbered 10 0
refusal_of Table = numbered 11 0
refusal_of Watchdog = numbered 12 0
refusal_of BufferCase = numbered 13 0
refusal_of NameTable = numbered 14 0
refusal_of ListText = numbered 15 0
refusal_of Timers = numbered 16 0
refusal_of TimerNumber = numbered 17 0

-- questions in order: Ok where each got a "yes", and else the refusal of the first "no"
unfoldable pub verdict_answer : Result (Unit {0}) RefusalCase → Answer
verdict_answer (Ok done) = yes
verdict_answer (Err refusal) = some (refusal_of refusal)
