-- What is promised of the programs' output; the proofs are in Laws. Assumes nothing.
use Rattle.std.specs.Prelude.{ℕ, ◌^◌, ◌≤◌, ◌<◌, ◌≡◌, List, ◌++◌, T, ltb, length}
use Rattle.std.proofs.Common.{lt→ltb}
use Rattle.questions.specs.Bytes.{bytes}
use Rattle.questions.specs.Questions.{Refusal}
use Rattle.questions.specs.Tests.{all}
use Rattle.table.specs.Timer.{ticks}
use Rattle.program_definitions.specs.Refusals.{refusal_line}
use Rattle.program_definitions.specs.Outcome.{printed}
use Rattle.program_definitions.specs.Printout.{text_printed, most_output}
use Rattle.program_definitions.specs.Scanout.{text_scanned, output, most_report}
use Rattle.program_definitions.proofs.Laws.Alike.{output_shown}
use Rattle.program_definitions.proofs.Laws.Bounds.{refusal_short, text_short, report_text_short}

-- a refusal; or two scans that Ended, whose last line is `alike`; or two that Stopped, whose last line is `both stopped`
pub data Shown : List ℕ → Type 0 where
  refusal : (r : Refusal) → Shown (refusal_line r)
  ended : (middle : List ℕ) → Shown (bytes "scan ladder list\nend Ended Ended\n" ++ (middle ++ bytes "\nalike\n"))
  stopped : (middle : List ℕ) → Shown (bytes "scan ladder list\nend Stopped Stopped\n" ++ (middle ++ bytes "\nboth stopped\n"))

-- Demand 3, of every input of ladder-scan: it never prints `not alike`, nor that one scan Ended and the other Stopped.
pub always_alike : (input : List ℕ) → Shown (output input)
always_alike input = output_shown Shown refusal ended stopped input

-- What ladder-list prints, and what ladder-scan prints of timer records and a tick of 32 bits, fits the buffer that the program writes from,
pub list_output_short : (vars : ℕ) (text t : List ℕ) → text_printed vars text ≡ printed t → length t ≤ most_output
list_output_short vars text t e = text_short vars text t e

pub scan_output_short : (vars n : ℕ) (table timers : List ℕ) (now : ℕ) (text t : List ℕ) → T (all (λ x. ltb x ticks) timers) → now < ticks
    → text_scanned vars n table timers now text ≡ printed t → length t ≤ most_report
scan_output_short vars n table timers now text t few few-now e = report_text_short vars n table timers now text t few (lt→ltb now ticks few-now) e

-- and so does the line of a refusal whose number and place have 64 bits.
pub refusal_line_short : (r : Refusal) → r.number < 2 ^ 64 → r.place < 2 ^ 64 → length (refusal_line r) ≤ 60
refusal_line_short r n p = refusal_short r n p
