-- What the functions of this crate promise to each other. Nothing here is a sentence of document 01. Assumes nothing.
use Rattle.std.specs.Prelude.{ℕ, ◌<◌, ◌≡◌, List, length}
use Rattle.std.proofs.Math.Option.{some}
use Rattle.questions.specs.Refusals.{refusal_of}
use Rattle.questions.specs.declared.Refusal.{Refusal}
use Rattle.rungs.specs.Records.{RungRecord, most_records}
use Rattle.list_definitions.specs.Questions.{list_answer}
use Rattle.table.specs.TimerRecords.{number_timers}
use Rattle.list_definitions.specs.ListScan.{scan_questions}

-- what the first question says "no" to in a row of more than 256 records
pub record LongRefused (vars : ℕ) (r : Refusal) : Type 0 where
  pub same : (ws : List ℕ) (rs : List RungRecord) → most_records < length rs → list_answer vars ws rs ≡ some (refusal_of r)

-- the same of List scan, whose timer records are in the numbers ks
pub record LongScanRefused (vars : ℕ) (ks : List ℕ) (r : Refusal) : Type 0 where
  pub same : (ws : List ℕ) (rs : List RungRecord) (t : List ℕ) (w : ℕ) → most_records < length rs → scan_questions vars ws rs t (number_timers ks) w ≡ some (refusal_of r)
