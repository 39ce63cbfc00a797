-- What the functions of this crate promise to each other. Nothing here is a sentence of document 01. Assumes nothing.
use Rattle.std.specs.Prelude.{ℕ, ◌<◌, ◌≡◌, Bool, true, ◌&&◌, List, ltb, length}
use Rattle.std.proofs.Math.Option.{some}
use Rattle.questions.specs.Questions.{first_no, vars_in_range}
use Rattle.questions.specs.Refusals.{refusal_of}
use Rattle.questions.specs.declared.Refusal.{Refusal}
use Rattle.table.specs.TimerRecords.{number_timers}
use Rattle.rungs.specs.Records.{RungRecord, most_records}
use Rattle.ladder_definitions.specs.Questions.{holds_ladder, form_questions, ladder_answer}
use Rattle.ladder_definitions.specs.LadderScan.{scan_questions}

-- "no", of a row of 256 or fewer
unfoldable pub long_holds : List ℕ → List RungRecord → Bool
long_holds ws rs = ltb most_records (length rs) && holds_ladder (record { words = ws; records = rs })

-- what the first question says "no" to in a row of more than 256 records; past question 1 it is one of 4 to 8
pub record LongRefused (vars : ℕ) (holds : Bool) (r : Refusal) : Type 0 where
  pub same : (ws : List ℕ) (rs : List RungRecord) → most_records < length rs → holds ≡ long_holds ws rs → ladder_answer vars (record { words = ws; records = rs }) ≡ some (refusal_of r)
  pub form : vars_in_range vars ≡ true → (ws : List ℕ) (rs : List RungRecord) → most_records < length rs → holds ≡ long_holds ws rs
      → first_no (form_questions vars (record { words = ws; records = rs })) ≡ some (refusal_of r)

-- and what Ladder scan's first question does, with timer records in the numbers ns
pub record LongScanRefused (vars : ℕ) (ns : List ℕ) (holds : Bool) (r : Refusal) : Type 0 where
  pub same : (ws : List ℕ) (rs : List RungRecord) (t : List ℕ) (w : ℕ) → most_records < length rs → holds ≡ long_holds ws rs
      → scan_questions vars (record { words = ws; records = rs }) t (number_timers ns) w ≡ some (refusal_of r)
