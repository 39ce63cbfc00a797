-- Demand 3 over lent rows of rung records. Translate, Ladder scan and List scan over rows promise the calls' definitions of their rows' records. The hypotheses
-- are Given, the conclusions RowsAgree, a field to a sentence; Theorems states that the first give the second, by Translate's promise. Assumes nothing.
use Rattle.std.specs.Prelude.{ℕ, ◌≡◌, List, take, Ok}
use Rattle.rows.specs.declared.Rung.{Rung}
use Rattle.rows.specs.Rows.{records_of}
use Rattle.table.specs.Timer.{Timer}
use Rattle.ladder_definitions.specs.Kept.{Kept}
use Rattle.translation_definitions.specs.declared.Counts.{Counts}
use Rattle.translation_definitions.specs.TranslateKept.{Translated}
use Rattle.translation_definitions.specs.Calls.{ScansAgree}

-- the kept ladder of some words and the records of a row
abbrev pub kept_in : List ℕ → List Rung → Kept
kept_in words row = record { words = words; records = records_of row }

-- Of Translate's answer, and of the code words and the row that it left:
pub record RowsAgree (vars : ℕ) (kept : Kept) (answer : Translated) (code : List ℕ) (row : List Rung) (table : List ℕ) (timers : List Timer) (now n : ℕ) : Type 0 where
  -- Translate wrote a list, with its counts
  pub counts : Counts
  pub translated : answer ≡ Ok counts
  -- "In demand 3 a ladder's list is what Translate writes for it, records included.": the first instructions and records, as many as it counted
  pub scans : ScansAgree vars kept (take counts.instructions code) (records_of (take counts.rungs row)) counts.longest table timers now n
