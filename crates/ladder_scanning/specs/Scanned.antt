-- What the scan of this crate promises. Nothing here is a sentence of document 01. Assumes nothing.
use Rattle.std.specs.Prelude.{ℕ, ◌≤◌, List, length}
use Rattle.questions.specs.Questions.{most_rung_watchdog}
use Rattle.table.specs.Timer.{Timer}
use Rattle.table.specs.State.{State}
use Rattle.ladder_definitions.specs.Tree.{Ladder}
use Rattle.ladder_definitions.specs.Meaning.{scan_ladder}
use Rattle.ladder_definitions.specs.Questions.{most_words}
use Rattle.ladder_definitions.specs.Held.{LadderHeld}
use Rattle.ladder_definitions.specs.LadderScan.{scan_ends, LadderScanned, LadderScanDone}

-- what questions 5 and 12 take. A rung entered turns over as many variables as there are words, at most: so the sum of a scan stays below 2^32.
pub record WithinLimits (ws : List ℕ) (watchdog : ℕ) : Type 0 where
  pub words : length ws ≤ most_words
  pub rungs : watchdog ≤ most_rung_watchdog

-- a scan from the state s, which leaves the bytes u and the timer records ts
pub record Scanned (ws ls os : List ℕ) (s : State) (watchdog : ℕ) (r : LadderScanned) (u : List ℕ) (ts : List Timer) : Type 0 where
  pub same : (gs : Ladder) → LadderHeld ws ls os gs → LadderScanDone (scan_ends (scan_ladder gs watchdog s)) r u ts
