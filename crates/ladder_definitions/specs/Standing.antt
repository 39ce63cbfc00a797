-- Where a scan stands before each rung, with no watchdog: document 01, "What a ladder does". Theorems says by it when a scan is Stopped and when it Ended.
-- Assumes nothing.
use Rattle.std.specs.Prelude.{ℕ, ◌+◌, ◌∷◌}
use Rattle.table.specs.State.{State}
use Rattle.ladder_definitions.specs.Tree.{Rung, Ladder}
use Rattle.ladder_definitions.specs.Meaning.{run_rung, follow, left}

-- the scan of gs that begins in state s has entered k rungs, and stands before the rungs `rest` in state t; past the last where these are none
pub data Stands (gs : Ladder) (s : State) : ℕ → Ladder → State → Type 0 where
  at_first : Stands gs s 0 gs s
  after_rung : {k : ℕ} {g : Rung} {rest : Ladder} {t : State} → Stands gs s k (g ∷ rest) t → Stands gs s (k + 1) (follow gs rest (run_rung g t)) (left (run_rung g t))
