-- The rungs that a ladder scan enters, first to last, by their labels, clause by clause beside Meaning, and how often it enters each. 02, Req 04: "which rungs
-- a scan went through"; a ladder scan itself leaves the times entered as they are. Theorems states that they are as many as the rungs entered. Assumes nothing.
use Rattle.std.specs.Prelude.{ℕ, zero, suc, ◌+◌, List, [], ◌∷◌, map, eqb}
use Rattle.questions.specs.Tests.{bit}
use Rattle.table.specs.State.{State}
use Rattle.ladder_definitions.specs.Tree.{Rung, Ladder}
use Rattle.ladder_definitions.specs.Meaning.{left, run_rung, follow}

-- rung after rung, of the scan of `all` from the rungs given on, with n left before the watchdog
unfoldable pub entries_from : Ladder → ℕ → Ladder → State → List ℕ
entries_from all zero rest s = []
entries_from all (suc n) [] s = []
entries_from all (suc n) (g ∷ rest) s = let x = run_rung g s in g.label ∷ entries_from all n (follow all rest x) (left x)

unfoldable pub rungs_entered : Ladder → ℕ → State → List ℕ
rungs_entered gs watchdog s = entries_from gs watchdog gs s

-- how many of some labels are l
unfoldable pub occurrences : ℕ → List ℕ → ℕ
occurrences l [] = 0
occurrences l (m ∷ ms) = bit (eqb m l) + occurrences l ms

-- "the times entered", of each rung in the order of the row
unfoldable pub times_entered : Ladder → ℕ → State → List ℕ
times_entered gs watchdog s = map (λ (g : Rung). occurrences g.label (rungs_entered gs watchdog s)) gs
