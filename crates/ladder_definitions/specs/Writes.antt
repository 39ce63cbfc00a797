-- The writes that a ladder scan makes, first to last, clause by clause beside Meaning. Theorems states that the scan leaves the table with these writes made.
-- Assumes nothing.
use Rattle.std.specs.Prelude.{ℕ, zero, suc, Bool, true, false, not, ◌&&◌, List, [], ◌∷◌, ◌++◌}
use Rattle.table.specs.State.{State}
use Rattle.table.specs.Writes.{Write, wrote, wrote_if, timer_writes}
use Rattle.ladder_definitions.specs.Tree.{Output, coil, coiln, jump, jumpn, set_coil, reset_coil, timer, Rear, output, rear_and, rear_or, Rung, Ladder}
use Rattle.ladder_definitions.specs.Meaning.{work_front, Run, onward, jumped, left, run_rear, run_rung, follow}

-- "A coil writes p, a negated coil the opposite."; 02, Req 01: "With power on, S writes 1 and R writes 0. With power off they write nothing."
-- Req 06: a timer writes its variable.
unfoldable pub output_writes : Output → Bool → State → List Write
output_writes (coil v) p s = wrote v p ∷ []
output_writes (coiln v) p s = wrote v (not p) ∷ []
output_writes (jump l) p s = []
output_writes (jumpn l) p s = []
output_writes (set_coil v) p s = wrote_if p v true
output_writes (reset_coil v) p s = wrote_if p v false
output_writes (timer n) p s = timer_writes s n p

-- "if a took a jump, b is skipped": then nothing more is written
unfoldable pub unless_jumped_writes : Run → (State → List Write) → List Write
unless_jumped_writes (onward s) next = next s
unless_jumped_writes (jumped l s) next = []

-- "r gets p and f"; "a gets p", and b "the same p, over the table that a left": the writes of a, and then those of b
unfoldable pub rear_writes : Rear → Bool → State → List Write
rear_writes (output o) p s = output_writes o p s
rear_writes (rear_and f r) p s = let w = work_front f s in rear_writes r (p && w.power) w.state
rear_writes (rear_or a b) p s = rear_writes a p s ++ unless_jumped_writes (run_rear a p s) (λ u. rear_writes b p u)

-- "The rear gets the front's value as power p."
unfoldable pub rung_writes : Rung → State → List Write
rung_writes g s = let w = work_front g.front s in rear_writes g.rear w.power w.state

-- rung after rung, of the scan of `all` from the rungs given on, with n left before the watchdog
unfoldable pub writes_from : Ladder → ℕ → Ladder → State → List Write
writes_from all zero rest s = []
writes_from all (suc n) [] s = []
writes_from all (suc n) (g ∷ rest) s = let x = run_rung g s in rung_writes g s ++ writes_from all n (follow all rest x) (left x)

unfoldable pub ladder_writes : Ladder → ℕ → State → List Write
ladder_writes gs watchdog s = writes_from gs watchdog gs s

-- half of the words that question 5 allows a rung: a rung's writes are at most half of its words, as Laws.Writes says
abbrev pub most_rung_writes : ℕ
most_rung_writes = 64
