-- What a ladder does. Document 000, figures 4 to 6, with the corrections of document 01, "What a ladder does", after IEC 61131-3:
-- a rear-and keeps the power before it, the next rung is the next in the row, and a jump may lead to any rung. Assumes nothing.
use Rattle.std.specs.Prelude.{ℕ, zero, suc, ◌+◌, Bool, true, false, not, ◌&&◌, ◌||◌, [], ◌∷◌, drop}
use Rattle.table.specs.State.{State, value, write, write_if, run_timer}
use Rattle.table.specs.Halt.{Halt, Ended, Stopped}
use Rattle.rungs.specs.Records.{search}
use Rattle.ladder_definitions.specs.Tree.{Input, contact, contactn, Front, input, front_and, front_or, Output, coil, coiln, jump, jumpn, set_coil, reset_coil, timer, Rear, output, rear_and, rear_or, Rung, Ladder, labels}

-- what working a front gives: its value, and the state that it leaves
pub record Worked : Type 0 where
  pub power : Bool
  pub state : State

-- "A contact has its variable's value, a negated contact the opposite, read at that moment": figure 5, contact, contact-negated
unfoldable pub work_input : Input → State → Worked
work_input (contact v) s = record { power = value s v; state = s }
work_input (contactn v) s = record { power = not (value s v); state = s }

-- "3 and 4 are and, or, and both of their parts are always worked, the first part first": figure 5, front-and, front-or
unfoldable pub work_front : Front → State → Worked
work_front (input i) s = work_input i s
work_front (front_and f g) s =
    let a = work_front f s in
    let b = work_front g a.state in
    record { power = a.power && b.power; state = b.state }
work_front (front_or f g) s =
    let a = work_front f s in
    let b = work_front g a.state in
    record { power = a.power || b.power; state = b.state }

-- what running a rear gives: the state that it leaves, and the label of the jump that it took, if it took one
pub data Run : Type 0 where
  onward : State → Run
  jumped : ℕ → State → Run

unfoldable pub left : Run → State
left (onward s) = s
left (jumped l s) = s

unfoldable pub jump_if : Bool → ℕ → State → Run
jump_if true l s = jumped l s
jump_if false l s = onward s

-- "A coil writes p, a negated coil the opposite. A jump is taken when p is true, a negated one when p is false.": figure 6.
-- 02, Req 01: "With power on, S writes 1 and R writes 0. With power off they write nothing.": a set coil, a reset coil. Req 06: a timer
unfoldable pub run_output : Output → Bool → State → Run
run_output (coil v) p s = onward (write s v p)
run_output (coiln v) p s = onward (write s v (not p))
run_output (jump l) p s = jump_if p l s
run_output (jumpn l) p s = jump_if (not p) l s
run_output (set_coil v) p s = onward (write_if p s v true)
run_output (reset_coil v) p s = onward (write_if p s v false)
run_output (timer n) p s = onward (run_timer s n p)

-- "if a took a jump, b is skipped; else b gets the same p, over the table that a left": figure 6, rear-or-jump, rear-or-nojump
unfoldable pub unless_jumped : Run → (State → Run) → Run
unless_jumped (onward s) next = next s
unless_jumped (jumped l s) next = jumped l s

-- "Rear-and (f, r): r gets p and f; f is worked and r is run for either p."; "Rear-or (a, b): a gets p": figure 6, rear-and
unfoldable pub run_rear : Rear → Bool → State → Run
run_rear (output o) p s = run_output o p s
run_rear (rear_and f r) p s = let w = work_front f s in run_rear r (p && w.power) w.state
run_rear (rear_or a b) p s = unless_jumped (run_rear a p s) (λ u. run_rear b p u)

-- "The rear gets the front's value as power p.": figure 4, rung
unfoldable pub run_rung : Rung → State → Run
run_rung g s = let w = work_front g.front s in run_rear g.rear w.power w.state

-- the rungs from the one with label l on: figure 4, jump(rungs, l)
unfoldable pub from : ℕ → Ladder → Ladder
from l gs = drop (search l (labels gs)) gs

-- "A taken jump goes to the start of the rung with that label, earlier, later or the same. Else the rung next in the row follows."
unfoldable pub follow : Ladder → Ladder → Run → Ladder
follow all rest (onward s) = rest
follow all rest (jumped l s) = from l all

-- how a scan halted, the rungs entered, and the state that it left
pub record LadderResult : Type 0 where
  pub halt : Halt
  pub rungs : ℕ
  pub state : State

-- "Before each rung: past the last, answer Ended with the rungs entered; else if the rungs entered equal the watchdog, answer Stopped with that count.":
-- the scan of the ladder `all` from the rungs given on, with k rungs entered and n left before the watchdog; figure 4, rungs
unfoldable pub scan_from : Ladder → ℕ → ℕ → Ladder → State → LadderResult
scan_from all zero k [] s = record { halt = Ended; rungs = k; state = s }
scan_from all zero k (g ∷ rest) s = record { halt = Stopped; rungs = k; state = s }
scan_from all (suc n) k [] s = record { halt = Ended; rungs = k; state = s }
scan_from all (suc n) k (g ∷ rest) s = let x = run_rung g s in scan_from all n (k + 1) (follow all rest x) (left x)

unfoldable pub scan_ladder : Ladder → ℕ → State → LadderResult
scan_ladder gs watchdog s = scan_from gs watchdog 0 gs s
