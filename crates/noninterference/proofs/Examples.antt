-- A ladder with lamps that no contact reads, worked on two tables. Assumes nothing.
use Rattle.std.specs.Prelude.{◌≡◌, refl, true, false, ℕ, replicate}
use Rattle.std.proofs.Math.Bool.{xor}
use mathlib.Core.List.{List, [], ◌∷◌, ◌++◌, map, flat_map}
use Rattle.table.specs.Timer.{elapsed, started, tested, powered}
use Rattle.table.specs.State.{State, state_of, scratch_bytes, variables, value_at, value, written_at, turns, write, write_if, set_timer, run_timer}
use Rattle.table.specs.Halt.{Ended}
use Rattle.table.specs.Writes.{wrote, wrote_if, timer_writes}
use Rattle.rungs.specs.Records.{search}
use Rattle.ladder_definitions.specs.Tree.{rear_and, rear_or, Ladder, input_variable}
use Rattle.ladder_definitions.specs.Meaning.{LadderResult, scan_ladder, scan_from, run_rung, run_rear, run_output, work_front, work_input, jump_if, unless_jumped, from, follow, left}
use Rattle.ladder_definitions.specs.Writes.{output_writes, unless_jumped_writes, rear_writes, rung_writes, writes_from, ladder_writes}
use Rattle.ladder_definitions.specs.Bench.{rung, c, n, o, q, j, s, r, t, Outcome}
use Rattle.noninterference.specs.Contacts.{front_contacts, rear_contacts, rung_contacts, ladder_contacts, among, left_out, unread}
use Rattle.noninterference.specs.Noninterference.{wrote_to}

-- 0:c0>o1|c1&q2|j9|o4 5:n0>o4 9:c1>s3|n0&r5|t0, V 8, timer 0 writing v6
lamps : Ladder
lamps =
    rung 0 (c 0) (rear_or (o 1) (rear_or (rear_and (c 1) (q 2)) (rear_or (j 9) (o 4))))
    ∷ rung 5 (n 0) (o 4)
    ∷ rung 9 (c 1) (rear_or (s 3) (rear_or (rear_and (n 0) (r 5)) (t 0)))
    ∷ []

-- two tables that agree on v0 and v1
tables : List (List ℕ)
tables = (1 ∷ 0 ∷ 0 ∷ 0 ∷ 0 ∷ 0 ∷ 0 ∷ 0 ∷ []) ∷ (1 ∷ 0 ∷ 1 ∷ 0 ∷ 1 ∷ 1 ∷ 1 ∷ 1 ∷ []) ∷ []

begun : List ℕ → State
begun before = state_of 8 (before ++ replicate scratch_bytes 0) (record { preset = 3; start = 0; variable = 6; running = 0; done = 0 } ∷ []) 7

outcome : LadderResult → Outcome
outcome x = record { halt = x.halt; rungs = x.rungs; moved = x.state.moved; variables = variables x.state }

-- contacts name v0 and v1, in fronts and in rears; none reads the others
contacts_worked : ladder_contacts lamps ≡ 0 ∷ 1 ∷ 0 ∷ 1 ∷ 0 ∷ []
unfolding lamps ladder_contacts rung_contacts front_contacts rear_contacts input_variable flat_map
contacts_worked = refl

unread_worked : unread 8 lamps ≡ 2 ∷ 3 ∷ 4 ∷ 5 ∷ 6 ∷ 7 ∷ []
unfolding lamps unread left_out among ladder_contacts rung_contacts front_contacts rear_contacts input_variable flat_map
unread_worked = refl

-- both scans write v1, v2, v3 and v6, in this order: the jump is taken, so v4 is not written, and v5 is reset without power
writes_worked : map (λ b. ladder_writes lamps 9 (begun b)) tables
    ≡ (wrote 1 true ∷ wrote 2 false ∷ wrote 3 true ∷ wrote 6 false ∷ []) ∷ (wrote 1 true ∷ wrote 2 false ∷ wrote 3 true ∷ wrote 6 false ∷ []) ∷ []
unfolding lamps tables begun ladder_writes writes_from rung_writes rear_writes output_writes unless_jumped_writes wrote_if timer_writes
    run_rung run_rear run_output work_front work_input jump_if unless_jumped search from follow left value_at value written_at turns write write_if set_timer run_timer
    elapsed started tested powered
writes_worked = refl

wrote_worked : map (λ v. wrote_to v (ladder_writes lamps 9 (begun (1 ∷ 0 ∷ 0 ∷ 0 ∷ 0 ∷ 0 ∷ 0 ∷ 0 ∷ [])))) (0 ∷ 1 ∷ 2 ∷ 3 ∷ 4 ∷ 5 ∷ 6 ∷ 7 ∷ [])
    ≡ false ∷ true ∷ true ∷ true ∷ false ∷ false ∷ true ∷ false ∷ []
unfolding lamps begun wrote_to among ladder_writes writes_from rung_writes rear_writes output_writes unless_jumped_writes wrote_if timer_writes
    run_rung run_rear run_output work_front work_input jump_if unless_jumped search from follow left value_at value written_at turns write write_if set_timer run_timer
    elapsed started tested powered
wrote_worked = refl

-- v4, v5 and v7 differ as before; v2 and v6, which were written, no longer do, and the sums differ
lamps_differ : map (λ b. outcome (scan_ladder lamps 9 (begun b))) tables
    ≡ record { halt = Ended; rungs = 2; moved = 2; variables = 1 ∷ 1 ∷ 0 ∷ 1 ∷ 0 ∷ 0 ∷ 0 ∷ 0 ∷ [] }
    ∷ record { halt = Ended; rungs = 2; moved = 4; variables = 1 ∷ 1 ∷ 0 ∷ 1 ∷ 1 ∷ 1 ∷ 0 ∷ 1 ∷ [] }
    ∷ []
unfolding lamps tables begun outcome scan_ladder scan_from
    run_rung run_rear run_output work_front work_input jump_if unless_jumped search from follow left value_at value written_at turns write write_if set_timer run_timer
    elapsed started tested powered variables xor
lamps_differ = refl
