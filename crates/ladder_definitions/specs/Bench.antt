-- The bench ladders A to F of document 01, "Bench ladders", as trees, a few more, and their ladder scans. The crate bench_table has both scans of all rows.
-- A to D say no watchdog; theirs is the number of rungs that they enter, so that a watchdog asked before the end would show. Assumes nothing.
use Rattle.std.specs.Prelude.{◌≡◌, refl, true, false, List, [], ◌∷◌, ◌++◌, map, ℕ, replicate, length, take}
use Rattle.std.proofs.Math.Bool.{xor}
use Rattle.table.specs.Timer.{Timer, elapsed, started, tested, powered}
use Rattle.table.specs.State.{State, state_of, scratch_bytes, variables, value_at, value, written_at, turns, write, write_if, set_timer, run_timer}
use Rattle.table.specs.Halt.{Halt, Ended, Stopped}
use Rattle.table.specs.Writes.{Write, wrote, wrote_if, made, replay, changes_byte, changes_variable, changes}
use Rattle.rungs.specs.Records.{search}
use Rattle.ladder_definitions.specs.Tree.{contact, contactn, Front, input, front_and, front_or, coil, coiln, jump, jumpn, set_coil, reset_coil, timer, Rear, output, rear_and, rear_or, Rung, Ladder}
use Rattle.ladder_definitions.specs.Meaning.{scan_ladder, scan_from, run_rung, run_rear, run_output, work_front, work_input, jump_if, unless_jumped, from, follow, left}
use Rattle.ladder_definitions.specs.Writes.{output_writes, unless_jumped_writes, rear_writes, rung_writes, writes_from, ladder_writes}

-- a rung and its parts, by the letters of document 01, "Text"
abbrev pub rung : ℕ → Front → Rear → Rung
rung l f r = record { label = l; front = f; rear = r }

abbrev pub c : ℕ → Front
c v = input (contact v)

abbrev pub n : ℕ → Front
n v = input (contactn v)

abbrev pub o : ℕ → Rear
o v = output (coil v)

abbrev pub q : ℕ → Rear
q v = output (coiln v)

abbrev pub j : ℕ → Rear
j l = output (jump l)

abbrev pub k : ℕ → Rear
k l = output (jumpn l)

-- 02, Req 01
abbrev pub s : ℕ → Rear
s v = output (set_coil v)

abbrev pub r : ℕ → Rear
r v = output (reset_coil v)

-- 02, Req 06
abbrev pub t : ℕ → Rear
t n = output (timer n)

-- a ladder, its variables before, the rung watchdog; how the scan halts, the rungs entered, how often variables were turned over, and the variables after
pub record Row : Type 0 where
  pub ladder : Ladder
  pub before : List ℕ
  pub watchdog : ℕ
  pub halt : Halt
  pub rungs : ℕ
  pub moved : ℕ
  pub after : List ℕ

-- 10:c0|c1&n2>o1|c3&j20 20:n3>o4
abbrev pub ladder_a : Ladder
ladder_a = rung 10 (front_or (c 0) (front_and (c 1) (n 2))) (rear_or (o 1) (rear_and (c 3) (j 20))) ∷ rung 20 (n 3) (o 4) ∷ []

-- 0:c0>j5|o1 5:c0>o2
abbrev pub ladder_b : Ladder
ladder_b = rung 0 (c 0) (rear_or (j 5) (o 1)) ∷ rung 5 (c 0) (o 2) ∷ []

-- 0:c0>o1|c1&o2
abbrev pub ladder_c : Ladder
ladder_c = rung 0 (c 0) (rear_or (o 1) (rear_and (c 1) (o 2))) ∷ []

-- 0:c0>c1&o2
abbrev pub ladder_d : Ladder
ladder_d = rung 0 (c 0) (rear_and (c 1) (o 2)) ∷ []

-- 0:n0>j0
abbrev pub ladder_e : Ladder
ladder_e = rung 0 (n 0) (j 0) ∷ []

abbrev pub row_a : Row
row_a = record { ladder = ladder_a; before = 1 ∷ 0 ∷ 0 ∷ 0 ∷ 0 ∷ []; watchdog = 2; halt = Ended; rungs = 2; moved = 2; after = 1 ∷ 1 ∷ 0 ∷ 0 ∷ 1 ∷ [] }

abbrev pub row_b : Row
row_b = record { ladder = ladder_b; before = 1 ∷ 0 ∷ 0 ∷ []; watchdog = 2; halt = Ended; rungs = 2; moved = 1; after = 1 ∷ 0 ∷ 1 ∷ [] }

abbrev pub row_c : Row
row_c = record { ladder = ladder_c; before = 1 ∷ 0 ∷ 0 ∷ []; watchdog = 1; halt = Ended; rungs = 1; moved = 2; after = 1 ∷ 1 ∷ 1 ∷ [] }

abbrev pub row_d : Row
row_d = record { ladder = ladder_d; before = 0 ∷ 1 ∷ 0 ∷ []; watchdog = 1; halt = Ended; rungs = 1; moved = 0; after = 0 ∷ 1 ∷ 0 ∷ [] }

abbrev pub row_e : Row
row_e = record { ladder = ladder_e; before = 0 ∷ []; watchdog = 3; halt = Stopped; rungs = 3; moved = 0; after = 0 ∷ [] }

abbrev pub row_f : Row
row_f = record { ladder = ladder_e; before = 0 ∷ []; watchdog = 0; halt = Stopped; rungs = 0; moved = 0; after = 0 ∷ [] }

-- how a scan halted, its rungs entered, how often variables were turned over, and the variables that it left
pub record Outcome : Type 0 where
  pub halt : Halt
  pub rungs : ℕ
  pub moved : ℕ
  pub variables : List ℕ

unfoldable pub expected : Row → Outcome
expected r = record { halt = r.halt; rungs = r.rungs; moved = r.moved; variables = r.after }

-- "scratch is 0"
unfoldable pub start : Row → State
start r = state_of (length r.before) (r.before ++ replicate scratch_bytes 0) [] 0

unfoldable pub ladder_outcome : Row → Outcome
ladder_outcome r = let x = scan_ladder r.ladder r.watchdog (start r) in record { halt = x.halt; rungs = x.rungs; moved = x.state.moved; variables = variables x.state }

-- one more ladder for each rule of "What a ladder does" that A to F leave untried
further : List Row
further =
    -- 0:c0>c1&o2, no power: r is run all the same, and the coil writes 0
    record { ladder = rung 0 (c 0) (rear_and (c 1) (o 2)) ∷ []; before = 0 ∷ 1 ∷ 1 ∷ []; watchdog = 1; halt = Ended; rungs = 1; moved = 1; after = 0 ∷ 1 ∷ 0 ∷ [] }
    -- 0:c0>c1&o2|o3, v1 false: b gets the power p, and not what was left of it in a
    ∷ record { ladder = rung 0 (c 0) (rear_or (rear_and (c 1) (o 2)) (o 3)) ∷ []; before = 1 ∷ 0 ∷ 1 ∷ 0 ∷ []; watchdog = 1; halt = Ended; rungs = 1; moved = 2; after = 1 ∷ 0 ∷ 0 ∷ 1 ∷ [] }
    -- 5:n0>o0 3:c0>k5|q1: a negated jump is not taken when p is true; a negated coil
    ∷ record { ladder = rung 5 (n 0) (o 0) ∷ rung 3 (c 0) (rear_or (k 5) (q 1)) ∷ []; before = 0 ∷ 1 ∷ []; watchdog = 9; halt = Ended; rungs = 2; moved = 2; after = 1 ∷ 0 ∷ [] }
    -- 5:n0>o1 3:c1&n2>o2|j5: back to an earlier rung, once
    ∷ record { ladder = rung 5 (n 0) (o 1) ∷ rung 3 (front_and (c 1) (n 2)) (rear_or (o 2) (j 5)) ∷ []; before = 0 ∷ 0 ∷ 0 ∷ []; watchdog = 9; halt = Ended; rungs = 4; moved = 3; after = 0 ∷ 1 ∷ 0 ∷ [] }
    ∷ []

-- 10:c0>s2 20:c1>r2, a latch v2 that v0 sets and v1 resets in a later rung
abbrev pub latch : Ladder
latch = rung 10 (c 0) (s 2) ∷ rung 20 (c 1) (r 2) ∷ []

-- 02, Req 01
latches : List Row
latches =
    -- set with power
    record { ladder = latch; before = 1 ∷ 0 ∷ 0 ∷ []; watchdog = 2; halt = Ended; rungs = 2; moved = 1; after = 1 ∷ 0 ∷ 1 ∷ [] }
    -- S without power over a variable that is true, and R without power: it stays true, as in each later scan
    ∷ record { ladder = latch; before = 0 ∷ 0 ∷ 1 ∷ []; watchdog = 2; halt = Ended; rungs = 2; moved = 0; after = 0 ∷ 0 ∷ 1 ∷ [] }
    -- set in one rung and reset in a later one
    ∷ record { ladder = latch; before = 1 ∷ 1 ∷ 0 ∷ []; watchdog = 2; halt = Ended; rungs = 2; moved = 2; after = 1 ∷ 1 ∷ 0 ∷ [] }
    -- reset with power
    ∷ record { ladder = latch; before = 0 ∷ 1 ∷ 1 ∷ []; watchdog = 2; halt = Ended; rungs = 2; moved = 1; after = 0 ∷ 1 ∷ 0 ∷ [] }
    -- stopped before the rung that resets
    ∷ record { ladder = latch; before = 1 ∷ 1 ∷ 0 ∷ []; watchdog = 1; halt = Stopped; rungs = 1; moved = 1; after = 1 ∷ 1 ∷ 1 ∷ [] }
    -- 0:n0>c1&s2|r3, in branches: v1 false leaves v2, and the power comes to r3
    ∷ record { ladder = rung 0 (n 0) (rear_or (rear_and (c 1) (s 2)) (r 3)) ∷ []; before = 0 ∷ 0 ∷ 0 ∷ 1 ∷ []; watchdog = 1; halt = Ended; rungs = 1; moved = 1; after = 0 ∷ 0 ∷ 0 ∷ 0 ∷ [] }
    ∷ []

-- 0:c0>o1 1:n0>o1|o1, v0 true: rung 0 writes 1 to v1, rung 1 writes 0 to it, twice
abbrev pub overwritten : Ladder
overwritten = rung 0 (c 0) (o 1) ∷ rung 1 (n 0) (rear_or (o 1) (o 1)) ∷ []

-- 7:n1>o1|j7: writes 1 to v1 and goes back, or writes 0 to it and ends
abbrev pub turned_twice : Ladder
turned_twice = rung 7 (n 1) (rear_or (o 1) (j 7)) ∷ []

-- 02, Req 02
moves : List Row
moves =
    -- turned over twice, and ends as it began; the second 0 is the value that stands there
    record { ladder = overwritten; before = 1 ∷ 0 ∷ []; watchdog = 2; halt = Ended; rungs = 2; moved = 2; after = 1 ∷ 0 ∷ [] }
    -- rung 0 writes the 1 that stands there
    ∷ record { ladder = overwritten; before = 1 ∷ 1 ∷ []; watchdog = 2; halt = Ended; rungs = 2; moved = 1; after = 1 ∷ 0 ∷ [] }
    -- rung 0 writes the 0 that stands there; of two equal writes the first alone turns v1 over
    ∷ record { ladder = overwritten; before = 0 ∷ 0 ∷ []; watchdog = 2; halt = Ended; rungs = 2; moved = 1; after = 0 ∷ 1 ∷ [] }
    -- Stopped too: between the two rungs
    ∷ record { ladder = overwritten; before = 1 ∷ 0 ∷ []; watchdog = 1; halt = Stopped; rungs = 1; moved = 1; after = 1 ∷ 1 ∷ [] }
    -- one rung, entered twice
    ∷ record { ladder = turned_twice; before = 0 ∷ 0 ∷ []; watchdog = 9; halt = Ended; rungs = 2; moved = 2; after = 0 ∷ 0 ∷ [] }
    ∷ []

rows : List Row
rows = row_a ∷ row_b ∷ row_c ∷ row_d ∷ row_e ∷ row_f ∷ further ++ latches ++ moves

ladders_scanned : map ladder_outcome rows ≡ map expected rows
unfolding rows further latches moves start ladder_outcome expected scan_ladder scan_from run_rung run_rear run_output work_front work_input jump_if unless_jumped search from follow left value_at value written_at turns write write_if xor variables
ladders_scanned = refl

-- a ladder's writes in the order in which they are made
written : Row → List Write
written r = ladder_writes r.ladder r.watchdog (start r)

-- A; B, where the jump taken skips o1; C; the latches, of which the second writes nothing and the fifth, stopped, only what it came to; and Req 02's rows
writes_in_order : map written (row_a ∷ row_b ∷ row_c ∷ latches ++ moves)
    ≡ (wrote 1 true ∷ wrote 4 true ∷ [])
    ∷ (wrote 2 true ∷ [])
    ∷ (wrote 1 true ∷ wrote 2 true ∷ [])
    ∷ (wrote 2 true ∷ [])
    ∷ []
    ∷ (wrote 2 true ∷ wrote 2 false ∷ [])
    ∷ (wrote 2 false ∷ [])
    ∷ (wrote 2 true ∷ [])
    ∷ (wrote 3 false ∷ [])
    ∷ (wrote 1 true ∷ wrote 1 false ∷ wrote 1 false ∷ [])
    ∷ (wrote 1 true ∷ wrote 1 false ∷ wrote 1 false ∷ [])
    ∷ (wrote 1 false ∷ wrote 1 true ∷ wrote 1 true ∷ [])
    ∷ (wrote 1 true ∷ [])
    ∷ (wrote 1 true ∷ wrote 1 false ∷ [])
    ∷ []
unfolding latches moves written start ladder_writes writes_from rung_writes rear_writes output_writes unless_jumped_writes wrote_if run_rung run_rear run_output work_front work_input jump_if unless_jumped search from follow left value_at value written_at write write_if
writes_in_order = refl

changed : Row → ℕ
changed r = changes (length r.before) (written r) (start r).bytes

replayed : Row → List ℕ
replayed r = take (length r.before) (replay (written r) (start r).bytes)

-- the writes alone tell each row's sum and variables
writes_told : (map changed rows ≡ map (λ (r : Row). r.moved) rows) × (map replayed rows ≡ map (λ (r : Row). r.after) rows)
unfolding rows further latches moves written start changed replayed made replay changes_byte changes_variable changes ladder_writes writes_from rung_writes rear_writes output_writes unless_jumped_writes wrote_if
    run_rung run_rear run_output work_front work_input jump_if unless_jumped search from follow left value_at value written_at write write_if
writes_told = (refl, refl)

-- ---- 02, Req 06

-- a ladder, its variables and timer records before, `now`, the rung watchdog; how the scan halts, the rungs entered, how often variables were turned over, and
-- the variables and timer records after
pub record TimedRow : Type 0 where
  pub ladder : Ladder
  pub before : List ℕ
  pub timers : List Timer
  pub now : ℕ
  pub watchdog : ℕ
  pub halt : Halt
  pub rungs : ℕ
  pub moved : ℕ
  pub after : List ℕ
  pub left : List Timer

abbrev pub timed : ℕ → ℕ → ℕ → ℕ → ℕ → Timer
timed preset start variable running done = record { preset = preset; start = start; variable = variable; running = running; done = done }

-- 10:c0>t0 20:c1>o2, a dispatch v2 that waits for v0 to hold as long as timer 0 says, whose variable is v1
abbrev pub delay : Ladder
delay = rung 10 (c 0) (t 0) ∷ rung 20 (c 1) (o 2) ∷ []

-- 10:c0>t0 20:n0>t0, two rungs with one timer, whose variable is v1
abbrev pub shared : Ladder
shared = rung 10 (c 0) (t 0) ∷ rung 20 (n 0) (t 0) ∷ []

unfoldable pub timed_rows : List TimedRow
timed_rows =
    -- power comes at tick 10; one tick too early; at tick 13
    record { ladder = delay; before = 1 ∷ 0 ∷ 0 ∷ []; timers = timed 3 0 1 0 0 ∷ []; now = 10; watchdog = 9; halt = Ended; rungs = 2; moved = 0; after = 1 ∷ 0 ∷ 0 ∷ []; left = timed 3 10 1 1 0 ∷ [] }
    ∷ record { ladder = delay; before = 1 ∷ 0 ∷ 0 ∷ []; timers = timed 3 10 1 1 0 ∷ []; now = 12; watchdog = 9; halt = Ended; rungs = 2; moved = 0; after = 1 ∷ 0 ∷ 0 ∷ []; left = timed 3 10 1 1 0 ∷ [] }
    ∷ record { ladder = delay; before = 1 ∷ 0 ∷ 0 ∷ []; timers = timed 3 10 1 1 0 ∷ []; now = 13; watchdog = 9; halt = Ended; rungs = 2; moved = 2; after = 1 ∷ 1 ∷ 1 ∷ []; left = timed 3 10 1 1 1 ∷ [] }
    -- power is lost, and comes back
    ∷ record { ladder = delay; before = 0 ∷ 1 ∷ 1 ∷ []; timers = timed 3 10 1 1 1 ∷ []; now = 14; watchdog = 9; halt = Ended; rungs = 2; moved = 2; after = 0 ∷ 0 ∷ 0 ∷ []; left = timed 3 10 1 0 0 ∷ [] }
    ∷ record { ladder = delay; before = 1 ∷ 0 ∷ 0 ∷ []; timers = timed 3 10 1 0 0 ∷ []; now = 15; watchdog = 9; halt = Ended; rungs = 2; moved = 0; after = 1 ∷ 0 ∷ 0 ∷ []; left = timed 3 15 1 1 0 ∷ [] }
    -- across the wrap at 2^32
    ∷ record { ladder = delay; before = 1 ∷ 0 ∷ 0 ∷ []; timers = timed 3 4294967294 1 1 0 ∷ []; now = 0; watchdog = 9; halt = Ended; rungs = 2; moved = 0; after = 1 ∷ 0 ∷ 0 ∷ []; left = timed 3 4294967294 1 1 0 ∷ [] }
    ∷ record { ladder = delay; before = 1 ∷ 0 ∷ 0 ∷ []; timers = timed 3 4294967294 1 1 0 ∷ []; now = 1; watchdog = 9; halt = Ended; rungs = 2; moved = 2; after = 1 ∷ 1 ∷ 1 ∷ []; left = timed 3 4294967294 1 1 1 ∷ [] }
    -- preset 0
    ∷ record { ladder = delay; before = 1 ∷ 0 ∷ 0 ∷ []; timers = timed 0 0 1 0 0 ∷ []; now = 7; watchdog = 9; halt = Ended; rungs = 2; moved = 2; after = 1 ∷ 1 ∷ 1 ∷ []; left = timed 0 7 1 1 1 ∷ [] }
    -- comes in done
    ∷ record { ladder = delay; before = 1 ∷ 0 ∷ 0 ∷ []; timers = timed 3 10 1 1 1 ∷ []; now = 10; watchdog = 9; halt = Ended; rungs = 2; moved = 2; after = 1 ∷ 1 ∷ 1 ∷ []; left = timed 3 10 1 1 1 ∷ [] }
    -- stopped before the rung that reads its variable
    ∷ record { ladder = delay; before = 1 ∷ 0 ∷ 0 ∷ []; timers = timed 0 0 1 0 0 ∷ []; now = 7; watchdog = 1; halt = Stopped; rungs = 1; moved = 1; after = 1 ∷ 1 ∷ 0 ∷ []; left = timed 0 7 1 1 1 ∷ [] }
    -- two rungs with one timer: the second takes back what the first did; a record that no rung names stays
    ∷ record { ladder = shared; before = 1 ∷ 0 ∷ []; timers = timed 0 0 1 0 0 ∷ timed 5 6 0 7 8 ∷ []; now = 9; watchdog = 9; halt = Ended; rungs = 2; moved = 2; after = 1 ∷ 0 ∷ []; left = timed 0 9 1 0 0 ∷ timed 5 6 0 7 8 ∷ [] }
    ∷ []

pub record TimedOutcome : Type 0 where
  pub outcome : Outcome
  pub timers : List Timer

unfoldable pub timed_expected : TimedRow → TimedOutcome
timed_expected r = record { outcome = record { halt = r.halt; rungs = r.rungs; moved = r.moved; variables = r.after }; timers = r.left }

unfoldable pub timed_start : TimedRow → State
timed_start r = state_of (length r.before) (r.before ++ replicate scratch_bytes 0) r.timers r.now

unfoldable pub timed_outcome : TimedRow → TimedOutcome
timed_outcome r =
    let x = scan_ladder r.ladder r.watchdog (timed_start r) in
    record { outcome = record { halt = x.halt; rungs = x.rungs; moved = x.state.moved; variables = variables x.state }; timers = x.state.timers }

timers_scanned : map timed_outcome timed_rows ≡ map timed_expected timed_rows
unfolding timed_rows timed_start timed_outcome timed_expected scan_ladder scan_from run_rung run_rear run_output work_front work_input jump_if unless_jumped search from follow left value_at value written_at turns write write_if
    set_timer run_timer elapsed started tested powered xor variables
timers_scanned = refl
