-- Worked translations, by hand from the clauses of document 01, "Translation"; and scans of a latch in turn, by ladder and list. Assumes nothing.
use Rattle.std.specs.Prelude.{◌≡◌, refl, true, false, ℕ, length, replicate}
use Rattle.std.proofs.Math.Bool.{xor}
use mathlib.Core.List.{List, [], ◌∷◌, ◌++◌, map, flat_map, zip_with}
use Rattle.table.specs.Timer.{elapsed, started, tested, powered}
use Rattle.table.specs.State.{State, state_of, table_size, variables, value_at, value, written_at, turns, write, write_if, set_timer, run_timer}
use Rattle.rungs.specs.Records.{lay, search, start_of, is_start, enter}
use Rattle.ladder_definitions.specs.Tree.{front_and, front_or, rear_and, rear_or, Ladder}
use Rattle.ladder_definitions.specs.Bench.{Outcome, TimedRow, TimedOutcome, timed_rows, timed_expected, timed_start, rung, c, n, o, q, j, k, s, r, t, delay, shared, latch}
use Rattle.ladder_definitions.specs.Meaning.{scan_ladder, scan_from, run_rung, run_rear, run_output, work_front, work_input, follow, left}
use Rattle.list_definitions.specs.Instruction.{Instr, LD, LDN, ST, STN, AND, ANDN, OR, ORN, JMPC, JMPCN, TON}
use Rattle.list_definitions.specs.Machine.{scan_list, scan_machine, begin, fresh, step, count, does, halted}
use Rattle.translation_definitions.specs.Translate.{F, R, join, output_code, rung_code, list_records, translate}

-- a ladder, its V, and its instructions
record Row : Type 0 where
  ladder : Ladder
  vars : ℕ
  code : List Instr

rows : List Row
rows =
    -- 0:c0&(c1|c2&(n3|c4))>o5 with t0 to t2 in bytes 6 to 8
    record {
      ladder = rung 0 (front_and (c 0) (front_or (c 1) (front_and (c 2) (front_or (n 3) (c 4))))) (o 5) ∷ [];
      vars = 6;
      code = LD 0 ∷ ST 6 ∷ LD 1 ∷ ST 7 ∷ LD 2 ∷ ST 8 ∷ LDN 3 ∷ OR 4 ∷ AND 8 ∷ OR 7 ∷ AND 6 ∷ ST 5 ∷ [];
    }
    -- 0:c0|n1&c2|n3>o0, to the left: the second term goes through t0, the third is short
    ∷ record {
      ladder = rung 0 (front_or (front_or (c 0) (front_and (n 1) (c 2))) (n 3)) (o 0) ∷ [];
      vars = 4;
      code = LD 0 ∷ ST 4 ∷ LDN 1 ∷ AND 2 ∷ OR 4 ∷ ORN 3 ∷ ST 0 ∷ [];
    }
    -- 7:c0>(c1|c2)&[o3|c1&k7|q4] 9:n0>n1&j9
    ∷ record {
      ladder = rung 7 (c 0) (rear_and (front_or (c 1) (c 2)) (rear_or (o 3) (rear_or (rear_and (c 1) (k 7)) (q 4)))) ∷ rung 9 (n 0) (rear_and (n 1) (j 9)) ∷ [];
      vars = 5;
      code = LD 0 ∷ ST 5 ∷ LD 1 ∷ OR 2 ∷ AND 5 ∷ ST 5 ∷ ST 3 ∷ LD 5 ∷ ST 5 ∷ AND 1 ∷ JMPCN 0 ∷ LD 5 ∷ STN 4 ∷ LDN 0 ∷ ANDN 1 ∷ JMPC 13 ∷ [];
    }
    -- 0:c0>[o1|o2]|o3: the first part of the outer or has t1
    ∷ record {
      ladder = rung 0 (c 0) (rear_or (rear_or (o 1) (o 2)) (o 3)) ∷ [];
      vars = 4;
      code = LD 0 ∷ ST 4 ∷ ST 5 ∷ ST 1 ∷ LD 5 ∷ ST 2 ∷ LD 4 ∷ ST 3 ∷ [];
    }
    -- 02, Req 01: 10:c0>s2|n1&r3 20:c1>r2
    ∷ record {
      ladder = rung 10 (c 0) (rear_or (s 2) (rear_and (n 1) (r 3))) ∷ rung 20 (c 1) (r 2) ∷ [];
      vars = 4;
      code = LD 0 ∷ ST 4 ∷ Instr.S 2 ∷ LD 4 ∷ ANDN 1 ∷ Instr.R 3 ∷ LD 1 ∷ Instr.R 2 ∷ [];
    }
    -- Req 06: 0:c0>t65535|n1&t0: a timer number is no variable, and is not bounded by V
    ∷ record {
      ladder = rung 0 (c 0) (rear_or (t 65535) (rear_and (n 1) (t 0))) ∷ [];
      vars = 2;
      code = LD 0 ∷ ST 2 ∷ TON 65535 ∷ LD 2 ∷ ANDN 1 ∷ TON 0 ∷ [];
    }
    ∷ []

translations : map (λ r. (translate r.vars r.ladder).code) rows ≡ map (λ r. r.code) rows
unfolding rows F R join output_code rung_code lay search start_of list_records translate flat_map
translations = refl

-- 02, Req 01: "Document 002 restores a set variable in the next scan; IEC 61131-3 doesn't, and is followed." Three scans of the latch 10:c0>s2 20:c1>r2, each on the
-- table that the one before left; v0 is true in the first and false from then on, v1 is true in the third. The variables after each:
three_scans : (State → State) → List (List ℕ)
three_scans scan =
    let first = scan (write (state_of 3 (replicate (table_size 3) 0) [] 0) 0 true) in
    let second = scan (write first 0 false) in
    let third = scan (write second 1 true) in
    variables first ∷ variables second ∷ variables third ∷ []

latch_held : map three_scans ((λ t. (scan_ladder latch 2 t).state) ∷ (λ t. (scan_list (translate 3 latch) 4 t).state) ∷ [])
    ≡ replicate 2 ((1 ∷ 0 ∷ 1 ∷ []) ∷ (0 ∷ 0 ∷ 1 ∷ []) ∷ (0 ∷ 1 ∷ 0 ∷ []) ∷ [])
unfolding three_scans F R join output_code rung_code lay search start_of list_records translate flat_map variables value_at value written_at write write_if
    scan_ladder scan_from run_rung run_rear run_output work_front work_input follow left scan_list scan_machine begin fresh step count does halted is_start
latch_held = refl

-- 02, Req 06: a timer's list, scanned as the ladder is, ends with the same variables and timer records: delay is LD v0, TON d0, LD v1, ST v2, and shared is
-- LD v0, TON d0, LDN v0, TON d0. The rows are those of ladder_definitions.Bench; the last but one, which stopped after one rung, is stopped after two instructions.
list_outcome : ℕ → TimedRow → TimedOutcome
list_outcome w r =
    let x = scan_list (translate (length r.before) r.ladder) w (timed_start r) in
    record { outcome = record { halt = x.halt; rungs = x.counts.rungs; moved = x.state.moved; variables = variables x.state }; timers = x.state.timers }

watchdogs : List ℕ
watchdogs = replicate 9 4 ++ 2 ∷ 4 ∷ []

timers_listed : zip_with list_outcome watchdogs timed_rows ≡ map timed_expected timed_rows
unfolding list_outcome watchdogs zip_with timed_rows timed_expected timed_start F R join output_code rung_code lay search start_of list_records translate flat_map variables value_at value written_at turns write write_if
    set_timer run_timer elapsed started tested powered scan_list scan_machine begin fresh step count enter does halted is_start xor
timers_listed = refl
