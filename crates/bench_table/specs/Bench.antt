-- Document 01, "Bench ladders": the rows A to I in one table, with one theorem: texts through the definitions of Read, Translate, Ladder scan and List scan.
-- The list scan has the watchdog of demand 3: k × L where the ladder scan ends with k rungs, 2 × n where it stops at n. A to D say no rung watchdog;
-- theirs is the number of rungs that they enter, so that a watchdog asked before the end would show. J stands below the table, and so do the latches,
-- sums and times entered of document 02, Req 01, 02 and 04, through the same definitions. Assumes nothing.
use Rattle.std.specs.Prelude.{◌≡◌, refl, Bool, true, false, ℕ, ◌-◌, length, replicate, take}
use Rattle.std.proofs.Math.Bool.{xor}
use Rattle.std.proofs.Math.Option.{Option, none, some}
use mathlib.Core.List.{List, [], ◌∷◌, ◌++◌, map, zip_with, flat_map}
use Rattle.questions.specs.Tests.{first_failed, different}
use Rattle.questions.specs.Bytes.{bytes}
use Rattle.questions.specs.Questions.{ask, ask_each, first_no, vars_in_range, question1, question2, question12, long_enough, question13}
use Rattle.table.specs.State.{state_of, scratch_bytes, value_at, value, written_at, turns, write, write_if, set_timer, run_timer}
use Rattle.table.specs.Halt.{Halt, Ended, Stopped}
use Rattle.table.specs.Questions.{table_in_range, question11, timers_in_range, question16}
use Rattle.table.specs.Timer.{Timer, elapsed, started, tested, powered}
use Rattle.rungs.specs.Records.{RungRecord, laid, lay, search, present, start_of, is_start, enter, longest, fields_of, row_of}
use Rattle.rungs.specs.Buffers.{Buffers, buffers, as_buffers, needs, written, written_over, written_words, written_records}
use Rattle.ladder_definitions.specs.Tree.{front_all, rear_all, rung_all, input_variable, output_names, number}
use Rattle.ladder_definitions.specs.Meaning.{scan_ladder, scan_from, run_rung, run_rear, run_output, work_front, work_input, jump_if, unless_jumped, from, follow, left}
use Rattle.ladder_definitions.specs.Entries.{entries_from, rungs_entered, occurrences, times_entered}
use Rattle.ladder_definitions.specs.Kept.{Kept, input_kind, output_kind, input_word, output_word, front_words, rear_words, rung_words, encode, put_input, put_front, put_output, put_rear_and, put_rear_or, kinds, decode_words, one_rung, decode_rung, decode_from, decode}
use Rattle.ladder_definitions.specs.Questions.{question17, timers_known, output_timed, named_timed, ladder_of, holds_ladder, question4, sizes_in_range, question5, input_below, output_below, question6, new_labels, question7, output_leads, question8, join_scratch, front_scratch, rear_scratch, rung_scratch, scratch_in_range, question9, named_below, named_leads, form_questions, ladder_questions, ladder_answer}
use Rattle.ladder_definitions.specs.LadderScan.{call_ladder_scan, scanned, refused, scan_ends as ladder_scan_ends, scan_questions as ladder_scan_questions}
use Rattle.text_grammar.specs.Reader.{map_p, bind, followed, digit_of, digits_from, numeral_of, chain, term_by, front_by, factor_by, factor_of, term_of, front_of, opens_factor, branch_by, rear_by, output_at, end_by, end_of, rear_of, line_of, lines_of, text_of}
use Rattle.text_grammar.specs.Questions.{question3}
use Rattle.text_definitions.specs.Read.{read_text, kept, written_kept, text_ladder, refused as read_refused}
use Rattle.list_definitions.specs.Instruction.{Instr, LD, LDN, ST, AND, ANDN, OR, JMPC, operand, op_of, operand_number, only_not, ops, instr_word, decode_instr, decode_code, code_of}
use Rattle.list_definitions.specs.Machine.{scan_list, scan_machine, begin, fresh, step, count, does, halted}
use Rattle.list_definitions.specs.Questions.{operand_in_range, word_in_range, records_laid, list_in_range, question10, question17 as list_question17, timers_known as list_timers_known, operand_timed}
use Rattle.list_definitions.specs.ListScan.{list_of, call_list_scan, scanned as list_scanned, refused as list_refused, scan_ends as list_scan_ends, scan_questions as list_scan_questions}
use Rattle.translation_definitions.specs.Translate.{F, R, join, output_code, rung_code, list_records, translate}
use Rattle.translation_definitions.specs.BothScans.{instruction_watchdog}
use Rattle.translation_definitions.specs.TranslateKept.{Counts, counts_of, list_written, translate_kept, translated, refused as translate_refused}

-- how a scan halted, its rungs entered, how often variables were turned over, and the variables that it left
record Scan : Type 0 where
  halt : Halt
  rungs : ℕ
  moved : ℕ
  variables : List ℕ

-- what document 01 prints of a list, "Listing": its instructions, the records whose labels stand before them, and the count line, which has Translate's counts;
-- and the instructions that its scan carries out
record Printed : Type 0 where
  instructions : List ℕ
  records : List RungRecord
  counts : Counts
  carried_out : ℕ

-- a refusal's number and place; or both scans of the text's ladder, and its list where document 01 prints one
data Outcome : Type 0 where
  refused_at : ℕ → ℕ → Outcome
  scans : Scan → Scan → Option Printed → Outcome

-- V and the variables before, a text, the rung watchdog, and what document 01 says of them
record Row : Type 0 where
  before : List ℕ
  text : List ℕ
  watchdog : ℕ
  outcome : Outcome

-- both scans alike
abbrev alike : Halt → ℕ → ℕ → List ℕ → Outcome
alike halt rungs moved variables =
    let x : Scan = record { halt = halt; rungs = rungs; moved = moved; variables = variables } in
    scans x x none

-- document 01, "Listing", with its "rungs 2 instructions 12 longest 10"; and row A's "12 instructions"
list_a : Printed
list_a = record {
  instructions = map instr_word (LD 0 ∷ ST 5 ∷ LD 1 ∷ ANDN 2 ∷ OR 5 ∷ ST 5 ∷ ST 1 ∷ LD 5 ∷ AND 3 ∷ JMPC 10 ∷ LDN 3 ∷ ST 4 ∷ []);
  records = record { label = 10; offset = 0; length = 10 } ∷ record { label = 20; offset = 10; length = 2 } ∷ [];
  counts = record { rungs = 2; instructions = 12; longest = 10 };
  carried_out = 12;
}

outcome_a : Outcome
outcome_a =
    let x : Scan = record { halt = Ended; rungs = 2; moved = 2; variables = 1 ∷ 1 ∷ 0 ∷ 0 ∷ 1 ∷ [] } in
    scans x x (some list_a)

table : List Row
table =
    -- A
    record { before = 1 ∷ 0 ∷ 0 ∷ 0 ∷ 0 ∷ []; text = bytes "10:c0|c1&n2>o1|c3&j20\n20:n3>o4\n"; watchdog = 2; outcome = outcome_a }
    -- B
    ∷ record { before = 1 ∷ 0 ∷ 0 ∷ []; text = bytes "0:c0>j5|o1\n5:c0>o2\n"; watchdog = 2; outcome = alike Ended 2 1 (1 ∷ 0 ∷ 1 ∷ []) }
    -- C
    ∷ record { before = 1 ∷ 0 ∷ 0 ∷ []; text = bytes "0:c0>o1|c1&o2\n"; watchdog = 1; outcome = alike Ended 1 2 (1 ∷ 1 ∷ 1 ∷ []) }
    -- D
    ∷ record { before = 0 ∷ 1 ∷ 0 ∷ []; text = bytes "0:c0>c1&o2\n"; watchdog = 1; outcome = alike Ended 1 0 (0 ∷ 1 ∷ 0 ∷ []) }
    -- E and F
    ∷ record { before = 0 ∷ []; text = bytes "0:n0>j0\n"; watchdog = 3; outcome = alike Stopped 3 0 (0 ∷ []) }
    ∷ record { before = 0 ∷ []; text = bytes "0:n0>j0\n"; watchdog = 0; outcome = alike Stopped 0 0 (0 ∷ []) }
    -- G
    ∷ record { before = 0 ∷ []; text = bytes "65536:"; watchdog = 0; outcome = refused_at 3 4 }
    -- H
    ∷ record { before = 0 ∷ []; text = bytes "00:"; watchdog = 0; outcome = refused_at 3 1 }
    -- I
    ∷ record { before = 0 ∷ []; text = bytes "7:c0>o0"; watchdog = 0; outcome = refused_at 3 7 }
    ∷ []

-- "variables not called true start false, scratch is 0"
start : Row → List ℕ
start r = r.before ++ replicate scratch_bytes 0

-- room for a bench ladder and its list
room : Buffers
room = buffers (replicate 20 0) (replicate 3 0) (replicate 3 0) (replicate 3 0) (replicate 3 0)

variables_of : Row → List ℕ → List ℕ
variables_of r bytes = take (length r.before) bytes

-- List scan, after Ladder scan gave x and Translate wrote a list with its counts
by_list_scan : Row → Scan → Counts → List ℕ → List RungRecord → Outcome
by_list_scan r x counts words records =
    let c = call_list_scan (length r.before) words records (start r) [] 0 (instruction_watchdog x.halt x.rungs counts.longest r.watchdog) in
    elim c.answer [
      | list_refused refusal ↦ refused_at refusal.number refusal.place
      | list_scanned halt n ↦ scans x (record { halt = halt; rungs = n.rungs; moved = n.moved; variables = variables_of r c.table })
          (some (record { instructions = words; records = records; counts = counts; carried_out = n.instructions }))
    ]

-- Translate, after Ladder scan gave x
by_translate : Row → Scan → Kept → Outcome
by_translate r x k =
    let c = translate_kept (length r.before) k room in
    elim c.answer [
      | translate_refused refusal ↦ refused_at refusal.number refusal.place
      | translated counts ↦ by_list_scan r x counts (written_words c.buffers counts.instructions) (written_records c.buffers counts.rungs)
    ]

-- Ladder scan, after Read wrote a kept ladder
by_ladder_scan : Row → Kept → Outcome
by_ladder_scan r k =
    let c = call_ladder_scan (length r.before) k (start r) [] 0 r.watchdog in
    elim c.answer [
      | refused refusal ↦ refused_at refusal.number refusal.place
      | scanned halt n ↦ by_translate r (record { halt = halt; rungs = n.rungs; moved = n.moved; variables = variables_of r c.table }) k
    ]

run : Row → Outcome
run r =
    let c = read_text (length r.before) r.text room in
    elim c.answer [
      | read_refused refusal ↦ refused_at refusal.number refusal.place
      | kept words rungs ↦ by_ladder_scan r (written_kept c.buffers words rungs)
    ]

-- the list only where document 01 prints one
as_far : Outcome → Outcome → Outcome
as_far (refused_at n p) said = refused_at n p
as_far (scans x y list) (refused_at n p) = scans x y list
as_far (scans x y list) (scans x' y' none) = scans x y none
as_far (scans x y list) (scans x' y' (some l)) = scans x y list

-- ---- document 02, Req 01

latch_list : Printed
latch_list = record {
  instructions = map instr_word (LD 0 ∷ Instr.S 2 ∷ LD 1 ∷ Instr.R 2 ∷ []);
  records = record { label = 10; offset = 0; length = 2 } ∷ record { label = 20; offset = 2; length = 2 } ∷ [];
  counts = record { rungs = 2; instructions = 4; longest = 2 };
  carried_out = 4;
}

-- both scans end with these variables, after so many were turned over
latched : ℕ → List ℕ → Outcome
latched moved variables =
    let x : Scan = record { halt = Ended; rungs = 2; moved = moved; variables = variables } in
    scans x x (some latch_list)

-- a latch v2, which v0 sets in one rung and v1 resets in a later one
latches : List Row
latches =
    -- set
    record { before = 1 ∷ 0 ∷ 0 ∷ []; text = bytes "10:c0>s2\n20:c1>r2\n"; watchdog = 2; outcome = latched 1 (1 ∷ 0 ∷ 1 ∷ []) }
    -- S without power over a variable that is true: it stays, and R without power leaves it too
    ∷ record { before = 0 ∷ 0 ∷ 1 ∷ []; text = bytes "10:c0>s2\n20:c1>r2\n"; watchdog = 2; outcome = latched 0 (0 ∷ 0 ∷ 1 ∷ []) }
    -- reset
    ∷ record { before = 0 ∷ 1 ∷ 1 ∷ []; text = bytes "10:c0>s2\n20:c1>r2\n"; watchdog = 2; outcome = latched 1 (0 ∷ 1 ∷ 0 ∷ []) }
    -- set and then reset in one scan
    ∷ record { before = 1 ∷ 1 ∷ 0 ∷ []; text = bytes "10:c0>s2\n20:c1>r2\n"; watchdog = 2; outcome = latched 2 (1 ∷ 1 ∷ 0 ∷ []) }
    -- stopped between the two rungs
    ∷ record { before = 1 ∷ 1 ∷ 0 ∷ []; text = bytes "10:c0>s2\n20:c1>r2\n"; watchdog = 1; outcome = alike Stopped 1 1 (1 ∷ 1 ∷ 1 ∷ []) }
    -- question 6 of both letters, by Read
    ∷ record { before = 0 ∷ 0 ∷ []; text = bytes "10:c0>s2\n20:c1>r2\n"; watchdog = 2; outcome = refused_at 6 0 }
    ∷ record { before = 0 ∷ 0 ∷ 0 ∷ []; text = bytes "10:c0>s2\n20:c1>r3\n"; watchdog = 2; outcome = refused_at 6 1 }
    ∷ []

-- ---- document 02, Req 02

-- case A under the rung watchdog 1: the list stops within its first rung, before it stores to v1, and each scan reports its own sum
stopped_a : Outcome
stopped_a = scans (record { halt = Stopped; rungs = 1; moved = 1; variables = 1 ∷ 1 ∷ 0 ∷ 0 ∷ 0 ∷ [] })
    (record { halt = Stopped; rungs = 1; moved = 0; variables = 1 ∷ 0 ∷ 0 ∷ 0 ∷ 0 ∷ [] }) none

moves : List Row
moves =
    -- v1 is turned over twice and ends as it began; the second 0 is the value that stands there
    record { before = 1 ∷ 0 ∷ []; text = bytes "0:c0>o1\n1:n0>o1|o1\n"; watchdog = 2; outcome = alike Ended 2 2 (1 ∷ 0 ∷ []) }
    -- both rungs write the value that stands there, but for the first 1 of rung 1
    ∷ record { before = 0 ∷ 0 ∷ []; text = bytes "0:c0>o1\n1:n0>o1|o1\n"; watchdog = 2; outcome = alike Ended 2 1 (0 ∷ 1 ∷ []) }
    -- one rung, entered twice
    ∷ record { before = 0 ∷ 0 ∷ []; text = bytes "7:n1>o1|j7\n"; watchdog = 9; outcome = alike Ended 2 2 (0 ∷ 0 ∷ []) }
    ∷ record { before = 1 ∷ 0 ∷ 0 ∷ 0 ∷ 0 ∷ []; text = bytes "10:c0|c1&n2>o1|c3&j20\n20:n3>o4\n"; watchdog = 1; outcome = stopped_a }
    ∷ []

-- each row comes out as is said of it
as_said : List Row → Type 0
as_said rows = map (λ r. as_far (run r) r.outcome) rows ≡ map (λ (r : Row). r.outcome) rows

all_tables : as_said table × as_said latches × as_said moves
unfolding as_said table list_a outcome_a latches latch_list latched moves stopped_a run as_far start room instruction_watchdog variables_of by_list_scan by_translate by_ladder_scan bytes
    first_failed ask ask_each first_no vars_in_range question1 question2 question3 question4 question5 question6 question7 question8 question9 question10 question11 question12 question13 question16 question17 list_question17 timers_in_range different timers_known list_timers_known output_timed named_timed operand_timed long_enough
    value_at value written_at turns write write_if xor table_in_range laid lay search present start_of is_start enter longest fields_of row_of as_buffers needs written written_over written_words written_records zip_with flat_map
    front_all rear_all rung_all scan_ladder scan_from run_rung run_rear run_output work_front work_input jump_if unless_jumped from follow left
    input_kind input_variable input_word output_kind output_names number output_word front_words rear_words rung_words encode put_input put_front put_output put_rear_and put_rear_or kinds decode_words one_rung decode_rung decode_from decode
    ladder_of holds_ladder sizes_in_range input_below named_below output_below new_labels named_leads output_leads join_scratch front_scratch rear_scratch rung_scratch scratch_in_range form_questions ladder_questions ladder_answer call_ladder_scan ladder_scan_questions ladder_scan_ends
    map_p bind followed digit_of digits_from numeral_of chain term_by front_by factor_by factor_of term_of front_of opens_factor branch_by rear_by output_at end_by end_of rear_of line_of lines_of text_of
    read_text written_kept text_ladder operand op_of operand_number only_not ops instr_word decode_instr decode_code code_of scan_list scan_machine begin fresh step count does halted
    operand_in_range word_in_range records_laid list_in_range list_of call_list_scan list_scan_questions list_scan_ends F R join output_code rung_code list_records translate counts_of list_written translate_kept
all_tables = (refl, refl, refl)

-- Every row comes out as document 01 says.
bench : as_said table
bench = all_tables.0

-- Every latch comes out as document 02 says.
latches_worked : as_said latches
latches_worked = all_tables.1

-- And every sum.
moves_worked : as_said moves
moves_worked = all_tables.2

-- ---- document 02, Req 04

-- the variables before, a text, both watchdogs; how often the ladder scan enters each rung, and the fields after a scan of its list, each 7 before it
record Entries : Type 0 where
  before : List ℕ
  text : List ℕ
  rung_watchdog : ℕ
  watchdog : ℕ
  ladder : List ℕ
  list : List ℕ

entries : List Entries
entries =
    -- case A
    record { before = 1 ∷ 0 ∷ 0 ∷ 0 ∷ 0 ∷ []; text = bytes "10:c0|c1&n2>o1|c3&j20\n20:n3>o4\n"; rung_watchdog = 2; watchdog = 20; ladder = 1 ∷ 1 ∷ []; list = 1 ∷ 1 ∷ [] }
    -- a jump over a rung, which is not entered
    ∷ record { before = 0 ∷ 0 ∷ []; text = bytes "0:n0>j5\n3:c0>o1\n5:c0>o1\n"; rung_watchdog = 9; watchdog = 20; ladder = 1 ∷ 0 ∷ 1 ∷ []; list = 1 ∷ 0 ∷ 1 ∷ [] }
    -- the last rung is entered twice, the second time by its own jump
    ∷ record { before = 0 ∷ 0 ∷ []; text = bytes "3:c0>o0\n7:n1>o1|j7\n"; rung_watchdog = 9; watchdog = 20; ladder = 1 ∷ 2 ∷ []; list = 1 ∷ 2 ∷ [] }
    -- Stopped: the fields are set all the same
    ∷ record { before = 0 ∷ []; text = bytes "0:n0>j0\n1:c0>o0\n"; rung_watchdog = 3; watchdog = 6; ladder = 3 ∷ 0 ∷ []; list = 3 ∷ 0 ∷ [] }
    ∷ record { before = 0 ∷ []; text = bytes "0:n0>j0\n1:c0>o0\n"; rung_watchdog = 0; watchdog = 0; ladder = 0 ∷ 0 ∷ []; list = 0 ∷ 0 ∷ [] }
    -- refused 12: they stay
    ∷ record { before = 0 ∷ []; text = bytes "0:n0>j0\n1:c0>o0\n"; rung_watchdog = 1; watchdog = 16777216; ladder = 1 ∷ 0 ∷ []; list = 7 ∷ 7 ∷ [] }
    ∷ []

entered : Entries → List ℕ × List ℕ
entered r =
    let table = r.before ++ replicate scratch_bytes 0 in
    let vars = length r.before in
    let gs = text_ladder r.text in
    let list = translate vars gs in (
      times_entered gs r.rung_watchdog (state_of vars table [] 0),
      (call_list_scan vars (map instr_word list.code) list.records table [] 0 r.watchdog).times (replicate (length gs) 7),
    )

-- And every field.
entries_worked : map entered entries ≡ map (λ (r : Entries). (r.ladder, r.list)) entries
unfolding entries entered bytes
    ask first_no vars_in_range question1 question10 question11 question12 question16 list_question17 timers_in_range different list_timers_known operand_timed value_at value written_at turns write write_if xor table_in_range laid lay search start_of is_start enter zip_with flat_map
    run_rung run_rear run_output work_front work_input jump_if unless_jumped from follow left entries_from rungs_entered occurrences times_entered number
    map_p bind followed digit_of digits_from numeral_of chain term_by front_by factor_by factor_of term_of front_of opens_factor branch_by rear_by output_at end_by end_of rear_of line_of lines_of text_of text_ladder
    operand op_of operand_number only_not ops instr_word decode_instr decode_code code_of scan_list scan_machine begin fresh step count does halted
    operand_in_range word_in_range records_laid list_in_range list_of call_list_scan list_scan_questions list_scan_ends F R join output_code rung_code list_records translate
entries_worked = refl

-- ---- document 02, Req 06

-- scans in turn, at these ticks, on the table and with the timer records that the one before left, v0 as given before each: the variables and the records after
record Ticked : Type 0 where
  tick : ℕ
  input : Bool
  variables : List ℕ
  timers : List Timer

timer : ℕ → ℕ → ℕ → ℕ → ℕ → Timer
timer preset start variable running done = record { preset = preset; start = start; variable = variable; running = running; done = done }

-- 10:c0>t0 20:c1>o2, a dispatch that waits three ticks, begun four ticks before the wrap at 2^32: power comes, is lost, comes back and holds across the wrap
dispatch : List Ticked
dispatch =
    record { tick = 4294967292; input = true; variables = 1 ∷ 0 ∷ 0 ∷ []; timers = timer 3 4294967292 1 1 0 ∷ [] }
    ∷ record { tick = 4294967293; input = false; variables = 0 ∷ 0 ∷ 0 ∷ []; timers = timer 3 4294967292 1 0 0 ∷ [] }
    ∷ record { tick = 4294967294; input = true; variables = 1 ∷ 0 ∷ 0 ∷ []; timers = timer 3 4294967294 1 1 0 ∷ [] }
    ∷ record { tick = 0; input = true; variables = 1 ∷ 0 ∷ 0 ∷ []; timers = timer 3 4294967294 1 1 0 ∷ [] }
    ∷ record { tick = 1; input = true; variables = 1 ∷ 1 ∷ 1 ∷ []; timers = timer 3 4294967294 1 1 1 ∷ [] }
    ∷ record { tick = 9; input = false; variables = 0 ∷ 0 ∷ 0 ∷ []; timers = timer 3 4294967294 1 0 0 ∷ [] }
    ∷ []

-- the variables and timer records that a call left, from those that it was lent
record Left : Type 0 where
  table : List ℕ
  timers : List Timer

in_turn : (ℕ → List ℕ → List Timer → Left) → List ℕ → List Timer → List Ticked → List (List ℕ × List Timer)
in_turn call table timers [] = []
in_turn call table timers (s ∷ later) =
    let left = call s.tick (written_at table 0 s.input) timers in
    (take 3 left.table, left.timers) ∷ in_turn call left.table left.timers later

kept_dispatch : Kept
kept_dispatch = encode (text_ladder (bytes "10:c0>t0\n20:c1>o2\n"))

by_ladder : ℕ → List ℕ → List Timer → Left
by_ladder now table timers = let c = call_ladder_scan 3 kept_dispatch table timers now 2 in record { table = c.table; timers = c.timers }

by_list : ℕ → List ℕ → List Timer → Left
by_list now table timers =
    let list = translate 3 (ladder_of kept_dispatch) in
    let c = call_list_scan 3 (map instr_word list.code) list.records table timers now 4 in
    record { table = c.table; timers = c.timers }

expected : List (List ℕ × List Timer)
expected = map (λ (s : Ticked). (s.variables, s.timers)) dispatch

-- And every tick, by ladder and list.
dispatch_worked : (in_turn by_ladder (replicate 35 0) (timer 3 0 1 0 0 ∷ []) dispatch ≡ expected) × (in_turn by_list (replicate 35 0) (timer 3 0 1 0 0 ∷ []) dispatch ≡ expected)
unfolding dispatch expected in_turn kept_dispatch by_ladder by_list timer bytes
    first_failed ask ask_each first_no vars_in_range question1 question4 question5 question6 question7 question8 question9 question10 question11 question12 question16 question17 list_question17
    timers_in_range different timers_known list_timers_known output_timed named_timed operand_timed value_at value written_at turns write write_if set_timer run_timer elapsed started tested powered xor table_in_range
    laid lay search present start_of is_start enter zip_with flat_map scan_ladder scan_from run_rung run_rear run_output work_front work_input jump_if unless_jumped from follow left
    front_all rear_all rung_all input_kind input_variable input_word output_kind output_names number output_word front_words rear_words rung_words encode put_input put_front put_output put_rear_and put_rear_or
    kinds decode_words one_rung decode_rung decode_from decode ladder_of holds_ladder sizes_in_range input_below named_below output_below new_labels named_leads output_leads join_scratch front_scratch rear_scratch rung_scratch
    scratch_in_range form_questions call_ladder_scan ladder_scan_questions ladder_scan_ends
    map_p bind followed digit_of digits_from numeral_of chain term_by front_by factor_by factor_of term_of front_of opens_factor branch_by rear_by output_at end_by end_of rear_of line_of lines_of text_of text_ladder
    operand op_of operand_number only_not ops instr_word decode_instr decode_code code_of scan_list scan_machine begin fresh step count does halted
    operand_in_range word_in_range records_laid list_in_range list_of call_list_scan list_scan_questions list_scan_ends F R join output_code rung_code list_records translate
dispatch_worked = (refl, refl)

-- J, of so many contacts: 0:c0&c0& .. &c0>o0
text_j : ℕ → List ℕ
text_j contacts = bytes "0:c0" ++ flat_map (λ more. more) (replicate (contacts - 1) (bytes "&c0")) ++ bytes ">o0\n"

-- room for 128 words and a record
room_j : Buffers
room_j = buffers (replicate 128 0) (replicate 1 0) (replicate 1 0) (replicate 1 0) (replicate 1 0)

-- "J 64 contacts joined by & and a coil: 128 words, taken; 65: refused 5.", by Read
J_worked : map (λ contacts. (read_text 1 (text_j contacts) room_j).answer) (64 ∷ 65 ∷ []) ≡ kept 128 1 ∷ read_refused (record { number = 5; place = 0 }) ∷ []
unfolding text_j room_j bytes
    first_failed ask ask_each first_no vars_in_range question1 question2 question3 question5 question6 question7 question8 question13 long_enough
    lay search present as_buffers needs written written_over flat_map
    front_all rear_all rung_all input_kind input_variable input_word output_kind output_names number output_word front_words rear_words rung_words encode
    sizes_in_range input_below named_below output_below new_labels named_leads output_leads
    map_p bind followed digit_of digits_from numeral_of chain term_by front_by factor_by factor_of term_of front_of opens_factor branch_by rear_by output_at end_by end_of rear_of
    line_of lines_of text_of read_text text_ladder
J_worked = refl
