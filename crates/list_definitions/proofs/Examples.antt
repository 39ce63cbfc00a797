-- Worked lists: case A of document 01, and a list for each rule of "What a list does" that it leaves untried; worked questions 10 and 14, and listings. Assumes nothing.
use Rattle.std.specs.Prelude.{◌≡◌, refl, true, false, ℕ, replicate, length, take, drop}
use Rattle.std.proofs.Math.Option.{some}
use mathlib.Core.List.{List, [], ◌∷◌, ◌++◌, map, flat_map, zip_with}
use Rattle.std.proofs.Math.Bool.{xor}
use Rattle.questions.specs.Bytes.{bytes, decimal, digits, same_bytes}
use Rattle.questions.specs.Tests.{different}
use Rattle.questions.specs.Questions.{Answer, yes, ask, vars_in_range, question1, first_no}
use Rattle.table.specs.Timer.{Timer, elapsed, started, tested, powered}
use Rattle.table.specs.State.{State, state_of, scratch_bytes, variables, value_at, value, written_at, turns, write, write_if, set_timer, run_timer}
use Rattle.table.specs.Halt.{Halt, Ended, Stopped}
use Rattle.table.specs.Writes.{Write, wrote, wrote_if, made, replay, changes_byte, changes_variable, changes}
use Rattle.rungs.specs.Records.{RungRecord, is_start, laid, enter}
use Rattle.list_definitions.specs.Instruction.{Instr, LD, LDN, ST, STN, AND, ANDN, OR, ORN, XOR, XORN, NOT, JMP, JMPC, JMPCN, S, R, TON, operand, op_of, operand_number, instr_word, decode_instr, ops, only_not}
use Rattle.list_definitions.specs.Machine.{InstructionList, does, count, step, fresh, begin, halted, scan_machine, scan_list}
use Rattle.list_definitions.specs.Writes.{instr_writes, writes_from, list_writes}
use Rattle.list_definitions.specs.Names.{fixed_names, trimmed, name_of, names_from, names_in, fixed_table, is_capital, is_name, is_name_table, question14}
use Rattle.list_definitions.specs.Listing.{operand_text, instr_line, label_line, rung_lines, listing_lines, ended, listing_text}
use Rattle.list_definitions.specs.Questions.{operand_in_range, operand_timed, timers_known, question17, word_in_range, records_laid, list_in_range, question10, list_answer}

-- a list, its variables before, the instruction watchdog; how the scan halts, its counts, the times entered and the variables after
record Row : Type 0 where
  list : InstructionList
  before : List ℕ
  watchdog : ℕ
  halt : Halt
  instructions : ℕ
  rungs : ℕ
  times : List ℕ
  moved : ℕ
  after : List ℕ

abbrev at : ℕ → ℕ → ℕ → RungRecord
at l o n = record { label = l; offset = o; length = n }

abbrev one : List Instr → InstructionList
one code = record { code = code; records = at 0 0 (length code) ∷ [] }

abbrev list_a : InstructionList
list_a = record {
  code = LD 0 ∷ ST 5 ∷ LD 1 ∷ ANDN 2 ∷ OR 5 ∷ ST 5 ∷ ST 1 ∷ LD 5 ∷ AND 3 ∷ JMPC 10 ∷ LDN 3 ∷ ST 4 ∷ [];
  records = at 10 0 10 ∷ at 20 10 2 ∷ [];
}

rows : List Row
rows =
    -- case A, under a watchdog of just its 12 instructions, and of one less
    record { list = list_a; before = 1 ∷ 0 ∷ 0 ∷ 0 ∷ 0 ∷ []; watchdog = 12; halt = Ended; instructions = 12; rungs = 2; times = 1 ∷ 1 ∷ []; moved = 2; after = 1 ∷ 1 ∷ 0 ∷ 0 ∷ 1 ∷ [] }
    ∷ record { list = list_a; before = 1 ∷ 0 ∷ 0 ∷ 0 ∷ 0 ∷ []; watchdog = 11; halt = Stopped; instructions = 11; rungs = 2; times = 1 ∷ 1 ∷ []; moved = 1; after = 1 ∷ 1 ∷ 0 ∷ 0 ∷ 0 ∷ [] }
    -- the accumulator starts false, and stores keep it
    ∷ record { list = one (STN 0 ∷ ST 1 ∷ []); before = 0 ∷ 1 ∷ []; watchdog = 9; halt = Ended; instructions = 2; rungs = 1; times = 1 ∷ []; moved = 2; after = 1 ∷ 0 ∷ [] }
    -- ORN, XOR, XORN, NOT, ANDN
    ∷ record {
      list = one (ORN 0 ∷ ST 1 ∷ XOR 2 ∷ ST 3 ∷ XORN 2 ∷ ST 4 ∷ NOT ∷ ST 5 ∷ ANDN 5 ∷ ST 6 ∷ []);
      before = 0 ∷ 0 ∷ 1 ∷ 1 ∷ 1 ∷ 0 ∷ 1 ∷ [];
      watchdog = 99;
      halt = Ended;
      instructions = 10;
      rungs = 1;
      times = 1 ∷ [];
      moved = 5;
      after = 0 ∷ 1 ∷ 1 ∷ 0 ∷ 0 ∷ 1 ∷ 0 ∷ [];
    }
    -- JMPCN jumps when the accumulator is false and JMPC does not, and both keep it; a jump to the end; a jump into a rung enters none
    ∷ record {
      list = record { code = JMPC 4 ∷ JMPCN 3 ∷ NOT ∷ STN 0 ∷ JMP 6 ∷ ST 0 ∷ []; records = at 1 0 1 ∷ at 2 1 1 ∷ at 3 2 4 ∷ [] };
      before = 0 ∷ [];
      watchdog = 9;
      halt = Ended;
      instructions = 4;
      rungs = 2;
      times = 1 ∷ 1 ∷ 0 ∷ [];
      moved = 1;
      after = 1 ∷ [];
    }
    -- a loop, stopped
    ∷ record { list = record { code = LDN 0 ∷ JMPC 0 ∷ []; records = at 0 0 2 ∷ [] }; before = 0 ∷ []; watchdog = 7; halt = Stopped; instructions = 7; rungs = 4; times = 4 ∷ []; moved = 0; after = 0 ∷ [] }
    -- 02, Req 01: S and R with the accumulator true and then false, which they keep
    ∷ record {
      list = one (LD 0 ∷ S 1 ∷ R 2 ∷ ST 3 ∷ NOT ∷ S 4 ∷ R 5 ∷ STN 6 ∷ []);
      before = 1 ∷ 0 ∷ 1 ∷ 0 ∷ 0 ∷ 1 ∷ 0 ∷ [];
      watchdog = 9;
      halt = Ended;
      instructions = 8;
      rungs = 1;
      times = 1 ∷ [];
      moved = 4;
      after = 1 ∷ 1 ∷ 0 ∷ 1 ∷ 0 ∷ 1 ∷ 1 ∷ [];
    }
    -- S without power over a variable that is true
    ∷ record { list = one (LD 0 ∷ S 1 ∷ []); before = 0 ∷ 1 ∷ []; watchdog = 9; halt = Ended; instructions = 2; rungs = 1; times = 1 ∷ []; moved = 0; after = 0 ∷ 1 ∷ [] }
    -- of scratch too: t0 set, read, reset and read
    ∷ record { list = one (LDN 0 ∷ S 3 ∷ LD 3 ∷ ST 1 ∷ R 3 ∷ LD 3 ∷ STN 2 ∷ []); before = 0 ∷ 0 ∷ 0 ∷ []; watchdog = 9; halt = Ended; instructions = 7; rungs = 1; times = 1 ∷ []; moved = 2; after = 0 ∷ 1 ∷ 1 ∷ [] }
    -- 02, Req 02: v1 is turned over twice and ends as it began; the same value written again, and scratch t0, do not count
    ∷ record { list = one (LDN 0 ∷ ST 1 ∷ ST 1 ∷ ST 2 ∷ STN 1 ∷ []); before = 0 ∷ 0 ∷ []; watchdog = 9; halt = Ended; instructions = 5; rungs = 1; times = 1 ∷ []; moved = 2; after = 0 ∷ 0 ∷ [] }
    -- Stopped too, after one of the two; S writes the 1 that stands there
    ∷ record { list = one (LDN 0 ∷ ST 1 ∷ S 1 ∷ STN 1 ∷ []); before = 0 ∷ 0 ∷ []; watchdog = 3; halt = Stopped; instructions = 3; rungs = 1; times = 1 ∷ []; moved = 1; after = 0 ∷ 1 ∷ [] }
    ∷ []

record Outcome : Type 0 where
  halt : Halt
  instructions : ℕ
  rungs : ℕ
  times : List ℕ
  moved : ℕ
  variables : List ℕ

expected : Row → Outcome
expected r = record { halt = r.halt; instructions = r.instructions; rungs = r.rungs; times = r.times; moved = r.moved; variables = r.after }

-- scratch is 0
start : Row → State
start r = state_of (length r.before) (r.before ++ replicate scratch_bytes 0) [] 0

outcome : Row → Outcome
outcome r =
    let x = scan_list r.list r.watchdog (start r) in
    record { halt = x.halt; instructions = x.counts.instructions; rungs = x.counts.rungs; times = x.counts.times; moved = x.state.moved; variables = variables x.state }

lists_scanned : map outcome rows ≡ map expected rows
unfolding rows start outcome expected scan_list scan_machine begin fresh step count enter zip_with does halted is_start value_at value written_at turns write write_if variables xor
lists_scanned = refl

-- a list's writes in the order in which they are made
written : Row → List Write
written r = list_writes r.list r.watchdog (start r)

-- t0 is index 5 in case A, 3 in the list that sets and resets it, 2 in the next
writes_in_order : map written rows
    ≡ (wrote 5 true ∷ wrote 5 true ∷ wrote 1 true ∷ wrote 4 true ∷ [])
    ∷ (wrote 5 true ∷ wrote 5 true ∷ wrote 1 true ∷ [])
    ∷ (wrote 0 true ∷ wrote 1 false ∷ [])
    ∷ (wrote 1 true ∷ wrote 3 false ∷ wrote 4 false ∷ wrote 5 true ∷ wrote 6 false ∷ [])
    ∷ (wrote 0 true ∷ [])
    ∷ []
    ∷ (wrote 1 true ∷ wrote 2 false ∷ wrote 3 true ∷ wrote 6 true ∷ [])
    ∷ []
    ∷ (wrote 3 true ∷ wrote 1 true ∷ wrote 3 false ∷ wrote 2 true ∷ [])
    ∷ (wrote 1 true ∷ wrote 1 true ∷ wrote 2 true ∷ wrote 1 false ∷ [])
    ∷ (wrote 1 true ∷ wrote 1 true ∷ [])
    ∷ []
unfolding rows start written list_writes writes_from instr_writes wrote_if begin fresh step count does is_start value_at value written_at write write_if xor
writes_in_order = refl

changed : Row → ℕ
changed r = changes (length r.before) (written r) (start r).bytes

replayed : Row → List ℕ
replayed r = take (length r.before) (replay (written r) (start r).bytes)

-- the writes alone tell each row's sum and variables
writes_told : (map changed rows ≡ map (λ (r : Row). r.moved) rows) × (map replayed rows ≡ map (λ (r : Row). r.after) rows)
unfolding rows start written changed replayed made replay changes_byte changes_variable changes list_writes writes_from instr_writes wrote_if begin fresh step count does is_start value_at value written_at write write_if xor
writes_told = (refl, refl)

no_place : Answer
no_place = some (record { number = 10; place = 0 })

no_timer : Answer
no_timer = some (record { number = 17; place = 0 })

words : List Instr → List ℕ
words = map instr_word

answers : List Answer
answers =
    list_answer 5 (words list_a.code) list_a.records
    ∷ question10 5 [] (at 0 0 0 ∷ [])
    ∷ question10 5 (words (LD 0 ∷ [])) []
    ∷ question10 5 (words (LD 36 ∷ [])) (at 0 0 1 ∷ [])
    ∷ question10 5 (words (LD 37 ∷ [])) (at 0 0 1 ∷ [])
    ∷ question10 5 (words (JMP 1 ∷ [])) (at 0 0 1 ∷ [])
    ∷ question10 5 (words (JMP 2 ∷ [])) (at 0 0 1 ∷ [])
    ∷ question10 5 (720896 ∷ []) (at 0 0 1 ∷ [])
    ∷ question10 5 (720897 ∷ []) (at 0 0 1 ∷ [])
    ∷ question10 5 (words (S 36 ∷ R 36 ∷ [])) (at 0 0 2 ∷ [])
    ∷ question10 5 (words (S 37 ∷ [])) (at 0 0 1 ∷ [])
    ∷ question10 5 (words (R 37 ∷ [])) (at 0 0 1 ∷ [])
    ∷ question10 5 (words (TON 0 ∷ TON 65535 ∷ [])) (at 0 0 2 ∷ [])
    ∷ question10 5 (1179648 ∷ []) (at 0 0 1 ∷ [])
    ∷ question17 1 (TON 0 ∷ LD 1 ∷ JMP 1 ∷ NOT ∷ [])
    ∷ question17 1 (LD 0 ∷ TON 1 ∷ [])
    ∷ question10 5 (words (LD 0 ∷ LD 1 ∷ [])) (at 0 0 1 ∷ at 0 1 1 ∷ [])
    ∷ question10 5 (words (LD 0 ∷ LD 1 ∷ [])) (at 0 0 2 ∷ at 1 2 0 ∷ [])
    ∷ question10 5 (words (LD 0 ∷ LD 1 ∷ [])) (at 0 0 1 ∷ at 1 2 1 ∷ [])
    ∷ []

answers_worked : answers ≡ yes ∷ no_place ∷ no_place ∷ yes ∷ no_place ∷ yes ∷ no_place ∷ yes ∷ no_place ∷ yes ∷ no_place ∷ no_place ∷ yes ∷ no_place ∷ yes ∷ no_timer ∷ yes ∷ no_place ∷ no_place ∷ []
unfolding answers no_place no_timer operand_timed timers_known question17 words list_answer first_no question1 vars_in_range question10 list_in_range ask laid records_laid word_in_range operand_in_range operand decode_instr ops only_not instr_word op_of operand_number
answers_worked = refl

-- document 01, "Listing": what stands above the count line
A_listing : listing_text fixed_names 5 list_a ≡ bytes "L10:\nLD v0\nST t0\nLD v1\nANDN v2\nOR t0\nST t0\nST v1\nLD t0\nAND v3\nJMPC @10\nL20:\nLDN v3\nST v4\n"
unfolding listing_text listing_lines rung_lines label_line instr_line operand_text operand op_of name_of trimmed fixed_names ended bytes decimal digits flat_map
A_listing = refl

-- a line without operand, and numbers of several digits
others_listed : map (instr_line fixed_names 1000) (NOT ∷ XORN 999 ∷ STN 1031 ∷ JMPCN 16384 ∷ JMP 0 ∷ S 0 ∷ R 1000 ∷ TON 65535 ∷ []) ≡ bytes "NOT" ∷ bytes "XORN v999" ∷ bytes "STN t31" ∷ bytes "JMPCN @16384" ∷ bytes "JMP @0" ∷ bytes "S v0" ∷ bytes "R t0" ∷ bytes "TON d65535" ∷ []
unfolding instr_line operand_text operand op_of name_of trimmed fixed_names bytes decimal digits
others_listed = refl

-- ---- 02, Req 06

record TimedRow : Type 0 where
  list : InstructionList
  before : List ℕ
  timers : List Timer
  now : ℕ
  watchdog : ℕ
  outcome : Outcome
  left : List Timer

timed : ℕ → ℕ → ℕ → ℕ → ℕ → Timer
timed preset start variable running done = record { preset = preset; start = start; variable = variable; running = running; done = done }

timed_rows : List TimedRow
timed_rows =
    -- TON keeps the accumulator: timer 0 of preset 3, whose variable is v1, one tick too early and in time
    record {
      list = one (LD 0 ∷ TON 0 ∷ ST 2 ∷ []);
      before = 1 ∷ 0 ∷ 0 ∷ [];
      timers = timed 3 10 1 1 0 ∷ [];
      now = 12;
      watchdog = 9;
      outcome = record { halt = Ended; instructions = 3; rungs = 1; times = 1 ∷ []; moved = 1; variables = 1 ∷ 0 ∷ 1 ∷ [] };
      left = timed 3 10 1 1 0 ∷ [];
    }
    ∷ record {
      list = one (LD 0 ∷ TON 0 ∷ ST 2 ∷ []);
      before = 1 ∷ 0 ∷ 0 ∷ [];
      timers = timed 3 10 1 1 0 ∷ [];
      now = 13;
      watchdog = 9;
      outcome = record { halt = Ended; instructions = 3; rungs = 1; times = 1 ∷ []; moved = 2; variables = 1 ∷ 1 ∷ 1 ∷ [] };
      left = timed 3 10 1 1 1 ∷ [];
    }
    -- without power both flags clear, and the variable gets done
    ∷ record {
      list = one (TON 1 ∷ []);
      before = 1 ∷ 1 ∷ [];
      timers = timed 3 10 0 1 1 ∷ timed 5 6 1 1 1 ∷ [];
      now = 13;
      watchdog = 9;
      outcome = record { halt = Ended; instructions = 1; rungs = 1; times = 1 ∷ []; moved = 1; variables = 1 ∷ 0 ∷ [] };
      left = timed 3 10 0 1 1 ∷ timed 5 6 1 0 0 ∷ [];
    }
    ∷ []

record TimedOutcome : Type 0 where
  outcome : Outcome
  timers : List Timer

timed_outcome : TimedRow → TimedOutcome
timed_outcome r =
    let x = scan_list r.list r.watchdog (state_of (length r.before) (r.before ++ replicate scratch_bytes 0) r.timers r.now) in
    record {
      outcome = record { halt = x.halt; instructions = x.counts.instructions; rungs = x.counts.rungs; times = x.counts.times; moved = x.state.moved; variables = variables x.state };
      timers = x.state.timers;
    }

timers_scanned : map timed_outcome timed_rows ≡ map (λ (r : TimedRow). record { outcome = r.outcome; timers = r.left }) timed_rows
unfolding timed_rows timed_outcome timed scan_list scan_machine begin fresh step count enter zip_with does halted is_start value_at value written_at turns write write_if set_timer run_timer
    elapsed started tested powered variables xor
timers_scanned = refl

-- ---- 02, Req 05

unfoldable pub zeros : ℕ → List ℕ
zeros n = replicate n 0

-- a park's own names: one is L, one has six letters, some begin others
unfoldable pub park_table : List ℕ
park_table =
    bytes "L" ++ zeros 5 ++ bytes "LN" ++ zeros 4 ++ bytes "S" ++ zeros 5 ++ bytes "SN" ++ zeros 4 ++ bytes "UND" ++ zeros 3 ++ bytes "UNDN" ++ zeros 2 ++ bytes "ODER" ++ zeros 2
    ++ bytes "ODERN" ++ zeros 1 ++ bytes "XO" ++ zeros 4 ++ bytes "XON" ++ zeros 3 ++ bytes "NICHT" ++ zeros 1 ++ bytes "SPRUNG" ++ bytes "SPB" ++ zeros 3 ++ bytes "SPBN" ++ zeros 2
    ++ bytes "SET" ++ zeros 3 ++ bytes "RUECK" ++ zeros 1 ++ bytes "EV" ++ zeros 4

-- question 14: the fixed table, the park's, none; a byte too few and one too many, an empty name, a small letter, a letter after a zero, a repeated name
tables : List Answer
tables =
    question14 fixed_table
    ∷ question14 park_table
    ∷ question14 []
    ∷ question14 (drop 1 fixed_table)
    ∷ question14 (fixed_table ++ zeros 1)
    ∷ question14 (zeros 6 ++ drop 6 fixed_table)
    ∷ question14 (bytes "Ld" ++ zeros 4 ++ drop 6 fixed_table)
    ∷ question14 (bytes "L" ++ zeros 1 ++ bytes "D" ++ zeros 3 ++ drop 6 fixed_table)
    ∷ question14 (bytes "LDN" ++ zeros 3 ++ drop 6 fixed_table)
    ∷ question14 (take 96 fixed_table ++ take 6 fixed_table)
    ∷ []

no_names : Answer
no_names = some (record { number = 14; place = 0 })

tables_worked : tables ≡ yes ∷ yes ∷ no_names ∷ no_names ∷ no_names ∷ no_names ∷ no_names ∷ no_names ∷ no_names ∷ no_names ∷ []
unfolding tables no_names park_table zeros fixed_table bytes fixed_names trimmed flat_map ask names_from is_capital is_name same_bytes different is_name_table question14
tables_worked = refl

-- a list in the park's names
park_listed : map (instr_line (names_in park_table) 5) (LD 0 ∷ NOT ∷ STN 36 ∷ JMP 3 ∷ S 4 ∷ R 5 ∷ []) ≡ bytes "L v0" ∷ bytes "NICHT" ∷ bytes "SN t31" ∷ bytes "SPRUNG @3" ∷ bytes "SET v4" ∷ bytes "RUECK t0" ∷ []
unfolding park_table zeros names_from instr_line operand_text operand op_of name_of trimmed bytes decimal digits
park_listed = refl
