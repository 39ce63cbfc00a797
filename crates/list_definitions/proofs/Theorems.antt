-- What is proved of the definitions of this crate, a theorem to a sentence; the proofs are in Laws. Assumes nothing.
use Rattle.std.specs.Prelude.{ℕ, ◌+◌, ◌^◌, ◌≤◌, ◌<◌, ◌≡◌, ◌↔◌, List, map, T, length}
use Rattle.std.proofs.Common.{arith, ap, ◌∙◌}
use Rattle.std.proofs.Math.Option.{none, some}
use Rattle.questions.specs.Tests.{all}
use Rattle.questions.specs.Questions.{Refusal, most_instruction_watchdog}
use Rattle.questions.proofs.Laws.Answers.{watchdog_in_range}
use Rattle.table.specs.Timer.{Timer}
use Rattle.table.specs.State.{State, state_of}
use Rattle.table.specs.Halt.{Halt, Ended, Stopped}
use Rattle.table.specs.Questions.{Legal}
use Rattle.table.specs.Writes.{replay, changes, WritesTell}
use Rattle.table.proofs.Laws.Legal.{legal_table}
use Rattle.table.proofs.Laws.Replaying.{untimed, makes_bytes}
use Rattle.table.proofs.Laws.Changes.{makes_moved}
use Rattle.rungs.specs.Records.{RungRecord, sum}
use Rattle.list_definitions.specs.Instruction.{Instr, instr_word, instr_fits, decode_instr, decode_code}
use Rattle.list_definitions.specs.Machine.{InstructionList, Counts, scan_list}
use Rattle.list_definitions.specs.Questions.{records_laid}
use Rattle.list_definitions.specs.ListScan.{ListCounts, scanned, refused, list_of, call_list_scan}
use Rattle.list_definitions.specs.Writes.{list_writes}
use Rattle.list_definitions.specs.Standing.{StandsAt}
use Rattle.list_definitions.specs.Names.{fixed_names, fixed_table, names_in, question14, IsNameTable}
use Rattle.list_definitions.proofs.Laws.Decoding.{decode_instr_lem, instr_decoded, decode_code_lem, code_decoded}
use Rattle.list_definitions.proofs.Laws.Names.{accepted_table, table_accepted, fixed_names_lem, fixed_accepted}
use Rattle.list_definitions.proofs.Laws.Watchdog.{stopped_stands, stands_stopped, ended_stands, stands_ended, list_within}
use Rattle.list_definitions.proofs.Laws.Writes.{list_makes, list_few}
use Rattle.list_definitions.proofs.Laws.Times.{each_time, times_sum}
use Rattle.list_definitions.proofs.Laws.Answers.{asked, writes_tell, sum_few, instructions_few, times_tell, times_left}

-- A word is decoded to an instruction exactly when it is the word of that instruction, whose operand has 16 bits.
pub instruction_exactly : (w : ℕ) (i : Instr) → (decode_instr w ≡ some i) ↔ ((w ≡ instr_word i) × T (instr_fits i))
instruction_exactly w i = (instr_decoded w i, (λ h. rw h.0 (decode_instr_lem i h.1)))

-- The same for the words of a whole list.
pub code_exactly : (ws : List ℕ) (is : List Instr) → (decode_code ws ≡ some is) ↔ ((ws ≡ map instr_word is) × T (all instr_fits is))
code_exactly ws is = (code_decoded ws is, (λ h. rw h.0 (decode_code_lem is h.1)))

-- A scan is Stopped with the counts c exactly when its instructions carried out equal the watchdog and it then stands before an instruction.
pub stopped_exactly : (l : InstructionList) (watchdog : ℕ) (s : State) (c : Counts) (t : State)
    → (scan_list l watchdog s ≡ record { halt = Stopped; counts = c; state = t }) ↔ ((c.instructions ≡ watchdog) × ((i : Instr) × StandsAt l s c t (some i)))
stopped_exactly l watchdog s c t = (stopped_stands l s watchdog c t, (λ h. stands_stopped l s watchdog c t h.1.0 h.0 h.1.1))

-- A scan Ended with the counts c exactly when it then is at the end, and its instructions carried out are at most the watchdog.
pub ended_exactly : (l : InstructionList) (watchdog : ℕ) (s : State) (c : Counts) (t : State)
    → (scan_list l watchdog s ≡ record { halt = Ended; counts = c; state = t }) ↔ ((c.instructions ≤ watchdog) × StandsAt l s c t none)
ended_exactly l watchdog s c t = (ended_stands l s watchdog c t, (λ h. stands_ended l s watchdog c t h.0 h.1))

-- A scan, Ended or Stopped, leaves the table with its writes made, first to last.
pub list_replayed : (l : InstructionList) (watchdog : ℕ) (s : State) → (scan_list l watchdog s).state.bytes ≡ replay (list_writes l watchdog s) s.bytes
list_replayed l watchdog s = ap (λ t. t.bytes) (list_makes l watchdog s) ∙ makes_bytes (list_writes l watchdog s) (untimed s)

-- It makes at most one write for each instruction carried out.
pub few_writes : (l : InstructionList) (watchdog : ℕ) (s : State) → length (list_writes l watchdog s) ≤ (scan_list l watchdog s).counts.instructions
few_writes l watchdog s = list_few l watchdog s

-- The instructions carried out are at most the watchdog.
pub within_watchdog : (l : InstructionList) (watchdog : ℕ) (s : State) → (scan_list l watchdog s).counts.instructions ≤ watchdog
within_watchdog l watchdog s = (list_within l watchdog s).instructions

-- 02, Req 02: the sum of a scan from a legal table is the number of its writes that changed a variable's byte.
pub list_sum : (l : InstructionList) (watchdog : ℕ) (s : State) → Legal s
    → (scan_list l watchdog s).state.moved ≡ s.moved + changes s.vars (list_writes l watchdog s) s.bytes
list_sum l watchdog s legal = ap (λ t. t.moved) (list_makes l watchdog s) ∙ makes_moved (list_writes l watchdog s) (untimed s) (legal_table s legal)

-- The same of the call, with its table, wherever it is not refused.
pub call_writes_tell : (vars : ℕ) (words : List ℕ) (records : List RungRecord) (table : List ℕ) (timers : List Timer) (now watchdog : ℕ) (halt : Halt) (counts : ListCounts)
    → (call_list_scan vars words records table timers now watchdog).answer ≡ scanned halt counts
    → WritesTell vars (list_writes (list_of words records) watchdog (state_of vars table timers now)) table counts.moved (call_list_scan vars words records table timers now watchdog).table
call_writes_tell vars words records table timers now watchdog halt counts e = writes_tell vars words records table timers now watchdog halt counts e

-- And its sum fits 32 bits: at most one for each instruction carried out, and at most 16,777,215 are.
pub record SumFits (counts : ListCounts) : Type 0 where
  pub an_instruction : counts.moved ≤ counts.instructions
  pub a_scan : counts.moved ≤ most_instruction_watchdog
  pub fits : counts.moved < 2 ^ 32

pub call_sum_fits : (vars : ℕ) (words : List ℕ) (records : List RungRecord) (table : List ℕ) (timers : List Timer) (now watchdog : ℕ) (halt : Halt) (counts : ListCounts)
    → (call_list_scan vars words records table timers now watchdog).answer ≡ scanned halt counts → SumFits counts
call_sum_fits vars words records table timers now watchdog halt counts e =
    let few = sum_few vars words records table timers now watchdog halt counts e in
    let carried = instructions_few vars words records table timers now watchdog halt counts e in
    let most = watchdog_in_range most_instruction_watchdog watchdog (asked vars words records table timers now watchdog halt counts e).passed.watchdog in
    record { an_instruction = few; a_scan = omega arith; fits = omega arith }

-- 02, Req 04: "The fields add up to the rungs entered, for every list and every watchdog." There is a field for each record. A list is one whose records
-- question 10 takes.
pub times_add_up : (l : InstructionList) (watchdog : ℕ) (s : State) → T (records_laid (length l.code) l.records)
    → (length (scan_list l watchdog s).counts.times ≡ length l.records) × (sum (scan_list l watchdog s).counts.times ≡ (scan_list l watchdog s).counts.rungs)
times_add_up l watchdog s laid = (each_time l laid watchdog s, times_sum l laid watchdog s)

-- The same of the call, wherever it is not refused, Ended or Stopped, and whatever the fields held before.
pub call_times_add_up : (vars : ℕ) (words : List ℕ) (records : List RungRecord) (table : List ℕ) (timers : List Timer) (now watchdog : ℕ) (halt : Halt) (counts : ListCounts)
    → (call_list_scan vars words records table timers now watchdog).answer ≡ scanned halt counts → (before : List ℕ)
    → (length ((call_list_scan vars words records table timers now watchdog).times before) ≡ length records)
    × (sum ((call_list_scan vars words records table timers now watchdog).times before) ≡ counts.rungs)
call_times_add_up vars words records table timers now watchdog halt counts e before = times_tell vars words records table timers now watchdog halt counts e before

-- "and a refused one touches none".
pub call_times_left : (vars : ℕ) (words : List ℕ) (records : List RungRecord) (table : List ℕ) (timers : List Timer) (now watchdog : ℕ) (r : Refusal)
    → (call_list_scan vars words records table timers now watchdog).answer ≡ refused r → (before : List ℕ) → (call_list_scan vars words records table timers now watchdog).times before ≡ before
call_times_left vars words records table timers now watchdog r e before = times_left vars words records table timers now watchdog r e before

-- 02, Req 05: question 14 gets a "yes" exactly when the table has six bytes an op, each six are capital letters, at least one, and then zeros, and no two of them
-- are equal.
pub table_exactly : (table : List ℕ) → (question14 table ≡ none) ↔ IsNameTable table
table_exactly table = (accepted_table table, table_accepted table)

-- The fixed table is accepted, and its names are the fixed names.
pub fixed_table_lem : (question14 fixed_table ≡ none) × (names_in fixed_table ≡ fixed_names)
fixed_table_lem = (fixed_accepted, fixed_names_lem)
