-- What a list does. Document 01, "What a list does"; document 002, figures 6 to 8 and 14, where (v, e, pc) are accumulator, memory and program counter.
-- The memory is the table. S, R and TON are document 02's, after IEC 61131-3 (table.State, writeIf), and not document 002's. Assumes nothing.
use Rattle.std.specs.Prelude.{ℕ, zero, suc, ◌+◌, Bool, true, false, not, cond, ◌&&◌, ◌||◌, List, length}
use Rattle.std.specs.Bool.{xor}
use Rattle.std.proofs.Math.Option.{none, some}
use Rattle.std.proofs.Math.ListN.{get_elem?}
use Rattle.questions.specs.Tests.{bit}
use Rattle.table.specs.State.{State, value, write, write_if, run_timer}
use Rattle.table.specs.Halt.{Halt, Ended, Stopped}
use Rattle.rungs.specs.Records.{RungRecord, is_start, enter, none_entered}
use Rattle.list_definitions.specs.Instruction.{Instr, LD, LDN, ST, STN, AND, ANDN, OR, ORN, XOR, XORN, NOT, JMP, JMPC, JMPCN, S, R, TON}

-- a list: its instructions and its rung records
pub record InstructionList : Type 0 where
  pub code : List Instr
  pub records : List RungRecord

-- accumulator, state and index after an instruction
pub record Effect : Type 0 where
  pub accumulator : Bool
  pub state : State
  pub index : ℕ

abbrev effect : Bool → State → ℕ → Effect
effect v e pc = record { accumulator = v; state = e; index = pc }

-- What an instruction does, from accumulator, state and index before it. Figure 6: LD, ST. Figure 7, for AND, OR, XOR. Figure 8: NOT. Figure 14: the jumps.
-- "N negates the operand, in STN the stored value. JMPC jumps when the accumulator is true, JMPCN when false; jumps and stores keep it."
-- 02, Req 01: "With power on, S writes 1 and R writes 0. With power off they write nothing."; they "keep the accumulator", which is the power.
-- Req 06: so does TON
unfoldable pub does : Instr → Bool → State → ℕ → Effect
does (LD x) v e pc = effect (value e x) e (pc + 1)
does (LDN x) v e pc = effect (not (value e x)) e (pc + 1)
does (ST x) v e pc = effect v (write e x v) (pc + 1)
does (STN x) v e pc = effect v (write e x (not v)) (pc + 1)
does (AND x) v e pc = effect (v && value e x) e (pc + 1)
does (ANDN x) v e pc = effect (v && not (value e x)) e (pc + 1)
does (OR x) v e pc = effect (v || value e x) e (pc + 1)
does (ORN x) v e pc = effect (v || not (value e x)) e (pc + 1)
does (XOR x) v e pc = effect (xor v (value e x)) e (pc + 1)
does (XORN x) v e pc = effect (xor v (not (value e x))) e (pc + 1)
does NOT v e pc = effect (not v) e (pc + 1)
does (JMP j) v e pc = effect v e j
does (JMPC j) v e pc = effect v e (cond v j (pc + 1))
does (JMPCN j) v e pc = effect v e (cond v (pc + 1) j)
does (S x) v e pc = effect v (write_if v e x true) (pc + 1)
does (R x) v e pc = effect v (write_if v e x false) (pc + 1)
does (TON n) v e pc = effect v (run_timer e n v) (pc + 1)

-- "Both carry the instructions carried out and the rungs entered, that is, how many of them stood at a record's offset." 02, Req 04: "the times entered", of
-- each record, in the order of the row
pub record Counts : Type 0 where
  pub instructions : ℕ
  pub rungs : ℕ
  pub times : List ℕ

-- "Accumulator, index and both counts are one record that each instruction changes."
pub record Machine : Type 0 where
  pub accumulator : Bool
  pub index : ℕ
  pub counts : Counts

-- the counts after an instruction at index i
unfoldable pub count : List RungRecord → ℕ → Counts → Counts
count rs i c = record { instructions = c.instructions + 1; rungs = c.rungs + bit (is_start rs i); times = enter rs i c.times }

-- the machine and the state after the instruction i, which stands at the machine's index
unfoldable pub step : List RungRecord → Instr → Machine → State → Machine × State
step rs i m s =
    let after = does i m.accumulator s m.index in
    (record { accumulator = after.accumulator; index = after.index; counts = count rs m.index m.counts }, after.state)

-- how a scan halted, its counts, and the state that it left
pub record ListResult : Type 0 where
  pub halt : Halt
  pub counts : Counts
  pub state : State

unfoldable pub halted : Halt → Machine → State → ListResult
halted h m s = record { halt = h; counts = m.counts; state = s }

-- "Before each instruction: at the end, Ended; else if the instructions carried out equal the watchdog, Stopped."; "Index = length is the end.":
-- the scan from the machine m and the state s on, with n more instructions before the watchdog
unfoldable pub scan_machine : InstructionList → ℕ → Machine → State → ListResult
scan_machine l zero m s = elim (get_elem? l.code m.index) [ none ↦ halted Ended m s | some i ↦ halted Stopped m s ]
scan_machine l (suc n) m s = elim (get_elem? l.code m.index) [
  | none ↦ halted Ended m s
  | some i ↦ let next = step l.records i m s in scan_machine l n next.0 next.1
]

-- the counts before the first instruction; 02, Req 04: the times are "for that scan alone"
unfoldable pub fresh : List RungRecord → Counts
fresh rs = record { instructions = 0; rungs = 0; times = none_entered (length rs) }

-- the accumulator "starts false"; a scan begins at index 0
unfoldable pub begin : InstructionList → Machine
begin l = record { accumulator = false; index = 0; counts = fresh l.records }

unfoldable pub scan_list : InstructionList → ℕ → State → ListResult
scan_list l watchdog s = scan_machine l watchdog (begin l) s
