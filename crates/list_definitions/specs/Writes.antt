-- The writes that a list scan makes, first to last, clause by clause beside Machine; scratch is written too. Theorems states that the scan leaves the table
-- with these writes made. Assumes nothing.
use Rattle.std.specs.Prelude.{ℕ, zero, suc, Bool, true, false, not, List, [], ◌∷◌, ◌++◌}
use Rattle.std.proofs.Math.Option.{none, some}
use Rattle.std.proofs.Math.ListN.{get_elem?}
use Rattle.table.specs.State.{State}
use Rattle.table.specs.Writes.{Write, wrote, wrote_if, timer_writes}
use Rattle.list_definitions.specs.Instruction.{Instr, LD, LDN, ST, STN, AND, ANDN, OR, ORN, XOR, XORN, NOT, JMP, JMPC, JMPCN, S, R, TON}
use Rattle.list_definitions.specs.Machine.{InstructionList, Machine, step, begin}

-- What an instruction writes, by the accumulator and the state before it: "N negates the operand, in STN the stored value."
-- 02, Req 01: "With power on, S writes 1 and R writes 0. With power off they write nothing." Req 06: TON writes its timer's variable.
unfoldable pub instr_writes : Instr → Bool → State → List Write
instr_writes (LD x) v s = []
instr_writes (LDN x) v s = []
instr_writes (ST x) v s = wrote x v ∷ []
instr_writes (STN x) v s = wrote x (not v) ∷ []
instr_writes (AND x) v s = []
instr_writes (ANDN x) v s = []
instr_writes (OR x) v s = []
instr_writes (ORN x) v s = []
instr_writes (XOR x) v s = []
instr_writes (XORN x) v s = []
instr_writes NOT v s = []
instr_writes (JMP j) v s = []
instr_writes (JMPC j) v s = []
instr_writes (JMPCN j) v s = []
instr_writes (S x) v s = wrote_if v x true
instr_writes (R x) v s = wrote_if v x false
instr_writes (TON n) v s = timer_writes s n v

-- instruction after instruction, of the scan from the machine m and the state s on, with n more before the watchdog
unfoldable pub writes_from : InstructionList → ℕ → Machine → State → List Write
writes_from l zero m s = []
writes_from l (suc n) m s = elim (get_elem? l.code m.index) [
  | none ↦ []
  | some i ↦ let next = step l.records i m s in instr_writes i m.accumulator s ++ writes_from l n next.0 next.1
]

unfoldable pub list_writes : InstructionList → ℕ → State → List Write
list_writes l watchdog s = writes_from l watchdog (begin l) s
