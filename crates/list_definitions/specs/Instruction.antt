-- Instructions, and their words and back. Document 01, "What a list does"; document 002, figure 1, Booleans only; S and R: 02, Req 01; TON: Req 06. Assumes nothing.
use Rattle.std.specs.Prelude.{ℕ, zero, suc, Bool, true, List, [], ◌∷◌, eqb, get_or}
use Rattle.std.proofs.Math.Option.{Option, none, some}
use Rattle.rungs.specs.Words.{word, number_of, operand_of, is_operand}

pub data Instr : Type 0 where
  LD LDN ST STN AND ANDN OR ORN XOR XORN : ℕ → Instr
  NOT : Instr
  JMP JMPC JMPCN : ℕ → Instr
  S R TON : ℕ → Instr

-- "Operands: a table index below V + 32 for 1 to 10; 0 for NOT; an instruction index from 0 to the list's length for 12 to 14."
-- 02, Req 01: S and R "take operands as ST does"; Req 06: TON "takes numbers 0 to 65,535", of timers
pub data Operand : Type 0 where
  table_index : ℕ → Operand
  no_operand : Operand
  instruction_index timer_number : ℕ → Operand

unfoldable pub operand : Instr → Operand
operand (LD x) = table_index x
operand (LDN x) = table_index x
operand (ST x) = table_index x
operand (STN x) = table_index x
operand (AND x) = table_index x
operand (ANDN x) = table_index x
operand (OR x) = table_index x
operand (ORN x) = table_index x
operand (XOR x) = table_index x
operand (XORN x) = table_index x
operand NOT = no_operand
operand (JMP j) = instruction_index j
operand (JMPC j) = instruction_index j
operand (JMPCN j) = instruction_index j
operand (S x) = table_index x
operand (R x) = table_index x
operand (TON n) = timer_number n

-- "1 LD, 2 LDN, 3 ST, 4 STN, 5 AND, 6 ANDN, 7 OR, 8 ORN, 9 XOR, 10 XORN, 11 NOT, 12 JMP, 13 JMPC, 14 JMPCN"; 02, Req 01: "ops 15 S and 16 R";
-- Req 06: "op 17 TON"
unfoldable pub op_of : Instr → ℕ
op_of (LD x) = 1
op_of (LDN x) = 2
op_of (ST x) = 3
op_of (STN x) = 4
op_of (AND x) = 5
op_of (ANDN x) = 6
op_of (OR x) = 7
op_of (ORN x) = 8
op_of (XOR x) = 9
op_of (XORN x) = 10
op_of NOT = 11
op_of (JMP j) = 12
op_of (JMPC j) = 13
op_of (JMPCN j) = 14
op_of (S x) = 15
op_of (R x) = 16
op_of (TON n) = 17

unfoldable pub operand_number : Operand → ℕ
operand_number (table_index x) = x
operand_number no_operand = 0
operand_number (instruction_index j) = j
operand_number (timer_number n) = n

-- "An instruction is op × 65,536 + operand"
unfoldable pub instr_word : Instr → ℕ
instr_word i = word (op_of i) (operand_number (operand i))

-- and back: what each op makes of an operand
abbrev pub no_op : ℕ → Option Instr
no_op x = none

abbrev pub op : (ℕ → Instr) → ℕ → Option Instr
op make x = some (make x)

unfoldable pub only_not : ℕ → Option Instr
only_not zero = some NOT
only_not (suc x) = none

-- by op, from 0 to 17
unfoldable pub ops : List (ℕ → Option Instr)
ops =
    no_op ∷ op LD ∷ op LDN ∷ op ST ∷ op STN ∷ op AND ∷ op ANDN ∷ op OR ∷ op ORN ∷ op XOR ∷ op XORN ∷ only_not
    ∷ op JMP ∷ op JMPC ∷ op JMPCN ∷ op S ∷ op R ∷ op TON ∷ []

unfoldable pub decode_instr : ℕ → Option Instr
decode_instr w = get_or ops (number_of w) no_op (operand_of w)

unfoldable pub decode_code : List ℕ → Option (List Instr)
decode_code [] = some []
decode_code (w ∷ ws) = elim (decode_instr w) [ none ↦ none | some i ↦ elim (decode_code ws) [ none ↦ none | some is ↦ some (i ∷ is) ] ]

-- the instructions that some words hold; none where a word holds none
unfoldable pub code_of : List ℕ → List Instr
code_of ws = elim (decode_code ws) [ none ↦ [] | some is ↦ is ]

-- the sort of an operand, and that of the operand that an op takes
pub data OperandSort : Type 0 where
  table_sort nothing_sort instruction_sort timer_sort no_sort : OperandSort

unfoldable pub sort_of : Operand → OperandSort
sort_of (table_index x) = table_sort
sort_of no_operand = nothing_sort
sort_of (instruction_index j) = instruction_sort
sort_of (timer_number n) = timer_sort

-- by op's number; no sort where no instruction has it
unfoldable pub operand_sort : ℕ → OperandSort
operand_sort k = elim (get_or ops k no_op 0) [ none ↦ no_sort | some i ↦ sort_of (operand i) ]

-- whether two sorts are one
unfoldable pub sort_number : OperandSort → ℕ
sort_number table_sort = 0
sort_number nothing_sort = 1
sort_number instruction_sort = 2
sort_number timer_sort = 3
sort_number no_sort = 4

unfoldable pub same_sort : OperandSort → OperandSort → Bool
same_sort a b = eqb (sort_number a) (sort_number b)

-- an operand of 16 bits
unfoldable pub operand_fits : Operand → Bool
operand_fits (table_index x) = is_operand x
operand_fits no_operand = true
operand_fits (instruction_index j) = is_operand j
operand_fits (timer_number n) = is_operand n

unfoldable pub instr_fits : Instr → Bool
instr_fits i = operand_fits (operand i)
