-- What the functions of this crate promise to each other. Nothing here is a sentence of document 01. Assumes nothing.
use Rattle.std.specs.Prelude.{ℕ, ◌+◌, ◌*◌, ◌<◌, length, get_or}
use mathlib.Core.List.{List, flat_map}
use Rattle.list_definitions.specs.Instruction.{Operand, table_index, no_operand, instruction_index, timer_number, OperandSort, table_sort, nothing_sort, instruction_sort, timer_sort, no_sort, operand_sort}
use Rattle.list_definitions.specs.Names.{Names}
use Rattle.list_definitions.specs.Listing.{operand_text, instr_line, ended}
use Rattle.list_definitions.specs.Decoding.{instr_of, Decodes}

-- the lines of some words
unfoldable pub word_line : Names → ℕ → ℕ → List ℕ
word_line names vars w = ended (instr_line names vars (instr_of w))

unfoldable pub word_lines : Names → ℕ → List ℕ → List ℕ
word_lines names vars ws = flat_map (word_line names vars) ws

-- the operand of a number, by its sort
unfoldable pub operand_in : OperandSort → ℕ → Operand
operand_in table_sort x = table_index x
operand_in nothing_sort x = no_operand
operand_in instruction_sort x = instruction_index x
operand_in timer_sort x = timer_number x
operand_in no_sort x = no_operand

-- its text, by its op
unfoldable pub operand_by : ℕ → ℕ → ℕ → List ℕ
operand_by vars op x = operand_text vars (operand_in (operand_sort op) x)

-- words that can be printed from `at` on
pub record RungReady (vars : ℕ) (ws : List ℕ) (at : ℕ) : Type 0 where
  pub room : at + 14 * length ws < 500000
  pub decodes : (i : ℕ) → i < length ws → Decodes (get_or ws i 0)
