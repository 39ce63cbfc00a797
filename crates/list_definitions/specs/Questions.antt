-- Questions 10 and 17. Document 01, "Questions before work"; document 02, Req 06. Assumes nothing.
use Rattle.std.specs.Prelude.{ℕ, Bool, true, false, ◌&&◌, List, [], ◌∷◌, leb, ltb, length}
use Rattle.std.proofs.Math.Option.{none, some}
use Rattle.questions.specs.Tests.{all}
use Rattle.questions.specs.Questions.{Answer, ask, first_no, question1}
use Rattle.table.specs.State.{table_size}
use Rattle.rungs.specs.Records.{RungRecord, most_records, laid}
use Rattle.list_definitions.specs.Instruction.{Instr, Operand, table_index, no_operand, instruction_index, timer_number, operand, decode_instr}

-- "a table index below V + 32", the table's size, "an instruction index from 0 to the list's length" n; 02, Req 06:
-- TON "takes numbers 0 to 65,535", so any that a word holds
unfoldable pub operand_in_range : ℕ → ℕ → Operand → Bool
operand_in_range size n (table_index x) = ltb x size
operand_in_range size n no_operand = true
operand_in_range size n (instruction_index j) = leb j n
operand_in_range size n (timer_number t) = true

abbrev pub instr_in_range : ℕ → ℕ → Instr → Bool
instr_in_range size n i = operand_in_range size n (operand i)

-- an op and its operand in one word
unfoldable pub word_in_range : ℕ → ℕ → ℕ → Bool
word_in_range size n w = elim (decode_instr w) [ none ↦ false | some i ↦ instr_in_range size n i ]

abbrev pub most_instructions : ℕ
most_instructions = 16384

-- records "laid as above, none of length 0", up to instruction n
unfoldable pub records_laid : ℕ → List RungRecord → Bool
records_laid n rs = laid 0 n rs && all (λ r. ltb 0 r.length) rs

-- 10. "List of 1 to 16,384 instructions, with 1 to 256 records laid as above, none of length 0, and ops and operands as above?"
unfoldable pub list_in_range : ℕ → List ℕ → List RungRecord → Bool
list_in_range vars words rs =
    (leb 1 (length words) && leb (length words) most_instructions)
    && ((leb 1 (length rs) && leb (length rs) most_records)
    && (records_laid (length words) rs
    && all (word_in_range (table_size vars) (length words)) words))

unfoldable pub question10 : ℕ → List ℕ → List RungRecord → Answer
question10 vars words rs = ask 10 (list_in_range vars words rs)

-- 17. 02, Req 06: "17 when a timer number has no record", of so many records
unfoldable pub operand_timed : ℕ → Operand → Bool
operand_timed records (table_index x) = true
operand_timed records no_operand = true
operand_timed records (instruction_index j) = true
operand_timed records (timer_number t) = ltb t records

unfoldable pub timers_known : ℕ → List Instr → Bool
timers_known records code = all (λ i. operand_timed records (operand i)) code

unfoldable pub question17 : ℕ → List Instr → Answer
question17 records code = ask 17 (timers_known records code)

-- the questions that Listing puts after 14, in order
unfoldable pub list_answer : ℕ → List ℕ → List RungRecord → Answer
list_answer vars words rs = first_no (question1 vars ∷ question10 vars words rs ∷ [])
