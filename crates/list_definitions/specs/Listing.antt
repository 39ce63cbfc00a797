-- The call Listing: the printed list, and the call's answer and buffer afterwards, for all inputs. Document 01, "Listing"; 02, Req 05. Assumes nothing.
use Rattle.std.specs.Prelude.{ℕ, ◌-◌, ◌≡◌, true, false, ltb, length, take, drop, Result, Ok, Err}
use Rattle.std.proofs.Math.Option.{none, some}
use mathlib.Core.List.{List, [], ◌∷◌, ◌++◌, map, flat_map}
use Rattle.questions.specs.Bytes.{byte, decimal}
use Rattle.questions.specs.Questions.{Refusal, first_no, question1, question13}
use Rattle.questions.specs.Refusals.{refusal_of}
use Rattle.questions.specs.declared.Refusal.{Refusal as RefusalCase}
use Rattle.rungs.specs.Records.{RungRecord}
use Rattle.list_definitions.specs.Instruction.{Instr, Operand, table_index, no_operand, instruction_index, timer_number, operand, op_of}
use Rattle.list_definitions.specs.Machine.{InstructionList}
use Rattle.list_definitions.specs.Questions.{question10}
use Rattle.list_definitions.specs.ListScan.{list_of}
use Rattle.list_definitions.specs.Names.{Names, name_of, names_in, question14}

-- "space, operand (NOT: name only). Operands are v or t with its number, or @ with the index." 02, Req 06: "Listing shows a timer as d
-- with its number"
unfoldable pub operand_text : ℕ → Operand → List ℕ
operand_text vars (table_index x) = elim (ltb x vars) [ true ↦ byte " " ∷ byte "v" ∷ decimal x | false ↦ byte " " ∷ byte "t" ∷ decimal (x - vars) ]
operand_text vars no_operand = []
operand_text vars (instruction_index j) = byte " " ∷ byte "@" ∷ decimal j
operand_text vars (timer_number n) = byte " " ∷ byte "d" ∷ decimal n

-- "a line for each instruction: name, space, operand"
unfoldable pub instr_line : Names → ℕ → Instr → List ℕ
instr_line names vars i = name_of names (op_of i) ++ operand_text vars (operand i)

-- "a line L, label, colon"
unfoldable pub label_line : ℕ → List ℕ
label_line l = byte "L" ∷ decimal l ++ byte ":" ∷ []

-- "Before each record's first instruction, a line L, label, colon; then a line for each instruction"
unfoldable pub rung_lines : Names → ℕ → List Instr → RungRecord → List (List ℕ)
rung_lines names vars code r = label_line r.label ∷ map (instr_line names vars) (take r.length (drop r.offset code))

unfoldable pub listing_lines : Names → ℕ → InstructionList → List (List ℕ)
listing_lines names vars l = flat_map (rung_lines names vars l.code) l.records

-- "Every printed line ends with LF."
unfoldable pub ended : List ℕ → List ℕ
ended line = line ++ byte "\n" ∷ []

unfoldable pub listing_text : Names → ℕ → InstructionList → List ℕ
listing_text names vars l = flat_map ended (listing_lines names vars l)

-- the bytes written, or the refusal
pub data ListingAnswer : Type 0 where
  written : ℕ → ListingAnswer
  refused : Refusal → ListingAnswer

pub record ListingCall : Type 0 where
  pub answer : ListingAnswer
  pub buffer : List ℕ

-- with a name table: 02, Req 05, "it takes the fixed table's place in Listing". Questions 14, 1, 10 and 13 in order; a refusal leaves the buffer, and else the
-- text stands at its start and the rest stays
unfoldable pub listing : List ℕ → ℕ → List ℕ → List RungRecord → List ℕ → ListingCall
listing table vars words rs out =
    let text = listing_text (names_in table) vars (list_of words rs) in
    elim (first_no (question14 table ∷ question1 vars ∷ question10 vars words rs ∷ question13 (record { needed = length text; lent = length out } ∷ []) ∷ [])) [
      | some refusal ↦ record { answer = refused refusal; buffer = out }
      | none ↦ record { answer = written (length text); buffer = text ++ drop (length text) out }
    ]

-- what listing answers: the bytes written, or the refusal
abbrev pub Listed : Type 0
Listed = Result ℕ RefusalCase

-- document 01's values for each case of it
unfoldable pub listed_answer : Listed → ListingAnswer
listed_answer (Ok n) = written n
listed_answer (Err refusal) = refused (refusal_of refusal)

-- the promise of listing: answer and buffer are those of the definition
pub record ListingDone (call : ListingCall) (r : Listed) (out : List ℕ) : Type 0 where
  pub answer : listed_answer r ≡ call.answer
  pub same_buffer : out ≡ call.buffer
