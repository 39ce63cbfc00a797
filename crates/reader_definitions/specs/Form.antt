-- The line form of a list, production by production: which bytes are a text of the form, and of which rungs. Document 02, Req 05: "The form has at least one line,
-- a label line first, numbers as in a ladder's text, v below V, t below 32, and for each op only the sort of operand it takes."; the lines are those of
-- document 01, "Listing", with the names of a table; a timer's number: Req 06. Assumes nothing.
use Rattle.std.specs.Prelude.{ℕ, ◌+◌, ◌<◌, Bool, ◌&&◌, leb, length}
use mathlib.Core.List.{List, [], ◌∷◌, ◌++◌, flat_map}
use Rattle.questions.specs.Bytes.{byte}
use Rattle.questions.specs.Tests.{all}
use Rattle.table.specs.State.{scratch_bytes, table_size}
use Rattle.rungs.specs.Records.{lay}
use Rattle.text_grammar.specs.Grammar.{most_number, IsNumber}
use Rattle.list_definitions.specs.Instruction.{Instr, Operand, table_index, no_operand, instruction_index, timer_number, operand, op_of, instr_fits}
use Rattle.list_definitions.specs.Machine.{InstructionList}
use Rattle.list_definitions.specs.Questions.{instr_in_range}
use Rattle.list_definitions.specs.Names.{Names, name_of}

-- a rung of a list: its label and its instructions
pub record ListRung : Type 0 where
  pub label : ℕ
  pub code : List Instr

-- "space, operand (NOT: name only). Operands are v or t with its number, or @ with the index."; "v below V, t below 32";
-- 02, Req 06: "Listing shows a timer as d with its number"
pub data IsOperand (vars : ℕ) : List ℕ → Operand → Type 0 where
  v_number : {s : List ℕ} {x : ℕ} → IsNumber s x → x < vars → IsOperand vars (byte " " ∷ byte "v" ∷ s) (table_index x)
  t_number : {s : List ℕ} {x : ℕ} → IsNumber s x → x < scratch_bytes → IsOperand vars (byte " " ∷ byte "t" ∷ s) (table_index (vars + x))
  at_number : {s : List ℕ} {j : ℕ} → IsNumber s j → IsOperand vars (byte " " ∷ byte "@" ∷ s) (instruction_index j)
  d_number : {s : List ℕ} {n : ℕ} → IsNumber s n → IsOperand vars (byte " " ∷ byte "d" ∷ s) (timer_number n)
  name_only : IsOperand vars [] no_operand

-- "name, space, operand", "for each op only the sort of operand it takes"; every line ends with LF
pub data IsInstruction (names : Names) (vars : ℕ) : List ℕ → Instr → Type 0 where
  instruction_line : {s : List ℕ} {i : Instr} → IsOperand vars s (operand i) → IsInstruction names vars (name_of names (op_of i) ++ (s ++ byte "\n" ∷ [])) i

-- "a line L, label, colon"
pub data IsLabel : List ℕ → ℕ → Type 0 where
  label_line : {s : List ℕ} {l : ℕ} → IsNumber s l → IsLabel (byte "L" ∷ (s ++ byte ":" ∷ byte "\n" ∷ [])) l

-- any number of instruction lines
pub data IsCode (names : Names) (vars : ℕ) : List ℕ → List Instr → Type 0 where
  no_line : IsCode names vars [] []
  more_line : {s t : List ℕ} {i : Instr} {is : List Instr} → IsInstruction names vars s i → IsCode names vars t is → IsCode names vars (s ++ t) (i ∷ is)

-- a label line, then instruction lines
pub data IsRung (names : Names) (vars : ℕ) : List ℕ → ListRung → Type 0 where
  rung_lines : {s t : List ℕ} {l : ℕ} {is : List Instr} → IsLabel s l → IsCode names vars t is → IsRung names vars (s ++ t) (record { label = l; code = is })

-- "at least one line, a label line first": rungs, one or more
pub data IsListText (names : Names) (vars : ℕ) : List ℕ → List ListRung → Type 0 where
  one_rung : {s : List ℕ} {g : ListRung} → IsRung names vars s g → IsListText names vars s (g ∷ [])
  more_rungs : {s t : List ℕ} {g : ListRung} {gs : List ListRung} → IsRung names vars s g → IsListText names vars t gs → IsListText names vars (s ++ t) (g ∷ gs)

-- an instruction whose operand the form can show, and a rung whose label and operands it can
unfoldable pub instr_in_form : ℕ → Instr → Bool
instr_in_form vars i = instr_in_range (table_size vars) most_number i && instr_fits i

unfoldable pub rung_in_form : ℕ → ListRung → Bool
rung_in_form vars g = leb g.label most_number && all (instr_in_form vars) g.code

-- the list of some rungs: their instructions one after the other, and records laid for them
unfoldable pub list_of_rungs : List ListRung → InstructionList
list_of_rungs gs = record { code = flat_map (λ g. g.code) gs; records = lay (λ g. g.label) (λ g. length g.code) 0 gs }
