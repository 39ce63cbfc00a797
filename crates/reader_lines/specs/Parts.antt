-- What the functions of this crate answer, beside the reader. Nothing here is a sentence of the documents. Assumes nothing.
use Rattle.std.specs.Prelude.{ℕ, ◌≤◌, ◌<◌, ◌≡◌, List, length, Option as Maybe, Some, None}
use Rattle.std.proofs.Math.Option.{Option, none, some}
use Rattle.text_grammar.specs.Grammar.{most_number}
use Rattle.text_grammar.specs.Reader.{Parse, read, stuck}
use Rattle.list_definitions.specs.Instruction.{Instr, Operand, table_index, no_operand, instruction_index, timer_number, operand_number, instr_word}
use Rattle.list_definitions.specs.Names.{Names, name_bytes}
use Rattle.list_ops.specs.Ops.{op_number}
use Rattle.list_ops.specs.declared.Op.{Op}
use Rattle.list_ops.specs.declared.OperandSort.{OperandSort}
use Rattle.list_ops.specs.declared.OperandSort.TheVariants.{Table, Nothing, Instruction, Timer}
use Rattle.reader_definitions.specs.Reader.{letters_from, op_named, given}
use Rattle.reader_lines.specs.declared.OperandAt.{OperandAt}
use Rattle.reader_lines.specs.declared.LineAt.{LineAt}
use Rattle.reader_lines.specs.declared.LabelAt.{LabelAt}

pub record LettersRead (s : List ℕ) (at r : ℕ) : Type 0 where
  pub same : r ≡ letters_from s name_bytes at
  pub from : at ≤ r
  pub within : at ≤ length s → r ≤ length s

-- an op by its number, or none
abbrev pub op_case : Maybe Op → Option ℕ
op_case (Some op) = some (op_number op)
op_case None = none

pub record OpFound (names : Names) (w : List ℕ) (r : Maybe Op) : Type 0 where
  pub same : op_case r ≡ op_named 1 names w

-- the case of an operand's sort
abbrev pub sort_case : Operand → OperandSort
sort_case (table_index x) = Table
sort_case no_operand = Nothing
sort_case (instruction_index j) = Instruction
sort_case (timer_number n) = Timer

-- an operand that was read
abbrev pub operand_case : Parse Operand → Maybe OperandAt
operand_case (read n o) = Some (record { sort = sort_case o; number = operand_number o; next = n })
operand_case (stuck p) = None

abbrev pub LetterWithin : ℕ → Maybe OperandAt → Type 0
LetterWithin next (Some o) = (o.next ≡ next) × (o.number ≤ most_number)
LetterWithin next None = Unit {0}

pub record LetterParsed (o : Option Operand) (next : ℕ) (r : Maybe OperandAt) : Type 0 where
  pub same : r ≡ operand_case (given next o)
  pub within : LetterWithin next r

abbrev pub OperandWithin : List ℕ → ℕ → Maybe OperandAt → Type 0
OperandWithin s at (Some o) = (at ≤ o.next) × (at ≤ length s → o.next ≤ length s) × (o.number ≤ most_number)
OperandWithin s at None = Unit {0}

pub record OperandParsed (p : Parse Operand) (s : List ℕ) (at : ℕ) (r : Maybe OperandAt) : Type 0 where
  pub same : r ≡ operand_case p
  pub within : OperandWithin s at r

abbrev pub line_case : Parse Instr → Maybe LineAt
line_case (read n i) = Some (record { word = instr_word i; next = n })
line_case (stuck p) = None

abbrev pub LineWithin : List ℕ → ℕ → Maybe LineAt → Type 0
LineWithin s at (Some l) = (at < l.next) × (l.next ≤ length s)
LineWithin s at None = Unit {0}

pub record LineParsed (p : Parse Instr) (s : List ℕ) (at : ℕ) (r : Maybe LineAt) : Type 0 where
  pub same : r ≡ line_case p
  pub within : LineWithin s at r

abbrev pub label_case : Parse ℕ → Maybe LabelAt
label_case (read n l) = Some (record { label = l; next = n })
label_case (stuck p) = None

abbrev pub LabelWithin : List ℕ → ℕ → Maybe LabelAt → Type 0
LabelWithin s at (Some l) = (at < l.next) × (l.next ≤ length s) × (l.label ≤ most_number)
LabelWithin s at None = Unit {0}

pub record LabelParsed (p : Parse ℕ) (s : List ℕ) (at : ℕ) (r : Maybe LabelAt) : Type 0 where
  pub same : r ≡ label_case p
  pub within : LabelWithin s at r
