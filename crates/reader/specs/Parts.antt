-- What the functions of this crate promise to each other. Nothing here is a sentence of the documents. Assumes nothing.
use Rattle.std.specs.Prelude.{ℕ, ◌+◌, ◌≤◌, ◌<◌, max, ◌≡◌, List, [], ◌∷◌, map, length, set, Option, Some, None}
use Rattle.std.proofs.Math.Option.{none, some}
use Rattle.std.proofs.lemmas.List.Edits.{sets}
use Rattle.questions.specs.Questions.{first_no, question13}
use Rattle.rungs.specs.Records.{none_entered, longest, row_of}
use Rattle.rungs.specs.Buffers.{Buffers, buffers, Columns, columns_of, needs, written_over}
use Rattle.rungs.specs.Parts.{put_all}
use Rattle.text_grammar.specs.Grammar.{most_number}
use Rattle.text_grammar.specs.Reader.{Parse, read, stuck}
use Rattle.list_definitions.specs.Instruction.{Instr, instr_word}
use Rattle.list_definitions.specs.Questions.{list_answer}
use Rattle.translation_definitions.specs.TranslateKept.{list_buffers, translated, refused, TranslateCall}
use Rattle.reader_definitions.specs.Form.{ListRung, list_of_rungs}
use Rattle.reader_definitions.specs.ReadList.{words_of}
use Rattle.reader.specs.declared.reading.CodeAt.{CodeAt}
use Rattle.reader.specs.declared.reading.RungAt.{RungAt}
use Rattle.reader.specs.declared.reading.Sizes.{Sizes}

-- ---- lines, kept as words and records

abbrev pub code_case : Parse (List Instr) → Option CodeAt
code_case (read n is) = Some (record { next = n; count = length is })
code_case (stuck p) = None

abbrev pub CodeWithin : List ℕ → ℕ → Option CodeAt → Type 0
CodeWithin s at (Some c) = (at + c.count ≤ c.next) × (c.next ≤ length s)
CodeWithin s at None = Unit {0}

pub record CodeParsed (p : Parse (List Instr)) (s : List ℕ) (at : ℕ) (r : Option CodeAt) (put : ℕ) (e x : List ℕ) : Type 0 where
  pub same : r ≡ code_case p
  pub within : CodeWithin s at r
  pub out : (n : ℕ) (is : List Instr) → p ≡ read n is → x ≡ sets e put (map instr_word is)

-- what rungs take, with one rung of so many instructions more
unfoldable pub with_rung : Sizes → ℕ → Sizes
with_rung z count = record { instructions = z.instructions + count; rungs = z.rungs + 1; longest = max z.longest count }

-- a rung's words and record after those of z
unfoldable pub put_rung : Columns → Sizes → ℕ → ℕ → List ℕ → Columns
put_rung b z label count ws =
    record {
      words = sets b.words z.instructions ws;
      labels = set b.labels z.rungs label;
      offsets = set b.offsets z.rungs z.instructions;
      lengths = set b.lengths z.rungs count;
    }

abbrev pub rung_case : Sizes → Parse ListRung → Option RungAt
rung_case z (read n g) = Some (record { next = n; sizes = with_rung z (length g.code) })
rung_case z (stuck p) = None

abbrev pub RungWithin : List ℕ → ℕ → Option RungAt → Type 0
RungWithin s at (Some r) = (at < r.next) × (r.next ≤ length s) × (r.sizes.instructions ≤ r.next) × (r.sizes.rungs ≤ r.next)
RungWithin s at None = Unit {0}

-- a rung is read, and kept where its numbers have 16 bits
pub record RungIsKept (p : Parse ListRung) (s : List ℕ) (at : ℕ) (z : Sizes) (r : Option RungAt) (before after : Columns) : Type 0 where
  pub same : r ≡ rung_case z p
  pub within : RungWithin s at r
  pub out : (n : ℕ) (g : ListRung) → p ≡ read n g → z.instructions + length g.code ≤ most_number
      → after ≡ put_rung before z g.label (length g.code) (map instr_word g.code)

-- what some rungs take
unfoldable pub sizes_of : List ListRung → Sizes
sizes_of gs = record { instructions = length (words_of (list_of_rungs gs)); rungs = length gs; longest = longest (list_of_rungs gs).records }

-- their words, and of their records labels, offsets and lengths
abbrev pub list_columns : List ListRung → Columns
list_columns gs = columns_of (list_buffers (list_of_rungs gs))

abbrev pub rungs_case : Parse (List ListRung) → Option Sizes
rungs_case (read n gs) = Some (sizes_of gs)
rungs_case (stuck p) = None

-- a text is read, and where its numbers have 16 bits all rungs are kept, as far as there is room
pub record RungsAreKept (p : Parse (List ListRung)) (r : Option Sizes) (before after : Columns) : Type 0 where
  pub same : r ≡ rungs_case p
  pub out : (n : ℕ) (gs : List ListRung) → p ≡ read n gs → (sizes_of gs).instructions ≤ most_number → after ≡ put_all before (list_columns gs)

-- ---- a list that was read

-- as buffers of just its size, no rung entered
abbrev pub unentered : Columns → Buffers
unentered c = buffers c.words c.labels c.offsets c.lengths (none_entered (length c.labels))

-- questions 1, 10 and 13 of it, and the writing of the lent buffers
unfoldable pub hand_over : ℕ → ℕ → Columns → Buffers → TranslateCall
hand_over vars longest new lent =
    elim (first_no (list_answer vars new.words (row_of new.labels new.offsets new.lengths new.lengths) ∷ question13 (needs (unentered new) lent) ∷ [])) [
      | some refusal ↦ record { answer = refused refusal; buffers = lent }
      | none ↦
          record {
            answer = translated (record { instructions = length new.words; rungs = length new.labels; longest = longest });
            buffers = written_over (unentered new) lent;
          }
    ]
