-- The reader of a list's text: question 15, and the call, its answer and the lent buffers afterwards, for all inputs. Document 02, Req 05. Assumes nothing.
use Rattle.std.specs.Prelude.{ℕ, List, [], ◌∷◌, map}
use Rattle.std.proofs.Math.Option.{none, some}
use Rattle.questions.specs.Questions.{Answer, first_no, question1, question13}
use Rattle.rungs.specs.Buffers.{Buffers, needs}
use Rattle.text_grammar.specs.Reader.{read, stuck}
use Rattle.list_definitions.specs.Instruction.{instr_word}
use Rattle.list_definitions.specs.Machine.{InstructionList}
use Rattle.list_definitions.specs.Names.{names_in, question14}
use Rattle.list_definitions.specs.Questions.{question10}
use Rattle.translation_definitions.specs.TranslateKept.{list_buffers, TranslateCall, list_written}
use Rattle.reader_definitions.specs.Form.{ListRung, list_of_rungs}
use Rattle.reader_definitions.specs.Reader.{list_text_of}

-- "15 when the text breaks the line form"
unfoldable pub question15 : List ℕ → ℕ → List ℕ → Answer
question15 table vars text = elim (list_text_of (names_in table) vars text) [ read n gs ↦ none | stuck p ↦ some (record { number = 15; place = 0 }) ]

-- the rungs of a text; none where it breaks the line form
unfoldable pub rungs_of : List ℕ → ℕ → List ℕ → List ListRung
rungs_of table vars text = elim (list_text_of (names_in table) vars text) [ read n gs ↦ gs | stuck p ↦ [] ]

-- and their list
abbrev pub list_read : List ℕ → ℕ → List ℕ → InstructionList
list_read table vars text = list_of_rungs (rungs_of table vars text)

-- a list in instruction words
abbrev pub words_of : InstructionList → List ℕ
words_of l = map instr_word l.code

-- "14 [..] before question 1; 15 [..] after question 1; the reader then puts questions 10 and 13"
unfoldable pub read_questions : List ℕ → ℕ → List ℕ → Buffers → Answer
read_questions table vars text lent =
    let list = list_read table vars text in
    first_no (question14 table ∷ question1 vars ∷ question15 table vars text ∷ question10 vars (words_of list) list.records ∷ question13 (needs (list_buffers list) lent) ∷ [])

-- "The reader writes and returns as Translate does."
unfoldable pub read_list : List ℕ → ℕ → List ℕ → Buffers → TranslateCall
read_list table vars text lent = list_written (read_questions table vars text lent) (list_read table vars text) lent
