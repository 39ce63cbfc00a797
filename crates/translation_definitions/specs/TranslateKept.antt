-- The call Translate: its answer and the lent buffers afterwards, for all inputs. Document 01, "Translation", "Questions before work". Assumes nothing.
use Rattle.std.specs.Prelude.{ℕ, ◌≡◌, [], ◌∷◌, ◌++◌, map, length, Result, Ok, Err}
use Rattle.std.proofs.Math.Option.{none, some}
use Rattle.questions.specs.Questions.{Refusal, Answer, first_no, question1, question13}
use Rattle.questions.specs.Refusals.{refusal_of}
use Rattle.questions.specs.declared.Refusal.{Refusal as RefusalCase}
use Rattle.rungs.specs.Records.{longest}
use Rattle.rungs.specs.Buffers.{Buffers, new_buffers, needs, written_over}
use Rattle.ladder_definitions.specs.Kept.{Kept}
use Rattle.ladder_definitions.specs.Questions.{ladder_of, ladder_questions}
use Rattle.list_definitions.specs.Instruction.{instr_word}
use Rattle.list_definitions.specs.Machine.{InstructionList}
use Rattle.translation_definitions.specs.Translate.{translate}
use Rattle.translation_definitions.specs.declared.Counts.{Counts as CountsStruct}

-- a list in instruction words and records, as buffers of just their size, no rung entered
abbrev pub list_buffers : InstructionList → Buffers
list_buffers list = new_buffers (map instr_word list.code) list.records

-- "the instruction and rung counts and L, the longest rung's length in instructions"
pub record Counts : Type 0 where
  pub instructions : ℕ
  pub rungs : ℕ
  pub longest : ℕ

unfoldable pub counts_of : InstructionList → Counts
counts_of list = record { instructions = length list.code; rungs = length list.records; longest = longest list.records }

pub data TranslateAnswer : Type 0 where
  translated : Counts → TranslateAnswer
  refused : Refusal → TranslateAnswer

pub record TranslateCall : Type 0 where
  pub answer : TranslateAnswer
  pub buffers : Buffers

-- a call that writes a list, by the first "no" to its questions: a refusal leaves the buffers, and else it "writes list and records from the start of two
-- buffers; the rest stays"
unfoldable pub list_written : Answer → InstructionList → Buffers → TranslateCall
list_written (some refusal) list lent = record { answer = refused refusal; buffers = lent }
list_written none list lent = record { answer = translated (counts_of list); buffers = written_over (list_buffers list) lent }

-- questions 1, 4 to 9 and 13 in order
unfoldable pub translate_kept : ℕ → Kept → Buffers → TranslateCall
translate_kept vars k lent =
    let list = translate vars (ladder_of k) in
    list_written (first_no (question1 vars ∷ ladder_questions vars k ++ question13 (needs (list_buffers list) lent) ∷ [])) list lent

-- the counts in the struct Counts
abbrev pub counts_in : CountsStruct → Counts
counts_in c = record { instructions = c.instructions; rungs = c.rungs; longest = c.longest }

-- what translate answers
abbrev pub Translated : Type 0
Translated = Result CountsStruct RefusalCase

-- document 01's values for each case of it
unfoldable pub translated_answer : Translated → TranslateAnswer
translated_answer (Ok c) = translated (counts_in c)
translated_answer (Err refusal) = refused (refusal_of refusal)

-- the promise of translate: answer and buffers are those of the definition
pub record TranslateDone (call : TranslateCall) (r : Translated) (lent : Buffers) : Type 0 where
  pub answer : translated_answer r ≡ call.answer
  pub same_buffers : lent ≡ call.buffers
