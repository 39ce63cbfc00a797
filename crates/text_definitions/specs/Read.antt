-- The call Read: its answer and the lent buffers afterwards, for all inputs. Document 01, "Text", "Questions before work". Assumes nothing.
use Rattle.std.specs.Prelude.{ℕ, ◌≡◌, List, [], ◌∷◌, length, Result, Ok, Err}
use Rattle.std.proofs.Math.Option.{none, some}
use Rattle.questions.specs.Questions.{Refusal, first_no, question1, question2, question13}
use Rattle.questions.specs.Refusals.{refusal_of}
use Rattle.questions.specs.declared.Refusal.{Refusal as RefusalCase}
use Rattle.rungs.specs.Buffers.{Buffers, new_buffers, needs, written_over, written_words, written_records}
use Rattle.ladder_definitions.specs.Tree.{Ladder}
use Rattle.ladder_definitions.specs.Kept.{Kept, encode}
use Rattle.ladder_definitions.specs.Questions.{question5, question6, question7, question8}
use Rattle.text_grammar.specs.Reader.{read, stuck, text_of}
use Rattle.text_grammar.specs.Questions.{question3}
use Rattle.text_definitions.specs.declared.Counts.{Counts}

-- the ladder of a text; no rung where the text is not in the grammar
unfoldable pub text_ladder : List ℕ → Ladder
text_ladder text = elim (text_of text) [ read n gs ↦ gs | stuck p ↦ [] ]

-- a ladder's words and records as buffers of just their size, no rung entered
abbrev pub kept_buffers : Ladder → Buffers
kept_buffers gs = new_buffers (encode gs).words (encode gs).records

-- "Read returns word and rung counts", or the refusal
pub data ReadAnswer : Type 0 where
  kept : ℕ → ℕ → ReadAnswer
  refused : Refusal → ReadAnswer

pub record ReadCall : Type 0 where
  pub answer : ReadAnswer
  pub buffers : Buffers

-- questions 1, 2, 3, 5, 6, 7, 8 and 13 in order; a refusal leaves the buffers, and else "writes words and records likewise"
unfoldable pub read_text : ℕ → List ℕ → Buffers → ReadCall
read_text vars text lent =
    let gs = text_ladder text in
    let new = kept_buffers gs in
    elim (first_no (question1 vars ∷ question2 (length text) ∷ question3 text ∷ question5 gs ∷ question6 vars gs ∷ question7 gs ∷ question8 gs ∷ question13 (needs new lent) ∷ [])) [
      | some refusal ↦ record { answer = refused refusal; buffers = lent }
      | none ↦ record { answer = kept (length new.words) (length gs); buffers = written_over new lent }
    ]

-- the words and records that Read wrote, by its counts
unfoldable pub written_kept : Buffers → ℕ → ℕ → Kept
written_kept b words rungs = record { words = written_words b words; records = written_records b rungs }

-- what read answers
abbrev pub TextRead : Type 0
TextRead = Result Counts RefusalCase

-- document 01's values for each case of it
unfoldable pub text_read_answer : TextRead → ReadAnswer
text_read_answer (Ok c) = kept c.words c.rungs
text_read_answer (Err refusal) = refused (refusal_of refusal)

-- the promise of read: answer and buffers are those of the definition
pub record ReadDone (call : ReadCall) (r : TextRead) (lent : Buffers) : Type 0 where
  pub answer : text_read_answer r ≡ call.answer
  pub same_buffers : lent ≡ call.buffers
