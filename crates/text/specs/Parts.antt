-- What the functions of this crate promise to each other. Nothing here is a sentence of document 01. Assumes nothing.
use Rattle.std.specs.Prelude.{ℕ, Bool, ◌&&◌, leb, List, [], ◌∷◌, length}
use Rattle.std.proofs.Math.Option.{none, some}
use Rattle.questions.specs.Questions.{first_no, question13}
use Rattle.rungs.specs.Records.{row_of}
use Rattle.rungs.specs.Buffers.{Buffers, buffers, needs, written_over}
use Rattle.rungs.specs.declared.Slices.{Slices}
use Rattle.ladder_definitions.specs.Questions.{most_rungs, most_rung_words, most_words, ladder_answer}
use Rattle.text_definitions.specs.Read.{ReadCall, kept, refused}
use Rattle.text_lines.specs.declared.Sizes.{Sizes}

-- question 5 over what a ladder takes
unfoldable pub fits : Sizes → Bool
fits z = leb z.rungs most_rungs && (leb z.longest most_rung_words && leb z.words most_words)

-- a ladder that was read, with its times entered
abbrev pub read_in : Slices → List ℕ → Buffers
read_in s times = buffers s.words.now s.labels.now s.offsets.now s.lengths.now times

-- questions 4 to 8 and 13 of a ladder that was read, and the writing of the lent buffers
unfoldable pub hand_over : ℕ → Buffers → Buffers → ReadCall
hand_over vars new lent =
    elim (first_no (ladder_answer vars (record { words = new.words; records = row_of new.labels new.offsets new.lengths new.times }) ∷ question13 (needs new lent) ∷ [])) [
      | some refusal ↦ record { answer = refused refusal; buffers = lent }
      | none ↦ record { answer = kept (length new.words) (length new.labels); buffers = written_over new lent }
    ]
