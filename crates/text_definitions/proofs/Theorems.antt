-- What is proved of Read's definition, a theorem to a sentence; the proofs are in Laws. Assumes nothing.
use Rattle.std.specs.Prelude.{ℕ, ◌≡◌, List, take}
use Rattle.questions.specs.Questions.{Refusal, yes}
use Rattle.rungs.specs.Records.{none_entered}
use Rattle.rungs.specs.Buffers.{Buffers}
use Rattle.ladder_definitions.specs.Kept.{encode}
use Rattle.ladder_definitions.specs.Questions.{question4, question9, ladder_answer}
use Rattle.text_grammar.specs.Grammar.{IsText}
use Rattle.text_grammar.proofs.Theorems.{scratch_always, kept_always}
use Rattle.text_definitions.specs.Read.{text_ladder, kept, refused, read_text, written_kept}
use Rattle.text_definitions.proofs.Laws.Reads.{refused_same, first_encoded, no_times, in_grammar, encoded_accepted}

-- where Read took the text, with these counts
module _ (vars : ℕ) (text : List ℕ) (lent : Buffers) (words rungs : ℕ) (taken : (read_text vars text lent).answer ≡ kept words rungs) where
  -- Only texts of the grammar are taken, with their ladder.
  pub written_in_grammar : IsText text (text_ladder text)
  written_in_grammar = in_grammar vars text lent words rungs taken

  -- What Read writes are the words and records of that ladder.
  pub written_exactly : written_kept (read_text vars text lent).buffers words rungs ≡ encode (text_ladder text)
  written_exactly = first_encoded vars text lent words rungs taken

  -- 02, Req 04: "calls that write records put 0".
  pub written_times : take rungs (read_text vars text lent).buffers.times ≡ none_entered rungs
  written_times = no_times vars text lent words rungs taken

  -- What Read writes gets a "yes" to question 4.
  pub written_kept_lem : question4 (written_kept (read_text vars text lent).buffers words rungs) ≡ yes
  written_kept_lem = rw written_exactly (kept_always written_in_grammar)

  -- "Translation within t0 to t31? (.. text always is)"
  pub scratch_accepted : question9 (text_ladder text) ≡ yes
  scratch_accepted = scratch_always written_in_grammar

  -- What Read writes gets a "yes" to every question that Translate puts first, 1 and 4 to 9. Ladder scan puts them too.
  pub written_accepted : ladder_answer vars (written_kept (read_text vars text lent).buffers words rungs) ≡ yes
  written_accepted = rw written_exactly (encoded_accepted vars text lent words rungs taken)

-- A refusal changes nothing.
pub refused_unchanged : (vars : ℕ) (text : List ℕ) (lent : Buffers) (r : Refusal) → (read_text vars text lent).answer ≡ refused r → (read_text vars text lent).buffers ≡ lent
refused_unchanged vars text lent r a = refused_same vars text lent r a
