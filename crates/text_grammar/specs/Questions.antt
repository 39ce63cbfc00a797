-- Question 3. Document 01, "Questions before work". Theorems ties it to the grammar. Assumes nothing.
use Rattle.std.specs.Prelude.{ℕ, List}
use Rattle.std.proofs.Math.Option.{none, some}
use Rattle.questions.specs.Questions.{Answer}
use Rattle.text_grammar.specs.Reader.{read, stuck, text_of}

-- 3. "Text in the grammar?": the reader reads it whole. "No: 3", and the place is where the reader is stuck.
unfoldable pub question3 : List ℕ → Answer
question3 text = elim (text_of text) [ read n gs ↦ none | stuck p ↦ some (record { number = 3; place = p }) ]
