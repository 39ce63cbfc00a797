-- The labels of a text have 16 bits, and so have those of the ladder that Read writes for it. Assumes nothing.
use Rattle.std.specs.Prelude.{ℕ, ◌≡◌, List, T}
use Rattle.std.proofs.Common.{arith, lt→ltb}
use Rattle.questions.specs.Tests.{all}
use Rattle.questions.proofs.Laws.Tests.{all_one, all_cons}
use Rattle.rungs.specs.Words.{operands, is_operand}
use Rattle.rungs.specs.Buffers.{Buffers}
use Rattle.ladder_definitions.specs.Tree.{Rung, Ladder, labels}
use Rattle.ladder_definitions.specs.Questions.{ladder_of}
use Rattle.ladder_definitions.proofs.Laws.Accepting.{ladder_is}
use Rattle.text_grammar.specs.Grammar.{IsNumber, nought, digits, IsLine, line, IsText, one_line, more_lines}
use Rattle.text_grammar.proofs.Theorems.{decoded_always}
use Rattle.text_definitions.specs.Read.{read_text, kept, written_kept}
use Rattle.text_definitions.proofs.Theorems.{written_in_grammar, written_exactly}

number_fits : {s : List ℕ} {l : ℕ} → IsNumber s l → T (is_operand l)
number_fits nought = lt→ltb 0 operands (omega arith)
number_fits (digits {v = l} x h) = lt→ltb l operands (omega arith)

label_fits : {s : List ℕ} {g : Rung} → IsLine s g → T (is_operand g.label)
label_fits (line label front rear) = number_fits label

labels_fit : {s : List ℕ} {gs : Ladder} → IsText s gs → T (all is_operand (labels gs))
labels_fit (one_line {g = g} x) = all_one is_operand g.label (label_fits x)
labels_fit (more_lines {g = g} {gs = gs} x y) = all_cons is_operand g.label (labels gs) (label_fits x) (labels_fit y)

pub written_labels_fit : (vars : ℕ) (text : List ℕ) (lent : Buffers) (words rungs : ℕ) → (read_text vars text lent).answer ≡ kept words rungs
    → T (all is_operand (labels (ladder_of (written_kept (read_text vars text lent).buffers words rungs))))
written_labels_fit vars text lent words rungs e =
    let x = written_in_grammar vars text lent words rungs e in
    rw (written_exactly vars text lent words rungs e, ladder_is _ _ (decoded_always x)) (labels_fit x)
