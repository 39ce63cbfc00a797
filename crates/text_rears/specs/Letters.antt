-- The kinds of outputs by their letters. Which letters there are stands in text_grammar, Reader; the kinds in ladder_definitions, Kept. Assumes nothing.
use Rattle.std.specs.Prelude.{ℕ, Option, Some, None}
use Rattle.std.proofs.Math.Option.{none, some}
use Rattle.ladder_definitions.specs.Kept.{output_kind}
use Rattle.text_grammar.specs.Reader.{output_at}

-- the kind of the output that a letter begins, if it begins one
unfoldable pub letter_kind : ℕ → Option ℕ
letter_kind b = elim (output_at b) [ none ↦ None | some make ↦ Some (output_kind (make 0)) ]
