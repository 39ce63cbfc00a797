-- `translation_code::output_code` meets its contract: the op is that of the kind, and the operand that of what the output names.
use Rattle.std.proofs.Common.{refl, sym, true, false, ap, ◌∙◌}
use Rattle.ladder_kinds.specs.Kinds.{names_label}
use Rattle.translation_code.proofs.Outputs.{instruction_made}
use Rattle.translation_code.proofs.output_code.Goals as goal

pub returns-then-names_label : goal.returns-then-names_label
returns-then-names_label c =
    rw c.instruction.ensures
    (instruction_made _ _ _ _ _ _ true c.in_ok-op.ensures (sym c.if-names_label.true ∙ c.names_label.ensures ∙ ap names_label c.number.ensures) c.start_of.ensures.0)

pub returns-else-names_label : goal.returns-else-names_label
returns-else-names_label c =
    rw c.instruction-else-names_label.ensures
    (instruction_made _ _ _ _ _ _ false c.in_ok-op.ensures (sym c.if-names_label.false ∙ c.names_label.ensures ∙ ap names_label c.number.ensures) refl)
