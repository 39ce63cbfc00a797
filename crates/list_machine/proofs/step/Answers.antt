-- `list_machine::step` meets its contract: what the instruction does, and the counts. Assumes nothing.
use Rattle.list_machine.proofs.Steps.{stepped, same_bit}
use Rattle.list_machine.proofs.step.Goals as goal

pub returns : goal.returns
returns c = rw (c.from.ensures, same_bit c.args.entered) (stepped _ _ c.args.m.now _ _ _ c.carry_out-effect.ensures)
