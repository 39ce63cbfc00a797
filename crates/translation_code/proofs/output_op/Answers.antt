-- `translation_code::output_op` meets its contract: each kind of output has its arm's op.
use Rattle.ladder_kinds.specs.Kinds.{kind_number}
use Rattle.list_ops.specs.Ops.{op_number}
use Rattle.translation_code.proofs.Outputs.{coil_op, coiln_op, jump_op, jumpn_op, set_op, reset_op, timer_op, no_op}
use Rattle.translation_code.proofs.output_op.Goals as goal

pub returns-in-Coil : goal.returns-in-Coil
unfolding kind_number op_number
returns-in-Coil c = rw c.in-Coil.is coil_op

pub returns-in-NegatedCoil : goal.returns-in-NegatedCoil
unfolding kind_number op_number
returns-in-NegatedCoil c = rw c.in-NegatedCoil.is coiln_op

pub returns-in-Jump : goal.returns-in-Jump
unfolding kind_number op_number
returns-in-Jump c = rw c.in-Jump.is jump_op

pub returns-in-NegatedJump : goal.returns-in-NegatedJump
unfolding kind_number op_number
returns-in-NegatedJump c = rw c.in-NegatedJump.is jumpn_op

pub returns-in-SetCoil : goal.returns-in-SetCoil
unfolding kind_number op_number
returns-in-SetCoil c = rw c.in-SetCoil.is set_op

pub returns-in-ResetCoil : goal.returns-in-ResetCoil
unfolding kind_number op_number
returns-in-ResetCoil c = rw c.in-ResetCoil.is reset_op

pub returns-in-Timer : goal.returns-in-Timer
unfolding kind_number op_number
returns-in-Timer c = rw c.in-Timer.is timer_op

pub returns-in_default : goal.returns-in_default
returns-in_default c =
    let d = c.in_default in
    no_op c.args.kind d.not-Coil d.not-NegatedCoil d.not-Jump d.not-NegatedJump d.not-SetCoil d.not-ResetCoil d.not-Timer
