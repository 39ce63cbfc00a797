-- `list_names::put_fixed_names` meets its contract. The loop's invariant: the names from `op` on, over what is written, are the whole table. Assumes nothing.
use native.Mathlib.Omega.{arith}
use Rattle.questions.specs.Bytes.{bytes}
use Rattle.list_definitions.specs.Names.{fixed_names}
use Rattle.list_names.proofs.Fixed.{filling_start, filling_more, filling_end}
use Rattle.list_names.proofs.put_fixed_names.Goals as goal

pub loop-op-init : goal.loop-op-init
loop-op-init c = filling_start _

pub put_fixed_name-end-requires : goal.put_fixed_name-end-requires
unfolding fixed_names bytes
put_fixed_name-end-requires c = (omega (arith, c.loop-op.invariant.place, c.loop-op-test.true), c.loop-op.invariant.from, c.loop-op-test.true)

pub loop-op-preserved : goal.loop-op-preserved
loop-op-preserved c = filling_more c.loop-op.invariant c.loop-op-test.true c.put_fixed_name-end.ensures

pub returns : goal.returns
returns c = filling_end c.loop-op.invariant c.loop-op-test.false
