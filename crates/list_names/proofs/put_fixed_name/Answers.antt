-- `list_names::put_fixed_name` meets its contract: the array that the op names has the bytes of its fixed name. Assumes nothing.
use native.Mathlib.Omega.{arith}
use Rattle.questions.specs.Bytes.{bytes}
use Rattle.list_definitions.specs.Names.{fixed_names}
use Rattle.list_names.proofs.put_fixed_name.Goals as goal

pub offset_bounds-op : goal.offset_bounds-op
unfolding fixed_names bytes
offset_bounds-op c = omega arith

pub bounds-op : goal.bounds-op
unfolding fixed_names bytes
bounds-op c = omega arith

pub returns : goal.returns
unfolding fixed_names bytes
returns c = c.put_text.ensures
