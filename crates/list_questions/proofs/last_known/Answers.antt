-- `list_questions::last_known` meets its contract. Assumes nothing.
use Rattle.list_ops.specs.Ops.{op_number}
use Rattle.list_questions.proofs.Timers.{last_least_of}
use Rattle.list_questions.proofs.last_known.Goals as goal

pub returns : goal.returns
unfolding op_number
returns c = rw (c.number.ensures, c.min-numbers.ensures) (last_least_of c.args.records)
