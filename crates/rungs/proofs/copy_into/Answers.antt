-- `rungs::copy_into` meets its contract.
use Rattle.std.proofs.Common.{rules, sym, arith}
use Rattle.rungs.proofs.Copies.{sets_past, sets_lent}
use Rattle.rungs.proofs.copy_into.Goals as goal

pub returns-then-items-at : goal.returns-then-items-at
returns-then-items-at g c = sym (sets_past c.args.part.now c.args.items.now c.args.at c.if-items-at.true)

pub returns : goal.returns
returns g c = sets_lent c.args.part.now c.args.items.now _ c.args.at c.min-room.result _ (omega arith) (omega arith) (omega arith) (search rules)
