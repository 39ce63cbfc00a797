-- `text_fronts::words::insert` meets its contract. Assumes nothing.
use Prim.Native.Nat.{◌+◌}
use Rattle.text_fronts.proofs.Sets.{moved_up}
use Rattle.text_fronts.proofs.words.insert.Goals as goal

pub returns-then-end-words : goal.returns-then-end-words
returns-then-end-words c = moved_up _ _ _ _ _ _ (λ i. c.args.from + c.args.count) c.if-end-words.true c.copy_within.ensures.after
