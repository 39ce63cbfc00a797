-- `ladder_names::timers_known` meets its contract: the closure asks of each word whether its timer is known. Assumes nothing.
use Rattle.std.proofs.Common.{rules}
use Rattle.ladder_names.specs.Asking.{word_timed}
use Rattle.ladder_names.proofs.Asked.{timers_many, timers_asked}
use Rattle.ladder_names.proofs.timers_known.Goals as goal

pub returns-then-records : goal.returns-then-records
returns-then-records c = timers_many c.if-records.true

pub returns : goal.returns
returns c = timers_asked (c.every_word.ensures.same (word_timed c.args.records) (λ w b k. search rules))
