-- `ladder_names::words_below` meets its contract: the closure asks of each word whether it is below. Assumes nothing.
use Rattle.std.proofs.Common.{rules}
use Rattle.ladder_names.specs.Asking.{word_below}
use Rattle.ladder_names.proofs.words_below.Goals as goal

pub returns : goal.returns
returns c = c.every_word.ensures.same (word_below c.args.vars) (λ w b k. search rules)
