-- `ladder_names::timer_known` meets its contract: one comparison tells, of a word less the first word past the timers'. Assumes nothing.
use Rattle.ladder_names.proofs.Asked.{timed_word}
use Rattle.ladder_names.proofs.timer_known.Goals as goal

pub returns : goal.returns
returns c = timed_word _ _ c.requires c.ranges.word.fits
