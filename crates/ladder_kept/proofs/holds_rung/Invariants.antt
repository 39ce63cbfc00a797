-- `ladder_kept::holds_rung` meets its contract. The loop's invariant: the words from `word-index` on are what is pending just when all words are a front
-- and a rear. Assumes nothing.
use Rattle.ladder_kept.proofs.Holding.{Counting}
use Rattle.ladder_kept.proofs.holds_rung.Given as goal

abbrev pub invariant-loop-word : goal.invariant-loop-word
invariant-loop-word l = Counting l.words l.pending.fronts l.pending.rears l.word-index
