-- `ladder_kept::holds_rung` meets its contract. The loop's invariant: the words from `word-index` on are what is pending just when all words are a front
-- and a rear. Assumes nothing.
use Rattle.std.proofs.Common.{refl, arith, ne_eqb}
use Rattle.ladder_kept.proofs.Holding.{word_misplaced, word_counted, ended}
use Rattle.ladder_kept.proofs.holds_rung.Goals as goal

pub loop-word-init : goal.loop-word-init
loop-word-init c = record { same = refl; fronts = omega arith; rears = omega arith }

pub after_word-requires : goal.after_word-requires
after_word-requires c = let f = c.loop-word.invariant.fronts in let r = c.loop-word.invariant.rears in (omega arith, omega arith)

pub returns-in_default : goal.returns-in_default
returns-in_default c = word_misplaced c.loop-word.invariant c.loop-word-test.true c.in_default.ensures

pub loop-word-preserved : goal.loop-word-preserved
loop-word-preserved c = word_counted c.loop-word.invariant c.loop-word-test.true _ c.in-Some.ensures

pub returns-then-pending-eq0 : goal.returns-then-pending-eq0
returns-then-pending-eq0 c = let e = ended c.loop-word.invariant (omega arith) in rw c.if-pending-eq0.true at e

pub returns-else-pending-eq0 : goal.returns-else-pending-eq0
returns-else-pending-eq0 c = let e = ended c.loop-word.invariant (omega arith) in let n = ne_eqb _ _ c.if-pending-eq0.false in rw n (rw n at e)
