-- `ladder_names::every_word` meets its contract. The loop's invariant: the answer so far is that of the words before. Assumes nothing.
use Rattle.std.proofs.Common.{refl, arith}
use Rattle.ladder_names.proofs.Asked.{asked_more, asked_end}
use Rattle.ladder_names.proofs.every_word.Goals as goal

pub loop-word-init : goal.loop-word-init
loop-word-init g c = λ test k. refl

pub loop-word-preserved : goal.loop-word-preserved
loop-word-preserved g c = λ test k. asked_more test _ _ 0 (omega arith) (c.loop-word.invariant test k) (k _ _ (record { met = c.passes-all.ensures }))

pub returns : goal.returns
returns g c = record { same = λ test k. asked_end test _ _ (omega arith) (c.loop-word.invariant test k) }
