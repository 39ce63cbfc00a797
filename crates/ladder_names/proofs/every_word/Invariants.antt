-- `ladder_names::every_word` meets its contract. The loop's invariant: the answer so far is that of the words before. Assumes nothing.
use Rattle.std.proofs.Common.{◌≡◌, ℕ, Bool, take}
use Rattle.std.specs.Fn.{FnReturns}
use Rattle.questions.specs.Tests.{all}
use Rattle.ladder_names.proofs.every_word.Given as goal

abbrev pub invariant-loop-word : goal.invariant-loop-word
invariant-loop-word g l =
    (test : ℕ → Bool) → ((w : ℕ) (b : Bool) → FnReturns g.F.Fn l.passes (w, tt) b → b ≡ test w) → l.all ≡ all test (take l.word-index l.words)
