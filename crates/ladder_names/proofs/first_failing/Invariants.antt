-- `ladder_names::first_failing` meets its contract. The loop's invariant: the words left are those of the rungs from `rung` on, and the rungs
-- before passed. Assumes nothing.
use Rattle.std.proofs.Common.{◌≡◌, ℕ, Bool, List}
use Rattle.std.specs.Fn.{FnReturnsAt}
use Rattle.ladder_names.proofs.Asked.{Walked}
use Rattle.ladder_names.proofs.first_failing.Given as goal

abbrev pub invariant-loop-rung : goal.invariant-loop-rung
invariant-loop-rung g l =
    (test : List ℕ → Bool) → ((own : List ℕ) (b : Bool) → FnReturnsAt g.F.Fn l.passes own b → b ≡ test own) → Walked test l.words l.lengths l.rest l.rung
