-- `ladder_kinds::Kind::of` meets its contract: no other number has a kind. Assumes nothing.
use native.Mathlib.Omega.{arith}
use mathlib.Core.Path.{sym}
use Rattle.ladder_definitions.specs.Kept.{kind_sorts}
use Rattle.ladder_kinds.proofs.Laws.Sorts.{no_sort_lem}
use Rattle.ladder_kinds.proofs.Kind.of.Goals as goal

pub returns-in_default : goal.returns-in_default
unfolding kind_sorts
returns-in_default c = sym (no_sort_lem _ (λ l h. omega arith))
