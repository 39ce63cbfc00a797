-- `ladder_kept::rear_word` meets its contract: a law for each sort of word, and one for the words that begin no rear. Assumes nothing.
use Rattle.std.proofs.Common.{◌≡◌, None, rules}
use Rattle.ladder_kinds.specs.Kinds.{case_sort, sort_in}
use Rattle.ladder_kinds.proofs.Arms.{told, arm, other_arm, not_rear, none_rears}
use Rattle.ladder_kept.proofs.Holding.{rear_taken, rear_front, rear_split, rear_past}
use Rattle.ladder_kept.proofs.rear_word.Goals as goal

pub returns-in_err-sort_of : goal.returns-in_err-sort_of
returns-in_err-sort_of c = let none : c.from_residual.result ≡ None = search rules in rw none (rear_past _ _ _ (none_rears _ c.in_err-sort_of.ensures))

pub returns-in-Output : goal.returns-in-Output
unfolding case_sort sort_in
returns-in-Output c = rear_taken _ _ _ (told _ _ c.in_ok-sort_of.ensures _ (arm c.in-Output.is)) c.requires.0

pub returns-in-RearAnd : goal.returns-in-RearAnd
unfolding case_sort sort_in
returns-in-RearAnd c = rear_front _ _ _ (told _ _ c.in_ok-sort_of.ensures _ (arm c.in-RearAnd.is)) c.requires.0 _ c.then_some.ensures

pub returns-in-RearOr : goal.returns-in-RearOr
unfolding case_sort sort_in
returns-in-RearOr c = rear_split _ _ _ (told _ _ c.in_ok-sort_of.ensures _ (arm c.in-RearOr.is)) c.requires.0 _ c.then_some-in-RearOr.ensures

pub returns-in_default : goal.returns-in_default
returns-in_default c =
    rear_past _ _ _
    (not_rear _ _ c.in_ok-sort_of.ensures (other_arm c.in_default.not-Output) (other_arm c.in_default.not-RearAnd) (other_arm c.in_default.not-RearOr))
