-- `ladder_kept::front_word` meets its contract: a law for each sort of word, and one for the words that begin no front. Assumes nothing.
use Rattle.std.proofs.Common.{◌≡◌, None, rules}
use Rattle.ladder_kinds.specs.Kinds.{case_sort, sort_in}
use Rattle.ladder_kinds.proofs.Arms.{told, arm, other_arm, not_front, none_fronts}
use Rattle.ladder_kept.proofs.Holding.{front_taken, front_split, front_past}
use Rattle.ladder_kept.proofs.front_word.Goals as goal

pub returns-in_err-sort_of : goal.returns-in_err-sort_of
returns-in_err-sort_of c = let none : c.from_residual.result ≡ None = search rules in rw none (front_past _ _ _ _ (none_fronts _ c.in_err-sort_of.ensures) c.requires.0)

pub returns-in-Contact : goal.returns-in-Contact
unfolding case_sort sort_in
returns-in-Contact c = front_taken _ _ _ _ (told _ _ c.in_ok-sort_of.ensures _ (arm c.in-Contact.is)) c.requires.0

pub returns-in-Joined : goal.returns-in-Joined
unfolding case_sort sort_in
returns-in-Joined c = front_split _ _ _ _ (told _ _ c.in_ok-sort_of.ensures _ (arm c.in-Joined.is)) c.requires.0 _ c.then_some.ensures

pub returns-in_default : goal.returns-in_default
returns-in_default c =
    front_past _ _ _ _ (not_front _ _ c.in_ok-sort_of.ensures (other_arm c.in_default.not-Contact) (other_arm c.in_default.not-Joined)) c.requires.0
