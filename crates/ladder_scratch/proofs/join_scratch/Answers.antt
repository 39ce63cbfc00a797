-- `ladder_scratch::join_scratch` meets its contract: the sort of the word's kind tells a contact from a front of two parts. Assumes nothing.
use Rattle.std.proofs.Common.{refl}
use Rattle.ladder_kinds.specs.Kinds.{case_sort, sort_in}
use Rattle.ladder_kinds.proofs.Arms.{told, arm, other_arm, not_contact, none_contact}
use Rattle.ladder_scratch.proofs.Measures.{joined_short, joined_through}
use Rattle.ladder_scratch.proofs.join_scratch.Goals as goal

pub returns-in_default : goal.returns-in_default
returns-in_default c = joined_through _ _ _ refl _ (none_contact _ c.in_default.ensures)

pub returns-in-Contact : goal.returns-in-Contact
unfolding case_sort sort_in
returns-in-Contact c = joined_short _ _ _ refl _ (told _ _ c.in-Some.ensures _ (arm c.in-Contact.is))

pub returns-in_default-sort : goal.returns-in_default-sort
returns-in_default-sort c = joined_through _ _ _ refl _ (not_contact _ _ c.in-Some.ensures (other_arm c.in_default-sort.not-Contact))
