-- `ladder_scratch::front_scratch` meets its contract: the sort of the word's kind forces the tree's root, and the parts are measured by the same function, from later words.
-- The measure is what is left of the words.
use Rattle.std.proofs.Common.{refl, arith, ◌≡◌, ℕ}
use Rattle.ladder_kinds.specs.Kinds.{case_sort, sort_in}
use Rattle.ladder_kinds.proofs.Arms.{told, arm, other_arm, not_front, none_fronts}
use Rattle.ladder_definitions.proofs.Laws.Trees.{inside_sort}
use Rattle.ladder_scratch.proofs.Measures.{measured_input, measured_parts, measured_none}
use Rattle.ladder_scratch.proofs.+front_scratch.Goals as goal

pub overflow_add-result : goal.overflow_add-result
unfolding case_sort sort_in
overflow_add-result t c = let l = inside_sort c.args.words.now c.args.at _ refl _ (told _ _ c.in-Some.ensures _ (arm c.in-Contact.is)) (λ z. let n : ◌≡◌ {A = ℕ} 0 1 = cc in omega arith) in omega arith

pub overflow_add-at : goal.overflow_add-at
unfolding case_sort sort_in
overflow_add-at t c = let l = inside_sort c.args.words.now c.args.at _ refl _ (told _ _ c.in-Some.ensures _ (arm c.in-Joined.is)) (λ z. let n : ◌≡◌ {A = ℕ} 0 1 = cc in omega arith) in omega arith

pub front_scratch-first-requires : goal.front_scratch-first-requires
unfolding case_sort sort_in
front_scratch-first-requires t c = let l = inside_sort c.args.words.now c.args.at _ refl _ (told _ _ c.in-Some.ensures _ (arm c.in-Joined.is)) (λ z. let n : ◌≡◌ {A = ℕ} 0 1 = cc in omega arith) in (omega arith, tt)

pub front_scratch-second-requires : goal.front_scratch-second-requires
unfolding case_sort sort_in
front_scratch-second-requires t c = let l = inside_sort c.args.words.now c.args.at _ refl _ (told _ _ c.in-Some.ensures _ (arm c.in-Joined.is)) (λ z. let n : ◌≡◌ {A = ℕ} 0 1 = cc in omega arith) in (omega (arith, c.front_scratch-first.ensures.onward), tt)

pub returns-in-Contact : goal.returns-in-Contact
unfolding case_sort sort_in
returns-in-Contact t c = measured_input _ _ _ refl (told _ _ c.in-Some.ensures _ (arm c.in-Contact.is))

pub returns-in-Joined : goal.returns-in-Joined
unfolding case_sort sort_in
returns-in-Joined t c = measured_parts _ _ _ refl _ _ _ _ (told _ _ c.in-Some.ensures _ (arm c.in-Joined.is)) c.front_scratch-first.ensures c.front_scratch-second.ensures c.join_scratch-joined.ensures c.larger.ensures

pub returns-in_default-sort : goal.returns-in_default-sort
returns-in_default-sort t c = measured_none _ _ _ refl (not_front _ _ c.in-Some.ensures (other_arm c.in_default-sort.not-Contact) (other_arm c.in_default-sort.not-Joined))

pub returns-in_default : goal.returns-in_default
returns-in_default t c = measured_none _ _ _ refl (none_fronts _ c.in_default.ensures)
