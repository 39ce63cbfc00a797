-- `ladder_scratch::rear_scratch` meets its contract: the sort of the word's kind forces the tree's root, and the parts are measured from later words.
-- The measure is what is left of the words.
use Rattle.std.proofs.Common.{refl, arith, ◌≡◌, ℕ}
use Rattle.ladder_kinds.specs.Kinds.{case_sort, sort_in}
use Rattle.ladder_kinds.proofs.Arms.{told, arm, other_arm, not_rear, none_rears}
use Rattle.ladder_definitions.proofs.Laws.Trees.{inside_sort}
use Rattle.ladder_scratch.proofs.Measures.{measured_output, measured_rear_and, measured_rear_or, measured_no_rear}
use Rattle.ladder_scratch.proofs.+rear_scratch.Goals as goal

pub overflow_add-result : goal.overflow_add-result
unfolding case_sort sort_in
overflow_add-result t c = let l = inside_sort c.args.words.now c.args.at _ refl _ (told _ _ c.in-Some.ensures _ (arm c.in-Output.is)) (λ z. let n : ◌≡◌ {A = ℕ} 0 1 = cc in omega arith) in omega arith

pub overflow_add-at : goal.overflow_add-at
unfolding case_sort sort_in
overflow_add-at t c = let l = inside_sort c.args.words.now c.args.at _ refl _ (told _ _ c.in-Some.ensures _ (arm c.in-RearAnd.is)) (λ z. let n : ◌≡◌ {A = ℕ} 0 1 = cc in omega arith) in omega arith

pub rear_scratch-rear-requires : goal.rear_scratch-rear-requires
unfolding case_sort sort_in
rear_scratch-rear-requires t c = let l = inside_sort c.args.words.now c.args.at _ refl _ (told _ _ c.in-Some.ensures _ (arm c.in-RearAnd.is)) (λ z. let n : ◌≡◌ {A = ℕ} 0 1 = cc in omega arith) in (omega (arith, c.front_scratch-front.ensures.onward), tt)

pub overflow_add-at-in-RearOr : goal.overflow_add-at-in-RearOr
unfolding case_sort sort_in
overflow_add-at-in-RearOr t c = let l = inside_sort c.args.words.now c.args.at _ refl _ (told _ _ c.in-Some.ensures _ (arm c.in-RearOr.is)) (λ z. let n : ◌≡◌ {A = ℕ} 0 1 = cc in omega arith) in omega arith

pub rear_scratch-first-requires : goal.rear_scratch-first-requires
unfolding case_sort sort_in
rear_scratch-first-requires t c = let l = inside_sort c.args.words.now c.args.at _ refl _ (told _ _ c.in-Some.ensures _ (arm c.in-RearOr.is)) (λ z. let n : ◌≡◌ {A = ℕ} 0 1 = cc in omega arith) in (omega arith, tt)

pub rear_scratch-second-requires : goal.rear_scratch-second-requires
unfolding case_sort sort_in
rear_scratch-second-requires t c = let l = inside_sort c.args.words.now c.args.at _ refl _ (told _ _ c.in-Some.ensures _ (arm c.in-RearOr.is)) (λ z. let n : ◌≡◌ {A = ℕ} 0 1 = cc in omega arith) in (omega (arith, c.rear_scratch-first.ensures.onward), tt)

pub returns-in-Output : goal.returns-in-Output
unfolding case_sort sort_in
returns-in-Output t c = measured_output _ _ _ refl (told _ _ c.in-Some.ensures _ (arm c.in-Output.is))

pub returns-in-RearAnd : goal.returns-in-RearAnd
unfolding case_sort sort_in
returns-in-RearAnd t c = measured_rear_and _ _ _ refl _ _ _ _ (told _ _ c.in-Some.ensures _ (arm c.in-RearAnd.is)) c.front_scratch-front.ensures c.join_scratch-joined.ensures c.rear_scratch-rear.ensures c.larger.ensures

pub returns-in-RearOr : goal.returns-in-RearOr
unfolding case_sort sort_in
returns-in-RearOr t c = measured_rear_or _ _ _ refl _ _ _ (told _ _ c.in-Some.ensures _ (arm c.in-RearOr.is)) c.rear_scratch-first.ensures c.rear_scratch-second.ensures c.larger-in-RearOr.ensures

pub returns-in_default-sort : goal.returns-in_default-sort
returns-in_default-sort t c = measured_no_rear _ _ _ refl (not_rear _ _ c.in-Some.ensures (other_arm c.in_default-sort.not-Output) (other_arm c.in_default-sort.not-RearAnd) (other_arm c.in_default-sort.not-RearOr))

pub returns-in_default : goal.returns-in_default
returns-in_default t c = measured_no_rear _ _ _ refl (none_rears _ c.in_default.ensures)
