-- `ladder_walk::rear_at` meets its contract. The loop's invariant: the rear ends as what runs from `at` on. The sort of a word's kind forces the tree's root;
-- fronts are worked and first branches run from later words, by the same function: the measure is what is left of the words.
use Rattle.std.proofs.Common.{arith, ◌∙◌, ◌+◌, ◌≡◌, ℕ}
use Rattle.table.specs.Parts.{state_in}
use Rattle.ladder_kinds.specs.Kinds.{case_sort, sort_in}
use Rattle.ladder_kinds.proofs.Arms.{told, arm, other_arm, not_rear, none_rears}
use Rattle.ladder_definitions.proofs.Laws.Trees.{inside_sort}
use Rattle.ladder_walk.specs.Walking.{RearRun, SameLent}
use Rattle.ladder_walk.proofs.Walks.{ran_output, ran_or_jumped, ran_none, walked_none, walked_and, walked_or, same_lent, lent_after}
use Rattle.ladder_walk.proofs.+rear_at.Goals as goal
use Rattle.ladder_walk.proofs.+rear_at.Goals.{in-Some-Output, in_default-sort_of, Joined-sort_of-2}

pub loop-sort-init : goal.loop-sort-init
loop-sort-init t c = record { walked = walked_none _ _ _ _; same = same_lent _ }

pub overflow_add-at : goal.overflow_add-at
unfolding case_sort sort_in
overflow_add-at t c =
    let l = inside_sort c.args.words.now c.loop-sort.at _ c.at_or-word.ensures _ (told _ _ c.in-Some.ensures _ (arm c.in-Output.is)) (λ z. let n : ◌≡◌ {A = ℕ} 0 1 = cc in omega arith) in
    omega arith

pub run_output-requires : goal.run_output-requires
unfolding case_sort sort_in
run_output-requires t c =
    let l = inside_sort c.args.words.now c.loop-sort.at _ c.at_or-word.ensures _ (told _ _ c.in-Some.ensures _ (arm c.in-Output.is)) (λ z. let n : ◌≡◌ {A = ℕ} 0 1 = cc in omega arith) in
    omega (arith, l, c.loop-sort.invariant.walked.few, c.requires)

pub returns-in-Output : goal.returns-in-Output
unfolding case_sort sort_in
returns-in-Output t c = record { ran = c.loop-sort.invariant.walked.same _ _ (ran_output _ _ _ _ _ c.at_or-word.ensures _ _ (told _ _ c.in-Some.ensures _ (arm c.in-Output.is)) c.run_output.ensures.ran); same = lent_after c.loop-sort.invariant.same c.run_output.ensures.same }

pub overflow_add-at-in-RearAnd : goal.overflow_add-at-in-RearAnd
unfolding case_sort sort_in
overflow_add-at-in-RearAnd t c =
    let l = inside_sort c.args.words.now c.loop-sort.at _ c.at_or-word.ensures _ (told _ _ c.in-Some.ensures _ (arm c.in-RearAnd.is)) (λ z. let n : ◌≡◌ {A = ℕ} 0 1 = cc in omega arith) in
    omega arith

pub loop-sort-smaller-in-RearAnd : goal.loop-sort-smaller-in-RearAnd
unfolding case_sort sort_in
loop-sort-smaller-in-RearAnd t c =
    let l = inside_sort c.args.words.now c.loop-sort.at _ c.at_or-word.ensures _ (told _ _ c.in-Some.ensures _ (arm c.in-RearAnd.is)) (λ z. let n : ◌≡◌ {A = ℕ} 0 1 = cc in omega arith) in
    omega (arith, l, c.front_at-front.ensures.onward)

pub loop-sort-preserved-in-RearAnd : goal.loop-sort-preserved-in-RearAnd
unfolding case_sort sort_in
loop-sort-preserved-in-RearAnd t c = record { walked = walked_and c.loop-sort.invariant.walked _ c.at_or-word.ensures _ _ (told _ _ c.in-Some.ensures _ (arm c.in-RearAnd.is)) c.front_at-front.ensures; same = c.loop-sort.invariant.same }

pub overflow_add-first : goal.overflow_add-first
unfolding case_sort sort_in
overflow_add-first t c =
    let l = inside_sort c.args.words.now c.loop-sort.at _ c.at_or-word.ensures _ (told _ _ c.in-Some.ensures _ (arm c.in-RearOr.is)) (λ z. let n : ◌≡◌ {A = ℕ} 0 1 = cc in omega arith) in
    omega arith

pub overflow_add-first-in-Some-Output : goal.overflow_add-first-in-Some-Output
unfolding case_sort sort_in
overflow_add-first-in-Some-Output t c =
    let l = inside_sort c.args.words.now (c.loop-sort.at + 1) _ c.at_or-branch.ensures _ (told _ _ c.sort_of-in-RearOr.ensures _ (c.in-Some-Output.is ∙ arm c.in-Some-Output.field-0-is)) (λ z. let n : ◌≡◌ {A = ℕ} 0 1 = cc in omega arith) in
    omega arith

pub run_output-ran-requires : goal.run_output-ran-requires
unfolding case_sort sort_in
run_output-ran-requires t c =
    let l = inside_sort c.args.words.now (c.loop-sort.at + 1) _ c.at_or-branch.ensures _ (told _ _ c.sort_of-in-RearOr.ensures _ (c.in-Some-Output.is ∙ arm c.in-Some-Output.field-0-is)) (λ z. let n : ◌≡◌ {A = ℕ} 0 1 = cc in omega arith) in
    omega (arith, l, c.loop-sort.invariant.walked.few, c.requires)

pub rear_at-ran-requires : goal.rear_at-ran-requires
unfolding case_sort sort_in
rear_at-ran-requires t c =
    let l = inside_sort c.args.words.now c.loop-sort.at _ c.at_or-word.ensures _ (told _ _ c.in-Some.ensures _ (arm c.in-RearOr.is)) (λ z. let n : ◌≡◌ {A = ℕ} 0 1 = cc in omega arith) in
    (omega (arith, l, c.loop-sort.invariant.walked.onward), omega (arith, c.loop-sort.invariant.walked.few, c.requires))

-- the first branch of a rear-or, run as an output or by this function
branch_ran : (t : ℕ) (c : Joined-sort_of-2 t) → RearRun c.args.words.now (c.loop-sort.at + 1) c.loop-sort.power (state_in c.loop-sort.state) c.match-sort_of-2.ran (state_in c.match-sort_of-2.state)
unfolding case_sort sort_in
branch_ran t c =
    elim c.match-sort_of-2.branch [
      | in-Some-Output w ↦ rw (w.ran-is, w.state-is) (ran_output _ _ _ _ _ c.at_or-branch.ensures _ _ (told _ _ c.sort_of-in-RearOr.ensures _ (w.in-Some-Output.is ∙ arm w.in-Some-Output.field-0-is)) w.run_output-ran.ensures.ran)
      | in_default-sort_of w ↦ rw (w.ran-is, w.state-is) w.rear_at-ran.ensures.ran
    ]

branch_lent : (t : ℕ) (c : Joined-sort_of-2 t) → SameLent c.loop-sort.state c.match-sort_of-2.state
branch_lent t c =
    elim c.match-sort_of-2.branch [
      | in-Some-Output w ↦ rw w.state-is w.run_output-ran.ensures.same
      | in_default-sort_of w ↦ rw w.state-is w.rear_at-ran.ensures.same
    ]

pub loop-sort-smaller : goal.loop-sort-smaller
unfolding case_sort sort_in
loop-sort-smaller t c =
    let l = inside_sort c.args.words.now c.loop-sort.at _ c.at_or-word.ensures _ (told _ _ c.in-Some.ensures _ (arm c.in-RearOr.is)) (λ z. let n : ◌≡◌ {A = ℕ} 0 1 = cc in omega arith) in
    omega (arith, l, ((branch_ran t (goal.at.loop-sort-smaller t c).Joined-sort_of-2).onward _ c.in-Onward.is).0)

pub loop-sort-preserved : goal.loop-sort-preserved
unfolding case_sort sort_in
loop-sort-preserved t c =
    let join = (goal.at.loop-sort-preserved t c).Joined-sort_of-2 in
    record {
      walked = walked_or c.loop-sort.invariant.walked _ c.at_or-word.ensures _ _ _ (told _ _ c.in-Some.ensures _ (arm c.in-RearOr.is)) (branch_ran t join) c.in-Onward.is;
      same = lent_after c.loop-sort.invariant.same (branch_lent t join);
    }

pub returns-in-Jumped : goal.returns-in-Jumped
unfolding case_sort sort_in
returns-in-Jumped t c =
    let join = (goal.at.returns-in-Jumped t c).Joined-sort_of-2 in
    record {
      ran = c.loop-sort.invariant.walked.same _ _ (ran_or_jumped _ _ _ _ _ c.at_or-word.ensures _ _ _ (told _ _ c.in-Some.ensures _ (arm c.in-RearOr.is)) (branch_ran t join) c.in-Jumped.is);
      same = lent_after c.loop-sort.invariant.same (branch_lent t join);
    }

pub returns-in_default-sort : goal.returns-in_default-sort
returns-in_default-sort t c = record {
  ran = c.loop-sort.invariant.walked.same _ _ (ran_none _ _ _ _ _ c.at_or-word.ensures (not_rear _ _ c.in-Some.ensures (other_arm c.in_default-sort.not-Output) (other_arm c.in_default-sort.not-RearAnd) (other_arm c.in_default-sort.not-RearOr)));
  same = c.loop-sort.invariant.same;
}

pub returns-in_default : goal.returns-in_default
returns-in_default t c = record {
  ran = c.loop-sort.invariant.walked.same _ _ (ran_none _ _ _ _ _ c.at_or-word.ensures (none_rears _ c.in_default.ensures));
  same = c.loop-sort.invariant.same;
}
