-- `ladder_walk::first_contact` meets its contract. The loop's invariant: roots only were passed. Assumes nothing.
use Rattle.std.proofs.Common.{ℕ, ◌≡◌, ap, sym, ◌∙◌, arith}
use Rattle.rungs.specs.Words.{number_of}
use Rattle.ladder_definitions.specs.Kept.{kind_sort}
use Rattle.ladder_definitions.proofs.Laws.Trees.{inside_sort}
use Rattle.ladder_kinds.specs.Kinds.{case_sort, sort_in}
use Rattle.ladder_kinds.proofs.Arms.{told, arm, other_arm, not_joined, none_joined}
use Rattle.ladder_walk.proofs.Roots.{passing_first, passing_more, passed_leaf}
use Rattle.ladder_walk.proofs.first_contact.Goals as goal

pub loop-sort-init : goal.loop-sort-init
loop-sort-init c = passing_first _ _

pub overflow_add-at : goal.overflow_add-at
unfolding case_sort sort_in
overflow_add-at c = let l = inside_sort c.args.words.now c.loop-sort.at _ c.at_or.ensures _ (told _ _ c.in-Some.ensures _ (arm c.in-Joined.is)) (λ z. let n : ◌≡◌ {A = ℕ} 0 1 = cc in omega arith) in omega arith

pub loop-sort-smaller : goal.loop-sort-smaller
unfolding case_sort sort_in
loop-sort-smaller c = let l = inside_sort c.args.words.now c.loop-sort.at _ c.at_or.ensures _ (told _ _ c.in-Some.ensures _ (arm c.in-Joined.is)) (λ z. let n : ◌≡◌ {A = ℕ} 0 1 = cc in omega arith) in omega arith

pub loop-sort-preserved : goal.loop-sort-preserved
unfolding case_sort sort_in
loop-sort-preserved c =
    passing_more c.loop-sort.invariant (ap (λ w. kind_sort (number_of w)) (sym c.at_or.ensures) ∙ told _ _ c.in-Some.ensures _ (arm c.in-Joined.is))

pub returns-in_default-sort : goal.returns-in_default-sort
returns-in_default-sort c =
    passed_leaf c.loop-sort.invariant
    (λ r. not_joined _ _ c.in-Some.ensures (other_arm c.in_default-sort.not-Joined) (ap (λ w. kind_sort (number_of w)) c.at_or.ensures ∙ r))

pub returns : goal.returns
returns c = passed_leaf c.loop-sort.invariant (λ r. none_joined _ c.in_default.ensures (ap (λ w. kind_sort (number_of w)) c.at_or.ensures ∙ r))
