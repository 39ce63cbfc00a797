-- `ladder_walk::run_rung` meets its contract: the front, and then the rear with the front's value as power. Assumes nothing.
use Prim.Native.Nat.{ℕ}
use native.Mathlib.Omega.{arith}
use mathlib.Core.Path.{◌≡◌, ◌∙◌}
use Rattle.ladder_kinds.specs.Kinds.{case_sort, sort_in}
use Rattle.ladder_definitions.proofs.Laws.Trees.{inside_sort}
use Rattle.ladder_kinds.proofs.Arms.{told, arm}
use Rattle.ladder_walk.proofs.Walks.{ran_rung, ran_output}
use Rattle.ladder_walk.proofs.run_rung.Goals as goal

pub overflow_add-front : goal.overflow_add-front
unfolding case_sort sort_in
overflow_add-front c = let l = inside_sort c.args.words.now c.front_at-front.result.next _ c.at_or-word.ensures _ (told _ _ c.sort_of.ensures _ (c.in-Some-Output.is ∙ arm c.in-Some-Output.field-0-is)) (λ z. let n : ◌≡◌ {A = ℕ} 0 1 = cc in omega arith) in omega arith

pub run_output-requires : goal.run_output-requires
unfolding case_sort sort_in
run_output-requires c = let l = inside_sort c.args.words.now c.front_at-front.result.next _ c.at_or-word.ensures _ (told _ _ c.sort_of.ensures _ (c.in-Some-Output.is ∙ arm c.in-Some-Output.field-0-is)) (λ z. let n : ◌≡◌ {A = ℕ} 0 1 = cc in omega arith) in omega (arith, l, c.front_at-front.ensures.onward, c.requires)

pub returns-in-Some-Output : goal.returns-in-Some-Output
unfolding case_sort sort_in
returns-in-Some-Output c = record { ran = ran_rung _ _ _ _ _ _ _ c.front_at-front.ensures (ran_output _ _ _ _ _ c.at_or-word.ensures _ _ (told _ _ c.sort_of.ensures _ (c.in-Some-Output.is ∙ arm c.in-Some-Output.field-0-is)) c.run_output.ensures.ran); same = c.run_output.ensures.same }

pub rear_at-requires : goal.rear_at-requires
rear_at-requires c = omega (arith, c.front_at-front.ensures.onward, c.requires)

pub returns : goal.returns
returns c = record { ran = ran_rung _ _ _ _ _ _ _ c.front_at-front.ensures c.rear_at.ensures.ran; same = c.rear_at.ensures.same }
