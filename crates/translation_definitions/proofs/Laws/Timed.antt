-- A timer number of the list is one of the ladder, and the other way round: question 17 gets the same answer for both. Assumes nothing.
use Rattle.std.specs.Prelude.{ℕ, ◌+◌, ◌≡◌, refl, Bool, true, false, T}
use Rattle.std.proofs.Common.{ap}
use mathlib.Core.List.{List, [], ◌∷◌, ◌++◌, flat_map}
use Rattle.std.proofs.Math.Facts.{yes_and}
use Rattle.questions.specs.Tests.{all}
use Rattle.questions.specs.Questions.{ask}
use Rattle.questions.proofs.Laws.Tests.{all_head, all_tail, all_cons, all_first, all_second}
use Rattle.ladder_definitions.specs.Tree.{Output, coil, coiln, jump, jumpn, set_coil, reset_coil, timer, Rear, output, rear_and, rear_or, Rung, Ladder, front_all, rear_all, rung_all, output_names}
use Rattle.ladder_definitions.specs.Questions.{named_timed, output_timed, timers_known, question17, output_below, Accepted}
use Rattle.list_definitions.specs.Instruction.{Instr, LD, ST, AND, ANDN, operand}
use Rattle.list_definitions.specs.Questions.{operand_timed, timers_known as list_timers_known, question17 as list_question17}
use Rattle.translation_definitions.specs.Translate.{F, R, join, output_code, rung_code, translate}
use Rattle.translation_definitions.proofs.Laws.Operands.{codes_pass, front_any}
use Rattle.translation_definitions.proofs.Laws.Lists.{below_all, scratch_all, start}

same_truth : (a b : Bool) → (T a → T b) → (T b → T a) → a ≡ b
same_truth true true f g = refl
same_truth true false f g = absurd (f tt)
same_truth false true f g = absurd (g tt)
same_truth false false f g = refl

module _ (vars records : ℕ) (start : ℕ → ℕ) where
  abbrev test : Instr → Bool
  test i = operand_timed records (operand i)

  abbrev passes : Output → Bool
  passes = output_timed records

  output_in : (o : Output) → T (output_below vars o) → T (passes o) → T (test (output_code start o))
  unfolding output_code output_timed output_names named_timed operand operand_timed
  output_in (coil v) b h = tt
  output_in (coiln v) b h = tt
  output_in (jump l) b h = tt
  output_in (jumpn l) b h = tt
  output_in (set_coil v) b h = tt
  output_in (reset_coil v) b h = tt
  output_in (timer n) b h = h

  output_out : (o : Output) → T (test (output_code start o)) → T (passes o)
  unfolding output_code output_timed output_names named_timed operand operand_timed
  output_out (coil v) h = tt
  output_out (coiln v) h = tt
  output_out (jump l) h = tt
  output_out (jumpn l) h = tt
  output_out (set_coil v) h = tt
  output_out (reset_coil v) h = tt
  output_out (timer n) h = h

  rear_out : (r : Rear) (d : ℕ) → T (all test (R vars start r d)) → T (rear_all (λ i. true) passes r)
  unfolding R rear_all
  rear_out (output o) d h = output_out o (all_head test (output_code start o) [] h)
  rear_out (rear_and f r) d h =
      let joined = join AND ANDN f (F vars f (d + 1)) (vars + d) in
      yes_and (front_all (λ i. true) f) (rear_all (λ i. true) passes r) (front_any f) (rear_out r d (all_second test joined (R vars start r d) h))
  rear_out (rear_or a b) d h =
      let first = R vars start a (d + 1) in
      let second = R vars start b d in
      let rest = all_tail test (ST (vars + d)) (first ++ LD (vars + d) ∷ second) h in
      yes_and (rear_all (λ i. true) passes a) (rear_all (λ i. true) passes b)
      (rear_out a (d + 1) (all_first test first (LD (vars + d) ∷ second) rest))
      (rear_out b d (all_tail test (LD (vars + d)) second (all_second test first (LD (vars + d) ∷ second) rest)))

  codes_out : (gs : Ladder) → T (all test (flat_map (rung_code vars start) gs)) → T (all (rung_all (λ i. true) passes) gs)
  unfolding flat_map rung_code rung_all
  codes_out [] h = tt
  codes_out (g ∷ gs) h =
      let front = F vars g.front 0 in
      let rear = R vars start g.rear 0 in
      all_cons (rung_all (λ i. true) passes) g gs
      (yes_and (front_all (λ i. true) g.front) (rear_all (λ i. true) passes g.rear) (front_any g.front)
      (rear_out g.rear 0 (all_second test front rear (all_first test (front ++ rear) (flat_map (rung_code vars start) gs) h))))
      (codes_out gs (all_second test (front ++ rear) (flat_map (rung_code vars start) gs) h))

pub same_known : (vars records : ℕ) (gs : Ladder) → Accepted vars gs → timers_known records gs ≡ list_timers_known records (translate vars gs).code
unfolding timers_known list_timers_known translate operand_timed
same_known vars records gs a = same_truth (timers_known records gs) (list_timers_known records (translate vars gs).code)
    (λ h. codes_pass vars (start vars gs) (operand_timed records) (output_timed records) (λ v l. known) (λ d l. known) (output_in vars records (start vars gs)) gs (below_all vars gs a) h (scratch_all vars gs a))
    (codes_out vars records (start vars gs) gs)
  where
    known : T true
    known = tt

pub same_question17 : (vars records : ℕ) (gs : Ladder) → Accepted vars gs → question17 records gs ≡ list_question17 records (translate vars gs).code
unfolding question17 list_question17
same_question17 vars records gs a = ap (ask 17) (same_known vars records gs a)
