-- Code whose every operand passes a test: what holds of variables, of t0 to t31 and of what outputs name holds of all that F and R write. Assumes nothing.
use Rattle.std.specs.Prelude.{Bool, true, ℕ, ◌+◌, ◌≤◌, ◌<◌, T, leb}
use mathlib.Core.List.{List, [], ◌∷◌, ◌++◌, flat_map}
use Rattle.std.proofs.Common.{arith, leb→le, ltb→lt}
use Rattle.std.proofs.Math.Facts.{and_yes, yes_and}
use Rattle.questions.specs.Tests.{all}
use Rattle.questions.proofs.Laws.Tests.{all_head, all_tail, all_cons, all_one, all_append}
use Rattle.table.specs.State.{scratch_bytes}
use Rattle.ladder_definitions.specs.Tree.{Input, contact, contactn, Front, input, front_and, front_or, Output, Rear, output, rear_and, rear_or, Rung, Ladder, front_all, rear_all, rung_all, input_variable}
use Rattle.ladder_definitions.specs.Questions.{input_below, output_below, rung_below, join_scratch, front_scratch, rear_scratch, rung_scratch}
use Rattle.list_definitions.specs.Instruction.{Instr, LD, LDN, ST, AND, ANDN, OR, ORN, Operand, table_index, operand}
use Rattle.translation_definitions.specs.Translate.{F, R, join, output_code, rung_code}
use Rattle.translation_definitions.proofs.Laws.Parts.{front_below, rear_below}

-- question 9, of a rung
abbrev pub scratch_fits : Rung → Bool
scratch_fits g = leb (rung_scratch g) scratch_bytes

module _ (vars : ℕ) (start : ℕ → ℕ) (ok : Operand → Bool) (passes : Output → Bool)
    (variable : (v : ℕ) → v < vars → T (ok (table_index v))) (scratch : (d : ℕ) → d < scratch_bytes → T (ok (table_index (vars + d))))
    (out : (o : Output) → T (output_below vars o) → T (passes o) → T (ok (operand (output_code start o)))) where
  abbrev test : Instr → Bool
  test i = ok (operand i)

  abbrev Passed : List Instr → Type 0
  Passed is = T (all test is)

  -- AND and OR take operands alike
  record Takes (op : ℕ → Instr) : Type 0 where
    takes : (x : ℕ) → T (ok (table_index x)) → T (test (op x))

  takes_and : Takes AND
  unfolding operand
  takes_and = record { takes = λ x h. h }

  takes_andn : Takes ANDN
  unfolding operand
  takes_andn = record { takes = λ x h. h }

  takes_or : Takes OR
  unfolding operand
  takes_or = record { takes = λ x h. h }

  takes_orn : Takes ORN
  unfolding operand
  takes_orn = record { takes = λ x h. h }

  -- through td, for a front of any form
  through_ok : {op : ℕ → Instr} → Takes op → (own : List Instr) (d : ℕ) → d < scratch_bytes → Passed own → Passed (ST (vars + d) ∷ own ++ op (vars + d) ∷ [])
  unfolding operand
  through_ok {op} o own d h k = all_cons test (ST (vars + d)) _ (scratch d h)
      (all_append test own (op (vars + d) ∷ []) k (all_one test (op (vars + d)) (o.takes (vars + d) (scratch d h))))

  join_ok : {op opn : ℕ → Instr} → Takes op → Takes opn → (g : Front) (own : List Instr) (d : ℕ) → T (front_below vars g) → d + join_scratch g (front_scratch g) ≤ scratch_bytes
      → (d + 1 + front_scratch g ≤ scratch_bytes → Passed own) → Passed (join op opn g own (vars + d))
  unfolding join join_scratch front_all input_below input_variable
  join_ok {op} o on (input (contact v)) own d b h k = all_one test (op v) (o.takes v (variable v (ltb→lt v vars b)))
  join_ok {opn = opn} o on (input (contactn v)) own d b h k = all_one test (opn v) (on.takes v (variable v (ltb→lt v vars b)))
  join_ok o on (front_and f g) own d b h k = through_ok o own d (omega arith) (k (omega arith))
  join_ok o on (front_or f g) own d b h k = through_ok o own d (omega arith) (k (omega arith))

  F_ok : (f : Front) (d : ℕ) → T (front_below vars f) → d + front_scratch f ≤ scratch_bytes → Passed (F vars f d)
  unfolding F front_all input_below input_variable front_scratch operand
  F_ok (input (contact v)) d b h = all_one test (LD v) (variable v (ltb→lt v vars b))
  F_ok (input (contactn v)) d b h = all_one test (LDN v) (variable v (ltb→lt v vars b))
  F_ok (front_and f g) d b h =
      let bb = and_yes (front_below vars f) (front_below vars g) b in
      all_append test (F vars f d) _ (F_ok f d bb.0 (omega arith))
      (join_ok takes_and takes_andn g (F vars g (d + 1)) d bb.1 (omega arith) (λ k. F_ok g (d + 1) bb.1 k))
  F_ok (front_or f g) d b h =
      let bb = and_yes (front_below vars f) (front_below vars g) b in
      all_append test (F vars f d) _ (F_ok f d bb.0 (omega arith))
      (join_ok takes_or takes_orn g (F vars g (d + 1)) d bb.1 (omega arith) (λ k. F_ok g (d + 1) bb.1 k))

  abbrev rear_passes : Rear → Bool
  rear_passes = rear_all (λ i. true) passes

  R_ok : (r : Rear) (d : ℕ) → T (rear_below vars r) → T (rear_passes r) → d + rear_scratch r ≤ scratch_bytes → Passed (R vars start r d)
  unfolding R rear_all rear_scratch operand
  R_ok (output o) d b k h = all_one test (output_code start o) (out o b k)
  R_ok (rear_and f r) d b k h =
      let bb = and_yes (front_below vars f) (rear_below vars r) b in
      let kk = and_yes (front_all (λ i. true) f) (rear_passes r) k in
      all_append test (join AND ANDN f (F vars f (d + 1)) (vars + d)) _
      (join_ok takes_and takes_andn f (F vars f (d + 1)) d bb.0 (omega arith) (λ k. F_ok f (d + 1) bb.0 k))
      (R_ok r d bb.1 kk.1 (omega arith))
  R_ok (rear_or a c) d b k h =
      let bb = and_yes (rear_below vars a) (rear_below vars c) b in
      let kk = and_yes (rear_passes a) (rear_passes c) k in
      let td = scratch d (omega arith) in
      all_cons test (ST (vars + d)) _ td
      (all_append test (R vars start a (d + 1)) _ (R_ok a (d + 1) bb.0 kk.0 (omega arith))
      (all_cons test (LD (vars + d)) _ td (R_ok c d bb.1 kk.1 (omega arith))))

  rung_ok : (g : Rung) → T (rung_below vars g) → T (rung_all (λ i. true) passes g) → rung_scratch g ≤ scratch_bytes → Passed (rung_code vars start g)
  unfolding rung_code rung_all rung_scratch
  rung_ok g b k h =
      let bb = and_yes (front_below vars g.front) (rear_below vars g.rear) b in
      let kk = and_yes (front_all (λ i. true) g.front) (rear_passes g.rear) k in
      all_append test (F vars g.front 0) _ (F_ok g.front 0 bb.0 (omega arith)) (R_ok g.rear 0 bb.1 kk.1 (omega arith))

  pub codes_pass : (gs : Ladder) → T (all (rung_below vars) gs) → T (all (rung_all (λ i. true) passes) gs) → T (all scratch_fits gs)
      → T (all (λ i. ok (operand i)) (flat_map (rung_code vars start) gs))
  unfolding flat_map
  codes_pass [] b k h = tt
  codes_pass (g ∷ gs) b k h = all_append test (rung_code vars start g) _
      (rung_ok g (all_head (rung_below vars) g gs b) (all_head (rung_all (λ i. true) passes) g gs k) (leb→le (rung_scratch g) scratch_bytes (all_head scratch_fits g gs h)))
      (codes_pass gs (all_tail (rung_below vars) g gs b) (all_tail (rung_all (λ i. true) passes) g gs k) (all_tail scratch_fits g gs h))

pub front_any : (f : Front) → T (front_all (λ i. true) f)
unfolding front_all
front_any (input i) = tt
front_any (front_and f g) = yes_and (front_all (λ i. true) f) (front_all (λ i. true) g) (front_any f) (front_any g)
front_any (front_or f g) = yes_and (front_all (λ i. true) f) (front_all (λ i. true) g) (front_any f) (front_any g)

-- outputs that pass a test, from rungs whose inputs pass one too
rear_outputs : (inputs : Input → Bool) (passes : Output → Bool) (r : Rear) → T (rear_all inputs passes r) → T (rear_all (λ i. true) passes r)
unfolding rear_all
rear_outputs inputs passes (output o) h = h
rear_outputs inputs passes (rear_and f r) h =
    yes_and (front_all (λ i. true) f) (rear_all (λ i. true) passes r) (front_any f) (rear_outputs inputs passes r (and_yes (front_all inputs f) (rear_all inputs passes r) h).1)
rear_outputs inputs passes (rear_or a b) h =
    let hh = and_yes (rear_all inputs passes a) (rear_all inputs passes b) h in
    yes_and (rear_all (λ i. true) passes a) (rear_all (λ i. true) passes b) (rear_outputs inputs passes a hh.0) (rear_outputs inputs passes b hh.1)

pub rungs_outputs : (inputs : Input → Bool) (passes : Output → Bool) (gs : Ladder) → T (all (rung_all inputs passes) gs) → T (all (rung_all (λ i. true) passes) gs)
unfolding rung_all
rungs_outputs inputs passes [] h = tt
rungs_outputs inputs passes (g ∷ gs) h = all_cons (rung_all (λ i. true) passes) g gs
    (yes_and (front_all (λ i. true) g.front) (rear_all (λ i. true) passes g.rear) (front_any g.front)
    (rear_outputs inputs passes g.rear (and_yes (front_all inputs g.front) (rear_all inputs passes g.rear) (all_head (rung_all inputs passes) g gs h)).1))
    (rungs_outputs inputs passes gs (all_tail (rung_all inputs passes) g gs h))

rear_any : (r : Rear) → T (rear_all (λ i. true) (λ o. true) r)
unfolding rear_all
rear_any (output o) = tt
rear_any (rear_and f r) = yes_and (front_all (λ i. true) f) (rear_all (λ i. true) (λ o. true) r) (front_any f) (rear_any r)
rear_any (rear_or a b) = yes_and (rear_all (λ i. true) (λ o. true) a) (rear_all (λ i. true) (λ o. true) b) (rear_any a) (rear_any b)

pub rungs_any : (gs : Ladder) → T (all (rung_all (λ i. true) (λ o. true)) gs)
unfolding rung_all
rungs_any [] = tt
rungs_any (g ∷ gs) = all_cons (rung_all (λ i. true) (λ o. true)) g gs
    (yes_and (front_all (λ i. true) g.front) (rear_all (λ i. true) (λ o. true) g.rear) (front_any g.front) (rear_any g.rear)) (rungs_any gs)
