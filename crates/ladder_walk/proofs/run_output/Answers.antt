-- `ladder_walk::run_output` meets its contract: the word's kind and operand tell the output, and each arm runs its own. Assumes nothing.
use Rattle.std.proofs.Common.{◌≡◌, sym, ap, ◌∙◌}
use Rattle.rungs.specs.Words.{number_of}
use Rattle.ladder_definitions.specs.Tree.{Output, coil, coiln, jump, jumpn, set_coil, reset_coil, timer}
use Rattle.ladder_definitions.specs.Kept.{output_kind}
use Rattle.ladder_kinds.specs.Kinds.{kind_number}
use Rattle.ladder_kinds.specs.declared.Kind.TheVariants as the_kind
use Rattle.ladder_kinds.proofs.Numbers.{same_kind}
use Rattle.ladder_walk.proofs.Walks.{ran_coil, ran_coiln, jump_taken, jump_left, jumpn_taken, jumpn_left, ran_set, ran_reset, ran_timer, no_output, no_output_sort, same_lent, lent_changed}
use Rattle.ladder_walk.proofs.run_output.Goals as goal

pub returns-in_default : goal.returns-in_default
returns-in_default c = record { ran = no_output _ _ _ _ (no_output_sort _ c.in_default.ensures); same = same_lent _ }

pub returns-in-Coil : goal.returns-in-Coil
unfolding output_kind kind_number
returns-in-Coil c = let e = c.write.ensures.changed in record { ran = ran_coil _ _ _ _ _ (sym c.in-Some.ensures ∙ ap kind_number c.in-Coil.is) e.same; same = lent_changed e }

pub returns-in-NegatedCoil : goal.returns-in-NegatedCoil
unfolding output_kind kind_number
returns-in-NegatedCoil c = let e = c.write-in-NegatedCoil.ensures.changed in record { ran = ran_coiln _ _ _ _ _ (sym c.in-Some.ensures ∙ ap kind_number c.in-NegatedCoil.is) e.same; same = lent_changed e }

pub returns-in-SetCoil : goal.returns-in-SetCoil
unfolding output_kind kind_number
returns-in-SetCoil c = let e = c.write_if.ensures.changed in record { ran = ran_set _ _ _ _ _ (sym c.in-Some.ensures ∙ ap kind_number c.in-SetCoil.is) e.same; same = lent_changed e }

pub returns-in-ResetCoil : goal.returns-in-ResetCoil
unfolding output_kind kind_number
returns-in-ResetCoil c = let e = c.write_if-in-ResetCoil.ensures.changed in record { ran = ran_reset _ _ _ _ _ (sym c.in-Some.ensures ∙ ap kind_number c.in-ResetCoil.is) e.same; same = lent_changed e }

pub returns-in-Timer : goal.returns-in-Timer
unfolding output_kind kind_number
returns-in-Timer c = let e = c.run_timer.ensures in record { ran = ran_timer _ _ _ _ _ (sym c.in-Some.ensures ∙ ap kind_number c.in-Timer.is) e.same; same = lent_changed e }

pub returns-then-power : goal.returns-then-power
unfolding output_kind kind_number
returns-then-power c = record { ran = jump_taken _ _ _ _ (sym c.in-Some.ensures ∙ ap kind_number c.in-Jump.is) c.if-power.true; same = same_lent _ }

pub returns-else-power : goal.returns-else-power
unfolding output_kind kind_number
returns-else-power c = record { ran = jump_left _ _ _ _ (sym c.in-Some.ensures ∙ ap kind_number c.in-Jump.is) c.if-power.false; same = same_lent _ }

pub returns-then-power-2 : goal.returns-then-power-2
unfolding output_kind kind_number
returns-then-power-2 c = record { ran = jumpn_left _ _ _ _ (sym c.in-Some.ensures ∙ ap kind_number c.in-NegatedJump.is) c.if-power-2.true; same = same_lent _ }

pub returns-else-power-2 : goal.returns-else-power-2
unfolding output_kind kind_number
returns-else-power-2 c = record { ran = jumpn_taken _ _ _ _ (sym c.in-Some.ensures ∙ ap kind_number c.in-NegatedJump.is) c.if-power-2.false; same = same_lent _ }

pub returns-in_default-kind : goal.returns-in_default-kind
unfolding output_kind kind_number
returns-in_default-kind c =
    record { ran = no_output _ _ _ _ none; same = same_lent _ }
  where
    none : (o : Output) → number_of c.args.word ≡ output_kind o → ⊥
    none (coil v) e = c.in_default-kind.not-Coil (same_kind _ the_kind.Coil (c.in-Some.ensures ∙ e))
    none (coiln v) e = c.in_default-kind.not-NegatedCoil (same_kind _ the_kind.NegatedCoil (c.in-Some.ensures ∙ e))
    none (jump l) e = c.in_default-kind.not-Jump (same_kind _ the_kind.Jump (c.in-Some.ensures ∙ e))
    none (jumpn l) e = c.in_default-kind.not-NegatedJump (same_kind _ the_kind.NegatedJump (c.in-Some.ensures ∙ e))
    none (set_coil v) e = c.in_default-kind.not-SetCoil (same_kind _ the_kind.SetCoil (c.in-Some.ensures ∙ e))
    none (reset_coil v) e = c.in_default-kind.not-ResetCoil (same_kind _ the_kind.ResetCoil (c.in-Some.ensures ∙ e))
    none (timer n) e = c.in_default-kind.not-Timer (same_kind _ the_kind.Timer (c.in-Some.ensures ∙ e))
