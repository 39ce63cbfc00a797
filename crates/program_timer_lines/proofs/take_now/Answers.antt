-- `program_timer_lines::take_now` meets its contract. Assumes nothing.
use Rattle.questions.specs.Bytes.{bytes}
use Rattle.program_timer_lines.proofs.Timers.{now_other, now_illegal, now_spaced, now_taken_lem}
use Rattle.program_timer_lines.proofs.take_now.Goals as goal

pub returns-in_default : goal.returns-in_default
unfolding bytes
returns-in_default c = now_other c.args.input.now c.args.from c.in_default.ensures

pub returns-in_default-take_field : goal.returns-in_default-take_field
unfolding bytes
returns-in_default-take_field c = now_illegal c.args.input.now c.args.from c.in-Some.ensures.0 (rw c.in-Some.ensures.1 at c.in_default-take_field.ensures)

pub returns-then-number : goal.returns-then-number
unfolding bytes
returns-then-number c = now_spaced c.args.input.now c.args.from c.in-Some.ensures.0 (rw c.in-Some.ensures.1 at c.in-Some-take_field.ensures) c.if-number.true

pub returns : goal.returns
unfolding bytes
returns c = now_taken_lem c.args.input.now c.args.from c.in-Some.ensures.0 (rw c.in-Some.ensures.1 at c.in-Some-take_field.ensures) _ c.if-number.false c.after_break.ensures
