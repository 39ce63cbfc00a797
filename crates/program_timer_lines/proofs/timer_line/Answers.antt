-- `program_timer_lines::timer_line` meets its contract: a line of which a part is missing is no timer's. Assumes nothing.
use Rattle.questions.specs.Bytes.{bytes}
use Rattle.program_timer_lines.proofs.Timers.{timer_other, no_preset, no_start, no_variable, no_running, no_done, more_fields, timer_read}
use Rattle.program_timer_lines.proofs.timer_line.Goals as goal

pub returns-in_err-at : goal.returns-in_err-at
unfolding bytes
returns-in_err-at c = rw c.from_residual.ensures (timer_other c.args.input.now c.args.from c.in_err-at.ensures)

pub returns-in_err-preset : goal.returns-in_err-preset
unfolding bytes
returns-in_err-preset c = rw c.from_residual-in_err-preset.ensures (no_preset c.args.input.now c.args.from c.in_ok-at.ensures.0 (rw c.in_ok-at.ensures.1 at c.in_err-preset.ensures))

pub returns-in_err-start : goal.returns-in_err-start
unfolding bytes
returns-in_err-start c =
    rw c.from_residual-in_err-start.ensures
    (no_start c.args.input.now c.args.from c.in_ok-at.ensures.0 (rw c.in_ok-at.ensures.1 at c.in_ok-preset.ensures) c.in_err-start.ensures)

pub returns-in_err-variable : goal.returns-in_err-variable
unfolding bytes
returns-in_err-variable c =
    rw c.from_residual-in_err-variable.ensures
    (no_variable c.args.input.now c.args.from c.in_ok-at.ensures.0 (rw c.in_ok-at.ensures.1 at c.in_ok-preset.ensures) c.in_ok-start.ensures c.in_err-variable.ensures)

pub returns-in_err-running : goal.returns-in_err-running
unfolding bytes
returns-in_err-running c =
    rw c.from_residual-in_err-running.ensures
    (no_running c.args.input.now c.args.from c.in_ok-at.ensures.0 (rw c.in_ok-at.ensures.1 at c.in_ok-preset.ensures) c.in_ok-start.ensures c.in_ok-variable.ensures
    c.in_err-running.ensures)

pub returns-in_err-done : goal.returns-in_err-done
unfolding bytes
returns-in_err-done c =
    rw c.from_residual-in_err-done.ensures
    (no_done c.args.input.now c.args.from c.in_ok-at.ensures.0 (rw c.in_ok-at.ensures.1 at c.in_ok-preset.ensures) c.in_ok-start.ensures c.in_ok-variable.ensures
    c.in_ok-running.ensures c.in_err-done.ensures)

pub returns-then-done : goal.returns-then-done
unfolding bytes
returns-then-done c =
    more_fields c.args.input.now c.args.from c.in_ok-at.ensures.0 (rw c.in_ok-at.ensures.1 at c.in_ok-preset.ensures) c.in_ok-start.ensures c.in_ok-variable.ensures
    c.in_ok-running.ensures c.in_ok-done.ensures c.if-done.true

pub returns : goal.returns
unfolding bytes
returns c =
    timer_read c.args.input.now c.args.from c.in_ok-at.ensures.0 (rw c.in_ok-at.ensures.1 at c.in_ok-preset.ensures) c.in_ok-start.ensures c.in_ok-variable.ensures
    c.in_ok-running.ensures c.in_ok-done.ensures _ c.if-done.false c.after_break.ensures
