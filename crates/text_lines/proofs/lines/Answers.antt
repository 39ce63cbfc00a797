-- `text_lines::lines` meets its contract. Assumes nothing.
use mathlib.Core.Path.{refl}
use Rattle.std.proofs.Common.{rules}
use Rattle.text_fronts.proofs.Parts.{error_is}
use Rattle.text_lines.proofs.Keeping.{keeping_start, lines_stuck, lines_end, lines_more}
use Rattle.text_lines.proofs.lines.Goals as goal

pub loop-kept-init : goal.loop-kept-init
loop-kept-init c = record { kept = keeping_start c.args.text.now _; times = refl; same = search rules }

pub returns-in_err-kept-clause-kept : goal.returns-in_err-kept-clause-kept
returns-in_err-kept-clause-kept c = rw (error_is _ c.from_residual.ensures) (lines_stuck _ _ _ _ _ c.loop-kept.invariant.kept _ _ c.in_err-kept.ensures.kept _)

pub returns-then-whole-clause-kept : goal.returns-then-whole-clause-kept
returns-then-whole-clause-kept c = lines_end _ _ _ _ _ c.loop-kept.invariant.kept _ _ c.in_ok-kept.ensures.kept c.if-whole.true

pub loop-kept-preserved : goal.loop-kept-preserved
loop-kept-preserved c =
    record {
      kept = lines_more _ _ _ _ _ c.loop-kept.invariant.kept _ _ c.in_ok-kept.ensures.kept c.if-whole.false;
      times = search rules;
      same = search rules;
    }
