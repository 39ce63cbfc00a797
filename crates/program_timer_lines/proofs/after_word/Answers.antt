-- `program_timer_lines::after_word` meets its contract. Assumes nothing.
use Rattle.std.proofs.Common.{◌∙◌, refl}
use Rattle.program_timer_lines.proofs.Words.{begun}
use Rattle.program_timer_lines.proofs.after_word.Goals as goal

pub returns-then-not-starts_with : goal.returns-then-not-starts_with
returns-then-not-starts_with c =
    let a = c.args in
    begun a.input.now a.from a.word.now _ c.min.ensures c.starts_with.ensures.value ∙ c.if-not-starts_with.true

pub returns : goal.returns
returns c =
    let a = c.args in
    (begun a.input.now a.from a.word.now _ c.min.ensures c.starts_with.ensures.value ∙ c.if-not-starts_with.false, refl)
