-- `text::read` meets its contract: questions 1 and 2, all lines, question 5 over what they take, and `hand_over` for the rest. Assumes nothing.
use lib.Seq.{length-take-le}
use mathlib.Core.Path.{◌≡◌, refl, sym, ◌∙◌}
use Rattle.std.proofs.Common.{rules}
use Rattle.rungs.specs.Buffers.{columns_in, first_columns, columns_of, buffers_in}
use native.Mathlib.Omega.{arith}
use Rattle.text.proofs.Answers.{fits_room, read_refused_1, read_refused_2, read_stuck, read_too_large, first_zeros, read_done}
use Rattle.text.proofs.read.Goals as goal

pub returns-then-not-vars_in_range-clause-read : goal.returns-then-not-vars_in_range-clause-read
returns-then-not-vars_in_range-clause-read c = read_refused_1 _ _ _ (sym c.vars_in_range.ensures ∙ c.if-not-vars_in_range.true)

pub returns-then-not-length_in_range-clause-read : goal.returns-then-not-length_in_range-clause-read
returns-then-not-length_in_range-clause-read c = read_refused_2 _ _ _ (sym c.vars_in_range.ensures ∙ c.if-not-vars_in_range.false) (sym c.length_in_range.ensures ∙ c.if-not-length_in_range.true)

pub returns-in-Err-clause-read : goal.returns-in-Err-clause-read
returns-in-Err-clause-read c =
    read_stuck _ _ _ (sym c.vars_in_range.ensures ∙ c.if-not-vars_in_range.false) (sym c.length_in_range.ensures ∙ c.if-not-length_in_range.false)
    _ _ _ c.lines.ensures.kept _ c.in-Err.is

pub returns-then-not-sizes_in_range-clause-read : goal.returns-then-not-sizes_in_range-clause-read
returns-then-not-sizes_in_range-clause-read c =
    read_too_large _ _ _ (sym c.vars_in_range.ensures ∙ c.if-not-vars_in_range.false) (sym c.length_in_range.ensures ∙ c.if-not-length_in_range.false)
    _ _ _ c.lines.ensures.kept _ c.in-Ok.is (sym c.sizes_in_range.ensures ∙ c.if-not-sizes_in_range.true)

pub first-requires : goal.first-requires
first-requires c =
    let r = fits_room _ (sym c.sizes_in_range.ensures ∙ c.if-not-sizes_in_range.false) in
    (omega (arith, r.words), (omega (arith, r.rungs), (omega (arith, r.rungs), omega (arith, r.rungs))))

pub slice_bounds-times-end : goal.slice_bounds-times-end
slice_bounds-times-end c = omega (arith, (fits_room _ (sym c.sizes_in_range.ensures ∙ c.if-not-sizes_in_range.false)).rungs)

pub slice_bounds-hand_over-end : goal.slice_bounds-hand_over-end
slice_bounds-hand_over-end c = sym (length-take-le _ _ (omega (arith, (fits_room _ (sym c.sizes_in_range.ensures ∙ c.if-not-sizes_in_range.false)).rungs)))

pub hand_over-requires : goal.hand_over-requires
hand_over-requires c =
    let r = fits_room _ (sym c.sizes_in_range.ensures ∙ c.if-not-sizes_in_range.false) in
    first_zeros c.in-Ok.sizes _ c.first.result c.first.ensures (omega (arith, r.rungs)) (omega (arith, r.rungs))

pub returns-clause-read : goal.returns-clause-read
returns-clause-read c =
    let kept : columns_in c.first.result ≡ first_columns c.in-Ok.sizes.words c.in-Ok.sizes.rungs (columns_of (buffers_in c.lines.new.buffers)) = search rules in
    read_done _ _ _ (sym c.vars_in_range.ensures ∙ c.if-not-vars_in_range.false) (sym c.length_in_range.ensures ∙ c.if-not-length_in_range.false)
    _ _ _ c.lines.ensures.kept _ c.in-Ok.is (sym c.sizes_in_range.ensures ∙ c.if-not-sizes_in_range.false)
    (record { words = refl; labels = refl; offsets = refl; lengths = refl }) c.first.result kept _ _ c.hand_over.ensures.read
