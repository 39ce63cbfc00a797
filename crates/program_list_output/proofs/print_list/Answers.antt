-- `program_list_output::print_list` meets its contract: by Listing's answer in the names of the fixed table, the refusal, or the listing and the count line.
-- Assumes nothing.
use native.Mathlib.Omega.{arith}
use mathlib.Core.Path.{refl, sym}
use lib.Seq.{length-take-le}
use Rattle.questions.proofs.Laws.Answers.{err_passed}
use Rattle.program_list_output.proofs.Prints.{with_fixed, list_refused_lem, list_room, list_long, list_written_lem}
use Rattle.program_list_output.proofs.print_list.Goals as goal

pub returns-in_err-n : goal.returns-in_err-n
returns-in_err-n c = rw (err_passed c.from_residual.ensures.1) (list_refused_lem _ _ _ (with_fixed c.put_fixed_names.ensures refl _ _ _ _ c.listing.ensures) _ c.in_err-n.was _ _)

pub slice_bounds-listing-end-3 : goal.slice_bounds-listing-end-3
slice_bounds-listing-end-3 c =
    let r = list_room _ _ _ (with_fixed c.put_fixed_names.ensures refl _ _ _ _ c.listing.ensures) _ c.in_ok-n.was in
    omega (arith, r, c.listing.auto.out)

pub slice_bounds-put_text-end : goal.slice_bounds-put_text-end
slice_bounds-put_text-end c =
    let r = list_room _ _ _ (with_fixed c.put_fixed_names.ensures refl _ _ _ _ c.listing.ensures) _ c.in_ok-n.was in
    sym (length-take-le _ _ (omega (arith, r, c.listing.auto.out)))

pub put_text-end-requires : goal.put_text-end-requires
put_text-end-requires c =
    let h = list_long _ _ _ (with_fixed c.put_fixed_names.ensures refl _ _ _ _ c.listing.ensures) _ c.in_ok-n.was c.listing.auto.out in
    (omega arith, omega (arith, h))

pub put_counts-requires : goal.put_counts-requires
put_counts-requires c =
    let h = list_long _ _ _ (with_fixed c.put_fixed_names.ensures refl _ _ _ _ c.listing.ensures) _ c.in_ok-n.was c.listing.auto.out in
    omega (arith, h, c.put_text-end.ensures.end)

pub returns : goal.returns
returns c = list_written_lem _ _ _ (with_fixed c.put_fixed_names.ensures refl _ _ _ _ c.listing.ensures) _ c.in_ok-n.was _ c.put_text-end.ensures c.put_counts.ensures
