-- `list::list_scan` meets its contract: slices that cannot be packed are refused; others are packed, and what the scan leaves is unpacked. Assumes nothing.
use mathlib.Core.Path.{sym, ◌∙◌}
use lib.Dec.{leb→le}
use lib.Seq.{length-take-le}
use Rattle.timers.proofs.Laws.Columns.{same_slices, columns_stored}
use Rattle.list.proofs.Slices.{packable, inside, inside_after, slices_variables, slices_timers, unpackable, unpacked}
use Rattle.list.proofs.list_scan.Goals as goal

pub returns-then-not-vars_in_range : goal.returns-then-not-vars_in_range
returns-then-not-vars_in_range c = record { scanned = slices_variables _ _ _ _ _ _ _ _ (sym c.can_pack.ensures ∙ c.if-not-can_pack.true) (sym c.vars_in_range.ensures ∙ c.if-not-vars_in_range.true); same = same_slices _ }

pub returns-then-not-can_pack : goal.returns-then-not-can_pack
returns-then-not-can_pack c = record { scanned = slices_timers _ _ _ _ _ _ _ _ (sym c.can_pack.ensures ∙ c.if-not-can_pack.true) (sym c.vars_in_range.ensures ∙ c.if-not-vars_in_range.false); same = same_slices _ }

pub pack-n-requires : goal.pack-n-requires
pack-n-requires c = packable _ (sym c.can_pack.ensures ∙ c.if-not-can_pack.false) _ (leb→le 160 _ tt)

pub slice_bounds-numbers-end : goal.slice_bounds-numbers-end
slice_bounds-numbers-end c = inside _ (sym c.can_pack.ensures ∙ c.if-not-can_pack.false) _ _ c.pack-n.ensures c.pack-n.auto.timers

pub slice_bounds-list_scan_packed-end : goal.slice_bounds-list_scan_packed-end
slice_bounds-list_scan_packed-end c = sym (length-take-le _ _ (inside _ (sym c.can_pack.ensures ∙ c.if-not-can_pack.false) _ _ c.pack-n.ensures c.pack-n.auto.timers))

pub slice_bounds-numbers-end-2 : goal.slice_bounds-numbers-end-2
slice_bounds-numbers-end-2 c = inside_after _ (sym c.can_pack.ensures ∙ c.if-not-can_pack.false) _ _ c.pack-n.ensures c.pack-n.auto.timers c.list_scan_packed-answer.new.timers _ c.list_scan_packed-answer.auto.timers

pub slice_bounds-unpack-end : goal.slice_bounds-unpack-end
slice_bounds-unpack-end c = sym (length-take-le _ _ (inside_after _ (sym c.can_pack.ensures ∙ c.if-not-can_pack.false) _ _ c.pack-n.ensures c.pack-n.auto.timers c.list_scan_packed-answer.new.timers _ c.list_scan_packed-answer.auto.timers))

pub unpack-requires : goal.unpack-requires
unpack-requires c = unpackable _ _ _ _ _ _ _ _ (sym c.can_pack.ensures ∙ c.if-not-can_pack.false) _ _ c.pack-n.ensures c.pack-n.auto.timers _ _ _ _ c.list_scan_packed-answer.auto.timers c.list_scan_packed-answer.ensures _

pub returns : goal.returns
returns c =
    let unpack = c.unpack.ensures in
    record {
      scanned = rw (columns_stored c.args.columns.now c.unpack.new.self unpack.same)
          (unpacked _ _ _ _ _ _ _ _ (sym c.can_pack.ensures ∙ c.if-not-can_pack.false) _ _ c.pack-n.ensures c.pack-n.auto.timers _ _ _ _ c.list_scan_packed-answer.auto.timers c.list_scan_packed-answer.ensures _ _ _ _ unpack.unpacked);
      same = unpack.same;
    }
