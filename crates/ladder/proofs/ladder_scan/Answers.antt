-- `ladder::ladder_scan` meets its contract: slices that cannot be packed are refused, and others are packed, scanned and unpacked. Assumes nothing.
use native.Mathlib.Omega.{arith}
use mathlib.Core.Path.{sym, ◌∙◌}
use Rattle.timers.proofs.Laws.Columns.{can_pack_lem, same_slices, columns_stored}
use Rattle.ladder.proofs.Scans.{columns_refused1, columns_refused16, packed_fits, packed_long, part_fits, part_long, part_unpackable, columns_scanned}
use Rattle.ladder.proofs.ladder_scan.Goals as goal

pub returns-else-vars_in_range : goal.returns-else-vars_in_range
returns-else-vars_in_range c = record { scanned = columns_refused1 _ _ _ _ _ _ (sym c.can_pack.ensures ∙ c.if-not-can_pack.true) (sym c.vars_in_range.ensures ∙ c.if-vars_in_range.false); same = same_slices _ }

pub returns-then-vars_in_range : goal.returns-then-vars_in_range
returns-then-vars_in_range c = record { scanned = columns_refused16 _ _ _ _ _ _ (sym c.can_pack.ensures ∙ c.if-not-can_pack.true) (sym c.vars_in_range.ensures ∙ c.if-vars_in_range.true); same = same_slices _ }

pub pack-n-requires : goal.pack-n-requires
pack-n-requires c = let h = (can_pack_lem _ (sym c.can_pack.ensures ∙ c.if-not-can_pack.false)) in record { one = h.0; few = h.1; room = omega (arith, h.1) }

pub slice_bounds-numbers-end : goal.slice_bounds-numbers-end
slice_bounds-numbers-end c = packed_fits _ _ _ c.pack-n.ensures (sym c.can_pack.ensures ∙ c.if-not-can_pack.false) c.pack-n.auto.timers

pub slice_bounds-ladder_scan_packed-end : goal.slice_bounds-ladder_scan_packed-end
slice_bounds-ladder_scan_packed-end c = packed_long _ _ _ c.pack-n.ensures (sym c.can_pack.ensures ∙ c.if-not-can_pack.false) c.pack-n.auto.timers

pub slice_bounds-numbers-end-2 : goal.slice_bounds-numbers-end-2
slice_bounds-numbers-end-2 c = part_fits _ _ _ _ _ _ _ _ c.pack-n.ensures (sym c.can_pack.ensures ∙ c.if-not-can_pack.false) _ _ _ c.ladder_scan_packed-scanned.ensures _

pub slice_bounds-unpack-end : goal.slice_bounds-unpack-end
slice_bounds-unpack-end c = part_long _ _ _ _ _ _ _ _ c.pack-n.ensures (sym c.can_pack.ensures ∙ c.if-not-can_pack.false) _ _ _ c.ladder_scan_packed-scanned.ensures _

pub unpack-requires : goal.unpack-requires
unpack-requires c = part_unpackable _ _ _ _ _ _ _ _ c.pack-n.ensures (sym c.can_pack.ensures ∙ c.if-not-can_pack.false) _ _ _ c.ladder_scan_packed-scanned.ensures _

pub returns : goal.returns
returns c =
    let unpack = c.unpack.ensures in
    record {
      scanned = rw (columns_stored c.args.columns.now c.unpack.new.self unpack.same)
          (columns_scanned _ _ _ _ _ _ _ _ c.pack-n.ensures (sym c.can_pack.ensures ∙ c.if-not-can_pack.false) _ _ _ c.ladder_scan_packed-scanned.ensures _ _ _ _ unpack.unpacked);
      same = unpack.same;
    }
