-- `ladder_rows::scan` meets its contract. The loop's invariant: the scan from the rung that comes next is the whole scan. The measure is what is left before the watchdog.
use Rattle.std.proofs.Common.{◌≡◌, ◌<◌, ◌≤◌, ℕ, List, length, ap, sym, ◌∙◌, arith, rules}
use Rattle.std.proofs.Math.ListN.{get_or, get_or-map}
use Rattle.rungs.specs.Records.{RungRecord, labels, offsets}
use Rattle.rungs.proofs.Laws.Search.{ends_at}
use Rattle.rows.specs.Rows.{records_of, no_record, rung_at}
use Rattle.rows.specs.declared.Rung.{Rung}
use Rattle.rows.proofs.Laws.Records.{records_at, labels_length}
use Rattle.ladder_walk.proofs.Walks.{same_lent, lent_after}
use Rattle.ladder_scanning.proofs.Laws.Scanning.{scanning_first, scan_ended, scan_stopped, scan_onward, scan_jumped}
use Rattle.ladder_rows.proofs.scan.Goals as goal

module _ (row : List Rung) (i : ℕ) where
  inside : i < length row → i < length (labels (records_of row))
  inside h = let n = labels_length row in omega arith

  past : length row ≤ i → length (labels (records_of row)) ≤ i
  past h = let n = labels_length row in omega arith

  offset_at : (r : Rung) → r ≡ rung_at row i → r.offset ≡ get_or (offsets (records_of row)) i 0
  offset_at r e =
      ap (λ (r : Rung). r.offset) e ∙ sym (get_or-map (λ (r : RungRecord). r.offset) (records_of row) i no_record ∙ ap (λ (r : RungRecord). r.offset) (records_at row i))

pub loop-rung-init : goal.loop-rung-init
loop-rung-init c = record { scanning = scanning_first _ _ _ _ _ c.requires.none_turned; same = same_lent _ }

pub returns-then-entered-watchdog : goal.returns-then-entered-watchdog
returns-then-entered-watchdog c = record {
  scanned = scan_stopped _ _ _ _ _ _ _ _ c.loop-rung.invariant.scanning (inside c.args.row.now c.loop-rung.place (search rules)) c.if-entered-watchdog.true;
  same = c.loop-rung.invariant.same;
}

pub loop-rung-preserved-in-Onward : goal.loop-rung-preserved-in-Onward
loop-rung-preserved-in-Onward c = record {
  scanning = scan_onward _ _ _ _ _ _ _ _ c.loop-rung.invariant.scanning c.requires.limits.words (inside c.args.row.now c.loop-rung.place (search rules)) c.if-entered-watchdog.false
      _ (offset_at c.args.row.now c.loop-rung.place c.in-Some.rung.now (search rules)) _ _ c.run_rung.ensures.ran _ c.in-Onward.is;
  same = lent_after c.loop-rung.invariant.same c.run_rung.ensures.same;
}

pub loop-rung-preserved : goal.loop-rung-preserved
loop-rung-preserved c = record {
  scanning = scan_jumped _ _ _ _ _ _ _ _ c.loop-rung.invariant.scanning c.requires.limits.words (inside c.args.row.now c.loop-rung.place (search rules)) c.if-entered-watchdog.false
      _ (offset_at c.args.row.now c.loop-rung.place c.in-Some.rung.now (search rules)) _ _ c.run_rung.ensures.ran _ _ c.in-Jumped.is
      (ends_at _ _ _ _ c.look_up.ensures c.place_of-target.ensures);
  same = lent_after c.loop-rung.invariant.same c.run_rung.ensures.same;
}

pub returns : goal.returns
returns c = record {
  scanned = scan_ended _ _ _ _ _ _ _ _ c.loop-rung.invariant.scanning (past c.args.row.now c.loop-rung.place (search rules));
  same = c.loop-rung.invariant.same;
}
