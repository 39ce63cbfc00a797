-- `ladder_scanning::scan` meets its contract. The loop's invariant: the scan from the rung that comes next is the whole scan. The measure is what is left
-- before the watchdog. Each rung adds to the sum as many as there are words, at most, and so it stays below 2^32. Assumes nothing.
use native.Mathlib.Omega.{arith}
use Rattle.rungs.proofs.Laws.Search.{ends_at}
use Rattle.ladder_walk.proofs.Walks.{same_lent, lent_after}
use Rattle.ladder_scanning.proofs.Laws.Scanning.{scanning_first, scan_ended, scan_stopped, scan_onward, scan_jumped}
use Rattle.ladder_scanning.proofs.scan.Goals as goal

pub loop-rung-init : goal.loop-rung-init
loop-rung-init c = record { scanning = scanning_first _ _ _ _ _ c.requires.none_turned; same = same_lent _ }

pub returns-then-labels-rung : goal.returns-then-labels-rung
returns-then-labels-rung c = record { scanned = scan_ended _ _ _ _ _ _ _ _ c.loop-rung.invariant.scanning c.if-labels-rung.true; same = c.loop-rung.invariant.same }

pub returns-then-entered-watchdog : goal.returns-then-entered-watchdog
returns-then-entered-watchdog c = record {
  scanned = scan_stopped _ _ _ _ _ _ _ _ c.loop-rung.invariant.scanning c.if-labels-rung.false c.if-entered-watchdog.true;
  same = c.loop-rung.invariant.same;
}

pub overflow_add-entered : goal.overflow_add-entered
overflow_add-entered c = omega (arith, c.loop-rung.invariant.scanning.within)

pub run_rung-requires : goal.run_rung-requires
run_rung-requires c =
    let i = c.loop-rung.invariant.scanning in
    let limits = c.requires.limits in
    omega (arith, i.within, i.few, c.if-entered-watchdog.false, limits.words, limits.rungs)

pub loop-rung-smaller-in-Onward : goal.loop-rung-smaller-in-Onward
loop-rung-smaller-in-Onward c = omega (arith, c.loop-rung.invariant.scanning.within)

pub loop-rung-preserved-in-Onward : goal.loop-rung-preserved-in-Onward
loop-rung-preserved-in-Onward c = record {
  scanning = scan_onward _ _ _ _ _ _ _ _ c.loop-rung.invariant.scanning c.requires.limits.words c.if-labels-rung.false c.if-entered-watchdog.false _ c.at_or-start.ensures _ _ c.run_rung.ensures.ran _ c.in-Onward.is;
  same = lent_after c.loop-rung.invariant.same c.run_rung.ensures.same;
}

pub loop-rung-smaller : goal.loop-rung-smaller
loop-rung-smaller c = omega (arith, c.loop-rung.invariant.scanning.within)

pub loop-rung-preserved : goal.loop-rung-preserved
loop-rung-preserved c = record {
  scanning = scan_jumped _ _ _ _ _ _ _ _ c.loop-rung.invariant.scanning c.requires.limits.words c.if-labels-rung.false c.if-entered-watchdog.false _ c.at_or-start.ensures _ _ c.run_rung.ensures.ran _ _ c.in-Jumped.is
      (ends_at _ _ _ _ c.search_label.ensures c.place_of-rung.ensures);
  same = lent_after c.loop-rung.invariant.same c.run_rung.ensures.same;
}
