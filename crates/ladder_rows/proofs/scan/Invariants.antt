-- `ladder_rows::scan` meets its contract. The loop's invariant: the scan from the rung that comes next is the whole scan. The measure is what is left before the watchdog.
use Rattle.std.proofs.Common.{◌-◌}
use Rattle.table.specs.Parts.{state_in}
use Rattle.rungs.specs.Records.{labels, offsets}
use Rattle.rows.specs.Rows.{records_of}
use Rattle.ladder_walk.specs.Walking.{SameLent}
use Rattle.ladder_scanning.proofs.Laws.Scanning.{Scanning}
use Rattle.ladder_rows.proofs.scan.Given as goal

abbrev pub invariant-loop-rung : goal.invariant-loop-rung
invariant-loop-rung l = record {
  scanning : Scanning l.words (labels (records_of l.row)) (offsets (records_of l.row)) (state_in l.initial.state) l.watchdog (state_in l.state) l.entered l.place;
  same : SameLent l.initial.state l.state;
}

abbrev pub decreases-loop-rung : goal.decreases-loop-rung
decreases-loop-rung l = l.watchdog - l.entered
