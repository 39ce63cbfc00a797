-- `ladder_scanning::scan` meets its contract. The loop's invariant: the scan from the rung that comes next is the whole scan. The measure is what is left
-- before the watchdog. Each rung adds to the sum as many as there are words, at most, and so it stays below 2^32. Assumes nothing.
use Prim.Native.Nat.{◌-◌}
use Rattle.table.specs.Parts.{state_in}
use Rattle.ladder_walk.specs.Walking.{SameLent}
use Rattle.ladder_scanning.proofs.Laws.Scanning.{Scanning}
use Rattle.ladder_scanning.proofs.scan.Given as goal

abbrev pub invariant-loop-rung : goal.invariant-loop-rung
invariant-loop-rung l = record {
  scanning : Scanning l.words l.labels l.offsets (state_in l.initial.state) l.watchdog (state_in l.state) l.entered l.rung;
  same : SameLent l.initial.state l.state;
}

abbrev pub decreases-loop-rung : goal.decreases-loop-rung
decreases-loop-rung l = l.watchdog - l.entered
