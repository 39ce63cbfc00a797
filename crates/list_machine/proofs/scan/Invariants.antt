-- `list_machine::scan`, its loop: a scan from where the machine stands is the scan from the start, and each turn leaves fewer instructions to the watchdog.
use Rattle.std.proofs.Common.{◌-◌}
use Rattle.list_machine.proofs.Laws.Runs.{Standing}
use Rattle.list_machine.proofs.scan.Given as goal

abbrev pub invariant-loop-place : goal.invariant-loop-place
invariant-loop-place l = Standing l.code l.offsets l.fn.times l.fn.state l.watchdog l.times l.state l.m l.place

abbrev pub decreases-loop-place : goal.decreases-loop-place
decreases-loop-place l = l.watchdog - l.m.instructions
