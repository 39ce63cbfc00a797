-- `both_scans::scan_written` meets its contract: the promises of the copies and of both scans, put together. Assumes nothing.
use Rattle.both_parts.specs.Parts.{memory}
use Rattle.both_scans.proofs.Boths.{end_few, scans_ran}
use Rattle.both_scans.proofs.scan_written.Goals as goal

pub list_watchdog-requires : goal.list_watchdog-requires
list_watchdog-requires c = (rw c.unwrap_or-ladder_halt.ensures (end_few _ _ _ _ _ _ _ c.ladder_scan_packed.ensures.done.answer c.requires.1), c.requires.0, c.requires.1)

pub returns-clause-run : goal.returns-clause-run
returns-clause-run c = scans_ran _ _ _ _ _ _ _ _ (memory _ _) (memory _ _) c.fill.ensures.copied c.fill-2.ensures.copied _ (memory _ _) c.ladder_scan_packed.ensures _ c.unwrap_or-ladder_halt.ensures _ c.list_watchdog.ensures _ (memory _ _) _ _ c.list_scan_packed.ensures _ c.unwrap_or-list_halt.ensures
