-- `both_scans::both_scans` meets its contract: the definition's equation, and demand 3 from its theorem. Assumes nothing.
use Rattle.both_scans.proofs.Boths.{both_promise}
use Rattle.both_scans.proofs.both_scans.Goals as goal

pub returns-clause-both_scans_done : goal.returns-clause-both_scans_done
returns-clause-both_scans_done c = (both_promise _ _ _ _ _ _ _ _ c.scan_both.ensures.both_scans_done).0

pub returns-clause-both_promise : goal.returns-clause-both_promise
returns-clause-both_promise c = (both_promise _ _ _ _ _ _ _ _ c.scan_both.ensures.both_scans_done).1
