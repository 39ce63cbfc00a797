-- `both_scans::paired_scans` meets its contract: the definition's equation, and demand 3 from its theorem. Assumes nothing.
use Rattle.both_scans.proofs.Boths.{paired_promise}
use Rattle.both_scans.proofs.paired_scans.Goals as goal

pub returns-clause-both_scans_done : goal.returns-clause-both_scans_done
returns-clause-both_scans_done c = (paired_promise _ _ _ _ _ _ _ c.scan_both.ensures.both_scans_done).0

pub returns-clause-paired_promise : goal.returns-clause-paired_promise
returns-clause-paired_promise c = (paired_promise _ _ _ _ _ _ _ c.scan_both.ensures.both_scans_done).1
