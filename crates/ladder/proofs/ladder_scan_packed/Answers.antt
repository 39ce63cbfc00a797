-- `ladder::ladder_scan_packed` meets its contract: the questions' answer, and then the scan, which leaves as many numbers. Assumes nothing.
use Rattle.questions.proofs.Laws.Answers.{err_passed, verdict_refused, verdict_accepted}
use Rattle.ladder_scanning.proofs.Laws.Scans.{scan_fits}
use Rattle.ladder.proofs.Scans.{numbers_refused, scan_done}
use Rattle.ladder.proofs.ladder_scan_packed.Goals as goal

pub run-requires : goal.run-requires
run-requires c = scan_fits _ _ _ _ _ (verdict_accepted c.scan_questions.ensures c.in_ok-scan_questions.was)

pub returns-in_err-scan_questions : goal.returns-in_err-scan_questions
returns-in_err-scan_questions c = rw (err_passed c.from_residual.ensures.1) (numbers_refused _ _ _ _ _ _ _ (verdict_refused _ c.scan_questions.ensures c.in_err-scan_questions.was))

pub returns : goal.returns
returns c = scan_done _ _ _ _ _ _ _ _ _ _ _ _ _ (verdict_accepted c.scan_questions.ensures c.in_ok-scan_questions.was) c.run.auto.timers c.run.ensures
