-- `list::list_scan_packed` meets its contract: the questions in order, and then the scan. Assumes nothing.
use Rattle.questions.proofs.Laws.Answers.{err_passed, verdict_refused, verdict_accepted}
use Rattle.list.proofs.Answers.{scan_refused, as_many, scanned_row}
use Rattle.list.proofs.list_scan_packed.Goals as goal

pub run-requires : goal.run-requires
run-requires c = as_many _ _ _ _ _ _ _ _ _ (verdict_accepted c.scan_questions.ensures c.in_ok-scan_questions.was)

pub returns-in_err-scan_questions : goal.returns-in_err-scan_questions
returns-in_err-scan_questions c = rw (err_passed c.from_residual.ensures.1) (scan_refused _ _ _ _ _ _ _ _ _ (verdict_refused _ c.scan_questions.ensures c.in_err-scan_questions.was))

pub returns : goal.returns
returns c = scanned_row _ _ _ _ _ _ _ _ _ (verdict_accepted c.scan_questions.ensures c.in_ok-scan_questions.was) _ _ _ _ _ c.run.auto.timers c.run.ensures
