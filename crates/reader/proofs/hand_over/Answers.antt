-- `reader::hand_over` meets its contract: question 10 by `list_answer`, question 13 by `has_room`, and then the copies. Assumes nothing.
use mathlib.Core.Path.{sym, ◌∙◌}
use Rattle.questions.proofs.Laws.Answers.{verdict_refused, verdict_accepted, err_passed}
use Rattle.reader.proofs.Answers.{over_refused, over_short, over_put}
use Rattle.reader.proofs.hand_over.Goals as goal

pub returns-in_err-list_answer-clause-read : goal.returns-in_err-list_answer-clause-read
returns-in_err-list_answer-clause-read c =
    rw (err_passed c.from_residual.ensures.1) (over_refused _ _ _ _ _ (verdict_refused _ c.list_answer.ensures c.in_err-list_answer.was))

pub returns-then-not-has_room-clause-read : goal.returns-then-not-has_room-clause-read
returns-then-not-has_room-clause-read c =
    over_short _ _ _ _ (verdict_accepted c.list_answer.ensures c.in_ok-list_answer.was) c.requires.0 c.requires.1 (sym c.has_room.ensures ∙ c.if-not-has_room.true)

pub returns-clause-read : goal.returns-clause-read
returns-clause-read c =
    over_put _ _ _ _ (verdict_accepted c.list_answer.ensures c.in_ok-list_answer.was) c.requires.0 c.requires.1
    (sym c.has_room.ensures ∙ c.if-not-has_room.false) _ c.put.ensures.put
