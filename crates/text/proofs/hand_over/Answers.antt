-- `text::hand_over` meets its contract: questions 4 to 9 by `ladder_answer`, question 13 of all buffers, and then the copies. Assumes nothing.
use Rattle.std.proofs.Common.{sym, ◌∙◌}
use Rattle.questions.proofs.Laws.Answers.{err_passed, verdict_refused, verdict_accepted}
use Rattle.text.proofs.Answers.{over_refused, over_short, over_kept}
use Rattle.text.proofs.hand_over.Goals as goal

pub returns-in_err-ladder_answer-clause-read : goal.returns-in_err-ladder_answer-clause-read
returns-in_err-ladder_answer-clause-read c = rw (err_passed c.from_residual.ensures.1) (over_refused _ _ _ _ (verdict_refused _ c.ladder_answer.ensures c.in_err-ladder_answer.was))

pub returns-then-not-has_room-clause-read : goal.returns-then-not-has_room-clause-read
returns-then-not-has_room-clause-read c = over_short _ _ _ (verdict_accepted c.ladder_answer.ensures c.in_ok-ladder_answer.was) c.requires (sym c.has_room.ensures ∙ c.if-not-has_room.true)

pub returns-clause-read : goal.returns-clause-read
returns-clause-read c = over_kept _ _ _ (verdict_accepted c.ladder_answer.ensures c.in_ok-ladder_answer.was) c.requires (sym c.has_room.ensures ∙ c.if-not-has_room.false) _ c.put.ensures.put
