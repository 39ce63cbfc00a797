-- `translation::translate` meets its contract: questions 1 and 4 to 9 by `ladder_answer`, what the list takes, question 13 of all buffers, and then the list.
-- Assumes nothing.
use Rattle.std.proofs.Common.{arith, refl, sym, ap, ◌∙◌}
use Rattle.std.specs.Prelude.{length, replicate}
use Rattle.std.proofs.lemmas.List.Edits.{sets}
use Rattle.questions.proofs.Laws.Answers.{err_passed, verdict_refused, verdict_accepted}
use Rattle.translation.proofs.Answers.{translate_refused_lem, ready, short, translate_done}
use Rattle.translation.proofs.translate.Goals as goal

pub returns-in_err-ladder_answer-clause-written : goal.returns-in_err-ladder_answer-clause-written
returns-in_err-ladder_answer-clause-written c = rw (err_passed c.from_residual.ensures.1) (translate_refused_lem _ _ _ _ _ _ _ _ (verdict_refused _ c.ladder_answer.ensures c.in_err-ladder_answer.was))

pub lay_out-layout-requires : goal.lay_out-layout-requires
lay_out-layout-requires c = ready _ _ _ _ _ _ (verdict_accepted c.ladder_answer.ensures c.in_ok-ladder_answer.was) _ refl

pub returns-then-not-room-clause-written : goal.returns-then-not-room-clause-written
returns-then-not-room-clause-written c = short _ _ _ _ _ _ _ (verdict_accepted c.ladder_answer.ensures c.in_ok-ladder_answer.was) _ _ _ c.lay_out-layout.ensures (sym c.has_room-room.ensures ∙ c.if-not-room.true)

pub write_list-requires : goal.write_list-requires
write_list-requires c = ready _ _ _ _ _ _ (verdict_accepted c.ladder_answer.ensures c.in_ok-ladder_answer.was) _ (omega arith)

pub returns-clause-written : goal.returns-clause-written
returns-clause-written c =
    translate_done _ _ _ _ _ _ _ (verdict_accepted c.ladder_answer.ensures c.in_ok-ladder_answer.was) _ _ _ c.lay_out-layout.ensures (sym c.has_room-room.ensures ∙ c.if-not-room.false) refl
    _ c.write_list.ensures.put (c.put_zeros.ensures ∙ ap (λ l. sets l 0 (replicate (length c.args.ladder.offsets.now) 0)) c.write_list.ensures.times)
