-- `list_questions::timers_known` meets its contract: no word is past the last whose timer has a record. Assumes nothing.
use Rattle.std.proofs.Common.{rules, ◌&&◌, true, leb}
use Rattle.std.proofs.lemmas.Iterator.{YieldsList-from_slice}
use Rattle.std.proofs.lemmas.Iterator.Consumers.{fold_from_yields_List}
use Rattle.list_questions.proofs.Timers.{asked}
use Rattle.list_questions.proofs.timers_known.Goals as goal

pub returns : goal.returns
returns c =
    let last = c.last_known-last.result in
    asked _ _ last c.last_known-last.ensures
    (fold_from_yields_List _ (λ known word. known && leb word last) true _ c.fold.ensures.ran (YieldsList-from_slice c.args.code.now (cc)) (λ a x b q k. search rules))
