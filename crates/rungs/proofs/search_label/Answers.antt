-- `rungs::search_label` meets its contract.
use Rattle.std.proofs.Common.{rules, ◌==◌}
use Rattle.std.proofs.lemmas.Iterator.{YieldsList-from_slice}
use Rattle.std.proofs.lemmas.Iterator.Search.{position_from_yields_List}
use Rattle.rungs.proofs.Laws.Search.{position_found, position_none}
use Rattle.rungs.proofs.search_label.Goals as goal

pub returns-in-Some : goal.returns-in-Some
returns-in-Some c =
    let p = position_from_yields_List (λ m. m == c.args.label) _ _ _ c.position.ensures.ran (YieldsList-from_slice c.args.labels.now (cc)) (λ x b q k. search rules) in
    position_found c.args.label c.args.labels.now c.in-Some.place (cc)

pub returns-in-None : goal.returns-in-None
returns-in-None c =
    let p = position_from_yields_List (λ m. m == c.args.label) _ _ _ c.position.ensures.ran (YieldsList-from_slice c.args.labels.now (cc)) (λ x b q k. search rules) in
    position_none c.args.label c.args.labels.now (cc)
