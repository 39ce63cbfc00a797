-- `rows::look_up` meets its contract: `position` gives the place of the first record that has the label.
use Rattle.std.proofs.Common.{rules, sym, ◌∙◌}
use Rattle.std.proofs.lemmas.Iterator.{YieldsList-from_slice}
use Rattle.std.proofs.lemmas.Iterator.Search.{position_from_yields_List}
use Rattle.rows.proofs.Searches.{has, looked_up, not_looked_up}
use Rattle.rows.proofs.look_up.Goals as goal

pub returns-in-Some : goal.returns-in-Some
returns-in-Some c =
    looked_up _ _ _ (sym c.in-Some.is ∙ position_from_yields_List (has c.args.label) _ _ _ c.position.ensures.ran (YieldsList-from_slice c.args.row.now (cc)) (λ x b q k. search rules))

pub returns-in-None : goal.returns-in-None
returns-in-None c =
    not_looked_up _ _ (sym c.in-None.is ∙ position_from_yields_List (has c.args.label) _ _ _ c.position.ensures.ran (YieldsList-from_slice c.args.row.now (cc)) (λ x b q k. search rules))
