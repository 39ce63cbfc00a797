-- `ladder_names::word_leads` meets its contract: the operand is searched where the kind has a label. Assumes nothing.
use Rattle.std.proofs.Common.{sym, ◌∙◌}
use Rattle.rungs.proofs.Laws.Search.{ends_at}
use Rattle.ladder_names.proofs.Asked.{leads_label, leads_other}
use Rattle.ladder_names.proofs.word_leads.Goals as goal

pub returns-then-not-names_label : goal.returns-then-not-names_label
returns-then-not-names_label c = leads_other _ _ _ _ c.names_label.ensures c.if-not-names_label.true

pub returns-else-not-names_label : goal.returns-else-not-names_label
returns-else-not-names_label c =
    leads_label _ _ _ _ (sym c.names_label.ensures ∙ c.if-not-names_label.false)
    (ends_at _ _ _ _ c.search_label.ensures c.place_of.ensures)
