-- `translation_code::start_of` meets its contract.
use Rattle.std.proofs.Common.{arith, ◌∙◌}
use Rattle.rungs.proofs.Laws.Search.{ends_at}
use Rattle.translation_code.proofs.Fronts.{start_read}
use Rattle.translation_code.proofs.start_of.Goals as goal

pub returns : goal.returns
returns c = (c.from.ensures ∙ c.at_or.ensures ∙ start_read _ _ _ _ (ends_at _ _ _ _ c.search_label.ensures c.place_of-rung.ensures), omega arith)
