-- `list_names::is_name` meets its contract: the letters before the first zero, and what follows. Assumes nothing.
use Rattle.std.proofs.Common.{rules, eqb, ◌∙◌}
use Rattle.std.proofs.lemmas.Iterator.{YieldsList-from_slice}
use Rattle.std.proofs.lemmas.Iterator.Search.{position_from_yields_List}
use Rattle.list_names.proofs.Letters.{name_parts}
use Rattle.list_names.proofs.is_name.Goals as goal

pub returns : goal.returns
returns c =
    let name = c.args.name.now in
    let first = position_from_yields_List (λ b. eqb b 0) _ _ _ c.position.ensures.ran (YieldsList-from_slice name c.iter.ensures.rest) (λ x b q k. search rules) in
    c.capitals_before_zeros.ensures ∙ rw (c.split_at.ensures.front, c.split_at.ensures.back, c.unwrap_or-end.ensures, first) (name_parts name)
