-- `list_printing::put_name` meets its contract: the letters before a name's first zero are the name. Assumes nothing.
use Rattle.std.proofs.Common.{rules, arith, ◌+◌, ◌-◌, ◌*◌, eqb}
use Rattle.std.proofs.lemmas.Iterator.{YieldsList-from_slice}
use Rattle.std.proofs.lemmas.Iterator.Search.{position_from_yields_List}
use Rattle.printing.proofs.Laws.Puts.{put_as}
use Rattle.list_printing.proofs.Printed.{name_taken}
use Rattle.list_printing.proofs.put_name.Goals as goal

pub returns : goal.returns
returns c =
    let from = (c.args.op - 1) * 6 in
    let first = position_from_yields_List (λ b. eqb b 0) _ _ _ c.position.ensures.ran (YieldsList-from_slice _ c.iter.ensures.rest) (λ x b q k. search rules) in
    let taken = name_taken c.args.names.now c.args.op (from + 6 - from) c.requires.1 c.requires.2 c.requires.3 (omega arith) in
    put_as taken (rw (c.unwrap_or-letters.ensures, first) at c.put_text.ensures)
