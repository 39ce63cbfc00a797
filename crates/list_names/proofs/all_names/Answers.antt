-- `list_names::all_names` meets its contract: the chunks of six bytes are the names. Assumes nothing.
use Rattle.std.proofs.Common.{◌≡◌, length, arith, ◌/◌, rules}
use Rattle.std.proofs.lemmas.Iterator.Search.{all_from_yields_List}
use Rattle.list_definitions.specs.Names.{is_name}
use Rattle.list_names.proofs.Chunks.{names_yielded}
use Rattle.list_names.proofs.all_names.Goals as goal

pub returns : goal.returns
returns c =
    let many : length c.args.table.now / 6 ≡ 17 = omega (arith, c.requires) in
    let names = rw many at (names_yielded {s = c.chunks_exact.result} c.args.table.now c.chunks_exact.ensures.rest c.chunks_exact.ensures.size) in
    all_from_yields_List is_name _ _ _ c.all.ensures.ran names (λ x b q k. search rules)
