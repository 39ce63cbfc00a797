-- `list_names::capitals_before_zeros` meets its contract: the three tests. Assumes nothing.
use borrow.Author.Tests.{le-leb}
use Rattle.std.proofs.lemmas.Bool.{eqb-false}
use Rattle.std.proofs.Common.{rules, arith, ◌≡◌, true, leb, length, sym, ◌∙◌}
use Rattle.std.proofs.lemmas.Iterator.{YieldsList-from_slice}
use Rattle.std.proofs.lemmas.Iterator.Search.{all_from_yields_List}
use Rattle.questions.specs.Tests.{all}
use Rattle.list_definitions.specs.Names.{is_capital}
use Rattle.list_names.specs.Parts.{is_zero}
use Rattle.list_names.proofs.capitals_before_zeros.Goals as goal

pub returns-then-capitals : goal.returns-then-capitals
returns-then-capitals c =
    let letters = c.args.letters.now in
    let capitals = all_from_yields_List is_capital _ _ _ c.all-capitals.ensures.ran (YieldsList-from_slice letters c.iter.ensures.rest) (λ x b q k. search rules) in
    let zeros = all_from_yields_List is_zero _ _ _ c.all-zeros.ensures.ran (YieldsList-from_slice c.args.filling.now c.iter-2.ensures.rest) (λ x b q k. search rules) in
    let some : leb 1 (length letters) ≡ true = le-leb 1 (length letters) (omega (arith, eqb-false (length letters) 0 (sym c.is_empty-some_letter.ensures ∙ c.if-capitals.true.0))) in
    let each : all is_capital letters ≡ true = sym capitals ∙ c.if-capitals.true.1 in
    rw (some, each) zeros
