-- `list_names::all_different` meets its contract. The loop's invariant: the names that are left are different just when all are. Assumes nothing.
use native.Mathlib.Omega.{arith}
use Rattle.std.proofs.lemmas.Bool.{eqb-false}
use Rattle.std.proofs.Common.{rules, eqb-true, sym, ◌∙◌, ◌<◌, length, take}
use Rattle.std.proofs.lemmas.Iterator.Search.{all_from_yields_List}
use Rattle.questions.proofs.Laws.Bytes.{same_is}
use Rattle.list_names.specs.Parts.{apart}
use Rattle.list_names.proofs.Chunks.{names_yielded}
use Rattle.list_names.proofs.Tables.{differing_stop, differing_more, differing_end}
use Rattle.list_names.proofs.all_different.Goals as goal

pub returns-then-repeated : goal.returns-then-repeated
returns-then-repeated c =
    let left = c.loop-left.left.now in
    let some : 0 < length left = omega (arith, eqb-false (length left) 0 (sym c.is_empty.ensures ∙ c.loop-left-test.true)) in
    let names = rw c.split_at.ensures.back at (names_yielded {s = c.chunks_exact.result} _ c.chunks_exact.ensures.rest c.chunks_exact.ensures.size) in
    let asked = all_from_yields_List (apart (take 6 left)) _ _ _ c.all-repeated.ensures.ran names (λ x b q k. rw (same_is x.now (take 6 left), ← c.split_at.ensures.front) (search rules)) in
    differing_stop c.loop-left.invariant some _ asked c.if-repeated.true

pub loop-left-preserved : goal.loop-left-preserved
loop-left-preserved c =
    let left = c.loop-left.left.now in
    let some : 0 < length left = omega (arith, eqb-false (length left) 0 (sym c.is_empty.ensures ∙ c.loop-left-test.true)) in
    let names = rw c.split_at.ensures.back at (names_yielded {s = c.chunks_exact.result} _ c.chunks_exact.ensures.rest c.chunks_exact.ensures.size) in
    let asked = all_from_yields_List (apart (take 6 left)) _ _ _ c.all-repeated.ensures.ran names (λ x b q k. rw (same_is x.now (take 6 left), ← c.split_at.ensures.front) (search rules)) in
    rw c.split_at.ensures.back (differing_more c.loop-left.invariant some _ asked c.if-repeated.false)

pub returns : goal.returns
returns c = differing_end c.loop-left.invariant (eqb-true _ _ (sym c.is_empty.ensures ∙ c.loop-left-test.false))
