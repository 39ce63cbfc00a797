-- `ladder_names::first_failing` meets its contract. The loop's invariant: the words left are those of the rungs from `rung` on, and the rungs
-- before passed. Assumes nothing.
use Rattle.std.proofs.Common.{◌+◌, sym, ap, subst, ◌∙◌, refl, arith}
use Rattle.std.proofs.lemmas.Fn.{says_at}
use Rattle.ladder_names.proofs.Asked.{Walked, walk_start, walk_failed, walk_more, walk_end}
use Rattle.ladder_names.proofs.first_failing.Goals as goal

pub loop-rung-init : goal.loop-rung-init
loop-rung-init g c = λ test k. walk_start test _ _

pub returns-then-not-passes : goal.returns-then-not-passes
returns-then-not-passes g c = record {
  same = λ test k.
      walk_failed (c.loop-rung.invariant test k) (omega arith) c.min.ensures
      (sym (ap test c.split_at.ensures.front) ∙ sym (k _ _ (says_at g.F.Fn c.passes.ensures refl)) ∙ c.if-not-passes.true);
}

pub loop-rung-preserved : goal.loop-rung-preserved
loop-rung-preserved g c = λ test k.
    subst (λ r. Walked test c.args.words.now c.args.lengths.now r (c.loop-rung.rung + 1)) (sym c.split_at.ensures.back)
    (walk_more (c.loop-rung.invariant test k) (omega arith) c.min.ensures
    (sym (ap test c.split_at.ensures.front) ∙ sym (k _ _ (says_at g.F.Fn c.passes.ensures refl)) ∙ c.if-not-passes.false))

pub returns : goal.returns
returns g c = record { same = λ test k. walk_end (c.loop-rung.invariant test k) (omega arith) }
