-- `translation_layout::lay_out` meets its contract. The loop's invariant: the rungs before are laid out.
use Rattle.std.proofs.Common.{refl, arith, rules}
use Rattle.translation_layout.proofs.Laying.{laying_first, room, rung_ready, laying_more, laid_all}
use Rattle.translation_layout.proofs.lay_out.Goals as goal

pub loop-rung-init : goal.loop-rung-init
loop-rung-init c = laying_first _ _ _ _ _

pub overflow_cast-starts : goal.overflow_cast-starts
overflow_cast-starts c = let h = (room _ _ _ _ _ _ _ _ _ c.loop-rung.invariant c.requires c.loop-rung-test.true).0 in omega arith

pub bounds-starts-rung : goal.bounds-starts-rung
bounds-starts-rung c = (room _ _ _ _ _ _ _ _ _ c.loop-rung.invariant c.requires c.loop-rung-test.true).1

pub rung_code-after-requires : goal.rung_code-after-requires
rung_code-after-requires c = rung_ready _ _ _ _ _ _ c.loop-rung.invariant.put_before _ c.requires _

pub loop-rung-preserved : goal.loop-rung-preserved
loop-rung-preserved c =
    laying_more _ _ _ _ _ _ _ _ _ c.loop-rung.invariant c.loop-rung-test.true _ refl _ _ _ _ _ c.rung_code-after.ensures _ (search rules)

pub returns : goal.returns
returns c = laid_all _ _ _ _ _ _ _ _ _ c.loop-rung.invariant c.loop-rung-test.false
