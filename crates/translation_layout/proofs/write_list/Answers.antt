-- `translation_layout::write_list` meets its contract. The loop's invariant: the rungs before are written.
use Rattle.std.proofs.Common.{refl, arith, rules}
use Rattle.translation_layout.proofs.Laying.{rung_ready}
use Rattle.translation_layout.proofs.Writing.{writing_first, room, few_more, writing_more, written_all}
use Rattle.translation_layout.proofs.write_list.Goals as goal

pub loop-rung-init : goal.loop-rung-init
loop-rung-init c = record { written = writing_first _ _ _ _ _ _; times = refl; same = search rules }

pub rung_code-after-requires : goal.rung_code-after-requires
rung_code-after-requires c = rung_ready _ _ _ _ _ _ c.loop-rung.invariant.written.put_before _ c.requires _

pub bounds-ladder-rung : goal.bounds-ladder-rung
bounds-ladder-rung c = (room _ _ _ _ _ _ _ _ _ c.loop-rung.invariant.written c.requires c.loop-rung-test.true).1

pub overflow_cast-put : goal.overflow_cast-put
overflow_cast-put c = let h = (room _ _ _ _ _ _ _ _ _ c.loop-rung.invariant.written c.requires c.loop-rung-test.true).0 in omega arith

pub overflow_cast-after : goal.overflow_cast-after
overflow_cast-after c = let h = few_more _ _ _ _ _ _ _ _ _ c.loop-rung.invariant.written c.loop-rung-test.true _ refl _ _ c.rung_code-after.ensures c.requires in omega arith

pub loop-rung-preserved : goal.loop-rung-preserved
loop-rung-preserved c =
    record {
      written =
          writing_more _ _ _ _ _ _ _ _ _ c.loop-rung.invariant.written c.loop-rung-test.true _ refl _ _ c.rung_code-after.ensures _ refl
          c.put.ensures c.put-in-loop-rung.ensures c.put-in-loop-rung-2.ensures;
      times = search rules;
      same = search rules;
    }

pub returns-clause-put : goal.returns-clause-put
returns-clause-put c = written_all _ _ _ _ _ _ _ _ _ c.loop-rung.invariant.written c.loop-rung-test.false
