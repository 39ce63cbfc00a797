-- `ladder_walk::front_at` meets its contract. The loop's invariant: what stands from `at` on is worked, and roots only are left before it. A second part
-- that is no contact is worked by the same function, from later words: the measure is what is left of the words.
use native.Mathlib.Omega.{arith}
use Rattle.ladder_walk.proofs.Roots.{climbing_first, climbing_within, climbing_more, climbing_end}
use Rattle.ladder_walk.proofs.+front_at.Goals as goal
use Rattle.ladder_walk.proofs.+front_at.Goals.{in-Some, in-None}

pub loop-at-init : goal.loop-at-init
loop-at-init t c = climbing_first c.first_contact-at.ensures c.contact_at.ensures c.unwrap_or-first.ensures

pub front_at-second-requires : goal.front_at-second-requires
front_at-second-requires t c =
    let w = climbing_within c.loop-at.invariant c.loop-at-test.true in
    (omega (arith, w.0, w.1), tt)

pub loop-at-preserved : goal.loop-at-preserved
loop-at-preserved t c =
    climbing_more c.loop-at.invariant c.loop-at-test.true _ c.at_or-kind.ensures _ _
    (elim c.match-contact_at.branch [
      | in-Some w ↦ rw w.second-is w.in-Some.ensures.cases
      | in-None w ↦ rw w.second-is w.front_at-second.ensures
    ]) _ c.joined.ensures

pub returns : goal.returns
returns t c = climbing_end c.loop-at.invariant c.loop-at-test.false
