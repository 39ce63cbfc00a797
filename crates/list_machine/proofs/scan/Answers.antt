-- `list_machine::scan` meets its contract: the machine stands at first, a turn asks no more than it has, and leaves it standing; where it halts, the scan ends.
use Rattle.std.proofs.Common.{arith, refl, sym, ◌∙◌}
use Rattle.list_machine.specs.Parts.{first_place}
use Rattle.list_machine.proofs.Laws.Runs.{standing_first, standing_needs, standing_next, standing_less, standing_ends}
use Rattle.list_machine.proofs.scan.Goals as goal

pub loop-place-init : goal.loop-place-init
unfolding first_place
loop-place-init c = rw (c.first_machine-m.ensures, c.first_place-place.ensures) (standing_first _ _ _ _ _ _ c.requires.2 c.requires.0 c.requires.1 refl refl refl)

pub count_entry-requires : goal.count_entry-requires
count_entry-requires c = let n = standing_needs _ _ _ _ _ _ _ _ _ c.loop-place.invariant c.ranges.watchdog.fits (sym c.runs_on.ensures ∙ c.loop-place-test.true) in (n.times_within, n.times)

pub step-requires : goal.step-requires
step-requires c = let n = standing_needs _ _ _ _ _ _ _ _ _ c.loop-place.invariant c.ranges.watchdog.fits (sym c.runs_on.ensures ∙ c.loop-place-test.true) in (n.inside, n.instructions, n.rungs, n.moved)

pub follow-place-requires : goal.follow-place-requires
follow-place-requires c =
    let n = standing_needs _ _ _ _ _ _ _ _ _ c.loop-place.invariant c.ranges.watchdog.fits (sym c.runs_on.ensures ∙ c.loop-place-test.true) in
    (omega arith, omega arith)

pub loop-place-smaller : goal.loop-place-smaller
loop-place-smaller c = standing_less _ _ _ _ _ _ _ _ _ c.loop-place.invariant (sym c.runs_on.ensures ∙ c.loop-place-test.true) _ _ c.step.ensures

pub loop-place-preserved : goal.loop-place-preserved
loop-place-preserved c = standing_next _ _ _ _ _ _ _ _ _ c.loop-place.invariant (sym c.runs_on.ensures ∙ c.loop-place-test.true) _ _ _ c.count_entry.ensures c.step.ensures _ c.follow-place.ensures

pub returns : goal.returns
returns c = rw c.halted_at.ensures (standing_ends _ _ _ _ _ _ _ _ _ c.loop-place.invariant (sym c.runs_on.ensures ∙ c.loop-place-test.false))
