-- `timers::timers_in_range` meets its contract: numbers left over, too many, a variable not below V, one that is shared.
use Rattle.std.proofs.Common.{◌∙◌, inl, inr}
use Rattle.timers.proofs.Asking.{fifths, no_fifths, left_over, is_whole, over_most, not_below, below}
use Rattle.timers.proofs.timers_in_range.Goals as goal

pub returns-then-not-is_multiple_of : goal.returns-then-not-is_multiple_of
returns-then-not-is_multiple_of c =
    let a = c.args in
    let is = c.is_multiple_of.ensures in
    elim c.then-not-is_multiple_of.either [
      | inl left ↦ left_over a.vars a.timers.now (no_fifths a.vars a.timers.now _ is left)
      | inr many ↦ over_most a.vars a.timers.now (fifths a.vars a.timers.now _ is many.0) many.1
    ]

pub all_below-requires : goal.all_below-requires
all_below-requires c =
    let a = c.args in
    is_whole a.vars a.timers.now (fifths a.vars a.timers.now _ c.is_multiple_of.ensures c.if-not-is_multiple_of.false)

pub none_shared-requires : goal.none_shared-requires
none_shared-requires c =
    let a = c.args in
    is_whole a.vars a.timers.now (fifths a.vars a.timers.now _ c.is_multiple_of.ensures c.if-not-is_multiple_of.false)

pub returns-then-all_below : goal.returns-then-all_below
returns-then-all_below c =
    let a = c.args in
    let h = fifths a.vars a.timers.now _ c.is_multiple_of.ensures c.if-not-is_multiple_of.false in
    below a.vars a.timers.now h c.if-timers-gt-MOST_NUMBERS.false _ c.all_below.ensures _ c.if-all_below.true c.none_shared.ensures

pub returns-else-all_below : goal.returns-else-all_below
returns-else-all_below c =
    let a = c.args in
    let h = fifths a.vars a.timers.now _ c.is_multiple_of.ensures c.if-not-is_multiple_of.false in
    c.if-all_below.false ∙ not_below a.vars a.timers.now h c.if-timers-gt-MOST_NUMBERS.false _ c.all_below.ensures c.if-all_below.false
