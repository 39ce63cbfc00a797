-- `program_scan_unread::put_names` meets its contract. Assumes nothing.
use native.Mathlib.Omega.{arith}
use Rattle.program_scan_unread.proofs.Marks.{naming_start, naming_none, naming_more, naming_end}
use Rattle.program_scan_unread.proofs.put_names.Goals as goal
use Rattle.program_scan_unread.proofs.put_names.Goals.{then-unnamed, else-unnamed}

pub loop-variable-init : goal.loop-variable-init
loop-variable-init c = naming_start _ _ _

pub put_name-end-requires : goal.put_name-end-requires
put_name-end-requires c = omega (arith, c.loop-variable.invariant.room, c.loop-variable.invariant.within, c.requires.0, c.requires.1)

pub loop-variable-preserved : goal.loop-variable-preserved
loop-variable-preserved c =
    let few = c.requires.1 in
    elim c.if-unnamed.branch [
      | then-unnamed w ↦ rw (w.out-is, w.end-is) (naming_more c.loop-variable.invariant c.loop-variable-test.true w.if-unnamed.true (omega (arith, c.loop-variable-test.true, few)) w.put_name-end.ensures)
      | else-unnamed w ↦ rw (w.out-is, w.end-is) (naming_none c.loop-variable.invariant c.loop-variable-test.true w.if-unnamed.false)
    ]

pub returns : goal.returns
returns c = naming_end c.loop-variable.invariant c.loop-variable-test.false
