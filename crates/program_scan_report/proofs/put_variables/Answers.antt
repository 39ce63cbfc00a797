-- `program_scan_report::put_variables` meets its contract. Assumes nothing.
use native.Mathlib.Omega.{arith}
use Rattle.program_scan_report.proofs.Printing.{changing_start, changing_same, changing_more, changing_end}
use Rattle.program_scan_report.proofs.put_variables.Goals as goal
use Rattle.program_scan_report.proofs.put_variables.Goals.{then-changed, else-changed}

pub loop-i-init : goal.loop-i-init
loop-i-init c = changing_start _ _ _ _ _ _

pub loop-i-preserved : goal.loop-i-preserved
loop-i-preserved c =
    let i = c.loop-i.i in
    elim c.if-changed.branch [
      | then-changed w ↦ rw (w.out-is, w.end-is) (changing_more c.loop-i.invariant (omega arith) (omega arith) (omega arith) (omega arith) w.if-changed.true
          (omega (arith, c.requires.1)) (omega (arith, c.type_inv.before i)) (omega (arith, c.type_inv.ladder i)) (omega (arith, c.type_inv.list i))
          w.put_changed-end.ensures)
      | else-changed w ↦ rw (w.out-is, w.end-is) (changing_same c.loop-i.invariant (omega arith) (omega arith) (omega arith) (omega arith) w.if-changed.false)
    ]

pub returns : goal.returns
returns c = changing_end c.loop-i.invariant (omega arith)
