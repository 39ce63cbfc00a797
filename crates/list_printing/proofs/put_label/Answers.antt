-- `list_printing::put_label` meets its contract: the letter, the number, the colon and the line's end are written one after the other. Assumes nothing.
use native.Mathlib.Omega.{arith}
use Rattle.list_definitions.specs.Listing.{label_line, ended}
use Rattle.printing.proofs.Laws.Puts.{put_then, decimal_long}
use Rattle.list_printing.proofs.put_label.Goals as goal

pub put_byte-colon-requires : goal.put_byte-colon-requires
put_byte-colon-requires c = omega (arith, c.put_byte-sign.ensures.end, rw c.from.ensures at c.put_number-number.ensures.end, decimal_long c.args.label (omega arith))

pub put_byte-requires : goal.put_byte-requires
put_byte-requires c =
    omega (arith, c.put_byte-sign.ensures.end, rw c.from.ensures at c.put_number-number.ensures.end, c.put_byte-colon.ensures.end, decimal_long c.args.label (omega arith))

pub returns : goal.returns
unfolding ended label_line
returns c =
    put_then
    (put_then (put_then c.put_byte-sign.ensures (rw c.from.ensures at c.put_number-number.ensures)) c.put_byte-colon.ensures)
    c.put_byte.ensures
