-- `printing::put_number` meets its contract: its digits but the last, by the same function over the tenth, and then the last.
use Rattle.std.proofs.Common.{◌/◌, arith}
use Rattle.printing.proofs.Laws.Puts.{decimal_most, number_one, number_more}
use Rattle.printing.proofs.+put_number.Goals as goal
use Rattle.printing.proofs.+put_number.Goals.{else-n-lt10, then-n-lt10}

pub put_byte-requires : goal.put_byte-requires
put_byte-requires t c = elim c.if-n-lt10.branch [
  | else-n-lt10 w ↦ omega (arith, w.put_number-end.ensures.end, decimal_most (c.args.n / 10) (omega arith))
  | then-n-lt10 w ↦ omega arith
]

pub returns : goal.returns
returns t c = elim c.if-n-lt10.branch [
  | else-n-lt10 w ↦ number_more c.put_byte.ensures w.if-n-lt10.false w.put_number-end.ensures w.end-is w.out-is
  | then-n-lt10 w ↦ number_one c.put_byte.ensures w.if-n-lt10.true w.end-is w.out-is
]
