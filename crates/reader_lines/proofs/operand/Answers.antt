-- `reader_lines::operand` meets its contract: what stands after the name decides. Assumes nothing.
use Rattle.std.proofs.Common.{◌<◌, length, arith}
use Rattle.reader_lines.proofs.Bytes.{byte_at}
use Rattle.reader_lines.proofs.Operands.{no_space, no_letter, no_number, numbered}
use Rattle.reader_lines.proofs.operand.Goals as goal

pub returns-in_default : goal.returns-in_default
returns-in_default c = no_space _ _ _ c.in_default.ensures

pub returns-in_err-letter : goal.returns-in_err-letter
returns-in_err-letter c = rw c.from_residual.ensures (no_letter _ _ _ _ c.in-Some.ensures (omega (arith, c.in_err-letter.ensures.lookup)))

pub returns-in_err-numeral : goal.returns-in_err-numeral
returns-in_err-numeral c = rw c.from_residual-in_err-numeral.ensures (no_number _ _ _ _ c.in-Some.ensures c.in_err-numeral.ensures)

pub returns : goal.returns
returns c =
    let within : c.in-Some.letter_at < length c.args.text.now = omega (arith, c.in_ok-letter.ensures.lookup) in
    numbered _ _ _ _ c.in-Some.ensures _ c.in_ok-numeral.ensures _ (byte_at _ _ _ within c.in_ok-letter.ensures.lookup.1) _ c.lettered.ensures
