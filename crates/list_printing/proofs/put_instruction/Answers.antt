-- `list_printing::put_instruction` meets its contract: the name, the operand and the line's end are written one after the other, by the word's parts.
-- Assumes nothing.
use native.Mathlib.Omega.{arith}
use Rattle.rungs.specs.Words.{number_of, operand_of}
use Rattle.printing.proofs.Laws.Puts.{put_then, put_as}
use Rattle.list_printing.proofs.Printed.{name_reach, operand_long, word_op, word_line_lem}
use Rattle.list_printing.proofs.put_instruction.Goals as goal

pub put_name-name-requires : goal.put_name-name-requires
put_name-name-requires c = let w = word_op c.args.word c.requires.1 in (omega arith, w.0, w.1, c.requires.2)

pub put_operand-end-requires : goal.put_operand-end-requires
put_operand-end-requires c = (omega (arith, name_reach _ _ c.put_name-name.ensures), omega arith)

pub put_byte-requires : goal.put_byte-requires
put_byte-requires c =
    let w = c.args.word in
    let o = operand_long c.args.vars (number_of w) (operand_of w) (omega arith) in
    omega (arith, name_reach _ _ c.put_name-name.ensures, c.put_operand-end.ensures.end)

pub returns : goal.returns
returns c =
    put_as
    (word_line_lem _ _ _ c.requires.1)
    (put_then (put_then c.put_name-name.ensures c.put_operand-end.ensures) c.put_byte.ensures)
