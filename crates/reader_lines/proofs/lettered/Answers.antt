-- `reader_lines::lettered` meets its contract: a law for each letter, in range and out of it. Assumes nothing.
use Rattle.std.proofs.Common.{arith}
use Rattle.reader_lines.proofs.Operands.{v_number_lem, v_large, t_number_lem, t_large, at_number_lem, d_number_lem, other_letter}
use Rattle.reader_lines.proofs.lettered.Goals as goal

pub returns-in-118 : goal.returns-in-118
returns-in-118 c = v_number_lem _ _ _ _ c.in-118.is c.if-number-vars.true c.requires.0

pub returns-in-116 : goal.returns-in-116
returns-in-116 c = t_number_lem _ _ _ _ c.in-116.is c.if-known.true c.requires.0

pub returns-in-64 : goal.returns-in-64
returns-in-64 c = at_number_lem _ _ _ _ c.in-64.is c.requires.1

pub returns-in-100 : goal.returns-in-100
returns-in-100 c = d_number_lem _ _ _ _ c.in-100.is c.requires.1

pub returns-in_default : goal.returns-in_default
returns-in_default c = v_large _ _ _ _ c.in-118.is c.if-number-vars.false

pub returns-in_default-2 : goal.returns-in_default-2
returns-in_default-2 c = t_large _ _ _ _ c.in-116.is c.if-known.false

pub returns-in_default-3 : goal.returns-in_default-3
returns-in_default-3 c = other_letter _ _ _ _ (λ e. omega arith) (λ e. omega arith) (λ e. omega arith) (λ e. omega arith)
