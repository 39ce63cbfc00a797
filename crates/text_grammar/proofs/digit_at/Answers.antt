-- `digit_at` meets its contract: a byte that is a digit, or none. Assumes nothing.
use native.Mathlib.Omega.{arith}
use Rattle.text_grammar.proofs.Numbers.{digit_is, no_digit, digit_past}
use Rattle.text_grammar.proofs.digit_at.Goals as goal

pub returns-in_err-byte : goal.returns-in_err-byte
returns-in_err-byte c = rw c.from_residual.ensures (digit_past _ _ (omega (arith, c.in_err-byte.ensures.lookup)))

pub returns-then-is_ascii_digit : goal.returns-then-is_ascii_digit
returns-then-is_ascii_digit c =
    digit_is _ _ _ (omega (arith, c.in_ok-byte.ensures.lookup)) c.in_ok-byte.ensures.lookup.1 _ c.if-is_ascii_digit.ensures.cases c.from.ensures

pub returns-else-is_ascii_digit : goal.returns-else-is_ascii_digit
returns-else-is_ascii_digit c = no_digit _ _ _ (omega (arith, c.in_ok-byte.ensures.lookup)) c.in_ok-byte.ensures.lookup.1 c.if-is_ascii_digit.ensures.cases
