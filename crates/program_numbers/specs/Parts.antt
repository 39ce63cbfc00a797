-- What the functions of this crate promise besides. Nothing here is a sentence of document 01. Assumes nothing.
use Rattle.std.specs.Prelude.{ℕ, ◌+◌, ◌*◌, ◌≤◌, ◌≡◌, List, [], ◌∷◌, eqb, leb, ltb, length, drop}
use Rattle.text_grammar.specs.Reader.{pick, digit_of}
use Rattle.program_definitions.specs.Lines.{first_line, text_after}
use Rattle.program_numbers.specs.declared.Lined.{Lined}
use Rattle.program_numbers.specs.declared.FirstLine.{FirstLine}
use Rattle.program_numbers.specs.declared.FirstLine.TheVariants.{Empty, Zero, Number, Bad}
use Rattle.text_grammar.specs.Grammar.{most_number}

-- a line with one byte more
unfoldable pub step_of : FirstLine → ℕ → FirstLine
step_of Empty b = let x = digit_of b in pick (leb 10 x) Bad (pick (eqb x 0) Zero (Number x))
step_of Zero b = Bad
step_of (Number v) b = let x = digit_of b in pick (leb 10 x) Bad (pick (ltb most_number (v * 10 + x)) Bad (Number (v * 10 + x)))
step_of Bad b = Bad

-- what the bytes of a line lead to
unfoldable pub line_from : FirstLine → List ℕ → FirstLine
line_from s [] = s
line_from s (b ∷ bs) = line_from (step_of s b) bs

-- the number that a line is, or another
unfoldable pub number_by : ℕ → FirstLine → ℕ
number_by other Empty = other
number_by other Zero = 0
number_by other (Number v) = v
number_by other Bad = other

-- the line from a position on, and where the next begins
pub record NumberTaken (input : List ℕ) (from : ℕ) (r : Lined) : Type 0 where
  pub line : r.line ≡ line_from Empty (first_line (drop from input))
  pub within : from ≤ length input → r.at ≤ length input
  pub rest : drop r.at input ≡ text_after (drop from input)
