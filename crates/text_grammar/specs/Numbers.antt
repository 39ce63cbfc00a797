-- What the functions of this crate answer, beside the reader. Assumes nothing.
use Rattle.std.specs.Prelude.{ℕ, ◌+◌, ◌≤◌, ◌<◌, ◌≡◌, List, length, get_or, Option, Some, None}
use Rattle.text_grammar.specs.Reader.{Parse, read, stuck, digit_of, numeral_of}
use Rattle.text_grammar.specs.declared.Numeral.{Numeral}
use Rattle.text_grammar.specs.Grammar.{most_number}

-- the byte b that has to stand at a position, which then lies within the text, and the position after it
abbrev pub ByteRead : List ℕ → ℕ → ℕ → Option ℕ → Type 0
ByteRead s at b (Some n) = (n ≡ at + 1) × (get_or s at 0 ≡ b) × (at < length s)
ByteRead s at b None = get_or s at 0 ≡ b → ⊥

-- the reader's answer for a digit, 10 for none
abbrev pub digit_case : Option ℕ → ℕ
digit_case (Some d) = d
digit_case None = 10

-- a digit is below 10 and lies within the text
abbrev pub DigitWithin : List ℕ → ℕ → Option ℕ → Type 0
DigitWithin s at (Some d) = (d < 10) × (at < length s)
DigitWithin s at None = Unit {0}

-- the digit at a position
pub record DigitRead (s : List ℕ) (at : ℕ) (r : Option ℕ) : Type 0 where
  pub same : digit_case r ≡ digit_of (get_or s at 0)
  pub within : DigitWithin s at r

-- the reader's answer for a number and the position after it, or none
abbrev pub parse_of : ℕ → Option Numeral → Parse ℕ
parse_of at (Some n) = read n.next n.value
parse_of at None = stuck at

-- a number that was read ends after its beginning and within the text
abbrev pub NumberWithin : List ℕ → ℕ → Option Numeral → Type 0
NumberWithin s at (Some n) = (at < n.next) × (n.next ≤ length s) × (n.value ≤ most_number)
NumberWithin s at None = Unit {0}

pub record NumberRead (s : List ℕ) (at : ℕ) (r : Option Numeral) : Type 0 where
  pub same : parse_of at r ≡ numeral_of s at
  pub within : NumberWithin s at r
