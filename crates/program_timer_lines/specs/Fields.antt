-- What the functions over the fields of a line promise: numbers with a space between two. Assumes nothing.
use Rattle.std.specs.Prelude.{ℕ, ◌+◌, ◌*◌, ◌≤◌, ◌≡◌, Bool, true, false, List, [], ◌∷◌, eqb, leb, ltb, length, take, drop, Option, Some, None, MatchOption}
use Rattle.questions.specs.Bytes.{byte, same_bytes}
use Rattle.text_grammar.specs.Reader.{pick, digit_of}
use Rattle.program_definitions.specs.Lines.{first_line, text_after}
use Rattle.program_definitions.specs.TimerLines.{before_space, after_space, is_number, number_in}
use Rattle.program_timer_lines.specs.declared.Digits.{Digits}
use Rattle.program_timer_lines.specs.declared.Digits.TheVariants.{Empty, Value, Wrong}
use Rattle.program_timer_lines.specs.declared.Field.{Field}

-- a byte after digits of the value v
unfoldable pub next_digit : ℕ → ℕ → ℕ → Digits
next_digit most v b = let x = digit_of b in pick (leb 10 x) Wrong (pick (ltb most (v * 10 + x)) Wrong (Value (v * 10 + x)))

-- a field with one byte more
unfoldable pub next_byte : ℕ → Digits → ℕ → Digits
next_byte most Empty b = next_digit most 0 b
next_byte most (Value v) b = pick (eqb v 0) Wrong (next_digit most v b)
next_byte most Wrong b = Wrong

-- the field that the digits are, if they are a number
unfoldable pub field_of : Digits → Bool → ℕ → Option Field
field_of Empty spaced at = None
field_of (Value v) spaced at = Some (record { value = v; spaced = spaced; at = at })
field_of Wrong spaced at = None

unfoldable pub has_space : List ℕ → Bool
has_space [] = false
has_space (b ∷ bs) = elim (eqb b (byte " ")) [ true ↦ true | false ↦ has_space bs ]

-- the number before the line's first space, and where what follows begins
pub record FieldTaken (input : List ℕ) (from most : ℕ) (r : Field) : Type 0 where
  pub legal : is_number most (before_space (first_line (drop from input))) ≡ true
  pub value : r.value ≡ number_in (before_space (first_line (drop from input)))
  pub spaced : r.spaced ≡ has_space (first_line (drop from input))
  pub after : first_line (drop r.at input) ≡ after_space (first_line (drop from input))
  pub rest : text_after (drop r.at input) ≡ text_after (drop from input)
  pub within : from ≤ length input → r.at ≤ length input
  pub onward : from ≤ r.at

abbrev pub FieldRead : List ℕ → ℕ → ℕ → Option Field → Type 0
FieldRead input from most r = MatchOption r (is_number most (before_space (first_line (drop from input))) ≡ false) (FieldTaken input from most)

-- whether a word stands at a position, and where what follows it begins
abbrev pub stands_at : List ℕ → ℕ → List ℕ → Bool
stands_at input from word = same_bytes (take (length word) (drop from input)) word

abbrev pub WordRead : List ℕ → ℕ → List ℕ → Option ℕ → Type 0
WordRead input from word r = MatchOption r (stands_at input from word ≡ false) (λ at. (stands_at input from word ≡ true) × (at ≡ from + length word))

-- at the end of a line: where the next begins
pub record BreakTaken (input : List ℕ) (at r : ℕ) : Type 0 where
  pub rest : first_line (drop at input) ≡ [] → drop r input ≡ text_after (drop at input)
  pub within : at ≤ length input → r ≤ length input
  pub onward : at ≤ r
