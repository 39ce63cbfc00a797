-- The lines of the programs' input. Document 01, "Listing"; README, "ladder-scan". Assumes nothing.
use Rattle.std.specs.Prelude.{ℕ, ◌+◌, ◌-◌, Bool, true, false, ◌&&◌, ◌||◌, List, [], ◌∷◌, ◌++◌, map, eqb, leb, length, replicate}
use Rattle.questions.specs.Bytes.{byte}
use Rattle.questions.specs.Questions.{most_variables, most_rung_watchdog}
use Rattle.questions.specs.Tests.{all}
use Rattle.table.specs.State.{scratch_bytes}
use Rattle.text_grammar.specs.Reader.{read, stuck, numeral_of}

-- "The first line is what stands before the first LF, or all of the input where none is; the text is what follows."
unfoldable pub first_line : List ℕ → List ℕ
first_line [] = []
first_line (b ∷ bs) = elim (eqb b (byte "\n")) [ true ↦ [] | false ↦ b ∷ first_line bs ]

unfoldable pub text_after : List ℕ → List ℕ
text_after [] = []
text_after (b ∷ bs) = elim (eqb b (byte "\n")) [ true ↦ bs | false ↦ text_after bs ]

-- the number, as in the text, that a whole line is; another where it is none
unfoldable pub line_number : ℕ → List ℕ → ℕ
line_number other line = elim (numeral_of line 0) [ read n v ↦ elim (eqb n (length line)) [ true ↦ v | false ↦ other ] | stuck p ↦ other ]

-- "A first line that is no number, as in the text, counts as V 0."
abbrev pub variables_of : List ℕ → ℕ
variables_of line = line_number 0 line

-- "keeps up to 65,536 bytes of text"
abbrev pub most_kept : ℕ
most_kept = 65536

-- ---- ladder-scan: a line V, a line rung watchdog, a line of V characters 0 and 1 (variable 0 first), then the text

-- a watchdog line that is no number: question 12 says "no" to it
abbrev pub no_watchdog : ℕ
no_watchdog = most_rung_watchdog + 1

-- "A V or watchdog line that is no number counts as V 0 or watchdog 65,536"
abbrev pub watchdog_of : List ℕ → ℕ
watchdog_of line = line_number no_watchdog line

unfoldable pub is_binary_digit : ℕ → Bool
is_binary_digit b = eqb b (byte "0") || eqb b (byte "1")

-- the table that a line of V zeros and ones makes, scratch 0; another line makes no legal table: "a variables line that is not V zeros and ones is refused 11"
unfoldable pub table_of : ℕ → List ℕ → List ℕ
table_of vars line = elim (leb vars most_variables && (eqb (length line) vars && all is_binary_digit line)) [
  | true ↦ map (λ b. b - byte "0") line ++ replicate scratch_bytes 0
  | false ↦ []
]
