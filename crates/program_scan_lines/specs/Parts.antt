-- What the functions of this crate promise besides. Nothing here is a sentence of document 01. Assumes nothing.
use Rattle.std.specs.Prelude.{ℕ, ◌+◌, ◌-◌, ◌≤◌, ◌≡◌, Bool, true, false, ◌&&◌, List, Option, Some, None, eqb, leb, ltb, length, take, drop, set, replicate}
use Rattle.questions.specs.Bytes.{byte}
use Rattle.questions.specs.Questions.{most_variables}
use Rattle.table.specs.State.{table_size}
use Rattle.program_definitions.specs.Lines.{first_line, text_after, is_binary_digit, table_of}
use Rattle.program_scan_lines.specs.declared.VariablesTaken.{VariablesTaken}

-- how many bytes of the line have been taken, if each is one of V zeros and ones
abbrev pub no_variables : Option ℕ
no_variables = Some 0

-- the byte is one of V zeros and ones, c being taken before it
unfoldable pub taken : ℕ → ℕ → ℕ → Bool
taken c vars b = ltb c vars && is_binary_digit b

unfoldable pub next_variable : Option ℕ → ℕ → ℕ → Option ℕ
next_variable None vars b = None
next_variable (Some c) vars b = elim (taken c vars b) [ true ↦ Some (c + 1) | false ↦ None ]

unfoldable pub next_table : Option ℕ → ℕ → ℕ → List ℕ → List ℕ
next_table None vars b t = t
next_table (Some c) vars b t = elim (taken c vars b) [ true ↦ set t c (b - byte "0") | false ↦ t ]

unfoldable pub table_bytes : Option ℕ → ℕ → ℕ
table_bytes None vars = 0
table_bytes (Some c) vars = elim (leb vars most_variables && eqb c vars) [ true ↦ table_size vars | false ↦ 0 ]

-- a table of zeros becomes the line's, if it is V zeros and ones
pub record TableTaken (input : List ℕ) (from vars : ℕ) (t : List ℕ) (r : VariablesTaken) (u : List ℕ) : Type 0 where
  pub within : from ≤ length input → r.at ≤ length input
  pub rest : drop r.at input ≡ text_after (drop from input)
  pub long : length u ≡ length t
  pub table : t ≡ replicate (table_size most_variables) 0 → take (table_bytes r.variables vars) u ≡ table_of vars (first_line (drop from input))
