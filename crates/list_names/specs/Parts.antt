-- What the functions of this crate promise. Assumes nothing.
use Rattle.std.specs.Prelude.{ℕ, ◌*◌, ◌≡◌, Bool, not, ◌&&◌, List, eqb, leb, length}
use Rattle.std.proofs.Math.Option.{none}
use Rattle.std.proofs.lemmas.List.Edits.{sets}
use Rattle.questions.specs.Bytes.{same_bytes}
use Rattle.questions.specs.Tests.{all}
use Rattle.list_definitions.specs.Names.{fixed_names, most_op, name_bytes, names_in, is_capital, fixed_table, question14}

abbrev pub is_zero : ℕ → Bool
is_zero b = eqb b 0

abbrev pub apart : List ℕ → List ℕ → Bool
apart name other = not (same_bytes other name)

-- some letters, all capitals, and a filling of zeros
abbrev pub capitals_before_zeros : List ℕ → List ℕ → Bool
capitals_before_zeros letters filling = leb 1 (length letters) && (all is_capital letters && all is_zero filling)

-- the fixed table, written from a buffer's start; a buffer of its size then is that table, which is accepted and has the fixed names
pub record FixedNamesPut (before after : List ℕ) : Type 0 where
  pub wrote : after ≡ sets before 0 fixed_table
  pub whole : length before ≡ name_bytes * most_op → after ≡ fixed_table
  pub accepted : length before ≡ name_bytes * most_op → question14 after ≡ none
  pub names : length before ≡ name_bytes * most_op → names_in after ≡ fixed_names
