-- What the functions that print promise. Nothing here is a sentence of document 01. Assumes nothing.
use Rattle.std.specs.Prelude.{ℕ, ◌+◌, ◌≡◌, List, length}
use Rattle.std.proofs.lemmas.List.Edits.{sets}

-- a text written from `at` on, and the position after it
pub record Put (out : List ℕ) (at : ℕ) (text : List ℕ) (r : ℕ) (u : List ℕ) : Type 0 where
  pub end : r ≡ at + length text
  pub wrote : u ≡ sets out at text
