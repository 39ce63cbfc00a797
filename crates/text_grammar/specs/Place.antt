-- The place of a text that is not in the grammar. Document 01, "Questions before work", 3: "place the length of the longest beginning that some text of the
-- grammar, of whichever length, shares". No reader is mentioned. Assumes nothing.
use Rattle.std.specs.Prelude.{List, ◌++◌, ℕ, ◌≤◌, length, take}
use Rattle.ladder_definitions.specs.Tree.{Ladder}
use Rattle.text_grammar.specs.Grammar.{IsText}

-- the beginning of s of length p is shared by some text of the grammar, of whichever length
pub record Shared (s : List ℕ) (p : ℕ) : Type 0 where
  pub within : p ≤ length s
  pub rest : List ℕ
  pub ladder : Ladder
  pub text : IsText (take p s ++ rest) ladder

-- the length of the longest beginning that some text of the grammar shares
pub record IsPlace (s : List ℕ) (p : ℕ) : Type 0 where
  pub shared : Shared s p
  pub longest : (q : ℕ) → Shared s q → q ≤ p
