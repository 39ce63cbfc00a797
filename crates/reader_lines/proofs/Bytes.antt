-- Laws of bytes that were read. Assumes nothing.
use Prim.Native.Nat.{ℕ, ◌<◌}
use mathlib.Core.Path.{◌≡◌, ◌∙◌}
use mathlib.Core.List.{List}
use lib.ListN.{length, get_or}
use Rattle.std.proofs.lemmas.Grind.{get_or_default_zero}

-- a byte within the text, by any default
pub byte_at : (s : List ℕ) (i b : ℕ) → i < length s → b ≡ get_or s i b → b ≡ get_or s i 0
byte_at s i b h q = q ∙ get_or_default_zero s i b h
