-- The instruction of a word that holds one: what laws, parts and contracts ask of words. Assumes nothing.
use Rattle.std.specs.Prelude.{ℕ, ◌≡◌}
use Rattle.std.proofs.Math.Option.{none, some}
use Rattle.list_definitions.specs.Instruction.{Instr, NOT, decode_instr}

-- the instruction of a word
unfoldable pub instr_of : ℕ → Instr
instr_of w = elim (decode_instr w) [ none ↦ NOT | some i ↦ i ]

pub record Decodes (w : ℕ) : Type 0 where
  pub instr : Instr
  pub same : decode_instr w ≡ some instr
