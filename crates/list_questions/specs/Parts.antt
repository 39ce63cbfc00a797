-- What the functions of this crate promise. Nothing here is a sentence of the documents. Assumes nothing.
use Rattle.std.specs.Prelude.{ℕ, ◌+◌, ◌-◌, ◌≡◌, Bool, false, cond, ◌&&◌, List, [], ◌∷◌, eqb, leb, ltb}
use Rattle.std.proofs.Math.Option.{some}
use Rattle.rungs.specs.Words.{operands}
use Rattle.list_definitions.specs.Instruction.{Instr, TON, instr_word, decode_code}
use Rattle.rungs.specs.Records.{most_records}
use Rattle.list_definitions.specs.Questions.{most_instructions, timers_known}

-- so many instructions, and as many labels, offsets and lengths of records
abbrev pub sizes_in_range : ℕ → ℕ → ℕ → ℕ → Bool
sizes_in_range code labels offsets lengths =
    (leb 1 code && leb code most_instructions) && (eqb labels offsets && (eqb offsets lengths && (leb 1 labels && leb labels most_records)))

-- records laid from `start` on, none of length 0, up to `end`, over two number slices
unfoldable pub laid_pairs : ℕ → ℕ → List ℕ → List ℕ → Bool
laid_pairs start end [] ns = eqb start end
laid_pairs start end (o ∷ os) [] = false
laid_pairs start end (o ∷ os) (n ∷ ns) = eqb o start && (ltb 0 n && laid_pairs (start + n) end os ns)

-- the last word before those of a TON whose number has no record, of so many; the last of all where every number has one
unfoldable pub last_known : ℕ → ℕ
last_known records = instr_word (TON (cond (ltb records operands) records operands)) - 1

-- question 17 of words that hold instructions, as they do once question 10 got a yes
pub record TimersAsked (words : List ℕ) (records : ℕ) (r : Bool) : Type 0 where
  pub same : (code : List Instr) → decode_code words ≡ some code → r ≡ timers_known records code
