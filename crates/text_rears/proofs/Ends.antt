-- Laws of a rear's end by its first byte. Assumes nothing.
use mathlib.Core.Path.{◌≡◌, refl, ◌∙◌}
use mathlib.Core.Logic.{◌⊎◌, inl, inr}
use mathlib.Core.Option.{some}
use mathlib.Core.List.{List}
use Prim.Native.Nat.{ℕ, zero, suc, ◌+◌, ◌-◌}
use native.Mathlib.Omega.{arith}
use native.Mathlib.Numerals.{sub-one}
use borrow.Author.Tests.{eq-eqb, ne_eqb}
use lib.ListN.{length, get_or}
use Rattle.rungs.specs.Words.{word}
use Rattle.ladder_definitions.specs.Tree.{Output, Rear, output}
use Rattle.ladder_definitions.specs.Kept.{rear_words}
use Rattle.text_grammar.specs.Reader.{Parse, stuck, map_p, followed, numeral_of, factor_of, output_at, end_by, end_of, branch_by, branch_of, rear_by, rear_of}
use Rattle.text_fronts.specs.Parts.{PartRead, one_word, leaf_of}
use Rattle.text_fronts.specs.declared.part.Parsed.{Parsed}
use Rattle.text_fronts.specs.declared.part.Stuck.{Stuck}
use Rattle.std.specs.Prelude.{Some, None, Result, Err}
use Rattle.text_fronts.proofs.Parts.{part_stuck, other_tree}
use Rattle.text_rears.specs.Letters.{letter_kind}
use Rattle.text_rears.proofs.Letters.{letter_words, is_letter, no_letter}

pub branch_law : (d : ℕ) (s : List ℕ) (at : ℕ) → branch_by (factor_of d s) (end_of d s) s (suc (length s)) at ≡ branch_of d s at
unfolding branch_of
branch_law d s at = refl

pub rear_law : (d : ℕ) (s : List ℕ) (at : ℕ) → rear_by (branch_of d s) s (suc (length s)) at ≡ rear_of d s at
unfolding rear_of branch_of
rear_law d s at = refl

end_is : (d : ℕ) (s : List ℕ) (at : ℕ) → (i : Parse Rear) × (end_of d s at ≡ end_by i s at)
unfolding end_of
end_is zero s at = (stuck at, refl)
end_is (suc d) s at = (followed s 93 (rear_by (branch_by (factor_of d s) (end_of d s) s (suc (length s))) s (suc (length s)) (at + 1)), refl)

-- an end by the byte b that stands there
module _ (s : List ℕ) (at b : ℕ) (e : b ≡ get_or s at 0) (d : ℕ) where
  by_letter : (make : ℕ → Output) → output_at b ≡ some make → end_of d s at ≡ map_p (λ v. output (make v)) (numeral_of s (at + 1))
  unfolding end_by
  by_letter make q = (end_is d s at).1 ∙ rw (← e, q) refl

  -- a leaf is the end whose output has its word
  pub end_output : (k : ℕ) → Some k ≡ letter_kind b → (r : Result Parsed Stuck) (put : ℕ) (l x : List ℕ)
      → PartRead one_word (leaf_of k s at) s at r put l x → PartRead rear_words (end_of d s at) s at r put l x
  unfolding leaf_of
  end_output k n r put l x f =
      let m = is_letter b k n in
      rw (by_letter m.0 m.1.known) (other_tree one_word rear_words (word k) (λ v. output (m.0 v)) (letter_words m.1 m.2) (numeral_of s (at + 1)) s at r put l x f)

  module _ (z : None ≡ letter_kind b) where
    -- no bracket opens, or no more may
    refused : (d : ℕ) → (b ≡ 91 → ⊥) ⊎ ((b ≡ 91) × (d ≡ 0)) → end_of d s at ≡ stuck at
    unfolding end_of end_by
    refused zero (inl p) = rw (← e, no_letter b z, ne_eqb _ _ p) refl
    refused (suc d) (inl p) = rw (← e, no_letter b z, ne_eqb _ _ p) refl
    refused zero (inr p) = rw (← e, no_letter b z, eq-eqb _ _ p.0) refl
    refused (suc d) (inr p) = let i = p.1 in absurd (omega arith)

    pub end_refused : (b ≡ 91 → ⊥) ⊎ ((b ≡ 91) × (d ≡ 0)) → (put : ℕ) (l x : List ℕ)
        → PartRead rear_words (end_of d s at) s at (Err (record { place = at })) put l x
    end_refused p put l x = part_stuck rear_words (end_of d s at) s at (record { place = at }) put l x (refused d p)

    module _ (p : b ≡ 91) where
      opened : (d : ℕ) → (d ≡ 0 → ⊥) → end_of d s at ≡ followed s 93 (rear_of (d - 1) s (at + 1))
      unfolding end_of end_by rear_of branch_of
      opened zero i = absurd (i refl)
      opened (suc d) i = rw (← e, no_letter b z, eq-eqb _ _ p, sub-one) refl

      -- what stands after the bracket
      pub end_open : (d ≡ 0 → ⊥) → (r : Result Parsed Stuck) (put : ℕ) (x y : List ℕ)
          → PartRead rear_words (followed s 93 (rear_of (d - 1) s (at + 1))) s at r put x y → PartRead rear_words (end_of d s at) s at r put x y
      end_open i r put x y f = rw (opened d i) f
