-- Laws of a factor by its first byte. Assumes nothing.
use mathlib.Core.Path.{◌≡◌, refl}
use mathlib.Core.List.{List}
use Prim.Native.Nat.{ℕ, zero, suc, ◌+◌, ◌-◌, ◌≤◌, ◌<◌}
use native.Mathlib.Omega.{arith}
use native.Mathlib.Numerals.{sub-one}
use borrow.Author.Tests.{eq-eqb, ne_eqb}
use lib.ListN.{length, get_or}
use Rattle.rungs.specs.Words.{word}
use Rattle.ladder_definitions.specs.Tree.{contact, contactn, input, front_and, front_or, input_variable}
use Rattle.ladder_definitions.specs.Kept.{input_word, front_words, input_kind}
use Rattle.text_grammar.specs.Reader.{stuck, map_p, chain, followed, numeral_of, factor_by, factor_of, term_by, term_of, front_by, front_of}
use Rattle.text_fronts.specs.Parts.{PartRead, one_word, leaf_of}
use Rattle.text_fronts.specs.declared.part.Parsed.{Parsed}
use Rattle.text_fronts.specs.declared.part.Stuck.{Stuck}
use Rattle.std.specs.Prelude.{Result, Err}
use Rattle.text_fronts.proofs.Parts.{part_stuck, other_tree}

-- a leaf's word as a front
contact_words : (v : ℕ) → front_words (input (contact v)) ≡ one_word (word 1 v)
unfolding front_words input_word input_kind input_variable
contact_words v = refl

contactn_words : (v : ℕ) → front_words (input (contactn v)) ≡ one_word (word 2 v)
unfolding front_words input_word input_kind input_variable
contactn_words v = refl

-- a term and a front as chains
pub term_law : (d : ℕ) (s : List ℕ) (at : ℕ) → term_of d s at ≡ chain (factor_of d s) 38 front_and s (length s) (factor_of d s at)
unfolding term_of term_by
term_law d s at = refl

pub front_law : (d : ℕ) (s : List ℕ) (at : ℕ) → front_of d s at ≡ chain (term_of d s) 124 front_or s (length s) (term_of d s at)
unfolding front_of front_by term_of
front_law d s at = refl

-- a factor by the byte b that stands there
module _ (s : List ℕ) (at b : ℕ) (e : b ≡ get_or s at 0) where
  by_c : (d : ℕ) → b ≡ 99 → factor_of d s at ≡ map_p (λ v. input (contact v)) (numeral_of s (at + 1))
  unfolding factor_of factor_by
  by_c zero c = simp (← e, eq-eqb _ _ c)
  by_c (suc d) c = simp (← e, eq-eqb _ _ c)

  pub factor_contact : (d : ℕ) → b ≡ 99 → (r : Result Parsed Stuck) (put : ℕ) (x y : List ℕ)
      → PartRead one_word (leaf_of 1 s at) s at r put x y → PartRead front_words (factor_of d s at) s at r put x y
  unfolding leaf_of
  factor_contact d c r put x y f =
      rw (by_c d c) (other_tree one_word front_words (word 1) (λ v. input (contact v)) contact_words (numeral_of s (at + 1)) s at r put x y f)

  by_n : (d : ℕ) → b ≡ 110 → factor_of d s at ≡ map_p (λ v. input (contactn v)) (numeral_of s (at + 1))
  unfolding factor_of factor_by
  by_n zero n = simp (← e, ne_eqb b 99 (λ z. omega arith), eq-eqb _ _ n)
  by_n (suc d) n = simp (← e, ne_eqb b 99 (λ z. omega arith), eq-eqb _ _ n)

  pub factor_contactn : (d : ℕ) → b ≡ 110 → (r : Result Parsed Stuck) (put : ℕ) (x y : List ℕ)
      → PartRead one_word (leaf_of 2 s at) s at r put x y → PartRead front_words (factor_of d s at) s at r put x y
  unfolding leaf_of
  factor_contactn d n r put x y f =
      rw (by_n d n) (other_tree one_word front_words (word 2) (λ v. input (contactn v)) contactn_words (numeral_of s (at + 1)) s at r put x y f)

  by_none : (d : ℕ) → (b ≡ 99 → ⊥) → (b ≡ 110 → ⊥) → (b ≡ 40 → ⊥) → factor_of d s at ≡ stuck at
  unfolding factor_of factor_by
  by_none zero c n o = simp (← e, ne_eqb _ _ c, ne_eqb _ _ n, ne_eqb _ _ o)
  by_none (suc d) c n o = simp (← e, ne_eqb _ _ c, ne_eqb _ _ n, ne_eqb _ _ o)

  pub factor_none : (d : ℕ) → (b ≡ 99 → ⊥) → (b ≡ 110 → ⊥) → (b ≡ 40 → ⊥) → (put : ℕ) (x y : List ℕ)
      → PartRead front_words (factor_of d s at) s at (Err (record { place = at })) put x y
  factor_none d c n o put x y = part_stuck front_words (factor_of d s at) s at (record { place = at }) put x y (by_none d c n o)

  module _ (o : b ≡ 40) where
    by_deep : (d : ℕ) → d ≤ 0 → factor_of d s at ≡ stuck at
    unfolding factor_of factor_by
    by_deep zero z = simp (← e, ne_eqb b 99 (λ z. omega arith), ne_eqb b 110 (λ z. omega arith), eq-eqb _ _ o)
    by_deep (suc d) z = absurd (omega arith)

    pub factor_deep : (d : ℕ) → d ≤ 0 → (put : ℕ) (x y : List ℕ) → PartRead front_words (factor_of d s at) s at (Err (record { place = at })) put x y
    factor_deep d z put x y = part_stuck front_words (factor_of d s at) s at (record { place = at }) put x y (by_deep d z)

    by_open : (d : ℕ) → 0 < d → factor_of d s at ≡ followed s 41 (front_of (d - 1) s (at + 1))
    unfolding factor_of factor_by front_of
    by_open zero z = absurd (omega arith)
    by_open (suc d) z = simp (← e, ne_eqb b 99 (λ z. omega arith), ne_eqb b 110 (λ z. omega arith), eq-eqb _ _ o, sub-one)

    -- what stands after the bracket
    pub factor_open : (d : ℕ) → 0 < d → (r : Result Parsed Stuck) (put : ℕ) (x y : List ℕ)
        → PartRead front_words (followed s 41 (front_of (d - 1) s (at + 1))) s at r put x y → PartRead front_words (factor_of d s at) s at r put x y
    factor_open d z r put x y f = rw (by_open d z) f
