-- Laws of a number's digits, over a digit d that stands there.
use mathlib.Core.Path.{◌≡◌, refl, ap, ◌∙◌}
use mathlib.Core.List.{List}
use mathlib.Core.Logic.{◌⊎◌, inl, inr}
use Prim.Native.Nat.{ℕ, zero, suc, ◌+◌, ◌-◌, ◌*◌, ◌≤◌, ◌<◌}
use native.Mathlib.Omega.{arith}
use borrow.Author.Tests.{lt-ltb, le-ltb, lt-leb, eq-eqb, ne_eqb}
use lib.ListN.{length, get_or, get_or-eq_default}
use Rattle.std.specs.Prelude.{Some, None}
use Rattle.std.proofs.lemmas.Grind.{get_or_default_zero}
use Rattle.text_grammar.specs.Reader.{read, digit_of, digits_from, numeral_of}
use Rattle.text_grammar.specs.Numbers.{DigitRead, NumberRead}

-- the digit that a byte is, or none
module _ (s : List ℕ) (at : ℕ) where
  pub digit_past : length s ≤ at → DigitRead s at None
  unfolding digit_of
  digit_past h = record { same = simp (get_or-eq_default s 0 h); within = tt }

  module _ (b : ℕ) (l : at < length s) (q : b ≡ get_or s at b) where
    e : b ≡ get_or s at 0
    e = q ∙ get_or_default_zero s at b l

    pub digit_is : (d : ℕ) → (48 ≤ b) × (b ≤ 57) → d ≡ b - 48 → DigitRead s at (Some d)
    unfolding digit_of
    digit_is d h q = record { same = simp (← e, le-ltb b 48 h.0, le-ltb 57 b h.1, q); within = (omega arith, l) }

    pub no_digit : (b < 48) ⊎ (57 < b) → DigitRead s at None
    unfolding digit_of
    no_digit (inl h) = record { same = simp (← e, lt-ltb b 48 h); within = tt }
    no_digit (inr h) = record { same = simp (← e, le-ltb b 48 (omega arith), lt-ltb 57 b h); within = tt }

-- the loop's invariant: what is read so far, with the digits that may follow, is the number
pub record Reading (s : List ℕ) (at v n k : ℕ) : Type 0 where
  pub same : digits_from s k v n ≡ numeral_of s at
  pub past : at < n
  pub within : n ≤ length s
  pub small : v ≤ 65535

module _ (s : List ℕ) (at : ℕ) where
  pub number_none : DigitRead s at None → NumberRead s at None
  unfolding numeral_of
  number_none f = record { same = simp (← f.same); within = tt }

  module _ (d : ℕ) (f : DigitRead s at (Some d)) where
    pub number_zero : d ≡ 0 → NumberRead s at (Some (record { value = d; next = at + 1 }))
    unfolding numeral_of
    number_zero z =
        let b = f.within.0 in
        let i = f.within.1 in
        record {
          same = simp (← f.same, lt-leb _ _ b, eq-eqb _ _ z) (ap (read (at + 1)) z);
          within = (omega arith, omega arith, omega arith);
        }

    pub number_start : (d ≡ 0 → ⊥) → Reading s at d (at + 1) 4
    unfolding numeral_of
    number_start z =
        let b = f.within.0 in
        let i = f.within.1 in
        record { same = simp (← f.same, lt-leb _ _ b, ne_eqb _ _ z); past = omega arith; within = omega arith; small = omega arith }

module _ (s : List ℕ) (at v n k : ℕ) (i : Reading s at v n k) where
  read_here : read n v ≡ digits_from s k v n → NumberRead s at (Some (record { value = v; next = n }))
  read_here e = record { same = e ∙ i.same; within = (i.past, i.within, i.small) }

  pub number_ends : DigitRead s n None → NumberRead s at (Some (record { value = v; next = n }))
  unfolding digits_from
  number_ends f = read_here (go k)
    where
      go : (k : ℕ) → read n v ≡ digits_from s k v n
      go zero = refl
      go (suc k) = simp (← f.same)

  pub number_full : k ≤ 0 → NumberRead s at (Some (record { value = v; next = n }))
  unfolding digits_from
  number_full h = let z : k ≡ 0 = omega arith in read_here (rw z refl)

  module _ (d : ℕ) (f : DigitRead s n (Some d)) where
    pub number_over : 65535 < v * 10 + d → NumberRead s at (Some (record { value = v; next = n }))
    unfolding digits_from
    number_over w = read_here (go k)
      where
        go : (k : ℕ) → read n v ≡ digits_from s k v n
        go zero = refl
        go (suc k) = simp (← f.same, lt-leb _ _ f.within.0, lt-ltb _ _ w)

    pub number_more : (j : ℕ) → k ≡ suc j → v * 10 + d ≤ 65535 → Reading s at (v * 10 + d) (n + 1) j
    unfolding digits_from
    number_more j q w =
        let b = f.within.0 in
        let l = f.within.1 in
        let p = i.past in
        record { same = step ∙ i.same; past = omega arith; within = omega arith; small = w }
      where
        step : digits_from s j (v * 10 + d) (n + 1) ≡ digits_from s k v n
        step = rw q (simp (← f.same, lt-leb _ _ f.within.0, le-ltb _ _ w))
