-- Laws of an input's lines, taken byte by byte, and of the text after them. Assumes nothing.
use mathlib.Core.Path.{◌≡◌, refl, ap, sym, ◌∙◌}
use mathlib.Core.Bool.{Bool, true, false}
use mathlib.Core.List.{List, [], ◌∷◌}
use Prim.Native.Nat.{ℕ, zero, suc, ◌+◌, ◌-◌, ◌*◌, ◌≤◌, ◌<◌, min}
use native.Mathlib.Numerals.{add-one}
use native.Mathlib.Omega.{arith}
use borrow.Author.Tests.{leb-true, leb-false, ltb-true, ltb-false, eqb-true, eqb-false, lt-ltb, le-ltb, le-leb, lt-leb, eq-eqb, ne_eqb}
use lib.Dec.{eqb, leb, ltb}
use lib.ListN.{length, get_or, take, drop, length-drop, drop_of_length-le, get_or-eq_default}
use lib.Seq.{drop-cons}
use Rattle.std.proofs.lemmas.List.{take_min}
use Rattle.text_grammar.specs.Reader.{pick, Parse, read, stuck, digit_of, digits_from, numeral_of}
use Rattle.program_definitions.specs.Lines.{first_line, text_after, line_number}
use Rattle.program_numbers.specs.Parts.{step_of, line_from, number_by, NumberTaken}
use Rattle.program_numbers.specs.declared.FirstLine.{FirstLine}
use Rattle.program_numbers.specs.declared.FirstLine.TheVariants.{Empty, Zero, Number, Bad}

-- a byte's step, by the digit that it is
module _ (b x : ℕ) (e : x ≡ digit_of b) where
  pub first_none : 10 ≤ x → Bad ≡ step_of Empty b
  unfolding step_of
  first_none h = simp (← e, le-leb _ _ h)

  pub first_zero : x < 10 → x ≡ 0 → Zero ≡ step_of Empty b
  unfolding step_of
  first_zero h z = simp (← e, lt-leb _ _ h, eq-eqb _ _ z)

  pub first_digit : x < 10 → (x ≡ 0 → ⊥) → Number x ≡ step_of Empty b
  unfolding step_of
  first_digit h z = simp (← e, lt-leb _ _ h, ne_eqb _ _ z)

  pub more_none : (v : ℕ) → 10 ≤ x → Bad ≡ step_of (Number v) b
  unfolding step_of
  more_none v h = simp (← e, le-leb _ _ h)

  pub more_over : (v : ℕ) → x < 10 → 65535 < v * 10 + x → Bad ≡ step_of (Number v) b
  unfolding step_of
  more_over v h w = simp (← e, lt-leb _ _ h, lt-ltb _ _ w)

  pub more_digit : (v : ℕ) → x < 10 → v * 10 + x ≤ 65535 → Number (v * 10 + x) ≡ step_of (Number v) b
  unfolding step_of
  more_digit v h w = simp (← e, lt-leb _ _ h, le-ltb _ _ w)

-- no number stays no number
bad_stays : (bs : List ℕ) → line_from Bad bs ≡ Bad
unfolding line_from step_of
bad_stays [] = refl
bad_stays (b ∷ bs) = bad_stays bs

-- v has at least 5 - k digits
record Enough (k v : ℕ) : Type 0 where
  none : k ≤ 0 → 10000 ≤ v
  one : k ≤ 1 → 1000 ≤ v
  two : k ≤ 2 → 100 ≤ v
  three : k ≤ 3 → 10 ≤ v

enough_more : (k v x : ℕ) → 1 ≤ v → Enough (suc k) v → Enough k (v * 10 + x)
enough_more k v x p h = record {
  none = λ z. omega (arith, h.one (omega arith));
  one = λ z. omega (arith, h.two (omega arith));
  two = λ z. omega (arith, h.three (omega arith));
  three = λ z. omega arith;
}

enough_four : (v : ℕ) → Enough 4 v
enough_four v = record { none = λ q. absurd (omega arith); one = λ q. absurd (omega arith); two = λ q. absurd (omega arith); three = λ q. absurd (omega arith) }

-- the byte at n is where the rest begins
module _ (line : List ℕ) (n b : ℕ) (bs : List ℕ) (e : drop n line ≡ b ∷ bs) where
  inside : n < length line
  inside = let q : length line - n ≡ suc (length bs) = sym (length-drop n line) ∙ ap length e in omega arith

  stands : get_or line n 0 ≡ b
  stands = ap (λ (l : List ℕ). get_or l 0 0) (sym (drop-cons line n 0 inside) ∙ e)

  follows : drop (n + 1) line ≡ bs
  follows = rw add-one (ap (λ (l : List ℕ). drop 1 l) (sym (drop-cons line n 0 inside) ∙ e))

module _ (s : List ℕ) (v n x : ℕ) (e : x ≡ digit_of (get_or s n 0)) where
  digits_more : (k : ℕ) → x < 10 → v * 10 + x ≤ 65535 → digits_from s (suc k) v n ≡ digits_from s k (v * 10 + x) (n + 1)
  unfolding digits_from
  digits_more k b w = simp (← e, lt-leb _ _ b, le-ltb _ _ w)

  digits_none : (k : ℕ) → 10 ≤ x → digits_from s k v n ≡ read n v
  unfolding digits_from
  digits_none zero b = refl
  digits_none (suc k) b = simp (← e, le-leb _ _ b)

  digits_over : (k : ℕ) → x < 10 → 65535 < v * 10 + x → digits_from s k v n ≡ read n v
  unfolding digits_from
  digits_over zero b w = refl
  digits_over (suc k) b w = simp (← e, lt-leb _ _ b, lt-ltb _ _ w)

no_digit : 10 ≡ digit_of 0
unfolding digit_of
no_digit = refl

line_from_more : (s : FirstLine) (b : ℕ) (bs : List ℕ) → line_from s (b ∷ bs) ≡ line_from (step_of s b) bs
unfolding line_from
line_from_more s b bs = refl

line_from_end : (s : FirstLine) → line_from s [] ≡ s
unfolding line_from
line_from_end s = refl

-- a line that is no number counts as another
module _ (other : ℕ) where
  bad_value : (bs : List ℕ) → number_by other (line_from Bad bs) ≡ other
  unfolding number_by
  bad_value bs = rw (bad_stays bs) refl

  -- the number that ends where the line does, or the other
  abbrev ends_at : List ℕ → Parse ℕ → ℕ
  ends_at line (read n v) = pick (eqb n (length line)) v other
  ends_at line (stuck p) = other

  ends_there : (line : List ℕ) (n v : ℕ) → n ≡ length line → ends_at line (read n v) ≡ v
  ends_there line n v h = rw (eq-eqb _ _ h) refl

  ends_before : (line : List ℕ) (n v : ℕ) → n < length line → ends_at line (read n v) ≡ other
  ends_before line n v h = rw (ne_eqb n (length line) (λ e. omega arith)) refl

  number_ends : (line : List ℕ) → line_number other line ≡ ends_at line (numeral_of line 0)
  unfolding line_number
  number_ends line = go (numeral_of line 0)
    where
      at : (t : Bool) (v : ℕ) → (elim t [ true ↦ v | false ↦ other ]) ≡ pick t v other
      at true v = refl
      at false v = refl

      go : (p : Parse ℕ) → (elim p [ read n v ↦ elim (eqb n (length line)) [ true ↦ v | false ↦ other ] | stuck p ↦ other ]) ≡ ends_at line p
      go (read n v) = at (eqb n (length line)) v
      go (stuck p) = refl

  pub value_number : (v : ℕ) → number_by other (Number v) ≡ v
  unfolding number_by
  value_number v = refl

  -- a state that a step leads to, and its value after the rest
  value_step : (s t : FirstLine) (b : ℕ) (bs : List ℕ) → t ≡ step_of s b → number_by other (line_from s (b ∷ bs)) ≡ number_by other (line_from t bs)
  value_step s t b bs e = rw (line_from_more s b bs) (ap (λ (u : FirstLine). number_by other (line_from u bs)) (sym e))

  -- one byte more after a number, with what the rest decides
  module _ (line : List ℕ) (b : ℕ) (bs : List ℕ) (v n x : ℕ) (e : x ≡ digit_of b) (g : x ≡ digit_of (get_or line n 0)) (i : n < length line) where
    byte_none : (k : ℕ) → 10 ≤ x → number_by other (line_from (Number v) (b ∷ bs)) ≡ ends_at line (digits_from line k v n)
    byte_none k h =
        (value_step (Number v) Bad b bs (more_none b x e v h) ∙ bad_value bs) ∙ sym (ap (ends_at line) (digits_none line v n x g k h) ∙ ends_before line n v i)

    byte_over : (k : ℕ) → x < 10 → 65535 < v * 10 + x → number_by other (line_from (Number v) (b ∷ bs)) ≡ ends_at line (digits_from line k v n)
    byte_over k h w =
        (value_step (Number v) Bad b bs (more_over b x e v h w) ∙ bad_value bs) ∙ sym (ap (ends_at line) (digits_over line v n x g k h w) ∙ ends_before line n v i)

    module _ (rest : (k u : ℕ) → 1 ≤ u → u ≤ 65535 → Enough k u → number_by other (line_from (Number u) bs) ≡ ends_at line (digits_from line k u (n + 1))) (p : 1 ≤ v) where
      byte_digit : (k : ℕ) → x < 10 → v * 10 + x ≤ 65535 → Enough k v → number_by other (line_from (Number v) (b ∷ bs)) ≡ ends_at line (digits_from line k v n)
      byte_digit zero h w m = absurd (omega (arith, m.none (omega arith)))
      byte_digit (suc k) h w m =
          value_step (Number v) (Number (v * 10 + x)) b bs (more_digit b x e v h w)
          ∙ (rest k (v * 10 + x) (omega arith) w (enough_more k v x p m) ∙ sym (ap (ends_at line) (digits_more line v n x g k h w)))

      byte_more : (k : ℕ) → Enough k v → number_by other (line_from (Number v) (b ∷ bs)) ≡ ends_at line (digits_from line k v n)
      byte_more k m = go (leb 10 x) (ltb 65535 (v * 10 + x)) refl refl
        where
          go : (s t : Bool) → leb 10 x ≡ s → ltb 65535 (v * 10 + x) ≡ t → number_by other (line_from (Number v) (b ∷ bs)) ≡ ends_at line (digits_from line k v n)
          go true t h w = byte_none k (leb-true _ _ h)
          go false true h w = byte_over k (leb-false _ _ h) (ltb-true _ _ w)
          go false false h w = byte_digit k (leb-false _ _ h) (ltb-false _ _ w) m

  -- after a number, the rest of the line decides alike
  number_from : (line : List ℕ) (bs : List ℕ) (k v n : ℕ) → drop n line ≡ bs → n ≤ length line → 1 ≤ v → v ≤ 65535 → Enough k v →
      number_by other (line_from (Number v) bs) ≡ ends_at line (digits_from line k v n)
  number_from line [] k v n e w p m h =
      let q : length line - n ≡ 0 = sym (length-drop n line) ∙ ap length e in
      let g : get_or line n 0 ≡ 0 = get_or-eq_default line 0 (omega arith) in
      let d = digits_none line v n 10 (no_digit ∙ ap digit_of (sym g)) k (omega arith) in
      (ap (number_by other) (line_from_end (Number v)) ∙ value_number v) ∙ sym (ap (ends_at line) d ∙ ends_there line n v (omega arith))
  number_from line (b ∷ bs) k v n e w p m h =
      let x = digit_of b in
      let g : x ≡ digit_of (get_or line n 0) = ap digit_of (sym (stands line n b bs e)) in
      let i = inside line n b bs e in
      byte_more line b bs v n x refl g i (λ l u. number_from line bs l u (n + 1) (follows line n b bs e) (omega arith)) p k h

  -- a line that begins with 0
  zero_line : (b : ℕ) (bs : List ℕ) → number_by other (line_from Zero bs) ≡ ends_at (b ∷ bs) (read 1 0)
  unfolding number_by line_from step_of
  zero_line b [] = sym (ends_there (b ∷ []) 1 0 refl)
  zero_line b (d ∷ ds) = bad_value ds ∙ sym (ends_before (b ∷ d ∷ ds) 1 0 (omega arith))

  -- a whole line
  module _ (b : ℕ) (bs : List ℕ) (x : ℕ) (e : x ≡ digit_of b) where
    number_none : 10 ≤ x → numeral_of (b ∷ bs) 0 ≡ stuck 0
    unfolding numeral_of
    number_none h = simp (← e, le-leb _ _ h)

    number_zero : x < 10 → x ≡ 0 → numeral_of (b ∷ bs) 0 ≡ read 1 0
    unfolding numeral_of
    number_zero h z = simp (← e, lt-leb _ _ h, eq-eqb _ _ z)

    number_digit : x < 10 → (x ≡ 0 → ⊥) → numeral_of (b ∷ bs) 0 ≡ digits_from (b ∷ bs) 4 x 1
    unfolding numeral_of
    number_digit h z = simp (← e, lt-leb _ _ h, ne_eqb _ _ z)

    line_none : 10 ≤ x → number_by other (line_from Empty (b ∷ bs)) ≡ ends_at (b ∷ bs) (numeral_of (b ∷ bs) 0)
    line_none h = (value_step Empty Bad b bs (first_none b x e h) ∙ bad_value bs) ∙ sym (ap (ends_at (b ∷ bs)) (number_none h))

    line_zero : x < 10 → x ≡ 0 → number_by other (line_from Empty (b ∷ bs)) ≡ ends_at (b ∷ bs) (numeral_of (b ∷ bs) 0)
    line_zero h z = value_step Empty Zero b bs (first_zero b x e h z) ∙ (zero_line b bs ∙ sym (ap (ends_at (b ∷ bs)) (number_zero h z)))

    line_number_lem : x < 10 → (x ≡ 0 → ⊥) → number_by other (line_from Empty (b ∷ bs)) ≡ ends_at (b ∷ bs) (numeral_of (b ∷ bs) 0)
    line_number_lem h z =
        value_step Empty (Number x) b bs (first_digit b x e h z)
        ∙ (number_from (b ∷ bs) bs 4 x 1 refl (omega arith) (omega (arith, z)) (omega arith) (enough_four x) ∙ sym (ap (ends_at (b ∷ bs)) (number_digit h z)))

  line_ends : (line : List ℕ) → number_by other (line_from Empty line) ≡ ends_at line (numeral_of line 0)
  unfolding number_by line_from numeral_of digit_of
  line_ends [] = refl
  line_ends (b ∷ bs) = go (leb 10 (digit_of b)) (eqb (digit_of b) 0) refl refl
    where
      go : (s t : Bool) → leb 10 (digit_of b) ≡ s → eqb (digit_of b) 0 ≡ t → number_by other (line_from Empty (b ∷ bs)) ≡ ends_at (b ∷ bs) (numeral_of (b ∷ bs) 0)
      go true t h w = line_none b bs (digit_of b) refl (leb-true _ _ h)
      go false true h w = line_zero b bs (digit_of b) refl (leb-false _ _ h) (eqb-true _ _ w)
      go false false h w = line_number_lem b bs (digit_of b) refl (leb-false _ _ h) (eqb-false _ _ w)

  -- byte by byte: the number that the line is, or the other
  pub line_value : (line : List ℕ) → number_by other (line_from Empty line) ≡ line_number other line
  line_value line = line_ends line ∙ sym (number_ends line)

-- the loop's invariant: what is left of the line, after what was taken, leads where the whole line does
pub record Numbering (input : List ℕ) (from : ℕ) (line : FirstLine) (i : ℕ) : Type 0 where
  pub within : from ≤ length input → i ≤ length input
  pub left : line_from line (first_line (drop i input)) ≡ line_from Empty (first_line (drop from input))
  pub rest : text_after (drop i input) ≡ text_after (drop from input)

-- the first line and the rest of a list, by its first byte
module _ (b : ℕ) (bs : List ℕ) where
  pub at_break : b ≡ 10 → first_line (b ∷ bs) ≡ []
  unfolding first_line
  at_break e = rw (eq-eqb _ _ e, first_line) refl

  pub rest_break : b ≡ 10 → text_after (b ∷ bs) ≡ bs
  unfolding text_after
  rest_break e = rw (eq-eqb _ _ e, text_after) refl

  pub at_other : (b ≡ 10 → ⊥) → first_line (b ∷ bs) ≡ b ∷ first_line bs
  unfolding first_line
  at_other e = rw (ne_eqb _ _ e, first_line) refl

  pub rest_other : (b ≡ 10 → ⊥) → text_after (b ∷ bs) ≡ text_after bs
  unfolding text_after
  rest_other e = rw (ne_eqb _ _ e, text_after) refl

pub line_none_left : first_line [] ≡ []
unfolding first_line
line_none_left = refl

pub rest_none_left : text_after [] ≡ []
unfolding text_after
rest_none_left = refl

module _ {input : List ℕ} {from : ℕ} {line : FirstLine} {i : ℕ} (h : Numbering input from line i) where
  pub numbering_more : (next : FirstLine) → i < length input → (get_or input i 0 ≡ 10 → ⊥) → next ≡ step_of line (get_or input i 0) → Numbering input from next (i + 1)
  numbering_more next k n e =
      let b = get_or input i 0 in
      let later = drop (suc i) input in
      let d : drop i input ≡ b ∷ later = drop-cons input i 0 k in
      let q : first_line (drop i input) ≡ b ∷ first_line later = ap first_line d ∙ at_other b later n in
      record {
        within = λ w. omega arith;
        left = rw add-one (
            ap (λ (l : FirstLine). line_from l (first_line later)) e
            ∙ (sym (line_from_more line b (first_line later)) ∙ (ap (line_from line) (sym q) ∙ h.left)));
        rest = rw add-one (sym (ap text_after d ∙ rest_other b later n) ∙ h.rest);
      }

  whole : first_line (drop i input) ≡ [] → line ≡ line_from Empty (first_line (drop from input))
  whole q = sym (line_from_end line) ∙ (ap (line_from line) (sym q) ∙ h.left)

  pub numbering_break : i < length input → get_or input i 0 ≡ 10 → NumberTaken input from (record { line = line; at = i + 1 })
  numbering_break k n =
      let b = get_or input i 0 in
      let later = drop (suc i) input in
      let d : drop i input ≡ b ∷ later = drop-cons input i 0 k in
      record {
        line = whole (ap first_line d ∙ at_break b later n);
        within = λ w. omega arith;
        rest = rw add-one (sym (ap text_after d ∙ rest_break b later n) ∙ h.rest);
      }

  pub numbering_end : length input ≤ i → NumberTaken input from (record { line = line; at = length input })
  numbering_end k =
      let d : drop i input ≡ [] = drop_of_length-le input k in
      record {
        line = whole (ap first_line d ∙ line_none_left);
        within = λ w. omega arith;
        rest = drop_of_length-le input (omega arith) ∙ (sym rest_none_left ∙ (ap text_after (sym d) ∙ h.rest));
      }

-- the part of the input that is kept
pub kept_text : (most : ℕ) (input rest : List ℕ) (at to : ℕ) → drop at input ≡ rest → to ≡ at + min (length input - at) most
    → take (to - at) (drop at input) ≡ take most rest
kept_text most input rest at to d e =
    let q : to - at ≡ min most (length (drop at input)) = omega (arith, e, length-drop at input) in
    ap (λ (n : ℕ). take n (drop at input)) q ∙ (take_min most (drop at input) ∙ ap (take most) d)
