-- Laws of a line's fields, taken byte by byte: what the bytes come to is the number that they are, or none. Assumes nothing.
use mathlib.Core.Path.{◌≡◌, refl, ap, sym, ◌∙◌}
use mathlib.Core.Bool.{Bool, true, false, ◌&&◌, ◌||◌}
use mathlib.Core.List.{List, [], ◌∷◌}
use mathlib.Core.Logic.{◌⊎◌, inl, inr}
use Prim.Native.Nat.{ℕ, suc, ◌+◌, ◌-◌, ◌*◌, ◌≤◌, ◌<◌}
use native.Mathlib.Numerals.{add-one}
use native.Mathlib.Omega.{arith}
use borrow.Author.Tests.{leb-true, leb-false, eqb-true, eqb-false, lt-ltb, le-ltb, le-leb, lt-leb, eq-eqb, ne_eqb}
use lib.Dec.{eqb, leb, ltb}
use lib.ListN.{length, get_or, drop, drop_of_length-le}
use lib.Seq.{drop-cons}
use Rattle.questions.specs.Tests.{all}
use Rattle.text_grammar.specs.Reader.{pick, digit_of}
use Rattle.program_definitions.specs.Lines.{first_line, text_after}
use Rattle.program_definitions.specs.TimerLines.{before_space, after_space, is_digit, digits_after, number_in, is_number}
use Rattle.program_numbers.proofs.Lines.{at_break, rest_break, at_other, rest_other, line_none_left, rest_none_left}
use Rattle.std.specs.Prelude.{Option, Some, None, max}
use Rattle.program_timer_lines.specs.Fields.{next_digit, next_byte, field_of, has_space, FieldRead, BreakTaken}
use Rattle.program_timer_lines.specs.declared.Digits.{Digits}
use Rattle.program_timer_lines.specs.declared.Digits.TheVariants.{Empty, Value, Wrong}
use Rattle.program_timer_lines.specs.declared.Field.{Field}

-- ---- one byte

module _ (most v b x : ℕ) (e : x ≡ digit_of b) where
  pub digit_none : 10 ≤ x → Wrong ≡ next_digit most v b
  unfolding next_digit
  digit_none h = simp (← e, le-leb _ _ h)

  pub digit_over : x < 10 → most < v * 10 + x → Wrong ≡ next_digit most v b
  unfolding next_digit
  digit_over h w = simp (← e, lt-leb _ _ h, lt-ltb _ _ w)

  pub digit_taken : x < 10 → v * 10 + x ≤ most → Value (v * 10 + x) ≡ next_digit most v b
  unfolding next_digit
  digit_taken h w = simp (← e, lt-leb _ _ h, le-ltb _ _ w)

module _ (most b v : ℕ) where
  byte_more : (v ≡ 0 → ⊥) → next_digit most v b ≡ next_byte most (Value v) b
  unfolding next_byte
  byte_more z = rw (ne_eqb v 0 z) refl

-- the digit of a byte that is one
digit_is : (b : ℕ) → is_digit b ≡ true → (digit_of b ≡ b - 48) × (digit_of b < 10)
unfolding is_digit digit_of
digit_is b h = go (leb 48 b) (leb b 57) refl refl h
  where
    go : (p q : Bool) → leb 48 b ≡ p → leb b 57 ≡ q → (p && q) ≡ true
        → (pick (ltb b 48) 10 (pick (ltb 57 b) 10 (b - 48)) ≡ b - 48) × (pick (ltb b 48) 10 (pick (ltb 57 b) 10 (b - 48)) < 10)
    go true true u w z = rw (le-ltb b 48 (leb-true 48 b u), le-ltb 57 b (leb-true b 57 w)) (refl, omega (arith, leb-true b 57 w))
    go true false u w z = let k : ◌≡◌ {A = ℕ} 0 1 = cc in absurd (omega arith)
    go false q u w z = let k : ◌≡◌ {A = ℕ} 0 1 = cc in absurd (omega arith)

digit_not : (b : ℕ) → is_digit b ≡ false → 10 ≤ digit_of b
unfolding is_digit digit_of
digit_not b h = go (leb 48 b) (leb b 57) refl refl h
  where
    go : (p q : Bool) → leb 48 b ≡ p → leb b 57 ≡ q → (p && q) ≡ false → 10 ≤ pick (ltb b 48) 10 (pick (ltb 57 b) 10 (b - 48))
    go true true u w z = let k : ◌≡◌ {A = ℕ} 0 1 = cc in absurd (omega arith)
    go true false u w z = rw (le-ltb b 48 (leb-true 48 b u), lt-ltb 57 b (leb-false b 57 w)) (omega arith)
    go false q u w z = rw (lt-ltb b 48 (leb-false 48 b u)) (omega arith)

-- ---- all bytes of a field

unfoldable pub field_from : ℕ → Digits → List ℕ → Digits
field_from most d [] = d
field_from most d (b ∷ bs) = field_from most (next_byte most d b) bs

wrong_stays : (most : ℕ) (bs : List ℕ) → field_from most Wrong bs ≡ Wrong
unfolding field_from next_byte
wrong_stays most [] = refl
wrong_stays most (b ∷ bs) = wrong_stays most bs

and_no : (p : Bool) → (p && false) ≡ false
and_no true = refl
and_no false = refl

grows : (ds : List ℕ) (v : ℕ) → v ≤ digits_after v ds
unfolding digits_after
grows [] v = omega arith
grows (d ∷ ds) v = let h = grows ds (v * 10 + (d - 48)) in omega arith

-- more digits after a number that is not 0
abbrev number_after : ℕ → ℕ → List ℕ → Digits
number_after most v ds = pick (all is_digit ds && leb (digits_after v ds) most) (Value (digits_after v ds)) Wrong

module _ (most d : ℕ) (ds : List ℕ) (v : ℕ) (later : (n : ℕ) → 1 ≤ n → n ≤ most → field_from most (Value n) ds ≡ number_after most n ds) where
  more_none : is_digit d ≡ false → field_from most (next_digit most v d) ds ≡ number_after most v (d ∷ ds)
  more_none h = ap (λ (y : Digits). field_from most y ds) (sym (digit_none most v d (digit_of d) refl (digit_not d h))) ∙ (wrong_stays most ds ∙ rw h refl)

  more_over : is_digit d ≡ true → most < v * 10 + (d - 48) → field_from most (next_digit most v d) ds ≡ number_after most v (d ∷ ds)
  unfolding digits_after
  more_over h x =
      let k = digit_is d h in
      let g = grows ds (v * 10 + (d - 48)) in
      ap (λ (y : Digits). field_from most y ds) (sym (digit_over most v d (digit_of d) refl k.1 (omega (arith, k.0))))
      ∙ (wrong_stays most ds ∙ rw (h, lt-leb (digits_after (v * 10 + (d - 48)) ds) most (omega arith), and_no (all is_digit ds)) refl)

  more_taken : is_digit d ≡ true → 1 ≤ v * 10 + (d - 48) → v * 10 + (d - 48) ≤ most → field_from most (next_digit most v d) ds ≡ number_after most v (d ∷ ds)
  unfolding digits_after
  more_taken h p x =
      let k = digit_is d h in
      let n = v * 10 + (d - 48) in
      let q : v * 10 + digit_of d ≡ n = ap (λ (y : ℕ). v * 10 + y) k.0 in
      ap (λ (y : Digits). field_from most y ds) (sym (digit_taken most v d (digit_of d) refl k.1 (omega (arith, k.0))) ∙ ap Value q) ∙ (later n p x ∙ rw h refl)

  more_digit : (is_digit d ≡ true → 1 ≤ v * 10 + (d - 48)) → field_from most (next_digit most v d) ds ≡ number_after most v (d ∷ ds)
  more_digit p = go (is_digit d) (leb (v * 10 + (d - 48)) most) refl refl
    where
      go : (s t : Bool) → is_digit d ≡ s → leb (v * 10 + (d - 48)) most ≡ t → field_from most (next_digit most v d) ds ≡ number_after most v (d ∷ ds)
      go false t h x = more_none h
      go true true h x = more_taken h (p h) (leb-true _ _ x)
      go true false h x = more_over h (leb-false _ _ x)

field_more : (most : ℕ) (ds : List ℕ) (v : ℕ) → 1 ≤ v → v ≤ most → field_from most (Value v) ds ≡ number_after most v ds
unfolding field_from digits_after
field_more most [] v p w = rw (le-leb v most w) refl
field_more most (d ∷ ds) v p w =
    sym (ap (λ (y : Digits). field_from most y ds) (byte_more most d v (λ z. omega arith)))
    ∙ more_digit most d ds v (λ n. field_more most ds n) (λ h. omega arith)

-- a field that begins with 0
zero_field : (most : ℕ) (ds : List ℕ) → field_from most (Value 0) ds ≡ pick (eqb (length ds) 0) (Value 0) Wrong
unfolding field_from next_byte
zero_field most [] = refl
zero_field most (d ∷ ds) = wrong_stays most ds ∙ rw (ne_eqb (length (d ∷ ds)) 0 (λ e. omega arith)) refl

-- ---- the whole field

abbrev number_or : Digits → ℕ → List ℕ → Digits
number_or other most ds = pick (is_number most ds) (Value (number_in ds)) other

whole_zero : (most : ℕ) (ds : List ℕ) → pick (eqb (length ds) 0) (Value 0) Wrong ≡ number_or Wrong most (48 ∷ ds)
unfolding is_number is_digit digits_after
whole_zero most [] = rw (le-leb 0 most (omega arith)) refl
whole_zero most (d ∷ ds) =
    rw (
      ne_eqb (length (d ∷ ds)) 0 (λ e. omega arith),
      le-leb 1 (length (48 ∷ d ∷ ds)) (omega arith),
      ne_eqb (length (48 ∷ d ∷ ds)) 1 (λ e. omega arith),
      and_no (all is_digit (48 ∷ d ∷ ds)),
    ) refl

-- a number that does not begin with 0
or_yes : (p : Bool) → (p || true) ≡ true
or_yes true = refl
or_yes false = refl

whole_other : (most d : ℕ) (ds : List ℕ) → (d ≡ 48 → ⊥) → number_after most 0 (d ∷ ds) ≡ number_or Wrong most (d ∷ ds)
unfolding is_number
whole_other most d ds n = rw (ne_eqb d 48 n, le-leb 1 (length (d ∷ ds)) (omega arith), or_yes (eqb (length (d ∷ ds)) 1)) refl

digit_some : (d : ℕ) → is_digit d ≡ true → (d ≡ 48 → ⊥) → 1 ≤ 0 * 10 + (d - 48)
unfolding is_digit
digit_some d h n = at (leb 48 d) (leb d 57) refl h
  where
    at : (p q : Bool) → leb 48 d ≡ p → (p && q) ≡ true → 1 ≤ 0 * 10 + (d - 48)
    at true q u z = omega (arith, n, leb-true 48 d u)
    at false q u z = let k : ◌≡◌ {A = ℕ} 0 1 = cc in absurd (omega arith)

first_zero : (most : ℕ) → next_digit most 0 48 ≡ Value 0
unfolding next_digit digit_of
first_zero most = rw (le-ltb most 0 (omega arith)) refl

field_one : (most d : ℕ) (ds : List ℕ) → field_from most (next_digit most 0 d) ds ≡ number_or Wrong most (d ∷ ds)
field_one most d ds = go (eqb d 48) refl
  where
    go : (t : Bool) → eqb d 48 ≡ t → field_from most (next_digit most 0 d) ds ≡ number_or Wrong most (d ∷ ds)
    go true e =
        rw (eqb-true d 48 e) (ap (λ (y : Digits). field_from most y ds) (first_zero most) ∙ (zero_field most ds ∙ whole_zero most ds))
    go false e = more_digit most d ds 0 (field_more most ds) (λ h. digit_some d h (eqb-false d 48 e)) ∙ whole_other most d ds (eqb-false d 48 e)

pub field_all : (most : ℕ) (ds : List ℕ) → (field_from most Empty ds ≡ number_or Wrong most ds) ⊎ ((field_from most Empty ds ≡ Empty) × (is_number most ds ≡ false))
unfolding field_from is_number next_byte
field_all most [] = inr (refl, refl)
field_all most (d ∷ ds) = inl (field_one most d ds)

-- what is made of it
module _ (most : ℕ) (ds : List ℕ) (spaced : Bool) (at : ℕ) where
  abbrev made : Option Field
  made = field_of (field_from most Empty ds) spaced at

  made_field : is_number most ds ≡ true → made ≡ Some (record { value = number_in ds; spaced = spaced; at = at })
  unfolding field_of
  made_field e = go (field_all most ds)
    where
      go : (field_from most Empty ds ≡ number_or Wrong most ds) ⊎ ((field_from most Empty ds ≡ Empty) × (is_number most ds ≡ false)) → made ≡ Some (record { value = number_in ds; spaced = spaced; at = at })
      go (inl q) = rw (q, e) refl
      go (inr q) = absurd (cc)

  made_none : is_number most ds ≡ false → made ≡ None
  unfolding field_of
  made_none e = go (field_all most ds)
    where
      go : (field_from most Empty ds ≡ number_or Wrong most ds) ⊎ ((field_from most Empty ds ≡ Empty) × (is_number most ds ≡ false)) → made ≡ None
      go (inl q) = rw (q, e) refl
      go (inr q) = rw q.0 refl

-- ---- a line up to a space

module _ (b : ℕ) (bs : List ℕ) where
  before_space_lem : b ≡ 32 → before_space (b ∷ bs) ≡ []
  unfolding before_space
  before_space_lem e = rw (eq-eqb _ _ e, before_space) refl

  after_space_lem : b ≡ 32 → after_space (b ∷ bs) ≡ bs
  unfolding after_space
  after_space_lem e = rw (eq-eqb _ _ e, after_space) refl

  has_space_lem : b ≡ 32 → has_space (b ∷ bs) ≡ true
  unfolding has_space
  has_space_lem e = rw (eq-eqb _ _ e, has_space) refl

  before_other : (b ≡ 32 → ⊥) → before_space (b ∷ bs) ≡ b ∷ before_space bs
  unfolding before_space
  before_other e = rw (ne_eqb _ _ e, before_space) refl

  after_other : (b ≡ 32 → ⊥) → after_space (b ∷ bs) ≡ after_space bs
  unfolding after_space
  after_other e = rw (ne_eqb _ _ e, after_space) refl

  has_other : (b ≡ 32 → ⊥) → has_space (b ∷ bs) ≡ has_space bs
  unfolding has_space
  has_other e = rw (ne_eqb _ _ e, has_space) refl

before_none : before_space [] ≡ []
unfolding before_space
before_none = refl

after_none : after_space [] ≡ []
unfolding after_space
after_none = refl

has_none : has_space [] ≡ false
unfolding has_space
has_none = refl

-- the loop's invariant: what is left of the field, after what was taken, leads where the whole field does
pub record Fielding (input : List ℕ) (from most : ℕ) (d : Digits) (i : ℕ) : Type 0 where
  pub within : from ≤ length input → i ≤ length input
  pub onward : from ≤ i
  pub left : field_from most d (before_space (first_line (drop i input))) ≡ field_from most Empty (before_space (first_line (drop from input)))
  pub after : after_space (first_line (drop i input)) ≡ after_space (first_line (drop from input))
  pub spaces : has_space (first_line (drop i input)) ≡ has_space (first_line (drop from input))
  pub rest : text_after (drop i input) ≡ text_after (drop from input)

field_next : (most : ℕ) (d : Digits) (b : ℕ) (bs : List ℕ) → field_from most d (b ∷ bs) ≡ field_from most (next_byte most d b) bs
unfolding field_from
field_next most d b bs = refl

field_end : (most : ℕ) (d : Digits) → field_from most d [] ≡ d
unfolding field_from
field_end most d = refl

module _ {input : List ℕ} {from most : ℕ} {d : Digits} {i : ℕ} (h : Fielding input from most d i) where
  pub fielding_more : (x : Digits) → i < length input → (get_or input i 0 ≡ 10 → ⊥) → (get_or input i 0 ≡ 32 → ⊥) → x ≡ next_byte most d (get_or input i 0)
      → Fielding input from most x (i + 1)
  fielding_more x k n s e =
      let b = get_or input i 0 in
      let later = drop (suc i) input in
      let c : drop i input ≡ b ∷ later = drop-cons input i 0 k in
      let q : first_line (drop i input) ≡ b ∷ first_line later = ap first_line c ∙ at_other b later n in
      record {
        within = λ w. omega arith;
        onward = omega (arith, h.onward);
        left = rw add-one (
            ap (λ (y : Digits). field_from most y (before_space (first_line later))) e
            ∙ (sym (field_next most d b (before_space (first_line later)))
            ∙ (ap (field_from most d) (sym (ap before_space q ∙ before_other b (first_line later) s)) ∙ h.left)));
        after = rw add-one (sym (ap after_space q ∙ after_other b (first_line later) s) ∙ h.after);
        spaces = rw add-one (sym (ap has_space q ∙ has_other b (first_line later) s) ∙ h.spaces);
        rest = rw add-one (sym (ap text_after c ∙ rest_other b later n) ∙ h.rest);
      }

  abbrev whole_field : List ℕ
  whole_field = before_space (first_line (drop from input))

  -- what is left of the field being nothing
  whole : before_space (first_line (drop i input)) ≡ [] → d ≡ field_from most Empty (before_space (first_line (drop from input)))
  whole q = sym (field_end most d) ∙ (ap (field_from most d) (sym q) ∙ h.left)

  ended : (r : Option Field) (spaced : Bool) (at : ℕ) → r ≡ field_of d spaced at → before_space (first_line (drop i input)) ≡ []
      → spaced ≡ has_space (first_line (drop i input)) → first_line (drop at input) ≡ after_space (first_line (drop i input))
      → text_after (drop at input) ≡ text_after (drop i input) → (from ≤ length input → at ≤ length input) → from ≤ at → FieldRead input from most r
  ended r spaced at e q s a t w o = go (is_number most whole_field) refl
    where
      same : r ≡ made most whole_field spaced at
      same = e ∙ ap (λ (y : Digits). field_of y spaced at) (whole q)

      go : (x : Bool) → is_number most whole_field ≡ x → FieldRead input from most r
      go false n = rw (same ∙ made_none most whole_field spaced at n) n
      go true n = rw (same ∙ made_field most whole_field spaced at n) (record {
        legal = n;
        value = refl;
        spaced = s ∙ h.spaces;
        after = a ∙ h.after;
        rest = t ∙ h.rest;
        within = w;
        onward = o;
      })

  pub fielding_break : (r : Option Field) → i < length input → get_or input i 0 ≡ 10 → r ≡ field_of d false i → FieldRead input from most r
  fielding_break r k n e =
      let later = drop (suc i) input in
      let q : first_line (drop i input) ≡ [] = ap first_line (drop-cons input i 0 k) ∙ at_break (get_or input i 0) later n in
      ended r false i e (ap before_space q ∙ before_none) (sym (ap has_space q ∙ has_none)) (q ∙ sym (ap after_space q ∙ after_none)) refl h.within h.onward

  pub fielding_space : (r : Option Field) → i < length input → (get_or input i 0 ≡ 10 → ⊥) → get_or input i 0 ≡ 32 → r ≡ field_of d true (i + 1) → FieldRead input from most r
  fielding_space r k n s e =
      let b = get_or input i 0 in
      let later = drop (suc i) input in
      let c : drop i input ≡ b ∷ later = drop-cons input i 0 k in
      let q : first_line (drop i input) ≡ b ∷ first_line later = ap first_line c ∙ at_other b later n in
      ended r true (i + 1) e (ap before_space q ∙ before_space_lem b (first_line later) s) (sym (ap has_space q ∙ has_space_lem b (first_line later) s))
      (rw add-one (sym (ap after_space q ∙ after_space_lem b (first_line later) s))) (rw add-one (sym (ap text_after c ∙ rest_other b later n))) (λ w. omega arith) (omega (arith, h.onward))

  -- at the end of the input
  pub fielding_end : (r : Option Field) → length input ≤ i → r ≡ field_of d false (max from (length input)) → FieldRead input from most r
  fielding_end r k e =
      let c : drop i input ≡ [] = drop_of_length-le input k in
      let z : drop (max from (length input)) input ≡ [] = drop_of_length-le input (omega arith) in
      let q : first_line (drop i input) ≡ [] = ap first_line c ∙ line_none_left in
      ended r false (max from (length input)) e (ap before_space q ∙ before_none) (sym (ap has_space q ∙ has_none))
      ((ap first_line z ∙ line_none_left) ∙ sym (ap after_space q ∙ after_none)) (ap text_after (z ∙ sym c)) (λ w. omega arith) (omega arith)

-- ---- the end of a line

module _ (input : List ℕ) (at : ℕ) where
  pub break_end : length input ≤ at → BreakTaken input at at
  break_end k =
      let c : drop at input ≡ [] = drop_of_length-le input k in
      record { rest = λ e. c ∙ sym (ap text_after c ∙ rest_none_left); within = λ w. w; onward = omega arith }

  pub break_taken : at < length input → get_or input at 0 ≡ 10 → BreakTaken input at (at + 1)
  break_taken k n = record {
    rest = λ e. rw add-one (sym (ap text_after (drop-cons input at 0 k) ∙ rest_break (get_or input at 0) (drop (suc at) input) n));
    within = λ w. omega arith;
    onward = omega arith;
  }

  pub break_none : at < length input → (get_or input at 0 ≡ 10 → ⊥) → BreakTaken input at at
  break_none k n = record {
    rest = λ e.
        let q : get_or input at 0 ∷ first_line (drop (suc at) input) ≡ []
        = sym (ap first_line (drop-cons input at 0 k) ∙ at_other (get_or input at 0) (drop (suc at) input) n) ∙ e in
        let z : suc (length (first_line (drop (suc at) input))) ≡ 0 = ap length q in
        absurd (omega arith);
    within = λ w. w;
    onward = omega arith;
  }
