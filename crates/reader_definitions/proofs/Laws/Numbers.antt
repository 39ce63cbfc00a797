-- A number of the text is the decimal of its value, and nothing else. Assumes nothing.
use Rattle.std.specs.Prelude.{ℕ, zero, suc, ◌+◌, ◌*◌, ◌/◌, ◌%◌, ◌≤◌, ◌<◌, ◌≡◌, refl, List, [], ◌∷◌, ◌++◌}
use Rattle.std.proofs.Common.{arith, sym, ap, subst, ◌∙◌}
use Rattle.std.proofs.Math.Decide.{dec_lt}
use Rattle.questions.specs.Bytes.{byte, decimal}
use Rattle.printing.proofs.Laws.Puts.{decimal_one, decimal_more}
use Rattle.text_grammar.specs.Grammar.{IsDigits, first, next, IsNumber, nought, digits}

digits_some : {s : List ℕ} {v : ℕ} → IsDigits s v → 1 ≤ v
digits_some (first d l g) = l
digits_some (next x d g) = let h = digits_some x in omega arith

digits_decimal : {s : List ℕ} {v : ℕ} → IsDigits s v → s ≡ decimal v
digits_decimal (first d l g) = sym (decimal_one d (omega arith))
digits_decimal (next {s = s} {v = v} x d g) =
    let h = digits_some x in
    let p : (v * 10 + d) / 10 ≡ v = omega arith in
    let q : (v * 10 + d) % 10 ≡ d = omega arith in
    sym (decimal_more (v * 10 + d) (omega arith) ∙ rw (p, q, digits_decimal x) refl)

pub number_decimal : {s : List ℕ} {v : ℕ} → IsNumber s v → s ≡ decimal v
number_decimal nought = sym (decimal_one 0 (omega arith))
number_decimal (digits x h) = digits_decimal x

pub number_most : {s : List ℕ} {v : ℕ} → IsNumber s v → v ≤ 65535
number_most nought = omega arith
number_most (digits x h) = h

decimal_digits : (k n : ℕ) → n < k → 1 ≤ n → IsDigits (decimal n) n
decimal_digits zero n h l = absurd (omega arith)
decimal_digits (suc k) n h l = elim (dec_lt n 10) [
  | yes w ↦ rw (decimal_one n w) (first n l (omega arith))
  | no w ↦
      let e : n / 10 * 10 + n % 10 ≡ n = omega arith in
      rw (decimal_more n (omega arith)) (subst (λ m. IsDigits (decimal (n / 10) ++ (byte "0" + n % 10) ∷ []) m) e
      (next (decimal_digits k (n / 10) (omega arith) (omega arith)) (n % 10) (omega arith)))
]

pub decimal_number : (n : ℕ) → n ≤ 65535 → IsNumber (decimal n) n
decimal_number zero h = rw (decimal_one 0 (omega arith)) nought
decimal_number (suc n) h = digits (decimal_digits (suc (suc n)) (suc n) (omega arith) (omega arith)) h

-- a number begins with a digit
pub record Opens (w : List ℕ) : Type 0 where
  pub digit : ℕ
  pub rest : List ℕ
  pub same : w ≡ (48 + digit) ∷ rest
  pub small : digit ≤ 9

digits_open : {s : List ℕ} {v : ℕ} → IsDigits s v → Opens s
digits_open (first d l g) = record { digit = d; rest = []; same = refl; small = g }
digits_open (next {s = s} x d g) =
    let o = digits_open x in
    record { digit = o.digit; rest = o.rest ++ (48 + d) ∷ []; same = ap (λ l. l ++ (48 + d) ∷ []) o.same; small = o.small }

pub number_opens : {s : List ℕ} {v : ℕ} → IsNumber s v → Opens s
number_opens nought = record { digit = 0; rest = []; same = refl; small = omega arith }
number_opens (digits x h) = digits_open x
