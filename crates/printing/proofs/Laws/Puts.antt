-- Laws of texts put one after the other, and of numbers in decimal. Assumes nothing.
use Rattle.std.specs.Prelude.{◌≡◌, refl, Bool, true, false, List, [], ◌∷◌, ◌++◌, ℕ, zero, suc, ◌+◌, ◌*◌, ◌/◌, ◌%◌, ◌^◌, ◌≤◌, ◌<◌, ltb, length}
use Rattle.std.proofs.Common.{sym, ◌∙◌, arith, lt-ltb, le-ltb, ltb-true, ltb-false, length-append}
use Rattle.std.proofs.lemmas.List.Edits.{sets}
use Rattle.std.proofs.Math.Seq.{length-sets, set_out}
use Rattle.questions.specs.Bytes.{byte, digits, decimal}
use Rattle.questions.proofs.Laws.Stores.{sets_append}
use Rattle.printing.specs.Put.{Put}

pub put_none : (l : List ℕ) (i : ℕ) → Put l i [] i l
put_none l i = record { end = omega arith; wrote = refl }

pub put_out : (l : List ℕ) (i b : ℕ) → length l ≤ i → Put l i (b ∷ []) (i + 1) l
put_out l i b h = record { end = omega arith; wrote = sym (set_out l i b h) }

pub put_long : {l : List ℕ} {i : ℕ} {a : List ℕ} {r : ℕ} {x : List ℕ} → Put l i a r x → length x ≡ length l
put_long {l} {i} {a} p = rw p.wrote (length-sets l i a)

pub put_then : {l : List ℕ} {i : ℕ} {a : List ℕ} {m : ℕ} {x b : List ℕ} {r : ℕ} {y : List ℕ} → Put l i a m x → Put x m b r y → Put l i (a ++ b) r y
put_then {l} {i} {a} {m} {x} {b} p q = record {
  end = omega (arith, length-append a b, p.end, q.end);
  wrote = q.wrote ∙ rw (p.wrote, p.end) (sym (sets_append l i a b));
}

pub put_as : {l : List ℕ} {i : ℕ} {a b : List ℕ} {r : ℕ} {x : List ℕ} → a ≡ b → Put l i b r x → Put l i a r x
put_as e p = rw e p

-- what is left to write from m on, over what is written, is the whole text
pub record Left (l : List ℕ) (i : ℕ) (whole x : List ℕ) (m : ℕ) (rest : List ℕ) : Type 0 where
  pub same : sets x m rest ≡ sets l i whole
  pub count : m + length rest ≡ i + length whole
  pub long : length x ≡ length l

pub all_left : (l : List ℕ) (i : ℕ) (whole : List ℕ) → Left l i whole l i whole
all_left l i whole = record { same = refl; count = refl; long = refl }

module _ {l : List ℕ} {i : ℕ} {whole x : List ℕ} {m : ℕ} {rest : List ℕ} (h : Left l i whole x m rest) where
  pub left_none : rest ≡ [] → Put l i whole m x
  left_none e = record { end = omega (arith, rw e at h.count); wrote = rw e at h.same }

  pub left_more : {a b : List ℕ} {n : ℕ} {y : List ℕ} → rest ≡ a ++ b → Put x m a n y → Left l i whole y n b
  left_more {a} {b} e p = record {
    same = rw (p.wrote, p.end) (sym (sets_append x m a b) ∙ rw e at h.same);
    count = omega (arith, p.end, length-append a b, rw e at h.count);
    long = put_long p ∙ h.long;
  }

-- Numbers in decimal.

digits_fuel : (f g n : ℕ) → n < f → n < g → digits f n ≡ digits g n
unfolding digits
digits_fuel zero g n h k = absurd (omega arith)
digits_fuel (suc f) zero n h k = absurd (omega arith)
digits_fuel (suc f) (suc g) n h k = go (ltb n 10) refl (digits_fuel f g (n / 10))
  where
    go : (b : Bool) → ltb n 10 ≡ b → (n / 10 < f → n / 10 < g → digits f (n / 10) ≡ digits g (n / 10)) → digits (suc f) n ≡ digits (suc g) n
    go true e ih = rw (e, digits)
    go false e ih = let t = ltb-false n 10 e in rw (e, digits, ih (omega arith) (omega arith))

pub decimal_one : (n : ℕ) → n < 10 → decimal n ≡ (byte "0" + n) ∷ []
unfolding decimal digits
decimal_one n h = rw (lt-ltb n 10 h, digits)

pub decimal_more : (n : ℕ) → 10 ≤ n → decimal n ≡ decimal (n / 10) ++ (byte "0" + n % 10) ∷ []
unfolding decimal digits
decimal_more n h = rw (le-ltb n 10 h, digits, digits_fuel n (suc (n / 10)) (n / 10) (omega arith) (omega arith))

longer : (k b : ℕ) → 1 ≤ k → ((n : ℕ) → n < b → length (decimal n) ≤ k) → (n : ℕ) → n < 10 * b → length (decimal n) ≤ suc k
longer k b h f n l = go (ltb n 10) refl
  where
    go : (t : Bool) → ltb n 10 ≡ t → length (decimal n) ≤ suc k
    go true e = rw (decimal_one n (ltb-true n 10 e)) (omega arith)
    go false e =
        let s = f (n / 10) (omega arith) in
        rw (decimal_more n (ltb-false n 10 e), length-append (decimal (n / 10)) ((byte "0" + n % 10) ∷ [])) (omega arith)

one_digit : (n : ℕ) → n < 10 → length (decimal n) ≤ 1
one_digit n h = rw (decimal_one n h) (omega arith)

five_digits : (n : ℕ) → n < 100000 → length (decimal n) ≤ 5
five_digits n h =
    longer 4 10000 (omega arith) (longer 3 1000 (omega arith) (longer 2 100 (omega arith) (longer 1 10 (omega arith) one_digit))) n (omega arith)

pub decimal_long : (n : ℕ) → n < 65536 → length (decimal n) ≤ 5
decimal_long n h = five_digits n (omega arith)

-- a number of 64 bits has at most 20
pub decimal_most : (n : ℕ) → n < 2 ^ 64 → length (decimal n) ≤ 20
decimal_most n h =
    longer 19 10000000000000000000 (omega arith) (longer 18 1000000000000000000 (omega arith) (longer 17 100000000000000000 (omega arith)
    (longer 16 10000000000000000 (omega arith) (longer 15 1000000000000000 (omega arith) (longer 14 100000000000000 (omega arith)
    (longer 13 10000000000000 (omega arith) (longer 12 1000000000000 (omega arith) (longer 11 100000000000 (omega arith)
    (longer 10 10000000000 (omega arith) (longer 9 1000000000 (omega arith) (longer 8 100000000 (omega arith) (longer 7 10000000 (omega arith)
    (longer 6 1000000 (omega arith) (longer 5 100000 (omega arith) five_digits)))))))))))))) n (omega arith)

-- how far a text and a number reach
module _ {l : List ℕ} {i : ℕ} {r : ℕ} {x : List ℕ} where
  pub text_reach : {t : List ℕ} (k most : ℕ) → Put l i t r x → length t ≤ k → i ≤ most → r ≤ most + k
  text_reach k most p h g = omega (arith, p.end)

  pub number_reach : (v most : ℕ) → Put l i (decimal v) r x → v < 2 ^ 64 → i ≤ most → r ≤ most + 20
  number_reach v most p h g = omega (arith, p.end, decimal_most v h)

-- a number's last digit, after the digits before it
module _ {l : List ℕ} {i n r : ℕ} {y : List ℕ} {m : ℕ} {x : List ℕ} (last : Put x m ((48 + n % 10) ∷ []) r y) where
  pub number_one : n < 10 → m ≡ i → x ≡ l → Put l i (decimal n) r y
  number_one h p q =
      let e : 48 + n % 10 ≡ byte "0" + n = omega arith in
      rw (decimal_one n h, ← e, ← p, ← q) last

  pub number_more : {m' : ℕ} {x' : List ℕ} → 10 ≤ n → Put l i (decimal (n / 10)) m' x' → m ≡ m' → x ≡ x' → Put l i (decimal n) r y
  number_more h first p q =
      let e : 48 + n % 10 ≡ byte "0" + n % 10 = omega arith in
      rw (decimal_more n h, ← e) (put_then first (rw (← p, ← q) last))
