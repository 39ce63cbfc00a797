-- Where bytes stand in a text. Assumes nothing.
use Rattle.std.specs.Prelude.{◌≡◌, refl, Bool, true, false, List, [], ◌∷◌, ◌++◌, ℕ, ◌+◌, ◌-◌, ◌≤◌, ◌<◌, ltb, length, get_or, drop}
use Rattle.std.proofs.Common.{sym, ap, ◌∙◌, append_assoc, arith, add-one, ltb-true, ltb-false, length-append, drop-cons, drop-drop, drop_at, get_or-drop}
use Rattle.std.proofs.Math.Decide.{dec_lt}
use Rattle.std.proofs.Math.ListN.{get_or-eq_default}
use Rattle.text_grammar.specs.Reader.{pick, digit_of}

-- the bytes w stand in s from at on, up to n
pub record Span (s : List ℕ) (at n : ℕ) (w : List ℕ) : Type 0 where
  pub cut : drop at s ≡ w ++ drop n s
  pub long : n ≡ at + length w

pub inside : (s : List ℕ) (i : ℕ) → 0 < get_or s i 0 → i < length s
inside s i h = elim (dec_lt i (length s)) [
  | yes w ↦ w
  | no w ↦ let e = get_or-eq_default s 0 {n = i} (omega arith) in absurd (omega arith)
]

module _ {s : List ℕ} where
  pub span_none : {at : ℕ} → Span s at at []
  span_none = record { cut = refl; long = omega arith }

  pub span_byte : {at : ℕ} (b : ℕ) → 0 < b → get_or s at 0 ≡ b → Span s at (at + 1) (b ∷ [])
  span_byte {at} b h e =
      let i : at < length s = inside s at (omega arith) in
      record { cut = rw (add-one, drop-cons s at 0, e) refl; long = refl }

  pub span_join : {at n m : ℕ} {w v : List ℕ} → Span s at n w → Span s n m v → Span s at m (w ++ v)
  span_join {w} {v} p q = record { cut = rw (p.cut, q.cut, append_assoc) refl; long = rw length-append (omega arith) }

  -- the bytes w, then one byte
  pub span_snoc : {at n : ℕ} {w : List ℕ} (b : ℕ) → 0 < b → Span s at n w → get_or s n 0 ≡ b → Span s at (n + 1) (w ++ (b ∷ []))
  span_snoc b h p e = span_join p (span_byte b h e)

  pub span_cut : {at m : ℕ} (w v : List ℕ) → Span s at m (w ++ v) → Span s at (at + length w) w × Span s (at + length w) m v
  span_cut {at} {m} w v p =
      let e : drop (at + length w) s ≡ v ++ drop m s =
      sym (drop-drop (length w) at s) ∙ (ap (drop (length w)) (p.cut ∙ append_assoc w v (drop m s)) ∙ drop_at w (v ++ drop m s) (length w) refl) in
      let l : m ≡ at + length w + length v = p.long ∙ (rw length-append (omega arith)) in
      (record { cut = p.cut ∙ (append_assoc w v (drop m s) ∙ ap (λ x. w ++ x) (sym e)); long = refl }, record { cut = e; long = l })

  -- the first byte of what stands there
  pub span_head : {at m : ℕ} {b : ℕ} {w : List ℕ} → Span s at m (b ∷ w) → get_or s at 0 ≡ b
  span_head {at} p = let z : at + 0 ≡ at = omega arith in ap (λ i. get_or s i 0) (sym z) ∙ (sym (get_or-drop at s 0 0) ∙ ap (λ l. get_or l 0 0) p.cut)

  pub span_tail : {at m : ℕ} {b : ℕ} {w : List ℕ} → Span s at m (b ∷ w) → Span s (at + 1) m w
  span_tail {b} {w} p = (span_cut (b ∷ []) w p).1

-- a digit's byte
pub digit_is : (b : ℕ) → digit_of b ≤ 9 → b ≡ 48 + digit_of b
unfolding digit_of
digit_is b = go (ltb b 48) (ltb 57 b) refl refl
  where
    go : (t u : Bool) → ltb b 48 ≡ t → ltb 57 b ≡ u → pick t 10 (pick u 10 (b - 48)) ≤ 9 → b ≡ 48 + pick t 10 (pick u 10 (b - 48))
    go true u p q h = absurd (omega arith)
    go false true p q h = absurd (omega arith)
    go false false p q h = omega (arith, ltb-false b 48 p)

pub digit_of_lem : (d : ℕ) → d ≤ 9 → digit_of (48 + d) ≡ d
unfolding digit_of
digit_of_lem d h = go (ltb (48 + d) 48) (ltb 57 (48 + d)) refl refl
  where
    go : (t u : Bool) → ltb (48 + d) 48 ≡ t → ltb 57 (48 + d) ≡ u → pick t 10 (pick u 10 (48 + d - 48)) ≡ d
    go true u p q = absurd (omega (arith, ltb-true (48 + d) 48 p))
    go false true p q = absurd (omega (arith, ltb-true 57 (48 + d) q))
    go false false p q = omega arith
