-- Laws of capital letters read one after the other. Assumes nothing.
use Prim.Native.Nat.{ℕ, zero, suc, ◌+◌, ◌≤◌, ◌<◌}
use native.Mathlib.Omega.{arith}
use mathlib.Core.Path.{◌≡◌, refl, sym, ◌∙◌}
use mathlib.Core.Bool.{Bool, true, false, ◌&&◌}
use mathlib.Core.List.{List}
use mir.Facts.{and_yes}
use lib.Dec.{T, leb, leb→le}
use lib.ListN.{length, get_or}
use Rattle.text_grammar.proofs.Laws.Spans.{inside}
use Rattle.list_definitions.specs.Names.{name_bytes, is_capital}
use Rattle.reader_definitions.specs.Reader.{letters_from}
use Rattle.reader_lines.specs.Parts.{LettersRead}

capital_some : (b : ℕ) → is_capital b ≡ true → 0 < b
unfolding is_capital
capital_some b e = let t : T (leb 65 b && leb b 90) = rw e tt in let l = leb→le 65 b (and_yes (leb 65 b) (leb b 90) t).0 in omega arith

pub record Lettering (s : List ℕ) (at next left : ℕ) : Type 0 where
  pub same : letters_from s left next ≡ letters_from s name_bytes at
  pub from : at ≤ next
  pub within : at ≤ length s → next ≤ length s

pub letters_start : (s : List ℕ) (at : ℕ) → Lettering s at at name_bytes
letters_start s at = record { same = refl; from = omega arith; within = λ h. h }

module _ (s : List ℕ) (at next left : ℕ) (i : Lettering s at next left) where
  pub letters_stop : (b : ℕ) → b ≡ get_or s next 0 → (t : Bool) → t ≡ is_capital b → t ≡ false → 0 < left → LettersRead s at next
  unfolding letters_from
  letters_stop b q t e f h = record { same = step left h ∙ i.same; from = i.from; within = i.within }
    where
      step : (left : ℕ) → 0 < left → next ≡ letters_from s left next
      step zero h = absurd (omega arith)
      step (suc k) h = rw (← q, ← e, f) refl

  pub letters_inside : (b : ℕ) → b ≡ get_or s next 0 → (t : Bool) → t ≡ is_capital b → t ≡ true → next < length s
  letters_inside b q t e f = let p = capital_some b (sym e ∙ f) in inside s next (rw (← q) p)

  pub letters_more : (b : ℕ) → b ≡ get_or s next 0 → (t : Bool) → t ≡ is_capital b → t ≡ true → (j : ℕ) → left ≡ suc j → Lettering s at (next + 1) j
  unfolding letters_from
  letters_more b q t e f j h =
      let l = letters_inside b q t e f in
      let g = i.from in
      record { same = step ∙ i.same; from = omega arith; within = λ w. omega arith }
    where
      step : letters_from s j (next + 1) ≡ letters_from s left next
      step = rw (h, ← q, ← e, f) refl

  pub letters_end : left ≤ 0 → LettersRead s at next
  unfolding letters_from
  letters_end h = record { same = step left h ∙ i.same; from = i.from; within = i.within }
    where
      step : (left : ℕ) → left ≤ 0 → next ≡ letters_from s left next
      step zero h = refl
      step (suc k) h = absurd (omega arith)
