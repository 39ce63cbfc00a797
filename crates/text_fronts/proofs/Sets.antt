-- Laws of a run of stores, and of a word that is put before others. Assumes nothing.
use mathlib.Core.Path.{◌≡◌, refl, sym, ap, ◌∙◌}
use mathlib.Core.List.{List, [], ◌∷◌, ◌++◌, append_assoc}
use Prim.Native.Nat.{ℕ, suc, ◌+◌, ◌-◌, ◌≤◌, ◌<◌}
use native.Mathlib.Numerals.{add-one}
use native.Mathlib.Omega.{arith}
use lib.ListN.{length, take, drop, set, length-drop}
use lib.Seq.{sets, length-sets, sets-eq, paste, drop-set-lt, take-set-le, drop_at, take_at, length-take-le}
use Rattle.std.proofs.lemmas.List.{set_comm}
use Rattle.text_fronts.specs.Parts.{Inserted}

drop_sets : (n : ℕ) (l : List ℕ) (i : ℕ) (xs : List ℕ) → i + length xs ≤ n → drop n (sets l i xs) ≡ drop n l
drop_sets n l i [] h = refl
drop_sets n l i (x ∷ xs) h = drop_sets n (set l i x) (suc i) xs (omega arith) ∙ drop-set-lt n l i x (omega arith)

take_sets : (n : ℕ) (l : List ℕ) (i : ℕ) (xs : List ℕ) → n ≤ i → take n (sets l i xs) ≡ take n l
take_sets n l i [] h = refl
take_sets n l i (x ∷ xs) h = take_sets n (set l i x) (suc i) xs (omega arith) ∙ take-set-le n l i x h

module _ (l : List ℕ) (i : ℕ) (xs : List ℕ) where
  pub sets_over : (ys : List ℕ) → length xs ≤ length ys → i + length ys ≤ length l → sets (sets l i xs) i ys ≡ sets l i ys
  sets_over ys h r =
      sets-eq ys (sets l i xs) i (omega (arith, length-sets l i xs))
      ∙ rw (take_sets i l i xs (omega arith), drop_sets (i + length ys) l i xs (omega arith)) (sym (sets-eq ys l i r))

  pub taken : i + length xs ≤ length l → take (length xs) (drop i (sets l i xs)) ≡ xs
  taken r =
      ap (λ (m : List ℕ). take (length xs) (drop i m)) (sets-eq xs l i r ∙ append_assoc (take i l) xs (drop (i + length xs) l))
      ∙ ap (take (length xs)) (drop_at (take i l) (xs ++ drop (i + length xs) l) i (length-take-le i l (omega arith)))
      ∙ take_at xs (drop (i + length xs) l) (length xs) refl

-- a word before those that were written from i on
pub before : (e : List ℕ) (i : ℕ) (xs : List ℕ) (w c : ℕ) (y z : List ℕ) → c ≡ length xs → i + c + 1 ≤ length e → y ≡ sets e i xs →
    Inserted y i c w z → z ≡ sets e i (w ∷ xs)
before e i xs w c y z q r h n =
    n.moved (omega (arith, ap length h, length-sets e i xs))
    ∙ rw (h, q, taken e i xs (omega arith)) (sets_over e i xs (w ∷ xs) (omega arith) (omega arith))

-- words moved up by one, and a word where they stood
set_sets : (l : List ℕ) (i j w : ℕ) (xs : List ℕ) → i < j → set (sets l j xs) i w ≡ sets (set l i w) j xs
set_sets l i j w [] h = refl
set_sets l i j w (x ∷ xs) h =
    set_sets (set l j x) i (suc j) w xs (omega arith)
    ∙ ap (λ (m : List ℕ). sets m (suc j) xs) (set_comm l j i x w (λ e. omega arith))

pub moved_up : (e : List ℕ) (from count end w : ℕ) (x : List ℕ) → end ≡ from + count → end < length e
    → x ≡ paste e (from + 1) (drop from e) (end - from) → Inserted e from count w (set x from w)
moved_up e from count end w x q h p = record { moved = λ r. rw add-one at (ap (λ (l : List ℕ). set l from w) pasted ∙ set_sets e from (from + 1) w ws (omega arith)) }
  where
    ws : List ℕ
    ws = take count (drop from e)

    long : length ws ≡ count
    long = length-take-le count (drop from e) (omega (arith, length-drop from e))

    pasted : x ≡ sets e (from + 1) ws
    pasted =
        let n : end - from ≡ count = omega arith in
        p ∙ rw (n, sets-eq ws e (from + 1) (omega (arith, long)), long) refl
