-- Rows of bytes that are the same are equal. Assumes nothing.
use Rattle.std.specs.Prelude.{ℕ, ◌≡◌, refl, true, List, [], ◌∷◌, T, eqb}
use Rattle.std.proofs.Math.Facts.{and_yes}
use Rattle.std.proofs.Common.{eqb→eq}
use Rattle.std.proofs.Math.Dec.{eqb_refl}
use Rattle.std.specs.Cmp.Lexicographic.{pointwise}
use Rattle.questions.specs.Bytes.{same_bytes}
use Rattle.questions.proofs.Laws.Tests.{T→true}

pub same_refl : (xs : List ℕ) → same_bytes xs xs ≡ true
unfolding same_bytes
same_refl [] = refl
same_refl (x ∷ xs) = rw (T→true (eqb x x) (eqb_refl x)) (same_refl xs)

pub same_equal : (xs ys : List ℕ) → T (same_bytes xs ys) → xs ≡ ys
unfolding same_bytes
same_equal [] [] h = refl
same_equal [] (y ∷ ys) h = absurd h
same_equal (x ∷ xs) [] h = absurd h
same_equal (x ∷ xs) (y ∷ ys) h =
    let p = and_yes (eqb x y) (same_bytes xs ys) h in
    rw (eqb→eq x y p.0, same_equal xs ys p.1) refl

-- they are compared as `==` compares slices
pub same_is : (xs ys : List ℕ) → same_bytes xs ys ≡ pointwise eqb xs ys
unfolding same_bytes
same_is [] [] = refl
same_is [] (y ∷ ys) = refl
same_is (x ∷ xs) [] = refl
same_is (x ∷ xs) (y ∷ ys) = rw (same_is xs ys) refl
