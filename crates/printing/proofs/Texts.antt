-- Laws of a text that is put byte by byte. Assumes nothing.
use mathlib.Core.Path.{◌≡◌}
use mathlib.Core.List.{List, [], ◌∷◌}
use Prim.Native.Nat.{ℕ, suc, ◌+◌, ◌≤◌, ◌<◌}
use native.Mathlib.Numerals.{add-one}
use native.Mathlib.Omega.{arith}
use lib.ListN.{length, get_or, drop, drop_of_length-le}
use lib.Seq.{drop-cons}
use Rattle.printing.specs.Put.{Put}
use Rattle.printing.proofs.Laws.Puts.{Left, all_left, left_more, left_none}

-- the loop's invariant: the bytes from i on are left
pub record Putting (l : List ℕ) (at : ℕ) (text x : List ℕ) (m i : ℕ) : Type 0 where
  pub left : Left l at text x m (drop i text)
  pub stands : m ≡ at + i
  pub within : i ≤ length text

pub putting_first : (l : List ℕ) (at : ℕ) (text : List ℕ) → Putting l at text l at 0
putting_first l at text = record { left = all_left l at text; stands = omega arith; within = omega arith }

module _ {l : List ℕ} {at : ℕ} {text x : List ℕ} {m i : ℕ} (h : Putting l at text x m i) where
  pub putting_more : {n : ℕ} {y : List ℕ} → i < length text → Put x m (get_or text i 0 ∷ []) n y → Putting l at text y n (i + 1)
  putting_more k p = record {
    left = rw add-one (left_more h.left {a = get_or text i 0 ∷ []} {b = drop (suc i) text} (drop-cons text i 0 k) p);
    stands = omega (arith, p.end, h.stands);
    within = omega arith;
  }

  pub putting_end : length text ≤ i → Put l at text m x
  putting_end k = left_none h.left (drop_of_length-le text k)
