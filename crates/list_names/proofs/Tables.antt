-- Laws of question 14: no name repeats an earlier one. Assumes nothing.
use Prim.Native.Nat.{ℕ, suc, ◌*◌, ◌/◌, ◌<◌}
use native.Mathlib.Omega.{arith}
use mathlib.Core.Path.{◌≡◌, refl, sym, ap, ◌∙◌}
use mathlib.Core.Bool.{Bool, true, false, ◌&&◌}
use mathlib.Core.List.{List}
use lib.ListN.{length, take, drop, length-drop}
use Rattle.questions.specs.Bytes.{same_bytes}
use Rattle.questions.specs.Tests.{all, different}
use Rattle.list_definitions.specs.Names.{most_op, name_bytes, names_from, names_in}
use Rattle.list_names.specs.Parts.{apart}

-- the names that are left are different just when all are
pub record Differing (table left : List ℕ) : Type 0 where
  pub same : different same_bytes (names_from (length left / 6) left) ≡ different same_bytes (names_in table)
  pub whole : 6 * (length left / 6) ≡ length left

pub differing_start : (table : List ℕ) → length table ≡ name_bytes * most_op → Differing table table
differing_start table e = let many : length table / 6 ≡ 17 = omega arith in record { same = rw many refl; whole = omega arith }

module _ {table left : List ℕ} (i : Differing table left) where
  module _ (h : 0 < length left) (b : Bool) (q : b ≡ all (apart (take 6 left)) (names_from (length (drop 6 left) / 6) (drop 6 left))) where
    differing_step : different same_bytes (names_from (length left / 6) left) ≡ (b && different same_bytes (names_from (length (drop 6 left) / 6) (drop 6 left)))
    unfolding different names_from
    differing_step =
        let l = length-drop 6 left in
        let more : length left / 6 ≡ suc (length (drop 6 left) / 6) = omega (arith, i.whole) in
        rw (more, q) refl

    pub differing_stop : b ≡ false → false ≡ different same_bytes (names_in table)
    differing_stop e = sym (ap (λ x. x && different same_bytes (names_from (length (drop 6 left) / 6) (drop 6 left))) e) ∙ (sym differing_step ∙ i.same)

    pub differing_more : b ≡ true → Differing table (drop 6 left)
    differing_more e =
        let l = length-drop 6 left in
        record {
          same = sym (ap (λ x. x && different same_bytes (names_from (length (drop 6 left) / 6) (drop 6 left))) e) ∙ (sym differing_step ∙ i.same);
          whole = omega (arith, i.whole);
        }

  pub differing_end : length left ≡ 0 → true ≡ different same_bytes (names_in table)
  unfolding different names_from
  differing_end e = let none : length left / 6 ≡ 0 = omega arith in rw none at i.same
