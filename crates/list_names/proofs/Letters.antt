-- Laws of a name's letters, which end at its first zero. Assumes nothing.
use Prim.Native.Nat.{ℕ, suc, ◌≤◌}
use native.Mathlib.Omega.{arith}
use mathlib.Core.Path.{◌≡◌, refl, ap}
use mathlib.Core.Bool.{Bool, true, false}
use mathlib.Core.List.{List, [], ◌∷◌}
use borrow.Author.Tests.{ltb-false}
use lib.Dec.{eqb, ltb}
use lib.ListN.{length, take, drop}
use Rattle.std.specs.List.{position, position_or_len}
use Rattle.std.specs.Option.{unwrap_or}
use Rattle.std.proofs.lemmas.List.{length-take-le}
use Rattle.list_definitions.specs.Names.{trimmed, is_name}
use Rattle.list_names.specs.Parts.{capitals_before_zeros}

-- how many letters stand before the first zero, and where the code finds that
letters : List ℕ → ℕ
letters [] = 0
letters (b ∷ bs) = elim (eqb b 0) [ true ↦ 0 | false ↦ suc (letters bs) ]

abbrev pub letters_end : List ℕ → ℕ
letters_end name = unwrap_or (position (λ b. eqb b 0) name) (length name)

letters_most : (name : List ℕ) → letters name ≤ length name
unfolding letters
letters_most [] = omega arith
letters_most (b ∷ bs) = go (eqb b 0) refl (letters_most bs)
  where
    go : (t : Bool) → eqb b 0 ≡ t → letters bs ≤ length bs → letters (b ∷ bs) ≤ suc (length bs)
    go true e h = rw (e, letters) (omega arith)
    go false e h = rw (e, letters) (omega arith)

same_letters : (name : List ℕ) → position_or_len (λ b. eqb b 0) name ≡ letters name
unfolding letters
same_letters [] = refl
same_letters (b ∷ bs) = go (eqb b 0) refl (same_letters bs)
  where
    go : (t : Bool) → eqb b 0 ≡ t → position_or_len (λ b. eqb b 0) bs ≡ letters bs → position_or_len (λ b. eqb b 0) (b ∷ bs) ≡ letters (b ∷ bs)
    go true e h = rw (e, letters) refl
    go false e h = rw (e, letters) (omega (arith, h))

end_is : (name : List ℕ) → letters_end name ≡ letters name
end_is name = go (ltb (position_or_len (λ b. eqb b 0) name) (length name)) refl
  where
    go : (t : Bool) → ltb (position_or_len (λ b. eqb b 0) name) (length name) ≡ t → letters_end name ≡ letters name
    go true e = rw e (same_letters name)
    go false e =
        let past = ltb-false (position_or_len (λ b. eqb b 0) name) (length name) e in
        rw e (omega (arith, same_letters name, letters_most name))

trimmed_letters : (name : List ℕ) → trimmed name ≡ take (letters name) name
unfolding trimmed letters
trimmed_letters [] = refl
trimmed_letters (b ∷ bs) = go (eqb b 0) refl (trimmed_letters bs)
  where
    go : (t : Bool) → eqb b 0 ≡ t → trimmed bs ≡ take (letters bs) bs → trimmed (b ∷ bs) ≡ take (letters (b ∷ bs)) (b ∷ bs)
    go true e ih = rw (e, trimmed, letters) refl
    go false e ih = rw (e, trimmed, letters) (ap (λ l. b ∷ l) ih)

-- a name is its letters, without its filling
pub trimmed_taken : (name : List ℕ) → trimmed name ≡ take (letters_end name) name
trimmed_taken name = rw (end_is name) (trimmed_letters name)

pub name_parts : (name : List ℕ) → capitals_before_zeros (take (letters_end name) name) (drop (letters_end name) name) ≡ is_name name
unfolding is_name
name_parts name = rw (end_is name, trimmed_letters name, length-take-le (letters name) name (letters_most name)) refl
