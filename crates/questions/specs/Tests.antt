-- Tests over rows, from which the questions are made. Assumes nothing.
use Rattle.std.specs.Prelude.{ℕ, suc, Bool, true, false, not, ◌&&◌, List, [], ◌∷◌, eqb}
use Rattle.std.specs.List.{list_all}
use Rattle.std.proofs.Math.Option.{Option, none, some, map}

-- whether every entry of a row passes a test
abbrev pub all : {A : Type 0} → (A → Bool) → List A → Bool
all test xs = list_all test xs

-- whether no two entries of a row are the same, by a comparison
unfoldable pub different : {A : Type 0} → (A → A → Bool) → List A → Bool
different same [] = true
different same (x ∷ later) = all (λ other. not (same other x)) later && different same later

-- the place, from 0, of the first test that fails
unfoldable pub first_failed : List Bool → Option ℕ
first_failed [] = none
first_failed (true ∷ tests) = map suc (first_failed tests)
first_failed (false ∷ tests) = some 0

-- 1 for true, 0 for false
abbrev pub bit : Bool → ℕ
bit true = 1
bit false = 0

-- and back: 0 is false, and any other number true
abbrev pub truth : ℕ → Bool
truth b = not (eqb b 0)
