-- Marks at variables. Nothing here is a sentence of document 02. Assumes nothing.
use Rattle.std.specs.Prelude.{ℕ, suc, true, false, List, [], ◌∷◌, ◌++◌, eqb, set}

-- with a 1 at each of some variables
unfoldable pub marked : List ℕ → List ℕ → List ℕ
marked [] marks = marks
marked (v ∷ vs) marks = marked vs (set marks v 1)

-- the variables without a mark, where the first has the number v
unfoldable pub unmarked : ℕ → List ℕ → List ℕ
unmarked v [] = []
unmarked v (m ∷ ms) = elim (eqb m 0) [ true ↦ v ∷ [] | false ↦ [] ] ++ unmarked (suc v) ms
