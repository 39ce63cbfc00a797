-- What is proved of the search for a label, a theorem to a sentence; the proofs are in Laws.Search. Document 02, Req 03; and of the times entered, Req 04.
-- Assumes nothing.
use Rattle.std.specs.Prelude.{ℕ, ◌+◌, ◌<◌, ◌≡◌, ◌↔◌, List, T, length, take}
use Rattle.std.proofs.Math.Option.{some}
use Rattle.std.proofs.Math.ListN.{get_elem?}
use Rattle.rungs.specs.Records.{search, present, looked_at, look_up, row_of}
use Rattle.rungs.proofs.Laws.Search.{looked_first, told_found, found_told, told_missing, missing_told, place_found, present_found, found_is_present}
use Rattle.rungs.specs.Records.{found, missing}

-- the least place with a label
pub record FirstWith (l : ℕ) (ls : List ℕ) (place : ℕ) : Type 0 where
  pub has : get_elem? ls place ≡ some l
  pub least : (i : ℕ) → i < place → get_elem? ls i ≡ some l → ⊥

-- no place has a label
pub record NoneWith (l : ℕ) (ls : List ℕ) : Type 0 where
  pub none : (i : ℕ) → get_elem? ls i ≡ some l → ⊥

-- The search finds the label at a place, having looked at so many records, exactly when that is the least place with the label, and the number is "the
-- rung's place plus one".
pub found_exactly : (l : ℕ) (ls : List ℕ) (place looked : ℕ) → (look_up l ls ≡ found place looked) ↔ (FirstWith l ls place × (looked ≡ place + 1))
found_exactly l ls place looked = (
  (λ e. let h = told_found l ls place looked e in (record { has = h.0; least = h.1 }, h.2)),
  (λ h. found_told l ls place looked h.0.has h.0.least h.1),
)

-- It finds none, having looked at so many records, exactly when no place has the label, and the number is "all".
pub missing_exactly : (l : ℕ) (ls : List ℕ) (looked : ℕ) → (look_up l ls ≡ missing looked) ↔ (NoneWith l ls × (looked ≡ length ls))
missing_exactly l ls looked = (
  (λ e. let h = told_missing l ls looked e in (record { none = h.0 }, h.1)),
  (λ h. missing_told l ls looked h.0.none h.1),
)

-- The records looked at are the first so many, from record 0 up.
pub looked_from_first : (l : ℕ) (ls : List ℕ) → looked_at l ls ≡ take (length (looked_at l ls)) ls
looked_from_first l ls = looked_first l ls

-- A label is present, by which question 8 is defined, exactly when the search finds it.
pub present_exactly : (l : ℕ) (ls : List ℕ) → T (present l ls) ↔ ((place : ℕ) × (looked : ℕ) × (look_up l ls ≡ found place looked))
present_exactly l ls = (present_found l ls, (λ h. found_is_present l ls h.0 h.1 h.2))

-- The place found is the one that the definitions of the calls go by: a taken jump's rung, and where it begins in the list.
pub same_place : (l : ℕ) (ls : List ℕ) (place looked : ℕ) → look_up l ls ≡ found place looked → search l ls ≡ place
same_place l ls place looked e = place_found l ls place looked e

-- 02, Req 04: "Any value is taken": the row that the calls are asked about is the same whatever the times are.
pub any_times : (ls os ns ts us : List ℕ) → length ts ≡ length us → row_of ls os ns ts ≡ row_of ls os ns us
unfolding row_of
any_times ls os ns ts us e = rw (e, row_of)
