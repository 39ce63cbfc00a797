-- Searches for a label (document 02, Req 03) and times entered (Req 04), worked by hand. Assumes nothing.
use Rattle.std.specs.Prelude.{◌≡◌, refl}
use mathlib.Core.List.{List, [], ◌∷◌, zip_with}
use Rattle.rungs.specs.Records.{RungRecord, search, present, looked_at, look_up, enter, sum, fields_of, row_of}
use Rattle.rungs.specs.Buffers.{as_buffers, new_buffers}
use Rattle.rungs.specs.declared.Search.{Search}
use Rattle.rungs.specs.Records.{found, missing}

-- no record; label 0 and no record; the only record; the first, a middle and the last of some; a label that repeats; none has it
searches : List Search
searches =
    look_up 7 []
    ∷ look_up 0 []
    ∷ look_up 7 (7 ∷ [])
    ∷ look_up 10 (10 ∷ 20 ∷ 5 ∷ [])
    ∷ look_up 20 (10 ∷ 20 ∷ 5 ∷ [])
    ∷ look_up 5 (10 ∷ 20 ∷ 5 ∷ [])
    ∷ look_up 20 (10 ∷ 20 ∷ 5 ∷ 20 ∷ 20 ∷ [])
    ∷ look_up 6 (10 ∷ 20 ∷ 5 ∷ [])
    ∷ []

searches_worked : searches ≡ missing 0 ∷ missing 0 ∷ found 0 1 ∷ found 0 1 ∷ found 1 2 ∷ found 2 3 ∷ found 1 2 ∷ missing 3 ∷ []
unfolding searches search present looked_at look_up
searches_worked = refl

-- the labels looked at
looked : looked_at 20 (10 ∷ 20 ∷ 5 ∷ 20 ∷ []) ≡ 10 ∷ 20 ∷ []
unfolding looked_at
looked = refl

-- ---- times entered

abbrev two : List RungRecord
two = record { label = 10; offset = 0; length = 3 } ∷ record { label = 20; offset = 3; length = 2 } ∷ []

-- an instruction at a record's offset enters its rung; one within a rung enters none
entered : enter two 0 (0 ∷ 7 ∷ []) ∷ enter two 3 (0 ∷ 7 ∷ []) ∷ enter two 4 (0 ∷ 7 ∷ []) ∷ [] ≡ (1 ∷ 7 ∷ []) ∷ (0 ∷ 8 ∷ []) ∷ (0 ∷ 7 ∷ []) ∷ []
unfolding enter zip_with
entered = refl

added : sum (3 ∷ 0 ∷ 4 ∷ []) ≡ 7
unfolding sum
added = refl

-- "Any value is taken"; four slices of unequal lengths are no row
taken : row_of (10 ∷ 20 ∷ []) (0 ∷ 3 ∷ []) (3 ∷ 2 ∷ []) (0 ∷ 4294967295 ∷ []) ∷ row_of (10 ∷ 20 ∷ []) (0 ∷ 3 ∷ []) (3 ∷ 2 ∷ []) (0 ∷ [])
    ∷ row_of (10 ∷ 20 ∷ []) (0 ∷ 3 ∷ []) (3 ∷ 2 ∷ []) (1 ∷ 2 ∷ 3 ∷ []) ∷ row_of (10 ∷ 20 ∷ []) (0 ∷ 3 ∷ []) (3 ∷ []) (1 ∷ 2 ∷ []) ∷ [] ≡ two ∷ [] ∷ [] ∷ [] ∷ []
unfolding fields_of row_of zip_with
taken = refl

-- "calls that write records put 0"
written_new : (new_buffers [] two).times ≡ 0 ∷ 0 ∷ []
unfolding as_buffers
written_new = refl
