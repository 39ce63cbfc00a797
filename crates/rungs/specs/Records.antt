-- Rung records. Document 01, "The kept ladder": "A list has the same records, counting instructions." Assumes nothing.
use Rattle.std.specs.Prelude.{ℕ, suc, ◌+◌, max, Bool, true, false, ◌&&◌, ◌||◌, eqb, ltb, length, get_or, replicate, Some, None}
use mathlib.Core.List.{List, [], ◌∷◌, map, zip_with}
use Rattle.questions.specs.Tests.{bit}
use Rattle.rungs.specs.declared.Search.{Search}

-- "Rung records lie side by side in one lent row: label (16 bits), offset and length (32 bits each)." 02, Req 04: "The rung record gets a fourth field of
-- 32 bits, the times entered. Any value is taken": the fourth fields stand in a row of numbers of their own, beside the records; no question looks at them.
pub record RungRecord : Type 0 where
  pub label : ℕ
  pub offset : ℕ
  pub length : ℕ

-- Document 01, "Questions before work": "At most 256 rungs", "1 to 256 records"
abbrev pub most_records : ℕ
most_records = 256

abbrev pub labels : List RungRecord → List ℕ
labels rs = map (λ r. r.label) rs

abbrev pub offsets : List RungRecord → List ℕ
offsets rs = map (λ r. r.offset) rs

-- "the first offset is 0, each next is the end of the one before, the last end is the number of words":
-- records that begin at `start`, one after the other, up to `end`
unfoldable pub laid : ℕ → ℕ → List RungRecord → Bool
laid start end [] = eqb start end
laid start end (r ∷ rs) = eqb r.offset start && laid (start + r.length) end rs

-- the records of some rungs of known label and length, laid from `start` on
unfoldable pub lay : {A : Type 0} → (A → ℕ) → (A → ℕ) → ℕ → List A → List RungRecord
lay label size start [] = []
lay label size start (g ∷ gs) = record { label = label g; offset = start; length = size g } ∷ lay label size (start + size g) gs

-- the place, from 0, of the first of some labels that is l; their number where none is
unfoldable pub search : ℕ → List ℕ → ℕ
search l [] = 0
search l (m ∷ ms) = elim (eqb m l) [ true ↦ 0 | false ↦ suc (search l ms) ]

unfoldable pub present : ℕ → List ℕ → Bool
present l ms = ltb (search l ms) (length ms)

-- Document 02, Req 03: "the search goes up from record 0, ends at the match": the labels that a search for l looks at, in order
unfoldable pub looked_at : ℕ → List ℕ → List ℕ
looked_at l [] = []
looked_at l (m ∷ ms) = m ∷ elim (eqb m l) [ true ↦ [] | false ↦ looked_at l ms ]

-- the place of the match, and no place, with how many records were looked at
abbrev pub found : ℕ → ℕ → Search
found place looked = record { place = Some place; looked = looked }

abbrev pub missing : ℕ → Search
missing looked = record { place = None; looked = looked }

-- "and tells how many records it looked at": what the search tells, with the place of the first of some labels that is l, if one is
unfoldable pub look_up : ℕ → List ℕ → Search
look_up l ms = elim (present l ms) [
  | true ↦ found (search l ms) (length (looked_at l ms))
  | false ↦ missing (length (looked_at l ms))
]

-- where the rung with label l begins
unfoldable pub start_of : List RungRecord → ℕ → ℕ
start_of rs l = get_or (offsets rs) (search l (labels rs)) 0

-- whether index i is a record's offset
unfoldable pub is_start : List RungRecord → ℕ → Bool
is_start [] i = false
is_start (r ∷ rs) i = eqb r.offset i || is_start rs i

-- 02, Req 04, "the times entered": those after an instruction at index i, which enters the rung whose record begins there, from those before it
unfoldable pub enter : List RungRecord → ℕ → List ℕ → List ℕ
enter rs i times = zip_with (λ (r : RungRecord) (n : ℕ). n + bit (eqb r.offset i)) rs times

-- of some rungs, none entered
abbrev pub none_entered : ℕ → List ℕ
none_entered rungs = replicate rungs 0

-- "add up"
unfoldable pub sum : List ℕ → ℕ
sum [] = 0
sum (n ∷ ns) = n + sum ns

-- "L, the longest rung's length in instructions"
unfoldable pub longest : List RungRecord → ℕ
longest [] = 0
longest (r ∷ rs) = max r.length (longest rs)

-- Labels, offsets and lengths as records; none where they are not equally many.
unfoldable pub fields_of : List ℕ → List ℕ → List ℕ → List RungRecord
fields_of ls os ns = elim (eqb (length ls) (length os) && eqb (length os) (length ns)) [
  | true ↦ zip_with (λ (make : ℕ → RungRecord) n. make n) (zip_with (λ l o n. record { label = l; offset = o; length = n }) ls os) ns
  | false ↦ []
]

-- Four number slices as one row of records. Slices of unequal lengths are no row: questions 4 and 10 say "no" to an empty one. 02, Req 04, "Any value is
-- taken": of the times it is only looked at how many they are.
unfoldable pub row_of : List ℕ → List ℕ → List ℕ → List ℕ → List RungRecord
row_of ls os ns times = elim (eqb (length ls) (length times)) [ true ↦ fields_of ls os ns | false ↦ [] ]
