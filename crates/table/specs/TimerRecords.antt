-- Timer records as they are lent: five number slices of one length each, or one slice with five numbers for each timer. Assumes nothing.
use Rattle.std.specs.Prelude.{ℕ, ◌+◌, Bool, true, false, cond, ◌&&◌, eqb, length, get_or, drop, replicate}
use mathlib.Core.List.{List, [], ◌∷◌, map, flat_map}
use Rattle.table.specs.Timer.{Timer}
use Rattle.table.specs.Questions.{most_timers}

-- Slices that hold no timer records stand for one record more than question 16 takes, so that it says "no" to them.
abbrev pub too_many : List Timer
too_many = replicate (most_timers + 1) (record { preset = 0; start = 0; variable = 0; running = 0; done = 0 })

-- ---- five slices

pub record Columns : Type 0 where
  pub preset : List ℕ
  pub start : List ℕ
  pub variable : List ℕ
  pub running : List ℕ
  pub done : List ℕ

abbrev pub columns : List ℕ → List ℕ → List ℕ → List ℕ → List ℕ → Columns
columns preset start variable running done = record { preset = preset; start = start; variable = variable; running = running; done = done }

-- "number slices of one length each"
unfoldable pub one_length : Columns → Bool
one_length c =
    eqb (length c.start) (length c.preset)
    && (eqb (length c.variable) (length c.preset) && (eqb (length c.running) (length c.preset) && eqb (length c.done) (length c.preset)))

-- the records, one for each entry of the first slice
unfoldable pub joined : List ℕ → List ℕ → List ℕ → List ℕ → List ℕ → List Timer
joined [] ss vs rs ds = []
joined (p ∷ ps) ss vs rs ds =
    record { preset = p; start = get_or ss 0 0; variable = get_or vs 0 0; running = get_or rs 0 0; done = get_or ds 0 0 } ∷ joined ps (drop 1 ss) (drop 1 vs) (drop 1 rs) (drop 1 ds)

-- "slices of unequal lengths get 16"
unfoldable pub column_timers : Columns → List Timer
column_timers c = cond (one_length c) (joined c.preset c.start c.variable c.running c.done) too_many

-- records in five slices
unfoldable pub timer_columns : List Timer → Columns
timer_columns ts = columns (map (λ t. t.preset) ts) (map (λ t. t.start) ts) (map (λ t. t.variable) ts) (map (λ t. t.running) ts) (map (λ t. t.done) ts)

-- the slices afterwards, once the records are these
unfoldable pub columns_after : Columns → List Timer → Columns
columns_after c ts = cond (one_length c) (timer_columns ts) c

-- ---- one slice

-- preset, start, variable, running and done, timer after timer
unfoldable pub numbers_of : Timer → List ℕ
numbers_of t = t.preset ∷ t.start ∷ t.variable ∷ t.running ∷ t.done ∷ []

unfoldable pub timer_numbers : List Timer → List ℕ
timer_numbers ts = flat_map numbers_of ts

-- and back; numbers that are left over are none
unfoldable pub timers_in : List ℕ → List Timer
timers_in (p ∷ s ∷ v ∷ r ∷ d ∷ later) = record { preset = p; start = s; variable = v; running = r; done = d } ∷ timers_in later
timers_in (p ∷ s ∷ v ∷ r ∷ []) = []
timers_in (p ∷ s ∷ v ∷ []) = []
timers_in (p ∷ s ∷ []) = []
timers_in (p ∷ []) = []
timers_in [] = []

-- whether none are left over
unfoldable pub whole : List ℕ → Bool
whole (p ∷ s ∷ v ∷ r ∷ d ∷ later) = whole later
whole (p ∷ s ∷ v ∷ r ∷ []) = false
whole (p ∷ s ∷ v ∷ []) = false
whole (p ∷ s ∷ []) = false
whole (p ∷ []) = false
whole [] = true

unfoldable pub number_timers : List ℕ → List Timer
number_timers ns = cond (whole ns) (timers_in ns) too_many

-- the numbers afterwards, once the records are these
unfoldable pub numbers_after : List ℕ → List Timer → List ℕ
numbers_after ns ts = cond (whole ns) (timer_numbers ts) ns
