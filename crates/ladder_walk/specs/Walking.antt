-- What the functions of this crate promise to each other. Nothing here is a sentence of document 01. Assumes nothing.
use Rattle.std.specs.Prelude.{ℕ, ◌+◌, ◌-◌, ◌≤◌, ◌<◌, ◌≡◌, Bool, false, ◌&&◌, ◌||◌, List, length, get_or, Option, MatchOption}
use Rattle.table.specs.State.{State, with_bytes}
use Rattle.table.specs.declared.State.{State as StateStruct}
use Rattle.rungs.specs.Words.{number_of, operand_of}
use Rattle.ladder_definitions.specs.Tree.{Front, front_and, front_or, Output, Rear, Rung, output_names, number}
use Rattle.ladder_definitions.specs.Meaning.{work_front, Run, onward, jumped, run_output, run_rear, run_rung}
use Rattle.ladder_definitions.specs.Kept.{output_kind, joined_sort, kind_sort, front_words, rear_words, rung_words}
use Rattle.ladder_definitions.specs.Held.{FrontAt, RearAt, RungAt}
use Rattle.ladder_walk.specs.declared.Worked.{Worked}
use Rattle.ladder_walk.specs.declared.Ran.{Ran}
use Rattle.ladder_walk.specs.declared.Ran.TheVariants.{Onward, Jumped}
use Rattle.ladder_definitions.specs.Roots.{front_kind}

-- a front worked, in any state with the bytes t: its value, and the state that it leaves, the same with the bytes u
pub record FrontDone (at : ℕ) (t : List ℕ) (r : Worked) (u : List ℕ) (f : Front) : Type 0 where
  pub same : (s : State) → work_front f (with_bytes s t) ≡ record { power = r.value; state = with_bytes s u }
  pub next : r.next ≡ at + length (front_words f)

pub record FrontWorked (ws : List ℕ) (at : ℕ) (t : List ℕ) (r : Worked) (u : List ℕ) : Type 0 where
  pub onward : at ≤ r.next
  pub done : (f : Front) → FrontAt ws at f → FrontDone at t r u f

-- a word of a front-and or a front-or stands at a position
abbrev pub Root : List ℕ → ℕ → Type 0
Root ws at = kind_sort (number_of (get_or ws at 0)) ≡ joined_sort

-- a front that is a contact; what is taken for a front where none stands, and no root
pub record ContactWorked (ws : List ℕ) (at : ℕ) (t : List ℕ) (r : Option Worked) (u : List ℕ) : Type 0 where
  pub cases : MatchOption r ((Root ws at → ⊥) → FrontWorked ws at t (record { value = false; next = at }) u) (λ w. FrontWorked ws at t w u)

-- roots only stand from `from` up to r, and none at r
pub record RootsPassed (ws : List ℕ) (from r : ℕ) : Type 0 where
  pub onward : from ≤ r
  pub roots : (k : ℕ) → from ≤ k → k < r → Root ws k
  pub leaf : Root ws r → ⊥

-- the value of a front of two parts, by its kind, from theirs
pub record PartsJoined (kind : ℕ) (first second r : Bool) : Type 0 where
  pub both : (f g : Front) → kind ≡ front_kind (front_and f g) → r ≡ (first && second)
  pub either : (f g : Front) → kind ≡ front_kind (front_or f g) → r ≡ (first || second)

-- the run that an answer tells; u is the state that was left
unfoldable pub run_of : State → Ran → Run
run_of u (Onward n) = onward u
run_of u (Jumped l) = jumped l u

-- a run of a tree with n words: what it leaves, and where it ends if it takes no jump
pub record RunDone (at n : ℕ) (run : State → Run) (s : State) (r : Ran) (u : State) : Type 0 where
  pub same : run s ≡ run_of u r
  pub next : (e : ℕ) → r ≡ Onward e → e ≡ at + n

-- the output that has a word's kind and operand, run in the state s: what it leaves, and where it ends if it takes no jump. Whatever the word is, it
-- turns one variable over at most.
pub record OutputRun (w next : ℕ) (power : Bool) (s : State) (r : Ran) (u : State) : Type 0 where
  pub onward : (e : ℕ) → r ≡ Onward e → e ≡ next
  pub few : u.moved ≤ s.moved + 1
  pub same : (o : Output) → number_of w ≡ output_kind o → operand_of w ≡ number (output_names o) → run_output o power s ≡ run_of u r

-- whatever the words are: the sum grows by the words that are passed, at most
pub record RearRun (ws : List ℕ) (at : ℕ) (power : Bool) (s : State) (r : Ran) (u : State) : Type 0 where
  pub onward : (e : ℕ) → r ≡ Onward e → (at ≤ e) × (u.moved + (length ws - e) ≤ s.moved + (length ws - at))
  pub few : u.moved ≤ s.moved + (length ws - at)
  pub done : (k : Rear) → RearAt ws at k → RunDone at (length (rear_words k)) (run_rear k power) s r u

pub record RungRun (ws : List ℕ) (at : ℕ) (s : State) (r : Ran) (u : State) : Type 0 where
  pub few : u.moved ≤ s.moved + (length ws - at)
  pub done : (g : Rung) → RungAt ws at g → RunDone at (length (rung_words g)) (run_rung g) s r u

-- the same table and timer records are lent, whatever stands in them; V and the tick are as they were
pub record SameLent (before after : StateStruct) : Type 0 where
  pub table : after.table.ghost_name ≡ before.table.ghost_name
  pub timers : after.timers.ghost_name ≡ before.timers.ghost_name
  pub vars : after.vars ≡ before.vars
  pub tick : after.tick ≡ before.tick
