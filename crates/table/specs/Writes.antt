-- The writes of a scan, in order, and what they come to: the bytes that they leave, and how many of them changed a variable's byte (02, Req 02). Which writes
-- a scan makes is defined beside what it does: ladder_definitions.Writes, list_definitions.Writes. Assumes nothing.
use Rattle.std.specs.Prelude.{ℕ, ◌+◌, ◌≡◌, Bool, true, false, not, ◌&&◌, List, [], ◌∷◌, eqb, ltb, get_or}
use Rattle.std.proofs.Math.Option.{none, some}
use Rattle.std.proofs.Math.ListN.{get_elem?}
use Rattle.questions.specs.Tests.{bit, truth}
use Rattle.table.specs.Timer.{powered}
use Rattle.table.specs.State.{State, written_at}

-- a table index, and the value written there
pub record Write : Type 0 where
  pub index : ℕ
  pub value : Bool

abbrev pub wrote : ℕ → Bool → Write
wrote i b = record { index = i; value = b }

-- 02, Req 01: with power the write, without power none
unfoldable pub wrote_if : Bool → ℕ → Bool → List Write
wrote_if true i b = wrote i b ∷ []
wrote_if false i b = []

-- 02, Req 06: "Its variable then gets done": one write, with power and without
unfoldable pub timer_writes : State → ℕ → Bool → List Write
timer_writes s n p = elim (get_elem? s.timers n) [ none ↦ [] | some t ↦ wrote t.variable (truth (powered s.now p t).done) ∷ [] ]

-- the bytes with a write made
unfoldable pub made : Write → List ℕ → List ℕ
made w bytes = written_at bytes w.index w.value

-- the bytes with these writes made, first to last
unfoldable pub replay : List Write → List ℕ → List ℕ
replay [] bytes = bytes
replay (w ∷ later) bytes = replay later (made w bytes)

-- 02, Req 02: "whether the byte changed": the byte at the write's index, after it and before it
unfoldable pub changes_byte : Write → List ℕ → Bool
changes_byte w bytes = not (eqb (get_or (made w bytes) w.index 0) (get_or bytes w.index 0))

-- "Scratch bytes don't count."
unfoldable pub changes_variable : ℕ → Write → List ℕ → Bool
changes_variable vars w bytes = ltb w.index vars && changes_byte w bytes

-- "how many times a scan turned a variable over": how many of the writes, each made in the bytes that the ones before it left, changed a variable's byte
unfoldable pub changes : ℕ → List Write → List ℕ → ℕ
changes vars [] bytes = 0
changes vars (w ∷ later) bytes = bit (changes_variable vars w bytes) + changes vars later (made w bytes)

-- What the writes of a scan tell of its answer: the table afterwards is the one before with the writes made, and the sum is how many of them changed a variable.
pub record WritesTell (vars : ℕ) (writes : List Write) (table : List ℕ) (moved : ℕ) (after : List ℕ) : Type 0 where
  pub replayed : after ≡ replay writes table
  pub sum : moved ≡ changes vars writes table
