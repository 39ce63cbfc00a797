-- What a scan works on. Document 01, "What a ladder does". Both scans share it.
-- The table is document 000's memory e, its Var being the bytes 0 to V - 1. Assumes nothing.
use Rattle.std.specs.Prelude.{ℕ, ◌+◌, ◌≡◌, Bool, true, false, ◌&&◌, List, ltb, get_or, set, take, drop}
use Rattle.std.specs.Bool.{xor}
use Rattle.std.proofs.Math.Option.{none, some}
use Rattle.std.proofs.Math.ListN.{get_elem?}
use Rattle.questions.specs.Tests.{bit, truth}
use Rattle.table.specs.Timer.{Timer, powered}

-- V, the bytes of the lent table, the timer records and the tick `now` (02, Req 06), and how many times the scan has turned a variable over (02, Req 02)
pub record State : Type 0 where
  pub vars : ℕ
  pub bytes : List ℕ
  pub timers : List Timer
  pub now : ℕ
  pub moved : ℕ

-- A state is made in this file alone: from its parts, at a scan's beginning, and by `write` and `set_timer` below. Functions over a lent table and lent timer
-- records, which are told V, the tick and the sum so far, promise by `state_with` what they do to that state.
abbrev pub state_with : ℕ → List ℕ → List Timer → ℕ → ℕ → State
state_with vars bytes timers now moved = record { vars = vars; bytes = bytes; timers = timers; now = now; moved = moved }

-- a scan begins with nothing turned over
abbrev pub state_of : ℕ → List ℕ → List Timer → ℕ → State
state_of vars bytes timers now = state_with vars bytes timers now 0

-- a state with other bytes
abbrev pub with_bytes : State → List ℕ → State
with_bytes s bytes = state_with s.vars bytes s.timers s.now s.moved

-- "The last 32 bytes are scratch t0 to t31"
abbrev pub scratch_bytes : ℕ
scratch_bytes = 32

-- the table index of td
abbrev pub scratch_index : ℕ → ℕ → ℕ
scratch_index vars d = vars + d

-- "a lent table of V + 32 bytes"
abbrev pub table_size : ℕ → ℕ
table_size vars = vars + scratch_bytes

-- "V variables, 1 to 1,024, are bytes 0 to V−1 of a lent table of V + 32 bytes"
unfoldable pub variables : State → List ℕ
variables s = take s.vars s.bytes

-- the bytes from V on
unfoldable pub beyond_variables : State → List ℕ
beyond_variables s = drop s.vars s.bytes

unfoldable pub scratch : State → List ℕ
scratch s = take scratch_bytes (beyond_variables s)

-- the value of the byte at a table index: "0 is false, 1 true"
unfoldable pub value_at : List ℕ → ℕ → Bool
value_at bytes i = truth (get_or bytes i 0)

unfoldable pub value : State → ℕ → Bool
value s i = value_at s.bytes i

-- the bytes with b written at a table index
unfoldable pub written_at : List ℕ → ℕ → Bool → List ℕ
written_at bytes i b = set bytes i (bit b)

-- 02, Req 02: whether writing b turns a variable over. "Scratch bytes don't count." It looks at the truth of the byte; where bytes are 0 and 1, as question 11
-- asks, that is "whether the byte changed" (Writes.changesVariable, by Laws.Changes.turns-changes).
unfoldable pub turns : ℕ → List ℕ → ℕ → Bool → Bool
turns vars bytes i b = ltb i vars && xor (value_at bytes i) b

-- the one place where a byte is written; "Writing a variable now also tells whether the byte changed", and the state adds it up
unfoldable pub write : State → ℕ → Bool → State
write s i b = state_with s.vars (written_at s.bytes i b) s.timers s.now (s.moved + bit (turns s.vars s.bytes i b))

-- 02, Req 01: what a set or a reset coil, and S or R, does with b true or false. "With power on, S writes 1 and R writes 0. With power off they write nothing."
-- After IEC 61131-3: a set variable stays as it is until something writes it, in later scans too. Document 002 restores it in the next scan and is not followed.
unfoldable pub write_if : Bool → State → ℕ → Bool → State
write_if true s i b = write s i b
write_if false s i b = s

-- the one place where a timer record is written
unfoldable pub set_timer : State → ℕ → Timer → State
set_timer s n t = state_with s.vars s.bytes (set s.timers n t) s.now s.moved

-- 02, Req 06: what a timer, and TON, with this number does with power p. "Its variable then gets done, and that write counts as a coil's." A number without a
-- record does nothing; question 17 refuses it.
unfoldable pub run_timer : State → ℕ → Bool → State
run_timer s n p = elim (get_elem? s.timers n) [
  | none ↦ s
  | some t ↦ let u = powered s.now p t in write (set_timer s n u) t.variable (truth u.done)
]

-- s and t have the same V, equal variables and equal timer records: they differ in scratch, and in what was turned over, at most
pub record SameButScratch (s t : State) : Type 0 where
  pub same_vars : s.vars ≡ t.vars
  pub same_variables : variables s ≡ variables t
  pub same_timers : s.timers ≡ t.timers
