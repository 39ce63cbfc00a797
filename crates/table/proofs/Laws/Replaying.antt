-- Writes made in a state, first to last: what they leave of its bytes, of V and of a legal table. They leave its timer records and its tick. Assumes nothing.
use Rattle.std.specs.Prelude.{ℕ, ◌≤◌, ◌≡◌, refl, Bool, true, false, List, [], ◌∷◌, ◌++◌, length}
use Rattle.std.proofs.Common.{arith}
use Rattle.std.proofs.Math.Option.{Option, none, some}
use Rattle.std.proofs.Math.ListN.{get_elem?}
use Rattle.table.specs.Timer.{Timer}
use Rattle.table.specs.State.{State, state_with, write, write_if, set_timer, run_timer}
use Rattle.table.specs.Writes.{Write, wrote_if, timer_writes, made, replay}
use Rattle.table.proofs.Laws.Legal.{LegalTable, written_legal}
use Rattle.table.proofs.Laws.Timers.{timer_none, timer_some}

-- a state without its timer records and its tick, which writes do not look at
abbrev pub untimed : State → State
untimed s = state_with s.vars s.bytes [] 0 s.moved

-- the state with these writes made
unfoldable pub makes : List Write → State → State
makes [] s = s
makes (w ∷ later) s = makes later (write s w.index w.value)

pub makes_append : (first later : List Write) (s : State) → makes (first ++ later) s ≡ makes later (makes first s)
unfolding makes
makes_append [] later s = refl
makes_append (w ∷ first) later s = makes_append first later (write s w.index w.value)

pub makes_bytes : (ws : List Write) (s : State) → (makes ws s).bytes ≡ replay ws s.bytes
unfolding makes replay made write
makes_bytes [] s = refl
makes_bytes (w ∷ later) s = makes_bytes later (write s w.index w.value)

pub makes_vars : (ws : List Write) (s : State) → (makes ws s).vars ≡ s.vars
unfolding makes write
makes_vars [] s = refl
makes_vars (w ∷ later) s = makes_vars later (write s w.index w.value)

pub makes_legal : (vars : ℕ) (ws : List Write) (s : State) → LegalTable vars s.bytes → LegalTable vars (makes ws s).bytes
unfolding makes write
makes_legal vars [] s h = h
makes_legal vars (w ∷ later) s h = makes_legal vars later (write s w.index w.value) (written_legal vars s.bytes w.index w.value h)

pub write_if_makes : (q : Bool) (s : State) (i : ℕ) (b : Bool) → untimed (write_if q s i b) ≡ makes (wrote_if q i b) (untimed s)
unfolding write_if write makes wrote_if
write_if_makes true s i b = refl
write_if_makes false s i b = refl

pub wrote_if_few : (q : Bool) (i : ℕ) (b : Bool) → length (wrote_if q i b) ≤ 1
unfolding wrote_if
wrote_if_few true i b = omega arith
wrote_if_few false i b = omega arith

-- a timer's run makes its one write, or none
pub timer_makes : (s : State) (n : ℕ) (p : Bool) → untimed (run_timer s n p) ≡ makes (timer_writes s n p) (untimed s)
unfolding timer_writes makes write set_timer
timer_makes s n p = go (get_elem? s.timers n) refl
  where
    go : (x : Option Timer) → get_elem? s.timers n ≡ x → untimed (run_timer s n p) ≡ makes (timer_writes s n p) (untimed s)
    go none e = rw (timer_none s n p e, e, timer_writes) refl
    go (some t) e = rw (timer_some s n p t s.now e refl, e, timer_writes) refl

pub timer_few : (s : State) (n : ℕ) (p : Bool) → length (timer_writes s n p) ≤ 1
unfolding timer_writes
timer_few s n p = go (get_elem? s.timers n) refl
  where
    go : (x : Option Timer) → get_elem? s.timers n ≡ x → length (timer_writes s n p) ≤ 1
    go none e = rw (e, timer_writes) (omega arith)
    go (some t) e = rw (e, timer_writes) (omega arith)
