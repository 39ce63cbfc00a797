-- What a timer's work leaves of its record, a ladder scan leaves of all records. Assumes nothing.
use Prim.Native.Nat.{ℕ, zero, suc, ◌+◌}
use Rattle.std.specs.Prelude.{◌≡◌, refl, Bool, not, ◌&&◌, T}
use Rattle.std.proofs.Math.Bool.{true, false}
use mathlib.Core.List.{[], ◌∷◌}
use Rattle.questions.specs.Tests.{all}
use Rattle.table.specs.Timer.{Timer, powered}
use Rattle.table.specs.State.{State}
use Rattle.table.proofs.Laws.Timers.{TimersHave, timer_has, write_has, write_if_has}
use Rattle.ladder_definitions.specs.Tree.{Output, coil, coiln, jump, jumpn, set_coil, reset_coil, timer, Rear, output, rear_and, rear_or, Rung, Ladder}
use Rattle.ladder_definitions.specs.Meaning.{work_front, Run, onward, jumped, left, jump_if, unless_jumped, run_output, run_rear, run_rung, follow, scan_from, scan_ladder}
use Rattle.ladder_definitions.proofs.Laws.Writes.{front_leaves}

module _ (test : Timer → Bool) (now : ℕ) (keeps : (p : Bool) (t : Timer) → T (test t) → T (test (powered now p t))) where
  abbrev Has : State → Type 0
  Has = TimersHave test now

  jump_has : (b : Bool) (l : ℕ) (s : State) → Has s → Has (left (jump_if b l s))
  unfolding jump_if left
  jump_has true l s h = h
  jump_has false l s h = h

  output_has : (o : Output) (p : Bool) (s : State) → Has s → Has (left (run_output o p s))
  unfolding run_output left
  output_has (coil v) p s h = write_has test now s v p h
  output_has (coiln v) p s h = write_has test now s v (not p) h
  output_has (jump l) p s h = jump_has p l s h
  output_has (jumpn l) p s h = jump_has (not p) l s h
  output_has (set_coil v) p s h = write_if_has test now p s v true h
  output_has (reset_coil v) p s h = write_if_has test now p s v false h
  output_has (timer n) p s h = timer_has test now keeps s n p h

  unless_has : (x : Run) (next : State → Run) → Has (left x) → ((u : State) → Has u → Has (left (next u))) → Has (left (unless_jumped x next))
  unfolding unless_jumped left
  unless_has (onward u) next h k = k u h
  unless_has (jumped l u) next h k = h

  rear_has : (r : Rear) (p : Bool) (s : State) → Has s → Has (left (run_rear r p s))
  unfolding run_rear
  rear_has (output o) p s h = output_has o p s h
  rear_has (rear_and f r) p s h = let w = work_front f s in rear_has r (p && w.power) w.state (rw (front_leaves f s) h)
  rear_has (rear_or a b) p s h = unless_has (run_rear a p s) (λ u. run_rear b p u) (rear_has a p s h) (λ u k. rear_has b p u k)

  rung_has : (g : Rung) (s : State) → Has s → Has (left (run_rung g s))
  unfolding run_rung
  rung_has g s h = let w = work_front g.front s in rear_has g.rear w.power w.state (rw (front_leaves g.front s) h)

  from_has : (gs : Ladder) (n k : ℕ) (rest : Ladder) (s : State) → Has s → Has (scan_from gs n k rest s).state
  unfolding scan_from
  from_has gs zero k [] s h = h
  from_has gs zero k (g ∷ rest) s h = h
  from_has gs (suc n) k [] s h = h
  from_has gs (suc n) k (g ∷ rest) s h = from_has gs n (k + 1) (follow gs rest (run_rung g s)) (left (run_rung g s)) (rung_has g s h)

  pub scan_has : (gs : Ladder) (n : ℕ) (s : State) → s.now ≡ now → T (all test s.timers) → T (all test (scan_ladder gs n s).state.timers)
  unfolding scan_ladder
  scan_has gs n s e h = (from_has gs n 0 gs s (record { tick = e; have = h })).have
