-- Laws of a timer's work on its numbers. Assumes nothing.
use Rattle.std.proofs.Common.{◌≡◌, ℕ, ◌+◌, ◌*◌, ◌<◌, ◌≤◌, Bool, true, false, ◌||◌, leb, List, length, slice_set, refl, sym, ap, ◌∙◌, eq-eqb, ne_eqb}
use mir.Val.{bool_byte}
use Rattle.std.proofs.lemmas.List.Edits.{sets}
use Rattle.questions.specs.Tests.{truth}
use Rattle.table.specs.Timer.{Timer, with, elapsed, started, tested, powered}
use Rattle.table.specs.State.{state_with, write, set_timer, run_timer}
use Rattle.table.specs.TimerRecords.{numbers_of, timers_in}
use Rattle.table.specs.Parts.{state_in, Changed}
use Rattle.table.specs.declared.State.{State as StateStruct}
use Rattle.table.proofs.Laws.Timers.{powered_variable, timer_none, timer_some}
use Rattle.timers.specs.Parts.{timer_at}
use Rattle.timers.proofs.Laws.Places.{record_there, record_none, record_put}

-- ---- a record's work

module _ (tick : ℕ) (t : Timer) where
  pub starts : t.running ≡ 0 → with t tick true false ≡ started tick t
  unfolding started
  starts e = rw (eq-eqb t.running 0 e) refl

  pub runs_on : (t.running ≡ 0 → ⊥) → t ≡ started tick t
  unfolding started
  runs_on e = rw (ne_eqb t.running 0 e) refl

  pub done_already : (b : Bool) → (t.done ≡ 0 → ⊥) → truth t.done ≡ (truth t.done || b)
  done_already b e = rw (ne_eqb t.done 0 e) refl

  pub done_now : (r : ℕ) → t.done ≡ 0 → r ≡ elapsed tick t.start → leb t.preset r ≡ (truth t.done || leb t.preset (elapsed tick t.start))
  done_now r e q = rw (eq-eqb t.done 0 e, q) refl

  pub tests : (d : Bool) (n : ℕ) → d ≡ (truth t.done || leb t.preset (elapsed tick t.start)) → n ≡ bool_byte d
      → record { preset = t.preset; start = t.start; variable = t.variable; running = 1; done = n } ≡ tested tick t
  unfolding tested
  tests true n e q = rw (← e, q) refl
  tests false n e q = rw (← e, q) refl

-- ---- a timer's run

module _ (old new : StateStruct) (number : ℕ) (power : Bool) where
  pub runs_none : length old.timers.now < number * 5 + 5 → Changed old old (λ s. run_timer s number power)
  runs_none h = record { same = sym (timer_none (state_in old) number power (record_none old.timers.now number h)); same_table = refl; same_timers = refl; vars = refl; tick = refl }

  pub runs : (u : Timer) (ms : List ℕ) → number * 5 + 5 ≤ length old.timers.now
      → u ≡ powered old.tick power (timer_at old.timers.now (number * 5)) → ms ≡ sets old.timers.now (number * 5) (numbers_of u)
      → state_in new ≡ write (state_with old.vars old.table.now (timers_in ms) old.tick old.moved) u.variable (truth u.done)
      → new.table.ghost_name ≡ old.table.ghost_name → new.timers.ghost_name ≡ old.timers.ghost_name
      → Changed old new (λ s. run_timer s number power)
  unfolding set_timer write
  runs u ms h is put wrote a b =
      let was = timer_at old.timers.now (number * 5) in
      let s = state_in old in
      let same : timers_in ms ≡ slice_set s.timers number u = ap timers_in put ∙ record_put old.timers.now number u h in
      let variable : u.variable ≡ was.variable = ap (λ t. t.variable) is ∙ powered_variable old.tick power was in
      record {
        same =
            wrote
            ∙ ap (λ ts. write (state_with old.vars old.table.now ts old.tick old.moved) u.variable (truth u.done)) same
            ∙ ap (λ v. write (set_timer s number u) v (truth u.done)) variable
            ∙ ap (λ t. write (set_timer s number t) was.variable (truth t.done)) is
            ∙ sym (timer_some s number power was old.tick (record_there old.timers.now number h) refl);
        same_table = a;
        same_timers = b;
        vars = ap (λ s. s.vars) wrote;
        tick = ap (λ s. s.now) wrote;
      }
