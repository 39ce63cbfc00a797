-- What a timer's run leaves of all records: preset and variable of each, and flags that fit a byte. Assumes nothing.
use Rattle.std.specs.Prelude.{◌≡◌, ℕ, zero, suc, ◌+◌, ◌≤◌, Bool, true, false, cond, T, List, [], ◌∷◌, map, length, slice_set, refl}
use Rattle.std.proofs.Common.{arith, sym, ap, ◌∙◌}
use Rattle.std.proofs.Math.Option.{Option, none, some}
use Rattle.std.proofs.Math.ListN.{get_elem?}
use Rattle.questions.specs.Tests.{all, truth}
use Rattle.questions.proofs.Laws.Tests.{none_some}
use Rattle.table.specs.Timer.{Timer, with, started, tested, powered}
use Rattle.table.specs.State.{State, write, set_timer, run_timer}
use Rattle.table.specs.Questions.{timer_variables}
use Rattle.table.specs.TimerRecords.{Columns, columns, one_length, timer_columns, columns_after}
use Rattle.table.proofs.Laws.Timers.{timer_none, timer_some, timer_variables_lem, same_many}
use Rattle.table.proofs.Laws.Moved.{write_few}
use Rattle.timers.specs.Parts.{flag_bytes}
use Rattle.timers.proofs.Laws.Columns.{columns_after_lem}
use Rattle.timers.proofs.Laws.Flags.{timer_bytes}

abbrev pub presets : List Timer → List ℕ
presets ts = map (λ t. t.preset) ts

-- from records ts to records us
pub record RecordsKept (ts us : List Timer) : Type 0 where
  pub same_presets : presets us ≡ presets ts
  pub same_variables : timer_variables us ≡ timer_variables ts
  pub bytes : T (all flag_bytes ts) → T (all flag_bytes us)

pub kept_self : (ts : List Timer) → RecordsKept ts ts
kept_self ts = record { same_presets = refl; same_variables = refl; bytes = λ h. h }

pub kept_both : {ts us vs : List Timer} → RecordsKept ts us → RecordsKept us vs → RecordsKept ts vs
kept_both h k = record { same_presets = k.same_presets ∙ h.same_presets; same_variables = k.same_variables ∙ h.same_variables; bytes = λ b. k.bytes (h.bytes b) }

pub kept_count : {ts us : List Timer} → RecordsKept ts us → length us ≡ length ts
kept_count {ts} {us} h = same_many us ts h.same_variables

pub powered_preset : (now : ℕ) (p : Bool) (t : Timer) → (powered now p t).preset ≡ t.preset
unfolding powered tested started
powered_preset now false t = refl
powered_preset now true t = go (truth t.running)
  where
    go : (c : Bool) → (cond c t (with t now true false)).preset ≡ t.preset
    go true = refl
    go false = refl

presets_set : (ts : List Timer) (n : ℕ) (t u : Timer) → get_elem? ts n ≡ some t → u.preset ≡ t.preset → presets (slice_set ts n u) ≡ presets ts
presets_set [] n t u e h = absurd (none_some e)
presets_set (x ∷ ts) zero t u e h = let z : x ≡ t = cc in rw (h, z) refl
presets_set (x ∷ ts) (suc n) t u e h = ap (λ vs. x.preset ∷ vs) (presets_set ts n t u e h)

pub timer_presets : (s : State) (n : ℕ) (p : Bool) → presets (run_timer s n p).timers ≡ presets s.timers
unfolding write set_timer
timer_presets s n p = go (get_elem? s.timers n) refl
  where
    go : (x : Option Timer) → get_elem? s.timers n ≡ x → presets (run_timer s n p).timers ≡ presets s.timers
    go none e = rw (timer_none s n p e) refl
    go (some t) e = rw (timer_some s n p t s.now e refl) (presets_set s.timers n t (powered s.now p t) e (powered_preset s.now p t))

pub timer_kept : (s : State) (n : ℕ) (p : Bool) → RecordsKept s.timers (run_timer s n p).timers
timer_kept s n p = record { same_presets = timer_presets s n p; same_variables = timer_variables_lem s n p; bytes = timer_bytes s n p }

-- it turns one variable over at most
pub timer_few : (s : State) (n : ℕ) (p : Bool) → (run_timer s n p).moved ≤ s.moved + 1
unfolding set_timer
timer_few s n p = go (get_elem? s.timers n) refl
  where
    go : (x : Option Timer) → get_elem? s.timers n ≡ x → (run_timer s n p).moved ≤ s.moved + 1
    go none e = rw (timer_none s n p e) (omega arith)
    go (some t) e =
        let u = powered s.now p t in
        rw (timer_some s n p t s.now e refl) (few u t.variable (truth u.done))
      where
        few : (u : Timer) (v : ℕ) (b : Bool) → (write (set_timer s n u) v b).moved ≤ s.moved + 1
        few u v b = write_few (set_timer s n u) v b

-- the slices after a scan: preset and variable as they were, and the others as they were unpacked
pub columns_left : (c : Columns) (ts : List Timer) (start running done : List ℕ) → one_length c ≡ true → presets ts ≡ c.preset → timer_variables ts ≡ c.variable
    → start ≡ map (λ t. t.start) ts → running ≡ map (λ t. t.running) ts → done ≡ map (λ t. t.done) ts
    → columns c.preset start c.variable running done ≡ columns_after c ts
unfolding timer_columns
columns_left c ts start running done o p v s r d =
    (λ i. record { preset = sym p i; start = s i; variable = sym v i; running = r i; done = d i }) ∙ sym (columns_after_lem c ts o)
