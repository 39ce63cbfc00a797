-- What a timer's run is, and what it leaves of the timer records. Assumes nothing.
use Rattle.std.specs.Prelude.{ℕ, zero, suc, ◌≡◌, refl, Bool, true, false, cond, ◌&&◌, List, [], ◌∷◌, T, eqb, leb, ltb, length, set}
use Rattle.std.proofs.Common.{ap}
use Rattle.std.proofs.Math.Option.{Option, none, some}
use Rattle.std.proofs.Math.ListN.{get_elem?}
use Rattle.std.proofs.Math.Facts.{and_yes}
use Rattle.questions.specs.Tests.{all, different, truth}
use Rattle.questions.proofs.Laws.Tests.{none_some, all_head, all_tail, all_cons}
use Rattle.questions.proofs.Laws.Answers.{ask_passed}
use Rattle.table.specs.Timer.{Timer, with, started, tested, powered}
use Rattle.table.specs.State.{State, write, write_if, set_timer, run_timer}
use Rattle.table.specs.Questions.{most_timers, timer_below, timer_variables, timers_in_range, question16}

pub powered_variable : (now : ℕ) (p : Bool) (t : Timer) → (powered now p t).variable ≡ t.variable
unfolding powered tested started
powered_variable now false t = refl
powered_variable now true t = go (truth t.running)
  where
    go : (c : Bool) → (cond c t (with t now true false)).variable ≡ t.variable
    go true = refl
    go false = refl

module _ (s : State) (n : ℕ) (p : Bool) where
  pub timer_none : get_elem? s.timers n ≡ none → run_timer s n p ≡ s
  unfolding run_timer
  timer_none e = rw (e, run_timer)

  pub timer_some : (t : Timer) (now : ℕ) → get_elem? s.timers n ≡ some t → s.now ≡ now
      → run_timer s n p ≡ write (set_timer s n (powered now p t)) t.variable (truth (powered now p t).done)
  unfolding run_timer
  timer_some t now e h = rw (e, run_timer) (ap (λ x. write (set_timer s n (powered x p t)) t.variable (truth (powered x p t).done)) h)

-- a record with the variable of the one that stood there
pub variables_set : (ts : List Timer) (n : ℕ) (t u : Timer) → get_elem? ts n ≡ some t → u.variable ≡ t.variable → timer_variables (set ts n u) ≡ timer_variables ts
variables_set [] n t u e h = absurd (none_some e)
variables_set (x ∷ ts) zero t u e h = let z : x ≡ t = cc in rw (h, z) refl
variables_set (x ∷ ts) (suc n) t u e h = ap (λ vs. x.variable ∷ vs) (variables_set ts n t u e h)

-- a timer's run leaves each record its variable
pub timer_variables_lem : (s : State) (n : ℕ) (p : Bool) → timer_variables (run_timer s n p).timers ≡ timer_variables s.timers
unfolding write set_timer
timer_variables_lem s n p = go (get_elem? s.timers n) refl
  where
    go : (x : Option Timer) → get_elem? s.timers n ≡ x → timer_variables (run_timer s n p).timers ≡ timer_variables s.timers
    go none e = rw (timer_none s n p e) refl
    go (some t) e = rw (timer_some s n p t s.now e refl) (variables_set s.timers n t (powered s.now p t) e (powered_variable s.now p t))

-- ---- what question 16 takes

pub timers_below : (vars : ℕ) (ts : List Timer) → question16 vars ts ≡ none → T (all (timer_below vars) ts)
unfolding question16 timers_in_range
timers_below vars ts e =
    (and_yes (all (timer_below vars) ts) _ (and_yes (leb (length ts) most_timers) _ (ask_passed 16 _ e)).1).0

abbrev below : ℕ → ℕ → Bool
below vars v = ltb v vars

length_same : (ts : List Timer) → length (timer_variables ts) ≡ length ts
length_same [] = refl
length_same (t ∷ ts) = ap suc (length_same ts)

below_same : (vars : ℕ) (ts : List Timer) → all (below vars) (timer_variables ts) ≡ all (timer_below vars) ts
below_same vars [] = refl
below_same vars (t ∷ ts) = ap (λ b. below vars t.variable && b) (below_same vars ts)

by_variables : (vars : ℕ) (ts : List Timer)
    → timers_in_range vars ts ≡ (leb (length (timer_variables ts)) most_timers && (all (below vars) (timer_variables ts) && different eqb (timer_variables ts)))
unfolding timers_in_range
by_variables vars ts = rw (length_same ts, below_same vars ts) refl

-- it looks at the variables alone
pub same_question16 : (vars : ℕ) (ts us : List Timer) → timer_variables ts ≡ timer_variables us → question16 vars ts ≡ question16 vars us
unfolding question16
same_question16 vars ts us e = rw (by_variables vars ts, by_variables vars us, e) refl

pub same_below : (vars : ℕ) (ts us : List Timer) → timer_variables ts ≡ timer_variables us → all (timer_below vars) ts ≡ all (timer_below vars) us
same_below vars ts us e = rw (← below_same vars ts, ← below_same vars us, e) refl

pub same_many : (ts us : List Timer) → timer_variables ts ≡ timer_variables us → length ts ≡ length us
same_many ts us e = rw (← length_same ts, ← length_same us, e) refl

-- ---- what every timer record has, and still has once it was worked

pub all_set : {A : Type 0} (test : A → Bool) (xs : List A) (n : ℕ) (x : A) → T (all test xs) → T (test x) → T (all test (set xs n x))
all_set test [] n x h k = h
all_set test (y ∷ xs) zero x h k = all_cons test x xs k (all_tail test y xs h)
all_set test (y ∷ xs) (suc n) x h k = all_cons test y (set xs n x) (all_head test y xs h) (all_set test xs n x (all_tail test y xs h) k)

pub all_got : {A : Type 0} (test : A → Bool) (xs : List A) (n : ℕ) (x : A) → T (all test xs) → get_elem? xs n ≡ some x → T (test x)
all_got test [] n x h e = absurd (none_some e)
all_got test (y ∷ xs) zero x h e = let z : y ≡ x = cc in rw z at (all_head test y xs h)
all_got test (y ∷ xs) (suc n) x h e = all_got test xs n x (all_tail test y xs h) e

-- at this tick
pub record TimersHave (test : Timer → Bool) (now : ℕ) (s : State) : Type 0 where
  pub tick : s.now ≡ now
  pub have : T (all test s.timers)

pub timer_has : (test : Timer → Bool) (now : ℕ) → ((p : Bool) (t : Timer) → T (test t) → T (test (powered now p t))) → (s : State) (n : ℕ) (p : Bool)
    → TimersHave test now s → TimersHave test now (run_timer s n p)
unfolding write set_timer
timer_has test now keeps s n p h = go (get_elem? s.timers n) refl
  where
    go : (x : Option Timer) → get_elem? s.timers n ≡ x → TimersHave test now (run_timer s n p)
    go none e = rw (timer_none s n p e) h
    go (some t) e = rw (timer_some s n p t now e h.tick)
        (record { tick = h.tick; have = all_set test s.timers n (powered now p t) h.have (keeps p t (all_got test s.timers n t h.have e)) })

pub write_has : (test : Timer → Bool) (now : ℕ) (s : State) (i : ℕ) (b : Bool) → TimersHave test now s → TimersHave test now (write s i b)
unfolding write
write_has test now s i b h = record { tick = h.tick; have = h.have }

pub write_if_has : (test : Timer → Bool) (now : ℕ) (q : Bool) (s : State) (i : ℕ) (b : Bool) → TimersHave test now s → TimersHave test now (write_if q s i b)
unfolding write_if
write_if_has test now true s i b h = write_has test now s i b h
write_if_has test now false s i b h = h
