-- Two states that are alike but for scratch, and what a write leaves of that. Assumes nothing.
use Rattle.std.specs.Prelude.{◌≡◌, Bool, List, ℕ, ◌+◌, ◌≤◌, ◌<◌, T, eqb, length, get_or, take}
use Rattle.std.proofs.Math.Path.{refl, sym, ap}
use Rattle.std.proofs.Common.{◌∙◌, eqb→eq, ltb→lt, get_or-set_same, ext_get_or, drop-set-lt}
use Rattle.std.proofs.Math.Bool.{true, false}
use Rattle.std.proofs.Math.Option.{Option, none, some}
use native.Mathlib.Omega.{arith}
use Rattle.std.proofs.Math.Decide.{ℕ_discrete, dec_lt}
use Rattle.std.proofs.Math.ListN.{get_elem?, set, length-set, length-take}
use Rattle.std.proofs.Math.Seq.{get_or-set_other, get_or-take, set_out}
use borrow.Author.Tests.{le-ltb}
use Rattle.std.proofs.Math.Facts.{and_yes}
use Rattle.questions.specs.Tests.{all, bit, truth}
use Rattle.questions.proofs.Laws.Answers.{ask_passed}
use Rattle.table.specs.Timer.{Timer, powered}
use Rattle.table.specs.State.{State, state_of, scratch_bytes, table_size, variables, beyond_variables, value_at, value, written_at, turns, write, write_if, set_timer, run_timer, SameButScratch}
use Rattle.table.specs.Questions.{table_in_range, question11, is_bit, timer_below, timer_variables, Legal}
use Rattle.table.proofs.Laws.Timers.{powered_variable, timer_none, timer_some, variables_set, timer_variables_lem, timers_below, same_below, all_got}

-- a table that question 11 takes has V + 32 bytes
pub table_room : (vars : ℕ) (bytes : List ℕ) → question11 vars bytes ≡ none → length bytes ≡ table_size vars
unfolding question11 table_in_range
table_room vars bytes e = eqb→eq _ _ (and_yes (eqb (length bytes) (table_size vars)) (all is_bit bytes) (ask_passed 11 _ e)).0

-- and they are 0 and 1
pub table_bits : (vars : ℕ) (bytes : List ℕ) → question11 vars bytes ≡ none → T (all is_bit bytes)
unfolding question11 table_in_range
table_bits vars bytes e = (and_yes (eqb (length bytes) (table_size vars)) (all is_bit bytes) (ask_passed 11 _ e)).1

-- The states s and t have V variables, and these are equal, as are their timer records and ticks and what was turned over; their scratch may differ.
pub record Alike (vars : ℕ) (s t : State) : Type 0 where
  pub vars_left : s.vars ≡ vars
  pub vars_right : t.vars ≡ vars
  pub same : (i : ℕ) → i < vars → get_or s.bytes i 0 ≡ get_or t.bytes i 0
  pub same_room : length s.bytes ≡ length t.bytes
  pub room : length t.bytes ≡ table_size vars
  pub same_moved : s.moved ≡ t.moved
  pub same_timers : s.timers ≡ t.timers
  pub same_now : s.now ≡ t.now
  pub timed : T (all (timer_below vars) t.timers)

-- t' has t's scratch below td
pub record Keeps (vars d : ℕ) (t t' : State) : Type 0 where
  pub kept : (i : ℕ) → vars ≤ i → i < vars + d → get_or t'.bytes i 0 ≡ get_or t.bytes i 0

truth_bit : (b : Bool) → truth (bit b) ≡ b
truth_bit true = refl
truth_bit false = refl

-- a byte written in two tables of one length: what was the same at i, seen through f, is the same
pub set_same : {A : Type 0} (f : ℕ → A) (s t : List ℕ) (v x : ℕ) → length s ≡ length t → (i : ℕ) → f (get_or s i 0) ≡ f (get_or t i 0)
    → f (get_or (set s v x) i 0) ≡ f (get_or (set t v x) i 0)
set_same f s t v x h i e = go (ℕ_discrete i v) (dec_lt v (length t))
  where
    go : Dec (i ≡ v) → Dec (v < length t) → f (get_or (set s v x) i 0) ≡ f (get_or (set t v x) i 0)
    go (yes p) (yes k) = rw (p, get_or-set_same s v x 0 (omega arith), get_or-set_same t v x 0 k)
    go (yes p) (no k) = rw (set_out s v x (omega arith), set_out t v x (omega arith)) e
    go (no p) k = rw (get_or-set_other s v i x 0 p, get_or-set_other t v i x 0 p) e

module _ {vars : ℕ} {s t : State} (p : Alike vars s t) where
  pub value_alike : (v : ℕ) → v < vars → value t v ≡ value s v
  unfolding value value_at
  value_alike v h = rw (p.same v h)

  -- a variable written in both
  pub write_both : (v : ℕ) (b : Bool) → v < vars → Alike vars (write s v b) (write t v b)
  unfolding write written_at turns value_at
  write_both v b h = record {
    vars_left = p.vars_left;
    vars_right = p.vars_right;
    same = λ i k. set_same (λ x. x) s.bytes t.bytes v (bit b) p.same_room i (p.same i k);
    same_room = length-set s.bytes v (bit b) ∙ p.same_room ∙ sym (length-set t.bytes v (bit b));
    room = rw (length-set t.bytes v (bit b)) p.room;
    same_moved = rw (p.same v h, p.same_moved, p.vars_left, p.vars_right);
    same_timers = p.same_timers;
    same_now = p.same_now;
    timed = p.timed;
  }

  pub write_if_both : (q : Bool) (v : ℕ) (b : Bool) → v < vars → Alike vars (write_if q s v b) (write_if q t v b)
  unfolding write_if
  write_if_both true v b h = write_both v b h
  write_if_both false v b h = p

  -- scratch written in the second alone
  pub write_scratch : (d : ℕ) (b : Bool) → d < scratch_bytes → Alike vars s (write t (vars + d) b)
  unfolding write written_at turns
  write_scratch d b h = record {
    vars_left = p.vars_left;
    vars_right = p.vars_right;
    same = λ i k. p.same i k ∙ sym (get_or-set_other t.bytes (vars + d) i (bit b) 0 (omega arith));
    same_room = p.same_room ∙ sym (length-set t.bytes (vars + d) (bit b));
    room = rw (length-set t.bytes (vars + d) (bit b)) p.room;
    same_moved = rw (p.vars_right, le-ltb (vars + d) vars (omega arith)) (p.same_moved ∙ omega arith);
    same_timers = p.same_timers;
    same_now = p.same_now;
    timed = p.timed;
  }

  pub value_written : (d : ℕ) (b : Bool) → d < scratch_bytes → value (write t (vars + d) b) (vars + d) ≡ b
  unfolding value value_at write written_at
  value_written d b h = let ht = p.room in rw (get_or-set_same t.bytes (vars + d) (bit b) 0 (omega arith)) (truth_bit b)

  variables_alike : variables s ≡ variables t
  unfolding variables
  variables_alike =
      let ls = length-take vars s.bytes in let lt = length-take vars t.bytes in let hs = p.same_room in let ht = p.room in
      rw (p.vars_left, p.vars_right) (ext_get_or 0 (take vars s.bytes) (take vars t.bytes) (omega arith)
      (λ i h. let k : i < vars = omega arith in get_or-take vars s.bytes i 0 k ∙ p.same i k ∙ sym (get_or-take vars t.bytes i 0 k)))

  pub alike_same : SameButScratch s t
  alike_same = record { same_vars = p.vars_left ∙ sym p.vars_right; same_variables = variables_alike; same_timers = p.same_timers }

  -- a timer's record written in both, which keeps its variable
  set_both : (n : ℕ) (x : Timer) (u : Timer) → get_elem? t.timers n ≡ some x → u.variable ≡ x.variable → Alike vars (set_timer s n u) (set_timer t n u)
  unfolding set_timer
  set_both n x u e h = record {
    vars_left = p.vars_left;
    vars_right = p.vars_right;
    same = p.same;
    same_room = p.same_room;
    room = p.room;
    same_moved = p.same_moved;
    same_timers = ap (λ ts. set ts n u) p.same_timers;
    same_now = p.same_now;
    timed = rw (same_below vars (set t.timers n u) t.timers (variables_set t.timers n x u e h)) p.timed;
  }

pub timer_both : {vars : ℕ} {s t : State} (p : Alike vars s t) (n : ℕ) (b : Bool) → Alike vars (run_timer s n b) (run_timer t n b)
timer_both {vars} {s} {t} p n b = go (get_elem? t.timers n) refl
  where
    go : (x : Option Timer) → get_elem? t.timers n ≡ x → Alike vars (run_timer s n b) (run_timer t n b)
    go none e = rw (timer_none s n b (rw p.same_timers e), timer_none t n b e) p
    go (some x) e =
        let u = powered t.now b x in
        rw (timer_some s n b x t.now (rw p.same_timers e) p.same_now, timer_some t n b x t.now e refl)
        (write_both (set_both p n x u e (powered_variable t.now b x)) x.variable (truth u.done) (ltb→lt x.variable vars (all_got (timer_below vars) t.timers n x p.timed e)))

pub same_both : {s t u : State} → SameButScratch s t → SameButScratch t u → SameButScratch s u
same_both h k = record { same_vars = h.same_vars ∙ k.same_vars; same_variables = h.same_variables ∙ k.same_variables; same_timers = h.same_timers ∙ k.same_timers }

-- the same of the states that begin with their bytes and timer records
pub same_tables : {s t : State} (vars now : ℕ) → s.vars ≡ vars → t.vars ≡ vars → SameButScratch s t
    → SameButScratch (state_of vars s.bytes s.timers now) (state_of vars t.bytes t.timers now)
unfolding variables
same_tables vars now p q h = record { same_vars = refl; same_variables = rw (p, q) at h.same_variables; same_timers = h.same_timers }

-- legal states that differ in scratch at most
pub alike_legal : (s t : State) → Legal s → Legal t → SameButScratch s t → s.now ≡ t.now → s.moved ≡ t.moved → Alike t.vars s t
unfolding variables
alike_legal s t hs ht e now m = let rs = table_room s.vars s.bytes hs.table in let rt = table_room t.vars t.bytes ht.table in let ev = e.same_vars in record {
  vars_left = e.same_vars;
  vars_right = refl;
  same = λ i k. sym (get_or-take t.vars s.bytes i 0 k) ∙ ap (λ l. get_or l i 0) (rw e.same_vars at e.same_variables) ∙ get_or-take t.vars t.bytes i 0 k;
  same_room = omega arith;
  room = rt;
  same_moved = m;
  same_timers = e.same_timers;
  same_now = now;
  timed = timers_below t.vars t.timers ht.timers;
}

pub alike_self : (s : State) → Legal s → Alike s.vars s s
alike_self s h = alike_legal s s h h (record { same_vars = refl; same_variables = refl; same_timers = refl }) refl refl

module _ (vars : ℕ) where
  pub keeps_all : (d : ℕ) (t : State) → Keeps vars d t t
  keeps_all d t = record { kept = λ i lo hi. refl }

  pub keeps_variable : (d v : ℕ) (t : State) (b : Bool) → v < vars → Keeps vars d t (write t v b)
  unfolding write written_at
  keeps_variable d v t b h = record { kept = λ i lo hi. get_or-set_other t.bytes v i (bit b) 0 (omega arith) }

  pub keeps_if : (d v : ℕ) (t : State) (q b : Bool) → v < vars → Keeps vars d t (write_if q t v b)
  unfolding write_if
  keeps_if d v t true b h = keeps_variable d v t b h
  keeps_if d v t false b h = keeps_all d t

  pub keeps_timer : (d n : ℕ) (t : State) (b : Bool) → T (all (timer_below vars) t.timers) → Keeps vars d t (run_timer t n b)
  unfolding set_timer write written_at
  keeps_timer d n t b h = go (get_elem? t.timers n) refl
    where
      go : (x : Option Timer) → get_elem? t.timers n ≡ x → Keeps vars d t (run_timer t n b)
      go none e = rw (timer_none t n b e) (keeps_all d t)
      go (some x) e =
          let u = powered t.now b x in
          rw (timer_some t n b x t.now e refl)
          (record { kept = (keeps_variable d x.variable (set_timer t n u) (truth u.done) (ltb→lt x.variable vars (all_got (timer_below vars) t.timers n x h e))).kept })

  pub keeps_scratch : (d : ℕ) (t : State) (b : Bool) → Keeps vars d t (write t (vars + d) b)
  unfolding write written_at
  keeps_scratch d t b = record { kept = λ i lo hi. get_or-set_other t.bytes (vars + d) i (bit b) 0 (omega arith) }

  pub value_kept : (d : ℕ) (t t' : State) → Keeps vars (d + 1) t t' → value t' (vars + d) ≡ value t (vars + d)
  unfolding value value_at
  value_kept d t t' k = rw (k.kept (vars + d) (omega arith) (omega arith))

  pub keeps_less : (d : ℕ) (t t' : State) → Keeps vars (d + 1) t t' → Keeps vars d t t'
  keeps_less d t t' k = record { kept = λ i lo hi. k.kept i lo (omega arith) }

  pub keeps_both : (d : ℕ) (t t' t'' : State) → Keeps vars d t t' → Keeps vars d t' t'' → Keeps vars d t t''
  keeps_both d t t' t'' k k' = record { kept = λ i lo hi. k'.kept i lo hi ∙ k.kept i lo hi }

-- The state s' has the V of s, all its bytes from V on, and its timers' variables.
pub record ScratchStays (s s' : State) : Type 0 where
  pub same_vars : s'.vars ≡ s.vars
  pub same_beyond : beyond_variables s' ≡ beyond_variables s
  pub same_timed : timer_variables s'.timers ≡ timer_variables s.timers

pub scratch_self : (s : State) → ScratchStays s s
scratch_self s = record { same_vars = refl; same_beyond = refl; same_timed = refl }

pub scratch_both : {s s' s'' : State} → ScratchStays s s' → ScratchStays s' s'' → ScratchStays s s''
scratch_both h k =
    record { same_vars = k.same_vars ∙ h.same_vars; same_beyond = k.same_beyond ∙ h.same_beyond; same_timed = k.same_timed ∙ h.same_timed }

-- writing a variable leaves scratch
pub scratch_written : (s : State) (v : ℕ) (b : Bool) → v < s.vars → ScratchStays s (write s v b)
unfolding write written_at beyond_variables
scratch_written s v b h = record { same_vars = refl; same_beyond = drop-set-lt s.vars s.bytes v (bit b) h; same_timed = refl }

pub scratch_if : (s : State) (v : ℕ) (q b : Bool) → v < s.vars → ScratchStays s (write_if q s v b)
unfolding write_if
scratch_if s v true b h = scratch_written s v b h
scratch_if s v false b h = scratch_self s

-- so does a timer's run, where its variable is below V
pub scratch_timer : (s : State) (n : ℕ) (b : Bool) → T (all (timer_below s.vars) s.timers) → ScratchStays s (run_timer s n b)
unfolding set_timer write written_at beyond_variables
scratch_timer s n b h = go (get_elem? s.timers n) refl
  where
    go : (x : Option Timer) → get_elem? s.timers n ≡ x → ScratchStays s (run_timer s n b)
    go none e = rw (timer_none s n b e) (scratch_self s)
    go (some x) e =
        let u = powered s.now b x in
        let same = scratch_written (set_timer s n u) x.variable (truth u.done) (ltb→lt x.variable s.vars (all_got (timer_below s.vars) s.timers n x h e)) in
        let timed = timer_variables_lem s n b in
        rw (timer_some s n b x s.now e refl)
        (record { same_vars = refl; same_beyond = same.same_beyond; same_timed = rw (timer_some s n b x s.now e refl) at timed })
