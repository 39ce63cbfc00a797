-- What the code of a front, of a rear and of a rung does: run from any place of a list, it does what the part does, and falls through or jumps. Assumes nothing.
use Rattle.std.specs.Prelude.{◌≡◌, Bool, ◌&&◌, ◌||◌, ℕ, ◌+◌, ◌≤◌, ◌<◌, T}
use Rattle.std.proofs.Math.Path.{refl, ap}
use Rattle.std.proofs.Common.{◌∙◌, add-zero}
use Rattle.std.proofs.Math.Bool.{true, false, not, and_comm, or_comm}
use Rattle.std.proofs.Math.Option.{none, some}
use mathlib.Core.List.{List, [], ◌∷◌, ◌++◌, append_assoc, append-nil}
use native.Mathlib.Omega.{arith}
use Rattle.std.proofs.Math.Dec.{ltb→lt}
use Rattle.std.proofs.Math.ListN.{length, length-append}
use Rattle.std.proofs.Math.Facts.{and_yes}
use Rattle.table.specs.State.{State, scratch_bytes, value, write}
use Rattle.table.proofs.Laws.Alike.{Alike, Keeps, value_alike, write_both, write_if_both, timer_both, write_scratch, value_written, keeps_all, keeps_variable, keeps_if, keeps_timer, keeps_scratch, value_kept, keeps_less, keeps_both}
use Rattle.rungs.specs.Records.{present}
use Rattle.ladder_definitions.specs.Tree.{contact, contactn, Front, input, front_and, front_or, Output, coil, coiln, jump, jumpn, set_coil, reset_coil, timer, Rear, output, rear_and, rear_or, Rung, Ladder, front_all, rear_all, rung_all, input_variable, output_names}
use Rattle.ladder_definitions.specs.Meaning.{work_input, work_front, Run, onward, jumped, left, jump_if, unless_jumped, run_output, run_rear, run_rung}
use Rattle.ladder_definitions.specs.Questions.{input_below, named_below, output_below, rung_below, named_leads, output_leads, rung_leads, join_scratch, front_scratch, rear_scratch, rung_scratch}
use Rattle.list_definitions.specs.Instruction.{Instr, LD, ST, AND, ANDN, OR, ORN}
use Rattle.list_definitions.specs.Machine.{does}
use Rattle.translation_definitions.specs.Translate.{F, R, join, output_code, rung_code}
use Rattle.translation_definitions.proofs.Laws.Exec.{more, more_more, leaves, exec, exec_on, exec_off, landing}
use Rattle.translation_definitions.proofs.Laws.Places.{first, follow_index}
use Rattle.translation_definitions.proofs.Laws.Scans.{RungDid}

abbrev pub front_below : ℕ → Front → Bool
front_below vars = front_all (input_below vars)

abbrev pub rear_below : ℕ → Rear → Bool
rear_below vars = rear_all (input_below vars) (output_below vars)

abbrev pub rear_leads : List ℕ → Rear → Bool
rear_leads ls = rear_all (λ i. true) (output_leads ls)

-- From accumulator v and state t the code is run to its end. It leaves the accumulator p and a state that s is like, with the scratch below td as it was.
record Straight (vars d : ℕ) (code : List Instr) (v : Bool) (t : State) (p : Bool) (s : State) : Type 0 where
  state : State
  alike : Alike vars s state
  keeps : Keeps vars d t state
  runs : (rest : List Instr) → exec (code ++ rest) v t ≡ more (length code) (exec rest p state)

-- From accumulator v and state t the code jumps to `target`, and leaves a state that s is like.
record Left (vars : ℕ) (code : List Instr) (v : Bool) (t : State) (target : ℕ) (s : State) : Type 0 where
  count : ℕ
  accumulator : Bool
  state : State
  alike : Alike vars s state
  low : 1 ≤ count
  high : count ≤ length code
  runs : (rest : List Instr) → exec (code ++ rest) v t ≡ record { count = count; accumulator = accumulator; run = jumped target state }

-- the code of a rear does what the rear's run says, where ls are the labels of the ladder
data Ran (vars : ℕ) (ls : List ℕ) (start : ℕ → ℕ) (d : ℕ) (code : List Instr) (v : Bool) (t : State) : Run → Type 0 where
  fell : {p : Bool} {s : State} → Straight vars d code v t p s → Ran vars ls start d code v t (onward s)
  went : {l : ℕ} {s : State} → T (present l ls) → Left vars code v t (start l) s → Ran vars ls start d code v t (jumped l s)

module _ {vars d : ℕ} where
  single : {i : Instr} {v : Bool} {t : State} {p : Bool} {s u : State} → leaves i v ≡ none → (does i v t 0).accumulator ≡ p → (does i v t 0).state ≡ u
      → Alike vars s u → Keeps vars d t u → Straight vars d (i ∷ []) v t p s
  single {i} {v} {t} {u = u} q a b al k = record { state = u; alike = al; keeps = k; runs = λ rest. rw (exec_on i rest v t q, a, b) refl }

  seq : {a b : List Instr} {v p q : Bool} {t s s' : State} (x : Straight vars d a v t p s) → Straight vars d b p x.state q s' → Straight vars d (a ++ b) v t q s'
  seq {a} {b} {v} {p} {q} {t} x y = record {
    state = y.state;
    alike = y.alike;
    keeps = keeps_both vars d t x.state y.state x.keeps y.keeps;
    runs = λ rest. rw (append_assoc a b rest, x.runs (b ++ rest), y.runs rest, more_more, length-append a b) refl;
  }

  weaken : {a : List Instr} {v p : Bool} {t s : State} → Straight vars (d + 1) a v t p s → Straight vars d a v t p s
  weaken {t = t} x = record { state = x.state; alike = x.alike; keeps = keeps_less vars d t x.state x.keeps; runs = x.runs }

  -- a jump out of b, behind the code a that is run to its end
  behind : {a b : List Instr} {v p : Bool} {t s s' : State} {j : ℕ} (x : Straight vars d a v t p s) → Left vars b p x.state j s' → Left vars (a ++ b) v t j s'
  unfolding more
  behind {a} {b} x y = let low = y.low in let high = y.high in record {
    count = length a + y.count;
    accumulator = y.accumulator;
    state = y.state;
    alike = y.alike;
    low = omega arith;
    high = rw (length-append a b) (omega arith);
    runs = λ rest. rw (append_assoc a b rest, x.runs (b ++ rest), y.runs rest) refl;
  }

-- a jump out of a, whatever follows
before : {vars : ℕ} {a : List Instr} (b : List Instr) {v : Bool} {t s : State} {j : ℕ} → Left vars a v t j s → Left vars (a ++ b) v t j s
before {a = a} b y = let high = y.high in record {
  count = y.count;
  accumulator = y.accumulator;
  state = y.state;
  alike = y.alike;
  low = y.low;
  high = rw (length-append a b) (omega arith);
  runs = λ rest. rw (append_assoc a b rest) (y.runs (b ++ rest));
}

-- a pair of instructions that join the operand, or its opposite, to the accumulator
record Joins (op opn : ℕ → Instr) (by : Bool → Bool → Bool) : Type 0 where
  plain : (x : ℕ) (v : Bool) (t : State) → (leaves (op x) v ≡ none) × ((does (op x) v t 0).accumulator ≡ by v (value t x)) × ((does (op x) v t 0).state ≡ t)
  negated : (x : ℕ) (v : Bool) (t : State) → (leaves (opn x) v ≡ none) × ((does (opn x) v t 0).accumulator ≡ by v (not (value t x))) × ((does (opn x) v t 0).state ≡ t)
  swap : (a b : Bool) → by a b ≡ by b a

joins_and : Joins AND ANDN ◌&&◌
unfolding leaves does
joins_and = record { plain = λ x v t. (refl, refl, refl); negated = λ x v t. (refl, refl, refl); swap = and_comm }

joins_or : Joins OR ORN ◌||◌
unfolding leaves does
joins_or = record { plain = λ x v t. (refl, refl, refl); negated = λ x v t. (refl, refl, refl); swap = or_comm }

module _ (vars : ℕ) where
  save : (d : ℕ) (s t : State) (v : Bool) → d < scratch_bytes → Alike vars s t → Straight vars d (ST (vars + d) ∷ []) v t v s
  unfolding leaves does
  save d s t v h p = single {u = write t (vars + d) v} refl refl refl (write_scratch p d v h) (keeps_scratch vars d t v)

  restore : (d : ℕ) (s t : State) (q v : Bool) → Alike vars s t → value t (vars + d) ≡ v → Straight vars d (LD (vars + d) ∷ []) q t v s
  unfolding leaves does
  restore d s t q v p e = single {u = t} refl e refl p (keeps_all vars d t)

  module _ {op opn : ℕ → Instr} {by : Bool → Bool → Bool} (j : Joins op opn by) where
    -- through td, for a front of any form
    through : (d : ℕ) (s s' t : State) (v q : Bool) (code : List Instr) → d < scratch_bytes → Alike vars s t
        → ((u : State) → Alike vars s u → Straight vars (d + 1) code v u q s')
        → Straight vars d (ST (vars + d) ∷ code ++ op (vars + d) ∷ []) v t (by v q) s'
    unfolding save single weaken
    through d s s' t v q code h p own =
        let x = save d s t v h p in
        let y = own x.state x.alike in
        let e : value y.state (vars + d) ≡ v = value_kept vars d x.state y.state y.keeps ∙ value_written p d v h in
        let o = j.plain (vars + d) q y.state in
        seq x (seq (weaken y) (single o.0 (o.1 ∙ ap (by q) e ∙ j.swap q v) o.2 y.alike (keeps_all vars d y.state)))

    join_runs : (d : ℕ) (s t : State) (v : Bool) (g : Front) (code : List Instr) → T (front_below vars g) → d + join_scratch g (front_scratch g) ≤ scratch_bytes → Alike vars s t
        → (d + 1 + front_scratch g ≤ scratch_bytes → (u : State) → Alike vars s u → Straight vars (d + 1) code v u (work_front g s).power (work_front g s).state)
        → Straight vars d (join op opn g code (vars + d)) v t (by v (work_front g s).power) (work_front g s).state
    unfolding join join_scratch work_front work_input front_all input_below input_variable
    join_runs d s t v (input (contact x)) code b h p own =
        let o = j.plain x v t in
        single o.0 (o.1 ∙ ap (by v) (value_alike p x (ltb→lt x vars b))) o.2 p (keeps_all vars d t)
    join_runs d s t v (input (contactn x)) code b h p own =
        let o = j.negated x v t in
        single o.0 (o.1 ∙ ap (λ a. by v (not a)) (value_alike p x (ltb→lt x vars b))) o.2 p (keeps_all vars d t)
    join_runs d s t v (front_and f g) code b h p own = through d s _ t v _ code (omega arith) p (own (omega arith))
    join_runs d s t v (front_or f g) code b h p own = through d s _ t v _ code (omega arith) p (own (omega arith))

  F_runs : (f : Front) (d : ℕ) (s t : State) (v : Bool) → T (front_below vars f) → d + front_scratch f ≤ scratch_bytes → Alike vars s t
      → Straight vars d (F vars f d) v t (work_front f s).power (work_front f s).state
  unfolding F work_front work_input front_all input_below input_variable front_scratch leaves does
  F_runs (input (contact x)) d s t v b h p = single refl (value_alike p x (ltb→lt x vars b)) refl p (keeps_all vars d t)
  F_runs (input (contactn x)) d s t v b h p = single refl (ap not (value_alike p x (ltb→lt x vars b))) refl p (keeps_all vars d t)
  F_runs (front_and f g) d s t v b h p =
      let bb = and_yes (front_below vars f) (front_below vars g) b in
      let x = F_runs f d s t v bb.0 (omega arith) p in
      seq x (join_runs joins_and d _ _ _ g _ bb.1 (omega arith) x.alike (λ k u q. F_runs g (d + 1) _ u _ bb.1 k q))
  F_runs (front_or f g) d s t v b h p =
      let bb = and_yes (front_below vars f) (front_below vars g) b in
      let x = F_runs f d s t v bb.0 (omega arith) p in
      seq x (join_runs joins_or d _ _ _ g _ bb.1 (omega arith) x.alike (λ k u q. F_runs g (d + 1) _ u _ bb.1 k q))

  module _ (ls : List ℕ) (start : ℕ → ℕ) where
    seq_ran : {d : ℕ} {a b : List Instr} {v p : Bool} {t s : State} {r : Run} (x : Straight vars d a v t p s) → Ran vars ls start d b p x.state r → Ran vars ls start d (a ++ b) v t r
    seq_ran x (fell y) = fell (seq x y)
    seq_ran x (went k y) = went k (behind x y)

    or_ran : {d : ℕ} {a b : List Instr} {v : Bool} {t : State} {r : Run} (next : State → Run) → Ran vars ls start (d + 1) a v t r
        → ((p : Bool) (s : State) (x : Straight vars (d + 1) a v t p s) → Ran vars ls start d b p x.state (next s))
        → Ran vars ls start d (a ++ b) v t (unless_jumped r next)
    unfolding unless_jumped weaken
    or_ran next (fell x) k = seq_ran (weaken x) (k _ _ x)
    or_ran {b = b} next (went h y) k = went h (before b y)

    -- a taken jump
    takes : (d : ℕ) (s t : State) (v : Bool) (i : Instr) (l : ℕ) → T (present l ls) → leaves i v ≡ some (start l) → (does i v t 0).accumulator ≡ v → (does i v t 0).state ≡ t → Alike vars s t
        → Ran vars ls start d (i ∷ []) v t (jumped l s)
    takes d s t v i l h q a b p = went {l = l} h (record {
      count = 1;
      accumulator = v;
      state = t;
      alike = p;
      low = omega arith;
      high = omega arith;
      runs = λ rest. rw (exec_off i rest v t (start l) q, a, b) refl;
    })

    output_runs : (o : Output) (d : ℕ) (s t : State) (v : Bool) → T (output_below vars o) → T (output_leads ls o) → Alike vars s t → Ran vars ls start d (output_code start o ∷ []) v t (run_output o v s)
    unfolding output_code run_output output_below output_leads named_below named_leads output_names jump_if leaves does
    output_runs (coil x) d s t v b h p = let k = ltb→lt x vars b in fell (single refl refl refl (write_both p x v k) (keeps_variable vars d x t v k))
    output_runs (coiln x) d s t v b h p = let k = ltb→lt x vars b in fell (single refl refl refl (write_both p x (not v) k) (keeps_variable vars d x t (not v) k))
    output_runs (jump l) d s t true b h p = takes d s t true _ l h refl refl refl p
    output_runs (jump l) d s t false b h p = fell (single refl refl refl p (keeps_all vars d t))
    output_runs (jumpn l) d s t true b h p = fell (single refl refl refl p (keeps_all vars d t))
    output_runs (jumpn l) d s t false b h p = takes d s t false _ l h refl refl refl p
    output_runs (set_coil x) d s t v b h p = let k = ltb→lt x vars b in fell (single refl refl refl (write_if_both p v x true k) (keeps_if vars d x t v true k))
    output_runs (reset_coil x) d s t v b h p = let k = ltb→lt x vars b in fell (single refl refl refl (write_if_both p v x false k) (keeps_if vars d x t v false k))
    output_runs (timer n) d s t v b h p = fell (single refl refl refl (timer_both p n v) (keeps_timer vars d n t v p.timed))

    R_runs : (r : Rear) (d : ℕ) (s t : State) (v : Bool) → T (rear_below vars r) → T (rear_leads ls r) → d + rear_scratch r ≤ scratch_bytes → Alike vars s t
        → Ran vars ls start d (R vars start r d) v t (run_rear r v s)
    unfolding R run_rear rear_all rear_scratch save restore single
    R_runs (output o) d s t v b j h p = output_runs o d s t v b j p
    R_runs (rear_and f r) d s t v b j h p =
        let bb = and_yes (front_below vars f) (rear_below vars r) b in
        let jj = and_yes (front_all (λ i. true) f) (rear_leads ls r) j in
        let x = join_runs joins_and d s t v f (F vars f (d + 1)) bb.0 (omega arith) p (λ k u q. F_runs f (d + 1) s u v bb.0 k q) in
        seq_ran x (R_runs r d _ _ _ bb.1 jj.1 (omega arith) x.alike)
    R_runs (rear_or a c) d s t v b j h p =
        let bb = and_yes (rear_below vars a) (rear_below vars c) b in
        let jj = and_yes (rear_leads ls a) (rear_leads ls c) j in
        let x = save d s t v (omega arith) p in
        seq_ran x (or_ran (λ u. run_rear c v u) (R_runs a (d + 1) s x.state v bb.0 jj.0 (omega arith) x.alike) (λ q u y.
        let e = value_kept vars d x.state y.state y.keeps ∙ value_written p d v (omega arith) in
        seq_ran (restore d u y.state q v y.alike e) (R_runs c d u y.state v bb.1 jj.1 (omega arith) y.alike)))

  F_long : (f : Front) (d : ℕ) → 1 ≤ length (F vars f d)
  unfolding F
  F_long (input (contact x)) d = omega arith
  F_long (input (contactn x)) d = omega arith
  F_long (front_and f g) d = let h = F_long f d in rw length-append (omega arith)
  F_long (front_or f g) d = let h = F_long f d in rw length-append (omega arith)

  R_long : (start : ℕ → ℕ) (r : Rear) (d : ℕ) → 1 ≤ length (R vars start r d)
  unfolding R
  R_long start (output o) d = omega arith
  R_long start (rear_and f r) d = let h = R_long start r d in rw length-append (omega arith)
  R_long start (rear_or a b) d = omega arith

  R_length : (start start' : ℕ → ℕ) (r : Rear) (d : ℕ) → length (R vars start r d) ≡ length (R vars start' r d)
  unfolding R
  R_length start start' (output o) d = refl
  R_length start start' (rear_and f r) d = simp (length-append, R_length start start' r d)
  R_length start start' (rear_or a b) d = simp (length-append, R_length start start' a (d + 1), R_length start start' b d)

  -- a rung has two instructions or more
  pub rung_long : (start : ℕ → ℕ) (g : Rung) → 2 ≤ length (rung_code vars start g)
  unfolding rung_code
  rung_long start g = let hf = F_long g.front 0 in let hr = R_long start g.rear 0 in rw length-append (omega arith)

  -- no rung's length depends on where jumps lead
  pub same_length : (start start' : ℕ → ℕ) (g : Rung) → length (rung_code vars start g) ≡ length (rung_code vars start' g)
  unfolding rung_code
  same_length start start' g = simp (length-append, R_length start start' g.rear 0)

  module _ (code : Rung → List Instr) (gs : Ladder) (ls : List ℕ) (start : ℕ → ℕ) (leads : (l : ℕ) → T (present l ls) → start l ≡ first code gs l) where
    whole : {a b : List Instr} {v p : Bool} {t s : State} {r : Run} (pc : ℕ) → 1 ≤ length a → 1 ≤ length b → (x : Straight vars 0 a v t p s) → Ran vars ls start 0 b p x.state r
        → RungDid (Alike vars) 2 code gs pc (a ++ b) v t r
    unfolding exec more seq behind landing follow_index left
    whole {a} {b} pc la lb x (fell {p = q} y) =
        let z = seq x y in
        record {
          out = record { count = length (a ++ b); accumulator = q; run = onward z.state };
          runs = rw (append-nil, add-zero) at (z.runs []);
          alike = z.alike;
          low = rw (length-append a b) (omega arith);
          high = omega arith;
          lands = refl;
        }
    whole {a} {b} pc la lb x (went {l} h y) =
        let z = behind x y in
        let ly = y.low in
        record {
          out = record { count = z.count; accumulator = z.accumulator; run = jumped (start l) z.state };
          runs = rw append-nil at (z.runs []);
          alike = z.alike;
          low = omega arith;
          high = z.high;
          lands = leads l h;
        }

    pub rung_did : (pc : ℕ) (g : Rung) (s t : State) (v : Bool) → T (rung_below vars g) → T (rung_leads ls g) → rung_scratch g ≤ scratch_bytes → Alike vars s t
        → RungDid (Alike vars) 2 code gs pc (rung_code vars start g) v t (run_rung g s)
    unfolding rung_code run_rung rung_all rung_scratch
    rung_did pc g s t v b j h p =
        let bb = and_yes (front_below vars g.front) (rear_below vars g.rear) b in
        let jj = and_yes (front_all (λ i. true) g.front) (rear_leads ls g.rear) j in
        let x = F_runs g.front 0 s t v bb.0 (omega arith) p in
        whole pc (F_long g.front 0) (R_long start g.rear 0) x (R_runs ls start g.rear 0 _ _ _ bb.1 jj.1 (omega arith) x.alike)
