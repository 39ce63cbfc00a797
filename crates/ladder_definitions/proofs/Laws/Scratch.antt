-- A ladder neither reads nor writes scratch; what a joined front takes of it. Assumes nothing.
use Prim.Native.Nat.{ℕ, zero, suc, ◌+◌, ◌≤◌}
use Rattle.std.proofs.Common.{arith, ltb→lt, take-append-drop}
use Rattle.std.specs.Prelude.{◌≡◌, refl, Bool, ◌&&◌, T, take, drop}
use Rattle.std.proofs.Math.Path.{sym, ap}
use Rattle.std.proofs.Math.Bool.{true, false, not}
use mathlib.Core.List.{[], ◌∷◌}
use Rattle.std.proofs.Math.Facts.{and_yes}
use Rattle.questions.specs.Tests.{all}
use Rattle.questions.proofs.Laws.Tests.{all_head, all_tail, all_second}
use Rattle.table.specs.State.{State}
use Rattle.table.specs.Questions.{timer_below}
use Rattle.table.proofs.Laws.Timers.{same_below}
use Rattle.table.proofs.Laws.Alike.{Alike, value_alike, write_both, write_if_both, timer_both, ScratchStays, scratch_self, scratch_both, scratch_written, scratch_if, scratch_timer}
use Rattle.rungs.specs.Records.{search}
use Rattle.ladder_definitions.specs.Tree.{contact, contactn, Front, input, front_and, front_or, Output, coil, coiln, jump, jumpn, set_coil, reset_coil, timer, Rear, output, rear_and, rear_or, Rung, Ladder, labels, front_all, rear_all, rung_all, input_variable, output_names}
use Rattle.ladder_definitions.specs.Meaning.{Worked, work_input, work_front, Run, onward, jumped, left, jump_if, unless_jumped, run_output, run_rear, run_rung, from, follow, LadderResult, scan_from, scan_ladder}
use Rattle.ladder_definitions.specs.Questions.{input_below, named_below, output_below, rung_below, join_scratch}

-- rungs that follow are of the ladder
pub all_follow : (test : Rung → Bool) (gs rest : Ladder) (x : Run) → T (all test gs) → T (all test rest) → T (all test (follow gs rest x))
unfolding follow from
all_follow test gs rest (onward s) h k = k
all_follow test gs rest (jumped l s) h k =
    let n = search l (labels gs) in
    all_second test (take n gs) (drop n gs) (rw (take-append-drop n gs) h)

data RunsAlike (vars : ℕ) : Run → Run → Type 0 where
  onwards : {s t : State} → Alike vars s t → RunsAlike vars (onward s) (onward t)
  jumps : {l : ℕ} {s t : State} → Alike vars s t → RunsAlike vars (jumped l s) (jumped l t)

record WorkedAlike (vars : ℕ) (x y : Worked) : Type 0 where
  power : x.power ≡ y.power
  state : Alike vars x.state y.state

module _ (vars : ℕ) where
  abbrev front_below : Front → Bool
  front_below = front_all (input_below vars)

  abbrev rear_below : Rear → Bool
  rear_below = rear_all (input_below vars) (output_below vars)

  front_alike : (f : Front) (s t : State) → T (front_below f) → Alike vars s t → WorkedAlike vars (work_front f s) (work_front f t)
  unfolding work_front work_input front_all input_below input_variable
  front_alike (input (contact v)) s t b p = record { power = sym (value_alike p v (ltb→lt v vars b)); state = p }
  front_alike (input (contactn v)) s t b p = record { power = ap not (sym (value_alike p v (ltb→lt v vars b))); state = p }
  front_alike (front_and f g) s t b p =
      let bb = and_yes (front_below f) (front_below g) b in
      let x = front_alike f s t bb.0 p in
      let y = front_alike g (work_front f s).state (work_front f t).state bb.1 x.state in
      record { power = rw (x.power, y.power) refl; state = y.state }
  front_alike (front_or f g) s t b p =
      let bb = and_yes (front_below f) (front_below g) b in
      let x = front_alike f s t bb.0 p in
      let y = front_alike g (work_front f s).state (work_front f t).state bb.1 x.state in
      record { power = rw (x.power, y.power) refl; state = y.state }

  jump_alike : (b : Bool) (l : ℕ) (s t : State) → Alike vars s t → RunsAlike vars (jump_if b l s) (jump_if b l t)
  unfolding jump_if
  jump_alike true l s t p = jumps p
  jump_alike false l s t p = onwards p

  output_alike : (o : Output) (q : Bool) (s t : State) → T (output_below vars o) → Alike vars s t → RunsAlike vars (run_output o q s) (run_output o q t)
  unfolding run_output output_below named_below output_names
  output_alike (coil v) q s t b p = onwards (write_both p v q (ltb→lt v vars b))
  output_alike (coiln v) q s t b p = onwards (write_both p v (not q) (ltb→lt v vars b))
  output_alike (jump l) q s t b p = jump_alike q l s t p
  output_alike (jumpn l) q s t b p = jump_alike (not q) l s t p
  output_alike (set_coil v) q s t b p = onwards (write_if_both p q v true (ltb→lt v vars b))
  output_alike (reset_coil v) q s t b p = onwards (write_if_both p q v false (ltb→lt v vars b))
  output_alike (timer n) q s t b p = onwards (timer_both p n q)

  unless_alike : (x y : Run) (next : State → Run) → RunsAlike vars x y → ((s t : State) → Alike vars s t → RunsAlike vars (next s) (next t)) → RunsAlike vars (unless_jumped x next) (unless_jumped y next)
  unfolding unless_jumped
  unless_alike (onward s) (onward t) next (onwards p) h = h s t p
  unless_alike (jumped l s) (jumped m t) next (jumps p) h = jumps p
  unless_alike (onward s) (jumped m t) next x h = elim x [ ]
  unless_alike (jumped l s) (onward t) next x h = elim x [ ]

  rear_alike : (r : Rear) (q : Bool) (s t : State) → T (rear_below r) → Alike vars s t → RunsAlike vars (run_rear r q s) (run_rear r q t)
  unfolding run_rear rear_all
  rear_alike (output o) q s t b p = output_alike o q s t b p
  rear_alike (rear_and f r) q s t b p =
      let bb = and_yes (front_below f) (rear_below r) b in
      let x = front_alike f s t bb.0 p in
      rw x.power (rear_alike r (q && (work_front f t).power) (work_front f s).state (work_front f t).state bb.1 x.state)
  rear_alike (rear_or a c) q s t b p =
      let bb = and_yes (rear_below a) (rear_below c) b in
      unless_alike (run_rear a q s) (run_rear a q t) (λ u. run_rear c q u) (rear_alike a q s t bb.0 p) (λ u v. rear_alike c q u v bb.1)

  rung_alike : (g : Rung) (s t : State) → T (rung_below vars g) → Alike vars s t → RunsAlike vars (run_rung g s) (run_rung g t)
  unfolding run_rung rung_all
  rung_alike g s t b p =
      let bb = and_yes (front_below g.front) (rear_below g.rear) b in
      let x = front_alike g.front s t bb.0 p in
      rw x.power (rear_alike g.rear (work_front g.front t).power (work_front g.front s).state (work_front g.front t).state bb.1 x.state)

  pub record ScansAlike (x y : LadderResult) : Type 0 where
    pub halt : x.halt ≡ y.halt
    pub rungs : x.rungs ≡ y.rungs
    pub state : Alike vars x.state y.state

  follow_alike : (gs rest : Ladder) (x y : Run) → RunsAlike vars x y → (follow gs rest x ≡ follow gs rest y) × Alike vars (left x) (left y)
  unfolding follow left
  follow_alike gs rest (onward s) (onward t) (onwards p) = (refl, p)
  follow_alike gs rest (jumped l s) (jumped m t) (jumps p) = (refl, p)
  follow_alike gs rest (onward s) (jumped m t) x = elim x [ ]
  follow_alike gs rest (jumped l s) (onward t) x = elim x [ ]

  scan_from_alike : (gs : Ladder) (n k : ℕ) (rest : Ladder) (s t : State) → T (all (rung_below vars) gs) → T (all (rung_below vars) rest) → Alike vars s t
      → ScansAlike (scan_from gs n k rest s) (scan_from gs n k rest t)
  unfolding scan_from
  scan_from_alike gs zero k [] s t b c p = record { halt = refl; rungs = refl; state = p }
  scan_from_alike gs zero k (g ∷ rest) s t b c p = record { halt = refl; rungs = refl; state = p }
  scan_from_alike gs (suc n) k [] s t b c p = record { halt = refl; rungs = refl; state = p }
  scan_from_alike gs (suc n) k (g ∷ rest) s t b c p =
      let x = follow_alike gs rest (run_rung g s) (run_rung g t) (rung_alike g s t (all_head (rung_below vars) g rest c) p) in
      rw x.0 (scan_from_alike gs n (k + 1) (follow gs rest (run_rung g t)) (left (run_rung g s)) (left (run_rung g t)) b
      (all_follow (rung_below vars) gs rest (run_rung g t) b (all_tail (rung_below vars) g rest c)) x.1)

  pub scan_alike : (gs : Ladder) (n : ℕ) (s t : State) → T (all (rung_below vars) gs) → Alike vars s t → ScansAlike (scan_ladder gs n s) (scan_ladder gs n t)
  unfolding scan_ladder
  scan_alike gs n s t b p = scan_from_alike gs n 0 gs s t b b p

-- ---- scratch stays

front_stays : (f : Front) (s : State) → ScratchStays s (work_front f s).state
unfolding work_front work_input
front_stays (input (contact v)) s = scratch_self s
front_stays (input (contactn v)) s = scratch_self s
front_stays (front_and f g) s = scratch_both (front_stays f s) (front_stays g (work_front f s).state)
front_stays (front_or f g) s = scratch_both (front_stays f s) (front_stays g (work_front f s).state)

jump_stays : (b : Bool) (l : ℕ) (s : State) → ScratchStays s (left (jump_if b l s))
unfolding jump_if left
jump_stays true l s = scratch_self s
jump_stays false l s = scratch_self s

-- the variables of a state's timers are below V
abbrev Timed : State → Type 0
Timed s = T (all (timer_below s.vars) s.timers)

still_timed : {s u : State} → ScratchStays s u → Timed s → Timed u
still_timed {s} {u} h t = rw (same_below u.vars u.timers s.timers h.same_timed, h.same_vars) t

output_stays : (o : Output) (p : Bool) (s : State) → T (output_below s.vars o) → Timed s → ScratchStays s (left (run_output o p s))
unfolding run_output output_below named_below output_names left
output_stays (coil v) p s b t = scratch_written s v p (ltb→lt v s.vars b)
output_stays (coiln v) p s b t = scratch_written s v (not p) (ltb→lt v s.vars b)
output_stays (jump l) p s b t = jump_stays p l s
output_stays (jumpn l) p s b t = jump_stays (not p) l s
output_stays (set_coil v) p s b t = scratch_if s v p true (ltb→lt v s.vars b)
output_stays (reset_coil v) p s b t = scratch_if s v p false (ltb→lt v s.vars b)
output_stays (timer n) p s b t = scratch_timer s n p t

unless_stays : (s : State) (x : Run) (next : State → Run) → ScratchStays s (left x) → ((u : State) → ScratchStays s u → ScratchStays u (left (next u))) → ScratchStays s (left (unless_jumped x next))
unfolding unless_jumped left
unless_stays s (onward u) next h k = scratch_both h (k u h)
unless_stays s (jumped l u) next h k = h

rear_stays : (r : Rear) (p : Bool) (s : State) → T (rear_below s.vars r) → Timed s → ScratchStays s (left (run_rear r p s))
unfolding run_rear rear_all
rear_stays (output o) p s b t = output_stays o p s b t
rear_stays (rear_and f r) p s b t =
    let h = front_stays f s in
    scratch_both h (rear_stays r (p && (work_front f s).power) (work_front f s).state (rw h.same_vars (and_yes (front_below s.vars f) (rear_below s.vars r) b).1) (still_timed h t))
rear_stays (rear_or a c) p s b t =
    let bb = and_yes (rear_below s.vars a) (rear_below s.vars c) b in
    unless_stays s (run_rear a p s) (λ u. run_rear c p u) (rear_stays a p s bb.0 t) (λ u h. rear_stays c p u (rw h.same_vars bb.1) (still_timed h t))

rung_stays : (g : Rung) (s : State) → T (rung_below s.vars g) → Timed s → ScratchStays s (left (run_rung g s))
unfolding run_rung rung_all
rung_stays g s b t =
    let h = front_stays g.front s in
    scratch_both h (rear_stays g.rear (work_front g.front s).power (work_front g.front s).state
    (rw h.same_vars (and_yes (front_below s.vars g.front) (rear_below s.vars g.rear) b).1) (still_timed h t))

scan_from_stays : (gs : Ladder) (n k : ℕ) (rest : Ladder) (s : State) → T (all (rung_below s.vars) gs) → T (all (rung_below s.vars) rest) → Timed s
    → ScratchStays s (scan_from gs n k rest s).state
unfolding scan_from
scan_from_stays gs zero k [] s b c t = scratch_self s
scan_from_stays gs zero k (g ∷ rest) s b c t = scratch_self s
scan_from_stays gs (suc n) k [] s b c t = scratch_self s
scan_from_stays gs (suc n) k (g ∷ rest) s b c t =
    let x = run_rung g s in
    let h = rung_stays g s (all_head (rung_below s.vars) g rest c) t in
    scratch_both h (scan_from_stays gs n (k + 1) (follow gs rest x) (left x) (rw h.same_vars b)
    (rw h.same_vars (all_follow (rung_below s.vars) gs rest x b (all_tail (rung_below s.vars) g rest c))) (still_timed h t))

pub scan_stays : (gs : Ladder) (n : ℕ) (s : State) → T (all (rung_below s.vars) gs) → T (all (timer_below s.vars) s.timers)
    → ScratchStays s (scan_ladder gs n s).state
unfolding scan_ladder
scan_stays gs n s b t = scan_from_stays gs n 0 gs s b b t

-- ---- a front joined takes at most one scratch byte more

pub join_few : (f : Front) (n : ℕ) → join_scratch f n ≤ n + 1
unfolding join_scratch
join_few (input (contact v)) n = omega arith
join_few (input (contactn v)) n = omega arith
join_few (front_and f g) n = omega arith
join_few (front_or f g) n = omega arith
