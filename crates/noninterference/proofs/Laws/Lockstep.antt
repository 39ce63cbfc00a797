-- Two scans over tables that agree on every variable seen by a contact, with equal timer records and one tick, go in lockstep: they make the same writes and take
-- the same jumps. Assumes nothing.
use Prim.Native.Nat.{ℕ, zero, suc, ◌+◌}
use Rattle.std.specs.Prelude.{◌≡◌, Bool, ◌&&◌, T, length}
use Rattle.std.proofs.Math.Path.{refl, sym, ap}
use Rattle.std.proofs.Common.{◌∙◌}
use Rattle.std.proofs.Math.Bool.{true, false, not}
use Rattle.std.proofs.Math.Option.{Option, none, some}
use mathlib.Core.List.{List, [], ◌∷◌, ◌++◌}
use Rattle.std.proofs.Math.ListN.{get_elem?, set, length-set}
use Rattle.questions.specs.Tests.{all, bit, truth}
use Rattle.questions.proofs.Laws.Tests.{all_head, all_tail, all_first, all_second}
use Rattle.table.specs.Timer.{Timer, powered}
use Rattle.table.specs.State.{State, value, value_at, written_at, write, write_if, set_timer, run_timer}
use Rattle.table.specs.Writes.{Write, timer_writes}
use Rattle.table.proofs.Laws.Alike.{set_same}
use Rattle.table.proofs.Laws.Timers.{timer_none, timer_some}
use Rattle.ladder_definitions.specs.Tree.{Input, contact, contactn, Front, input, front_and, front_or, Output, coil, coiln, jump, jumpn, set_coil, reset_coil, timer, Rear, output, rear_and, rear_or, Rung, Ladder, input_variable}
use Rattle.ladder_definitions.specs.Meaning.{Worked, work_input, work_front, Run, onward, jumped, left, jump_if, run_output, unless_jumped, run_rear, run_rung, follow, LadderResult, scan_from, scan_ladder}
use Rattle.ladder_definitions.specs.Writes.{output_writes, unless_jumped_writes, rear_writes, rung_writes, writes_from, ladder_writes}
use Rattle.ladder_definitions.proofs.Laws.Scratch.{all_follow}
use Rattle.noninterference.specs.Contacts.{front_contacts, rear_contacts, rung_contacts}
use Rattle.noninterference.proofs.Laws.Contacts.{contacts_pass}

module _ (seen : ℕ → Bool) where
  -- tables of one length that agree on the variables seen; equal timer records, and one tick
  pub record Agree (s t : State) : Type 0 where
    pub same_room : length s.bytes ≡ length t.bytes
    pub same_seen : (v : ℕ) → T (seen v) → value s v ≡ value t v
    pub same_timers : s.timers ≡ t.timers
    pub same_now : s.now ≡ t.now

  write_agree : (s t : State) (v : ℕ) (b : Bool) → Agree s t → Agree (write s v b) (write t v b)
  unfolding value value_at write written_at
  write_agree s t v b p = record {
    same_room = length-set s.bytes v (bit b) ∙ p.same_room ∙ sym (length-set t.bytes v (bit b));
    same_seen = λ i h. set_same truth s.bytes t.bytes v (bit b) p.same_room i (p.same_seen i h);
    same_timers = p.same_timers;
    same_now = p.same_now;
  }

  write_if_agree : (q : Bool) (s t : State) (v : ℕ) (b : Bool) → Agree s t → Agree (write_if q s v b) (write_if q t v b)
  unfolding write_if
  write_if_agree true s t v b p = write_agree s t v b p
  write_if_agree false s t v b p = p

  set_agree : (s t : State) (n : ℕ) (r : Timer) → Agree s t → Agree (set_timer s n r) (set_timer t n r)
  unfolding value value_at set_timer
  set_agree s t n r p =
      record { same_room = p.same_room; same_seen = p.same_seen; same_timers = ap (λ l. set l n r) p.same_timers; same_now = p.same_now }

  timer_agree : (s t : State) (n : ℕ) (q : Bool) → Agree s t → Agree (run_timer s n q) (run_timer t n q)
  timer_agree s t n q p = go (get_elem? t.timers n) refl
    where
      go : (x : Option Timer) → get_elem? t.timers n ≡ x → Agree (run_timer s n q) (run_timer t n q)
      go none e = rw (timer_none s n q (rw p.same_timers e), timer_none t n q e) p
      go (some x) e =
          let u = powered t.now q x in
          rw (timer_some s n q x t.now (rw p.same_timers e) p.same_now, timer_some t n q x t.now e refl)
          (write_agree (set_timer s n u) (set_timer t n u) x.variable (truth u.done) (set_agree s t n u p))

  -- ---- fronts

  record WorkedAgree (x y : Worked) : Type 0 where
    power : x.power ≡ y.power
    state : Agree x.state y.state

  input_agree : (i : Input) (s t : State) → T (seen (input_variable i)) → Agree s t → WorkedAgree (work_input i s) (work_input i t)
  unfolding work_input input_variable
  input_agree (contact v) s t h p = record { power = p.same_seen v h; state = p }
  input_agree (contactn v) s t h p = record { power = ap not (p.same_seen v h); state = p }

  front_agree : (f : Front) (s t : State) → T (all seen (front_contacts f)) → Agree s t → WorkedAgree (work_front f s) (work_front f t)
  unfolding work_front front_contacts
  front_agree (input i) s t h p = input_agree i s t (all_head seen (input_variable i) [] h) p
  front_agree (front_and f g) s t h p =
      let x = front_agree f s t (all_first seen (front_contacts f) (front_contacts g) h) p in
      let y = front_agree g (work_front f s).state (work_front f t).state (all_second seen (front_contacts f) (front_contacts g) h) x.state in
      record { power = rw (x.power, y.power) refl; state = y.state }
  front_agree (front_or f g) s t h p =
      let x = front_agree f s t (all_first seen (front_contacts f) (front_contacts g) h) p in
      let y = front_agree g (work_front f s).state (work_front f t).state (all_second seen (front_contacts f) (front_contacts g) h) x.state in
      record { power = rw (x.power, y.power) refl; state = y.state }

  -- ---- rears: two runs, and what each wrote

  data RunsAgree : Run → Run → Type 0 where
    onwards : {s t : State} → Agree s t → RunsAgree (onward s) (onward t)
    jumps : {l : ℕ} {s t : State} → Agree s t → RunsAgree (jumped l s) (jumped l t)

  record Lockstep (x y : Run) (a b : List Write) : Type 0 where
    runs : RunsAgree x y
    writes : a ≡ b

  jump_agree : (b : Bool) (l : ℕ) (s t : State) → Agree s t → RunsAgree (jump_if b l s) (jump_if b l t)
  unfolding jump_if
  jump_agree true l s t p = jumps p
  jump_agree false l s t p = onwards p

  output_agree : (o : Output) (q : Bool) (s t : State) → Agree s t → Lockstep (run_output o q s) (run_output o q t) (output_writes o q s) (output_writes o q t)
  unfolding run_output output_writes timer_writes
  output_agree (coil v) q s t p = record { runs = onwards (write_agree s t v q p); writes = refl }
  output_agree (coiln v) q s t p = record { runs = onwards (write_agree s t v (not q) p); writes = refl }
  output_agree (jump l) q s t p = record { runs = jump_agree q l s t p; writes = refl }
  output_agree (jumpn l) q s t p = record { runs = jump_agree (not q) l s t p; writes = refl }
  output_agree (set_coil v) q s t p = record { runs = onwards (write_if_agree q s t v true p); writes = refl }
  output_agree (reset_coil v) q s t p = record { runs = onwards (write_if_agree q s t v false p); writes = refl }
  output_agree (timer n) q s t p = record { runs = onwards (timer_agree s t n q p); writes = rw (p.same_timers, p.same_now) refl }

  unless_agree : (x y : Run) (a b : List Write) (next : State → Run) (more : State → List Write) → RunsAgree x y → a ≡ b
      → ((s t : State) → Agree s t → Lockstep (next s) (next t) (more s) (more t))
      → Lockstep (unless_jumped x next) (unless_jumped y next) (a ++ unless_jumped_writes x more) (b ++ unless_jumped_writes y more)
  unfolding unless_jumped unless_jumped_writes
  unless_agree (onward s) (onward t) a b next more (onwards p) e h = let z = h s t p in record { runs = z.runs; writes = rw (e, z.writes) refl }
  unless_agree (jumped l s) (jumped m t) a b next more (jumps p) e h = record { runs = jumps p; writes = rw e refl }
  unless_agree (onward s) (jumped m t) a b next more x e h = elim x [ ]
  unless_agree (jumped l s) (onward t) a b next more x e h = elim x [ ]

  rear_agree : (r : Rear) (q : Bool) (s t : State) → T (all seen (rear_contacts r)) → Agree s t
      → Lockstep (run_rear r q s) (run_rear r q t) (rear_writes r q s) (rear_writes r q t)
  unfolding run_rear rear_writes rear_contacts
  rear_agree (output o) q s t h p = output_agree o q s t p
  rear_agree (rear_and f r) q s t h p =
      let x = front_agree f s t (all_first seen (front_contacts f) (rear_contacts r) h) p in
      rw x.power (rear_agree r (q && (work_front f t).power) (work_front f s).state (work_front f t).state (all_second seen (front_contacts f) (rear_contacts r) h) x.state)
  rear_agree (rear_or a b) q s t h p =
      let x = rear_agree a q s t (all_first seen (rear_contacts a) (rear_contacts b) h) p in
      unless_agree (run_rear a q s) (run_rear a q t) (rear_writes a q s) (rear_writes a q t) (λ u. run_rear b q u) (λ u. rear_writes b q u) x.runs x.writes
      (λ u w k. rear_agree b q u w (all_second seen (rear_contacts a) (rear_contacts b) h) k)

  rung_agree : (g : Rung) (s t : State) → T (contacts_pass seen g) → Agree s t → Lockstep (run_rung g s) (run_rung g t) (rung_writes g s) (rung_writes g t)
  unfolding run_rung rung_writes rung_contacts
  rung_agree g s t h p =
      let x = front_agree g.front s t (all_first seen (front_contacts g.front) (rear_contacts g.rear) h) p in
      rw x.power (rear_agree g.rear (work_front g.front t).power (work_front g.front s).state (work_front g.front t).state
      (all_second seen (front_contacts g.front) (rear_contacts g.rear) h) x.state)

  -- ---- scans

  pub record ScansAgree (x y : LadderResult) (a b : List Write) : Type 0 where
    pub halt : x.halt ≡ y.halt
    pub rungs : x.rungs ≡ y.rungs
    pub state : Agree x.state y.state
    pub writes : a ≡ b

  follow_agree : (gs rest : Ladder) (x y : Run) → RunsAgree x y → (follow gs rest x ≡ follow gs rest y) × Agree (left x) (left y)
  unfolding follow left
  follow_agree gs rest (onward s) (onward t) (onwards p) = (refl, p)
  follow_agree gs rest (jumped l s) (jumped m t) (jumps p) = (refl, p)
  follow_agree gs rest (onward s) (jumped m t) x = elim x [ ]
  follow_agree gs rest (jumped l s) (onward t) x = elim x [ ]

  from_agree : (gs : Ladder) (n k : ℕ) (rest : Ladder) (s t : State) → T (all (contacts_pass seen) gs) → T (all (contacts_pass seen) rest) → Agree s t
      → ScansAgree (scan_from gs n k rest s) (scan_from gs n k rest t) (writes_from gs n rest s) (writes_from gs n rest t)
  unfolding scan_from writes_from
  from_agree gs zero k [] s t b c p = record { halt = refl; rungs = refl; state = p; writes = refl }
  from_agree gs zero k (g ∷ rest) s t b c p = record { halt = refl; rungs = refl; state = p; writes = refl }
  from_agree gs (suc n) k [] s t b c p = record { halt = refl; rungs = refl; state = p; writes = refl }
  from_agree gs (suc n) k (g ∷ rest) s t b c p =
      let y = rung_agree g s t (all_head (contacts_pass seen) g rest c) p in
      let x = follow_agree gs rest (run_rung g s) (run_rung g t) y.runs in
      let z = from_agree gs n (k + 1) (follow gs rest (run_rung g t)) (left (run_rung g s)) (left (run_rung g t)) b
      (all_follow (contacts_pass seen) gs rest (run_rung g t) b (all_tail (contacts_pass seen) g rest c)) x.1 in
      rw x.0 (record { halt = z.halt; rungs = z.rungs; state = z.state; writes = rw (y.writes, z.writes) refl })

  pub scan_agree : (gs : Ladder) (n : ℕ) (s t : State) → T (all (contacts_pass seen) gs) → Agree s t
      → ScansAgree (scan_ladder gs n s) (scan_ladder gs n t) (ladder_writes gs n s) (ladder_writes gs n t)
  unfolding scan_ladder ladder_writes
  scan_agree gs n s t b p = from_agree gs n 0 gs s t b b p
