-- Laws of one word of a walk: what working and running a tree gives, from what working and running its parts gives. Assumes nothing.
use Prim.Native.Nat.{ℕ, ◌+◌, ◌-◌, ◌≤◌, ◌<◌}
use native.Mathlib.Omega.{arith}
use mathlib.Core.Path.{◌≡◌, refl, sym, ap, subst, ◌∙◌}
use mathlib.Core.Bool.{Bool, true, false, not, ◌&&◌}
use mathlib.Core.List.{List}
use lib.ListN.{length, length-append, get_or}
use Rattle.table.specs.State.{State, with_bytes, value_at, value, write, write_if, run_timer}
use Rattle.table.specs.Parts.{Changed}
use Rattle.table.specs.declared.State.{State as StateStruct}
use Rattle.table.proofs.Laws.Moved.{write_few, write_if_few}
use Rattle.timers.proofs.Laws.Kept.{timer_few}
use Rattle.rungs.specs.Words.{number_of, operand_of}
use Rattle.ladder_definitions.specs.Tree.{Input, contact, contactn, input, Output, coil, coiln, jump, jumpn, set_coil, reset_coil, timer, Rear, input_variable, output_names, number}
use Rattle.ladder_definitions.specs.Meaning.{work_input, work_front, onward, jumped, jump_if, run_output, unless_jumped, run_rear, run_rung}
use Rattle.ladder_definitions.specs.Kept.{input_kind, output_kind, joined_sort, output_sort, rear_and_sort, rear_or_sort, no_sort, kind_sorts, kind_sort, front_words, rear_words, rung_words}
use Rattle.ladder_walk.specs.Walking.{FrontDone, FrontWorked, Root, PartsJoined, run_of, RunDone, OutputRun, RearRun, RungRun, SameLent}
use Rattle.ladder_walk.specs.declared.Worked.{Worked}
use Rattle.ladder_walk.specs.declared.Ran.{Ran}
use Rattle.ladder_walk.specs.declared.Ran.TheVariants.{Onward, Jumped}
use Rattle.ladder_definitions.proofs.Laws.Trees.{same_output, starts_rear, front_cases, inside_sort, that_input, parts_only, output_only, rear_and_only, rear_or_only, no_rear_lem, rung_only}

module _ (ws : List ℕ) (at w : ℕ) (t : List ℕ) (e : w ≡ get_or ws at 0) where
  pub worked_contact : number_of w ≡ input_kind (contact (operand_of w)) → (b : Bool) → b ≡ value_at t (operand_of w) → FrontWorked ws at t (record { value = b; next = at + 1 }) t
  unfolding input_variable work_front work_input value front_words
  worked_contact k b q = record {
    onward = omega arith;
    done = that_input ws at w e (FrontDone at t (record { value = b; next = at + 1 }) t) (contact (operand_of w)) k refl (record { same = λ s. rw q refl; next = refl });
  }

  pub worked_contactn : number_of w ≡ input_kind (contactn (operand_of w)) → (b : Bool) → b ≡ value_at t (operand_of w) → FrontWorked ws at t (record { value = not b; next = at + 1 }) t
  unfolding input_variable work_front work_input value front_words
  worked_contactn k b q = record {
    onward = omega arith;
    done = that_input ws at w e (FrontDone at t (record { value = not b; next = at + 1 }) t) (contactn (operand_of w)) k refl (record { same = λ s. rw q refl; next = refl });
  }

  -- the second part starts from the bytes that the first left
  pub worked_joined : (first : Worked) (u : List ℕ) (second : Worked) (v : List ℕ) → FrontWorked ws (at + 1) t first u → FrontWorked ws first.next u second v
      → (r : Bool) → PartsJoined (number_of w) first.value second.value r → kind_sort (number_of w) ≡ joined_sort
      → FrontWorked ws at t (record { value = r; next = second.next }) v
  unfolding work_front front_words
  worked_joined first u second v a b r j k = record {
    onward = omega arith;
    done = parts_only ws at w e (FrontDone at t (record { value = r; next = second.next }) v) (λ z. let n : ◌≡◌ {A = ℕ} 0 1 = cc in omega arith)
        (λ f g z sf sg.
        let x = a.done f sf in
        let y = b.done g (rw (← x.next) at sg) in
        record { same = λ s. rw (x.same s, y.same s, j.both f g z); next = simp length-append (omega arith) })
        (λ f g z sf sg.
        let x = a.done f sf in
        let y = b.done g (rw (← x.next) at sg) in
        record { same = λ s. rw (x.same s, y.same s, j.either f g z); next = simp length-append (omega arith) });
  }

  -- neither a contact nor a root
  pub no_contact_lem : (Root ws at → ⊥) → ((v : ℕ) → number_of w ≡ input_kind (contact v) → ⊥) → ((v : ℕ) → number_of w ≡ input_kind (contactn v) → ⊥)
      → FrontWorked ws at t (record { value = false; next = at }) t
  unfolding kind_sort kind_sorts
  no_contact_lem n k l = record {
    onward = omega arith;
    done = front_cases ws at w e (FrontDone at t (record { value = false; next = at }) t) inputs
        (λ f g z sf sg. absurd (n (rw (← e, z) refl))) (λ f g z sf sg. absurd (n (rw (← e, z) refl)));
  }
    where
      inputs : (i : Input) → number_of w ≡ input_kind i → operand_of w ≡ input_variable i → FrontDone at t (record { value = false; next = at }) t (input i)
      inputs (contact v) z o = absurd (k v z)
      inputs (contactn v) z o = absurd (l v z)

-- ---- outputs

-- a kind without a sort is no contact's and no output's
pub no_input_sort : (kind : ℕ) → kind_sort kind ≡ no_sort → (i : Input) → kind ≡ input_kind i → ⊥
unfolding kind_sort kind_sorts input_kind
no_input_sort kind k (contact v) e = let q = rw e at k in let z : ◌≡◌ {A = ℕ} 0 1 = cc in omega arith
no_input_sort kind k (contactn v) e = let q = rw e at k in let z : ◌≡◌ {A = ℕ} 0 1 = cc in omega arith

pub no_output_sort : (kind : ℕ) → kind_sort kind ≡ no_sort → (o : Output) → kind ≡ output_kind o → ⊥
unfolding kind_sort kind_sorts output_kind
no_output_sort kind k (coil v) e = let q = rw e at k in let z : ◌≡◌ {A = ℕ} 0 1 = cc in omega arith
no_output_sort kind k (coiln v) e = let q = rw e at k in let z : ◌≡◌ {A = ℕ} 0 1 = cc in omega arith
no_output_sort kind k (jump l) e = let q = rw e at k in let z : ◌≡◌ {A = ℕ} 0 1 = cc in omega arith
no_output_sort kind k (jumpn l) e = let q = rw e at k in let z : ◌≡◌ {A = ℕ} 0 1 = cc in omega arith
no_output_sort kind k (set_coil v) e = let q = rw e at k in let z : ◌≡◌ {A = ℕ} 0 1 = cc in omega arith
no_output_sort kind k (reset_coil v) e = let q = rw e at k in let z : ◌≡◌ {A = ℕ} 0 1 = cc in omega arith
no_output_sort kind k (timer n) e = let q = rw e at k in let z : ◌≡◌ {A = ℕ} 0 1 = cc in omega arith

same_end : (x y : ℕ) → Onward x ≡ Onward y → x ≡ y
same_end x y e = cc

no_end : {A : Type 0} (l e : ℕ) → Jumped l ≡ Onward e → A
no_end l e q = let z : ◌≡◌ {A = ℕ} 0 1 = cc in absurd (omega arith)

module _ (w next : ℕ) (p : Bool) (s : State) where
  -- the output that the word tells
  module _ (o : Output) (k : number_of w ≡ output_kind o) (v : operand_of w ≡ number (output_names o)) where
    ran_that : (r : Ran) (u : State) → ((e : ℕ) → r ≡ Onward e → e ≡ next) → u.moved ≤ s.moved + 1 → run_output o p s ≡ run_of u r → OutputRun w next p s r u
    ran_that r u h f d = record {
      onward = h;
      few = f;
      same = λ q l n. subst (λ (x : Output). run_output x p s ≡ run_of u r) (same_output o q (sym k ∙ l) (sym v ∙ n)) d;
    }

    ran_onward : (u : State) → u.moved ≤ s.moved + 1 → run_output o p s ≡ onward u → OutputRun w next p s (Onward next) u
    unfolding run_of
    ran_onward u f d = ran_that (Onward next) u (λ e z. sym (same_end next e z)) f d

    ran_jumped : (l : ℕ) → run_output o p s ≡ jumped l s → OutputRun w next p s (Jumped l) s
    unfolding run_of
    ran_jumped l d = ran_that (Jumped l) s (λ e z. no_end l e z) (omega arith) d

  -- a write
  module _ (u : State) where
    pub ran_coil : number_of w ≡ output_kind (coil (operand_of w)) → u ≡ write s (operand_of w) p → OutputRun w next p s (Onward next) u
    unfolding run_output output_names number
    ran_coil k q = ran_onward (coil (operand_of w)) k refl u (rw q (write_few s _ _)) (ap onward (sym q))

    pub ran_coiln : number_of w ≡ output_kind (coiln (operand_of w)) → u ≡ write s (operand_of w) (not p) → OutputRun w next p s (Onward next) u
    unfolding run_output output_names number
    ran_coiln k q = ran_onward (coiln (operand_of w)) k refl u (rw q (write_few s _ _)) (ap onward (sym q))

    pub ran_set : number_of w ≡ output_kind (set_coil (operand_of w)) → u ≡ write_if p s (operand_of w) true → OutputRun w next p s (Onward next) u
    unfolding run_output output_names number
    ran_set k q = ran_onward (set_coil (operand_of w)) k refl u (rw q (write_if_few p s _ _)) (ap onward (sym q))

    pub ran_reset : number_of w ≡ output_kind (reset_coil (operand_of w)) → u ≡ write_if p s (operand_of w) false → OutputRun w next p s (Onward next) u
    unfolding run_output output_names number
    ran_reset k q = ran_onward (reset_coil (operand_of w)) k refl u (rw q (write_if_few p s _ _)) (ap onward (sym q))

    pub ran_timer : number_of w ≡ output_kind (timer (operand_of w)) → u ≡ run_timer s (operand_of w) p → OutputRun w next p s (Onward next) u
    unfolding run_output output_names number
    ran_timer k q = ran_onward (timer (operand_of w)) k refl u (rw q (timer_few s _ _)) (ap onward (sym q))

  -- the state stays
  pub jump_taken : number_of w ≡ output_kind (jump (operand_of w)) → p ≡ true → OutputRun w next p s (Jumped (operand_of w)) s
  unfolding run_output jump_if output_names number
  jump_taken k q = ran_jumped (jump (operand_of w)) k refl (operand_of w) (rw q refl)

  pub jump_left : number_of w ≡ output_kind (jump (operand_of w)) → p ≡ false → OutputRun w next p s (Onward next) s
  unfolding run_output jump_if output_names number
  jump_left k q = ran_onward (jump (operand_of w)) k refl s (omega arith) (rw q refl)

  pub jumpn_taken : number_of w ≡ output_kind (jumpn (operand_of w)) → p ≡ false → OutputRun w next p s (Jumped (operand_of w)) s
  unfolding run_output jump_if output_names number
  jumpn_taken k q = ran_jumped (jumpn (operand_of w)) k refl (operand_of w) (rw q refl)

  pub jumpn_left : number_of w ≡ output_kind (jumpn (operand_of w)) → p ≡ true → OutputRun w next p s (Onward next) s
  unfolding run_output jump_if output_names number
  jumpn_left k q = ran_onward (jumpn (operand_of w)) k refl s (omega arith) (rw q refl)

  pub no_output : ((o : Output) → number_of w ≡ output_kind o → ⊥) → OutputRun w next p s (Onward next) s
  no_output k = record { onward = λ e z. sym (same_end next e z); few = omega arith; same = λ o l n. absurd (k o l) }

-- ---- rears

module _ (ws : List ℕ) (at w : ℕ) (p : Bool) (s : State) (e : w ≡ get_or ws at 0) where
  abbrev Done : Ran → State → Rear → Type 0
  Done r u k = RunDone at (length (rear_words k)) (run_rear k p) s r u

  pub ran_output : (r : Ran) (u : State) → kind_sort (number_of w) ≡ output_sort → OutputRun w (at + 1) p s r u → RearRun ws at p s r u
  unfolding run_rear rear_words
  ran_output r u k a = record {
    onward = λ n z. let h = a.onward n z in let f = a.few in let l = within in (omega arith, omega arith);
    few = let f = a.few in let l = within in omega arith;
    done = output_only ws at w e (Done r u) k (λ o q v. record { same = a.same o q v; next = a.onward });
  }
    where
      within : at < length ws
      within = inside_sort ws at w e output_sort k (λ z. let n : ◌≡◌ {A = ℕ} 0 1 = cc in omega arith)

  pub ran_and : (front : Worked) (b : List ℕ) (r : Ran) (u : State) → kind_sort (number_of w) ≡ rear_and_sort → FrontWorked ws (at + 1) s.bytes front b
      → RearRun ws front.next (p && front.value) (with_bytes s b) r u → RearRun ws at p s r u
  unfolding run_rear rear_words
  ran_and front b r u k c d = record {
    onward = λ n z. let h = d.onward n z in let i = c.onward in (omega (arith, h.0), omega (arith, h.0, h.1));
    few = let f = d.few in let i = c.onward in omega arith;
    done = rear_and_only ws at w e (Done r u) k (λ f g z sf sg.
        let x = c.done f sf in
        let y = d.done g (rw (← x.next) at sg) in
        record { same = rw (x.same s) y.same; next = λ n q. let h = y.next n q in simp length-append (omega arith) });
  }

  -- the second branch starts from the state that the first left
  pub ran_or : (n : ℕ) (q : Ran) (u : State) (r : Ran) (v : State) → kind_sort (number_of w) ≡ rear_or_sort → RearRun ws (at + 1) p s q u → q ≡ Onward n
      → RearRun ws n p u r v → RearRun ws at p s r v
  unfolding run_rear rear_words unless_jumped run_of
  ran_or n q u r v k a o b = record {
    onward = λ l z. let h = a.onward n o in let i = b.onward l z in (omega (arith, h.0, i.0), omega (arith, h.0, h.1, i.0, i.1));
    few = let h = a.onward n o in let g = b.few in omega (arith, h.0, h.1, g);
    done = rear_or_only ws at w e (Done r v) k (λ f g z sf sg.
        let x = a.done f sf in
        let y = b.done g (rw (← x.next n o) at sg) in
        record { same = rw (x.same, o) y.same; next = λ l z. let h = y.next l z in let i = x.next n o in simp length-append (omega arith) });
  }

  pub ran_or_jumped : (l : ℕ) (q : Ran) (u : State) → kind_sort (number_of w) ≡ rear_or_sort → RearRun ws (at + 1) p s q u → q ≡ Jumped l → RearRun ws at p s q u
  unfolding run_rear unless_jumped run_of
  ran_or_jumped l q u k a o = record {
    onward = λ n z. no_end l n (sym o ∙ z);
    few = let f = a.few in omega arith;
    done = rear_or_only ws at w e (Done q u) k (λ f g z sf sg. record { same = rw ((a.done f sf).same, o) refl; next = λ n z. no_end l n (sym o ∙ z) });
  }

  pub ran_none : starts_rear (kind_sort (number_of w)) ≡ false → RearRun ws at p s (Onward at) s
  ran_none n = record {
    onward = λ e z. let h = same_end at e z in (omega arith, omega arith);
    few = omega arith;
    done = no_rear_lem ws at w e (Done (Onward at) s) n;
  }

-- ---- a rear's words up to a position

-- the rear from `from` on ends as what runs from `at` on, with another power and in another state
pub record Walked (ws : List ℕ) (from : ℕ) (given : Bool) (begun : State) (at : ℕ) (p : Bool) (s : State) : Type 0 where
  pub onward : from ≤ at
  pub few : s.moved + (length ws - at) ≤ begun.moved + (length ws - from)
  pub same : (r : Ran) (u : State) → RearRun ws at p s r u → RearRun ws from given begun r u

pub walked_none : (ws : List ℕ) (from : ℕ) (p : Bool) (s : State) → Walked ws from p s from p s
walked_none ws from p s = record { onward = omega arith; few = omega arith; same = λ r u d. d }

module _ {ws : List ℕ} {from : ℕ} {given : Bool} {begun : State} {at : ℕ} {p : Bool} {s : State} (walked : Walked ws from given begun at p s) (w : ℕ) (e : w ≡ get_or ws at 0) where
  pub walked_and : (front : Worked) (b : List ℕ) → kind_sort (number_of w) ≡ rear_and_sort → FrontWorked ws (at + 1) s.bytes front b
      → Walked ws from given begun front.next (p && front.value) (with_bytes s b)
  walked_and front b k c = record {
    onward = omega (arith, walked.onward, c.onward);
    few = omega (arith, walked.few, c.onward);
    same = λ r u d. walked.same r u (ran_and ws at w p s e front b r u k c d);
  }

  pub walked_or : (n : ℕ) (q : Ran) (u : State) → kind_sort (number_of w) ≡ rear_or_sort → RearRun ws (at + 1) p s q u → q ≡ Onward n → Walked ws from given begun n p u
  walked_or n q u k a o =
      let h = a.onward n o in
      record {
        onward = omega (arith, walked.onward, h.0);
        few = omega (arith, walked.few, h.0, h.1);
        same = λ r v d. walked.same r v (ran_or ws at w p s e n q u r v k a o d);
      }

-- ---- the state that is lent

pub same_lent : (s : StateStruct) → SameLent s s
same_lent s = record { table = refl; timers = refl; vars = refl; tick = refl }

pub lent_after : {a b c : StateStruct} → SameLent a b → SameLent b c → SameLent a c
lent_after h k = record { table = k.table ∙ h.table; timers = k.timers ∙ h.timers; vars = k.vars ∙ h.vars; tick = k.tick ∙ h.tick }

pub lent_changed : {a b : StateStruct} {change : State → State} → Changed a b change → SameLent a b
lent_changed h = record { table = h.same_table; timers = h.same_timers; vars = h.vars; tick = h.tick }

-- ---- rungs

pub ran_rung : (ws : List ℕ) (at : ℕ) (s : State) (front : Worked) (b : List ℕ) (r : Ran) (u : State) → FrontWorked ws at s.bytes front b
    → RearRun ws front.next front.value (with_bytes s b) r u → RungRun ws at s r u
unfolding run_rung rung_words
ran_rung ws at s front b r u c d = record {
  few = let f = d.few in let i = c.onward in omega arith;
  done = rung_only ws at (λ g. RunDone at (length (rung_words g)) (run_rung g) s r u) (λ g sf sg.
      let x = c.done g.front sf in
      let y = d.done g.rear (rw (← x.next) at sg) in
      record { same = rw (x.same s) y.same; next = λ n z. let h = y.next n z in simp length-append (omega arith) });
}
