-- Where a scan stands, and that it halts there as document 01 says, with counts within its watchdog. Assumes nothing.
use Prim.Native.Nat.{ℕ, zero, suc, ◌+◌, ◌-◌, ◌≤◌}
use Rattle.std.proofs.Common.{zero-add, suc-add, ◌∙◌}
use native.Mathlib.Omega.{arith}
use Rattle.std.specs.Prelude.{◌≡◌, ◌⊎◌}
use Rattle.std.proofs.Math.Path.{refl, sym, ap}
use Rattle.std.proofs.Math.Logic.{inl, inr}
use Rattle.std.proofs.Math.Option.{Option, none, some}
use Rattle.std.proofs.Math.ListN.{get_elem?}
use Rattle.questions.proofs.Laws.Tests.{bit_few}
use Rattle.table.specs.State.{State}
use Rattle.table.specs.Halt.{Ended, Stopped}
use Rattle.rungs.specs.Records.{is_start}
use Rattle.list_definitions.specs.Instruction.{Instr}
use Rattle.list_definitions.specs.Machine.{InstructionList, Machine, Counts, fresh, begin, count, step, ListResult, halted, scan_machine, scan_list}
use Rattle.list_definitions.specs.Standing.{Stands, at_first, after_step, StandsAt}

module _ (l : InstructionList) where
  pub scan_end : (n : ℕ) (m : Machine) (t : State) → get_elem? l.code m.index ≡ none → scan_machine l n m t ≡ halted Ended m t
  unfolding scan_machine
  scan_end zero m t e = rw (e, scan_machine)
  scan_end (suc n) m t e = rw (e, scan_machine)

  pub scan_stop : (m : Machine) (t : State) (i : Instr) → get_elem? l.code m.index ≡ some i → scan_machine l 0 m t ≡ halted Stopped m t
  unfolding scan_machine
  scan_stop m t i e = rw (e, scan_machine)

  pub scan_step : (n : ℕ) (m : Machine) (t : State) (i : Instr) → get_elem? l.code m.index ≡ some i
      → scan_machine l (suc n) m t ≡ scan_machine l n (step l.records i m t).0 (step l.records i m t).1
  unfolding scan_machine
  scan_step n m t i e = rw (e, scan_machine)

  -- a scan that stops at a watchdog stops at every smaller one
  pub stops_sooner : (w j : ℕ) (m : Machine) (t : State) → (scan_machine l (w + j) m t).halt ≡ Stopped → (scan_machine l w m t).halt ≡ Stopped
  unfolding halted
  stops_sooner zero j m t h = go (get_elem? l.code m.index) refl
    where
      go : (o : Option Instr) → get_elem? l.code m.index ≡ o → (scan_machine l 0 m t).halt ≡ Stopped
      go none e = ap (λ x. x.halt) (scan_end 0 m t e ∙ sym (scan_end (0 + j) m t e)) ∙ h
      go (some i) e = ap (λ x. x.halt) (scan_stop m t i e)
  stops_sooner (suc w) j m t h = go (get_elem? l.code m.index) refl (λ i. stops_sooner w j (step l.records i m t).0 (step l.records i m t).1)
    where
      go : (o : Option Instr) → get_elem? l.code m.index ≡ o
          → ((i : Instr) → (scan_machine l (w + j) (step l.records i m t).0 (step l.records i m t).1).halt ≡ Stopped
          → (scan_machine l w (step l.records i m t).0 (step l.records i m t).1).halt ≡ Stopped)
          → (scan_machine l (suc w) m t).halt ≡ Stopped
      go none e ih = ap (λ x. x.halt) (scan_end (suc w) m t e ∙ sym (scan_end (suc w + j) m t e)) ∙ h
      go (some i) e ih = rw (scan_step w m t i e) (ih i (rw (suc-add w j, scan_step (w + j) m t i e) at h))

-- with n more before the watchdog the scan goes on from where it stands
goes_on_lem : {l : InstructionList} {s : State} {m : Machine} {t : State} → Stands l s m t → (n : ℕ) → scan_list l (m.counts.instructions + n) s ≡ scan_machine l n m t
unfolding scan_list begin fresh step count
goes_on_lem at_first n = rw zero-add refl
goes_on_lem {l} {s} (after_step {m} {t} {i} d q) n =
    let e : m.counts.instructions + 1 + n ≡ m.counts.instructions + suc n = omega arith in
    rw e (goes_on_lem d (suc n) ∙ scan_step l n m t i q)

module _ (l : InstructionList) (s : State) where
  -- how the scan halts from where it stands
  Halts : ℕ → ListResult → Type 0
  Halts most x = ((m : Machine) × (t : State) × Stands l s m t × (get_elem? l.code m.index ≡ none) × (m.counts.instructions ≤ most) × (x ≡ halted Ended m t))
      ⊎ ((m : Machine) × (t : State) × Stands l s m t × ((i : Instr) × (get_elem? l.code m.index ≡ some i)) × (m.counts.instructions ≡ most) × (x ≡ halted Stopped m t))

  halts : (n : ℕ) (m : Machine) (t : State) (most : ℕ) → m.counts.instructions + n ≡ most → Stands l s m t → Halts most (scan_machine l n m t)
  unfolding Halts step count
  halts zero m t most e d = go (get_elem? l.code m.index) refl
    where
      go : (o : Option Instr) → get_elem? l.code m.index ≡ o → Halts most (scan_machine l 0 m t)
      go none q = inl (m, t, d, q, omega arith, scan_end l 0 m t q)
      go (some i) q = inr (m, t, d, (i, q), omega arith, scan_stop l m t i q)
  halts (suc n) m t most e d = go (get_elem? l.code m.index) refl
      (λ i q. halts n (step l.records i m t).0 (step l.records i m t).1 most (omega arith) (after_step d q))
    where
      go : (o : Option Instr) → get_elem? l.code m.index ≡ o
          → ((i : Instr) → get_elem? l.code m.index ≡ some i → Halts most (scan_machine l n (step l.records i m t).0 (step l.records i m t).1))
          → Halts most (scan_machine l (suc n) m t)
      go none q ih = inl (m, t, d, q, omega arith, scan_end l (suc n) m t q)
      go (some i) q ih = rw (scan_step l n m t i q) (ih i q)

  scan_halts : (w : ℕ) → Halts w (scan_list l w s)
  unfolding scan_list begin fresh
  scan_halts w = halts w (begin l) s w (omega arith) at_first

  -- one answer is not both
  apart : {x : ListResult} {c c' : Counts} {t t' : State} → x ≡ record { halt = Ended; counts = c; state = t } → x ≡ record { halt = Stopped; counts = c'; state = t' } → ⊥
  apart p q =
      let z : Ended ≡ Stopped = ap (λ y. y.halt) (sym p ∙ q) in
      let n : ◌≡◌ {A = ℕ} 0 1 = cc in
      omega arith

  pub stands_stopped : (w : ℕ) (c : Counts) (t : State) (i : Instr) → c.instructions ≡ w → StandsAt l s c t (some i) → scan_list l w s ≡ record { halt = Stopped; counts = c; state = t }
  unfolding halted
  stands_stopped w c t i h a =
      let k = ap (λ y. y.instructions) a.counts in
      let e : a.machine.counts.instructions + 0 ≡ w = omega arith in
      (rw e at (goes_on_lem a.stands 0)) ∙ scan_stop l a.machine t i a.instruction ∙ rw a.counts refl

  pub stands_ended : (w : ℕ) (c : Counts) (t : State) → c.instructions ≤ w → StandsAt l s c t none → scan_list l w s ≡ record { halt = Ended; counts = c; state = t }
  unfolding halted
  stands_ended w c t h a =
      let k = ap (λ y. y.instructions) a.counts in
      let e : a.machine.counts.instructions + (w - c.instructions) ≡ w = omega arith in
      (rw e at (goes_on_lem a.stands (w - c.instructions))) ∙ scan_end l (w - c.instructions) a.machine t a.instruction ∙ rw a.counts refl

  pub stopped_stands : (w : ℕ) (c : Counts) (t : State) → scan_list l w s ≡ record { halt = Stopped; counts = c; state = t }
      → (c.instructions ≡ w) × ((i : Instr) × StandsAt l s c t (some i))
  unfolding Halts halted
  stopped_stands w c t e = go (scan_halts w)
    where
      go : Halts w (scan_list l w s) → (c.instructions ≡ w) × ((i : Instr) × StandsAt l s c t (some i))
      go (inl h) = absurd (apart h.5 e)
      go (inr h) =
          let n : h.0.counts ≡ c = ap (λ y. y.counts) (sym h.5 ∙ e) in
          let u : h.1 ≡ t = ap (λ y. y.state) (sym h.5 ∙ e) in
          (rw n at h.4, (h.3.0, record { machine = h.0; counts = n; stands = rw u at h.2; instruction = h.3.1 }))

  pub ended_stands : (w : ℕ) (c : Counts) (t : State) → scan_list l w s ≡ record { halt = Ended; counts = c; state = t } → (c.instructions ≤ w) × StandsAt l s c t none
  unfolding Halts halted
  ended_stands w c t e = go (scan_halts w)
    where
      go : Halts w (scan_list l w s) → (c.instructions ≤ w) × StandsAt l s c t none
      go (inl h) =
          let n : h.0.counts ≡ c = ap (λ y. y.counts) (sym h.5 ∙ e) in
          let u : h.1 ≡ t = ap (λ y. y.state) (sym h.5 ∙ e) in
          (rw n at h.4, record { machine = h.0; counts = n; stands = rw u at h.2; instruction = h.3 })
      go (inr h) = absurd (apart e h.5)

-- a list scan counts at most as far as its watchdog

pub record Within (most : ℕ) (c : Counts) : Type 0 where
  pub instructions : c.instructions ≤ most
  pub rungs : c.rungs ≤ most

module _ (l : InstructionList) where
  machine_within : (n most : ℕ) (m : Machine) (t : State) → m.counts.instructions + n ≤ most → m.counts.rungs + n ≤ most → Within most (scan_machine l n m t).counts
  unfolding halted step count
  machine_within zero most m t h k = go (get_elem? l.code m.index) refl
    where
      go : (o : Option Instr) → get_elem? l.code m.index ≡ o → Within most (scan_machine l 0 m t).counts
      go none e = rw (scan_end l 0 m t e) (record { instructions = omega arith; rungs = omega arith })
      go (some i) e = rw (scan_stop l m t i e) (record { instructions = omega arith; rungs = omega arith })
  machine_within (suc n) most m t h k = go (get_elem? l.code m.index) refl
      (λ i. let b = bit_few (is_start l.records m.index) in
      machine_within n most (step l.records i m t).0 (step l.records i m t).1 (omega arith) (omega (arith, b)))
    where
      go : (o : Option Instr) → get_elem? l.code m.index ≡ o
          → ((i : Instr) → Within most (scan_machine l n (step l.records i m t).0 (step l.records i m t).1).counts) → Within most (scan_machine l (suc n) m t).counts
      go none e ih = rw (scan_end l (suc n) m t e) (record { instructions = omega arith; rungs = omega arith })
      go (some i) e ih = rw (scan_step l n m t i e) (ih i)

  pub list_within : (w : ℕ) (s : State) → Within w (scan_list l w s).counts
  unfolding scan_list begin fresh
  list_within w s = machine_within w w (begin l) s (omega arith) (omega arith)
