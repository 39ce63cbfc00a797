-- A list scan leaves the state with its writes made, and these are at most one for each instruction carried out. Assumes nothing.
use Prim.Native.Nat.{ℕ, zero, suc, ◌+◌, ◌≤◌}
use native.Mathlib.Omega.{arith}
use Rattle.std.specs.Prelude.{◌≡◌, Bool, true, false, [], ◌++◌, length}
use Rattle.std.proofs.Math.Path.{refl, sym, ap}
use Rattle.std.proofs.Common.{◌∙◌}
use Rattle.std.proofs.Math.Option.{Option, none, some}
use Rattle.std.proofs.Math.ListN.{get_elem?, length-append}
use Rattle.table.specs.State.{State, write}
use Rattle.table.proofs.Laws.Legal.{LegalTable}
use Rattle.table.proofs.Laws.Changes.{makes_few}
use Rattle.table.proofs.Laws.Replaying.{untimed, makes, makes_append, makes_vars, makes_legal, write_if_makes, wrote_if_few, timer_makes, timer_few}
use Rattle.list_definitions.specs.Instruction.{Instr, LD, LDN, ST, STN, AND, ANDN, OR, ORN, XOR, XORN, NOT, JMP, JMPC, JMPCN, S, R, TON}
use Rattle.list_definitions.specs.Machine.{InstructionList, Machine, does, count, step, halted, fresh, begin, scan_machine, scan_list}
use Rattle.list_definitions.specs.Writes.{instr_writes, writes_from, list_writes}
use Rattle.list_definitions.proofs.Laws.Watchdog.{scan_end, scan_stop, scan_step}

pub does_makes : (i : Instr) (v : Bool) (e : State) (pc : ℕ) → untimed (does i v e pc).state ≡ makes (instr_writes i v e) (untimed e)
unfolding does instr_writes makes write
does_makes (LD x) v e pc = refl
does_makes (LDN x) v e pc = refl
does_makes (ST x) v e pc = refl
does_makes (STN x) v e pc = refl
does_makes (AND x) v e pc = refl
does_makes (ANDN x) v e pc = refl
does_makes (OR x) v e pc = refl
does_makes (ORN x) v e pc = refl
does_makes (XOR x) v e pc = refl
does_makes (XORN x) v e pc = refl
does_makes NOT v e pc = refl
does_makes (JMP j) v e pc = refl
does_makes (JMPC j) v e pc = refl
does_makes (JMPCN j) v e pc = refl
does_makes (S x) v e pc = write_if_makes v e x true
does_makes (R x) v e pc = write_if_makes v e x false
does_makes (TON n) v e pc = timer_makes e n v

instr_few : (i : Instr) (v : Bool) (e : State) → length (instr_writes i v e) ≤ 1
unfolding instr_writes
instr_few (LD x) v e = omega arith
instr_few (LDN x) v e = omega arith
instr_few (ST x) v e = omega arith
instr_few (STN x) v e = omega arith
instr_few (AND x) v e = omega arith
instr_few (ANDN x) v e = omega arith
instr_few (OR x) v e = omega arith
instr_few (ORN x) v e = omega arith
instr_few (XOR x) v e = omega arith
instr_few (XORN x) v e = omega arith
instr_few NOT v e = omega arith
instr_few (JMP j) v e = omega arith
instr_few (JMPC j) v e = omega arith
instr_few (JMPCN j) v e = omega arith
instr_few (S x) v e = wrote_if_few v x true
instr_few (R x) v e = wrote_if_few v x false
instr_few (TON n) v e = timer_few e n v

module _ (l : InstructionList) where
  -- at the end nothing is written, and else what the instruction writes and then the rest
  writes_end : (n : ℕ) (m : Machine) (t : State) → get_elem? l.code m.index ≡ none → writes_from l n m t ≡ []
  unfolding writes_from
  writes_end zero m t e = refl
  writes_end (suc n) m t e = rw (e, writes_from)

  writes_step : (n : ℕ) (m : Machine) (t : State) (i : Instr) → get_elem? l.code m.index ≡ some i
      → writes_from l (suc n) m t ≡ instr_writes i m.accumulator t ++ writes_from l n (step l.records i m t).0 (step l.records i m t).1
  unfolding writes_from
  writes_step n m t i e = rw (e, writes_from)

  -- the writes from the machine m and the state t on
  record Made (n : ℕ) (m : Machine) (t : State) : Type 0 where
    state : untimed (scan_machine l n m t).state ≡ makes (writes_from l n m t) (untimed t)
    few : m.counts.instructions + length (writes_from l n m t) ≤ (scan_machine l n m t).counts.instructions

  made_end : (n : ℕ) (m : Machine) (t : State) → get_elem? l.code m.index ≡ none → Made n m t
  unfolding halted makes
  made_end n m t e = record {
    state = rw (scan_end l n m t e, writes_end n m t e) refl;
    few = rw (scan_end l n m t e, writes_end n m t e) (omega arith);
  }

  made_step : (n : ℕ) (m : Machine) (t : State) (i : Instr) → get_elem? l.code m.index ≡ some i → Made n (step l.records i m t).0 (step l.records i m t).1 → Made (suc n) m t
  unfolding step count
  made_step n m t i e ih =
      let first = instr_writes i m.accumulator t in
      let later = writes_from l n (step l.records i m t).0 (step l.records i m t).1 in
      let h = instr_few i m.accumulator t in
      let k = ih.few in
      record {
        state = rw (scan_step l n m t i e, writes_step n m t i e)
            (ih.state ∙ ap (makes later) (does_makes i m.accumulator t m.index) ∙ sym (makes_append first later (untimed t)));
        few = rw (scan_step l n m t i e, writes_step n m t i e, length-append first later) (omega arith);
      }

  machine_made : (n : ℕ) (m : Machine) (t : State) → Made n m t
  unfolding halted writes_from makes
  machine_made zero m t = go (get_elem? l.code m.index) refl
    where
      go : (o : Option Instr) → get_elem? l.code m.index ≡ o → Made 0 m t
      go none e = made_end 0 m t e
      go (some i) e = record { state = rw (scan_stop l m t i e) refl; few = rw (scan_stop l m t i e) (omega arith) }
  machine_made (suc n) m t = go (get_elem? l.code m.index) refl (λ i. machine_made n (step l.records i m t).0 (step l.records i m t).1)
    where
      go : (o : Option Instr) → get_elem? l.code m.index ≡ o → ((i : Instr) → Made n (step l.records i m t).0 (step l.records i m t).1) → Made (suc n) m t
      go none e ih = made_end (suc n) m t e
      go (some i) e ih = made_step n m t i e (ih i)

  pub list_makes : (w : ℕ) (s : State) → untimed (scan_list l w s).state ≡ makes (list_writes l w s) (untimed s)
  unfolding scan_list list_writes
  list_makes w s = (machine_made w (begin l) s).state

  pub list_few : (w : ℕ) (s : State) → length (list_writes l w s) ≤ (scan_list l w s).counts.instructions
  unfolding scan_list list_writes begin fresh
  list_few w s = let h = (machine_made w (begin l) s).few in omega arith

  -- each turns one variable over at most
  pub list_moved : (w : ℕ) (s : State) → (scan_list l w s).state.moved ≤ s.moved + (scan_list l w s).counts.instructions
  list_moved w s =
      let few = list_few w s in
      let most = makes_few (list_writes l w s) (untimed s) in
      let state = ap (λ t. t.moved) (list_makes w s) in
      omega arith

  pub list_vars : (w : ℕ) (s : State) → (scan_list l w s).state.vars ≡ s.vars
  list_vars w s = ap (λ t. t.vars) (list_makes w s) ∙ makes_vars (list_writes l w s) (untimed s)

pub list_legal : (vars : ℕ) (l : InstructionList) (w : ℕ) (s : State) → LegalTable vars s.bytes → LegalTable vars (scan_list l w s).state.bytes
list_legal vars l w s h = rw (ap (λ t. t.bytes) (list_makes l w s)) (makes_legal vars (list_writes l w s) (untimed s) h)
