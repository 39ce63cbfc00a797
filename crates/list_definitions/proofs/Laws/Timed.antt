-- What a timer's work leaves of its record, a list scan leaves of all records. Assumes nothing.
use Prim.Native.Nat.{ℕ, zero, suc}
use Rattle.std.specs.Prelude.{◌≡◌, Bool, not, T}
use Rattle.std.proofs.Math.Path.{refl}
use Rattle.std.proofs.Math.Bool.{true, false}
use Rattle.std.proofs.Math.Option.{Option, none, some}
use Rattle.std.proofs.Math.ListN.{get_elem?}
use Rattle.questions.specs.Tests.{all}
use Rattle.table.specs.Timer.{Timer, powered}
use Rattle.table.specs.State.{State}
use Rattle.table.proofs.Laws.Timers.{TimersHave, timer_has, write_has, write_if_has}
use Rattle.list_definitions.specs.Instruction.{Instr, LD, LDN, ST, STN, AND, ANDN, OR, ORN, XOR, XORN, NOT, JMP, JMPC, JMPCN, S, R, TON}
use Rattle.list_definitions.specs.Machine.{InstructionList, Machine, does, step, halted, begin, scan_machine, scan_list}
use Rattle.list_definitions.proofs.Laws.Watchdog.{scan_end, scan_stop, scan_step}

module _ (test : Timer → Bool) (now : ℕ) (keeps : (p : Bool) (t : Timer) → T (test t) → T (test (powered now p t))) where
  abbrev Has : State → Type 0
  Has = TimersHave test now

  does_has : (i : Instr) (v : Bool) (e : State) (pc : ℕ) → Has e → Has (does i v e pc).state
  unfolding does
  does_has (LD x) v e pc h = h
  does_has (LDN x) v e pc h = h
  does_has (ST x) v e pc h = write_has test now e x v h
  does_has (STN x) v e pc h = write_has test now e x (not v) h
  does_has (AND x) v e pc h = h
  does_has (ANDN x) v e pc h = h
  does_has (OR x) v e pc h = h
  does_has (ORN x) v e pc h = h
  does_has (XOR x) v e pc h = h
  does_has (XORN x) v e pc h = h
  does_has NOT v e pc h = h
  does_has (JMP j) v e pc h = h
  does_has (JMPC j) v e pc h = h
  does_has (JMPCN j) v e pc h = h
  does_has (S x) v e pc h = write_if_has test now v e x true h
  does_has (R x) v e pc h = write_if_has test now v e x false h
  does_has (TON n) v e pc h = timer_has test now keeps e n v h

  module _ (l : InstructionList) where
    machine_has : (n : ℕ) (m : Machine) (t : State) → Has t → Has (scan_machine l n m t).state
    unfolding halted step
    machine_has zero m t h = go (get_elem? l.code m.index) refl
      where
        go : (o : Option Instr) → get_elem? l.code m.index ≡ o → Has (scan_machine l 0 m t).state
        go none e = rw (scan_end l 0 m t e) h
        go (some i) e = rw (scan_stop l m t i e) h
    machine_has (suc n) m t h = go (get_elem? l.code m.index) refl (λ i k. machine_has n (step l.records i m t).0 (step l.records i m t).1 k)
      where
        stepped : (i : Instr) → Has (step l.records i m t).1
        stepped i = does_has i m.accumulator t m.index h

        go : (o : Option Instr) → get_elem? l.code m.index ≡ o
            → ((i : Instr) → Has (step l.records i m t).1 → Has (scan_machine l n (step l.records i m t).0 (step l.records i m t).1).state) → Has (scan_machine l (suc n) m t).state
        go none e ih = rw (scan_end l (suc n) m t e) h
        go (some i) e ih = rw (scan_step l n m t i e) (ih i (stepped i))

    pub scan_has : (w : ℕ) (s : State) → s.now ≡ now → T (all test s.timers) → T (all test (scan_list l w s).state.timers)
    unfolding scan_list
    scan_has w s e h = (machine_has w (begin l) s (record { tick = e; have = h })).have
