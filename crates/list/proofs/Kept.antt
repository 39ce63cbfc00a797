-- What a list's scan leaves of timer records: preset and variable of each, and flags that fit a byte. Assumes nothing.
use Prim.Native.Nat.{ℕ, zero, suc}
use mathlib.Core.Path.{◌≡◌, refl}
use mathlib.Core.Bool.{Bool, true, false}
use mathlib.Core.Option.{Option, none, some}
use mathlib.Core.List.{List}
use lib.ListN.{get_elem?}
use Rattle.questions.specs.Questions.{Answer}
use Rattle.table.specs.Timer.{Timer}
use Rattle.table.specs.State.{State, state_of, write, write_if}
use Rattle.timers.proofs.Laws.Kept.{RecordsKept, kept_self, kept_both, timer_kept}
use Rattle.rungs.specs.Records.{RungRecord}
use Rattle.list_definitions.specs.Instruction.{Instr, LD, LDN, ST, STN, AND, ANDN, OR, ORN, XOR, XORN, NOT, JMP, JMPC, JMPCN, S, R, TON}
use Rattle.list_definitions.specs.Machine.{InstructionList, Machine, does, step, begin, halted, scan_machine, scan_list}
use Rattle.list_definitions.specs.ListScan.{list_of, scan_ends, scan_questions, call_list_scan}
use Rattle.list_definitions.proofs.Laws.Watchdog.{scan_end, scan_stop, scan_step}

does_kept : (i : Instr) (v : Bool) (s : State) (pc : ℕ) → RecordsKept s.timers (does i v s pc).state.timers
unfolding does write write_if
does_kept (LD x) v s pc = kept_self s.timers
does_kept (LDN x) v s pc = kept_self s.timers
does_kept (ST x) v s pc = kept_self s.timers
does_kept (STN x) v s pc = kept_self s.timers
does_kept (AND x) v s pc = kept_self s.timers
does_kept (ANDN x) v s pc = kept_self s.timers
does_kept (OR x) v s pc = kept_self s.timers
does_kept (ORN x) v s pc = kept_self s.timers
does_kept (XOR x) v s pc = kept_self s.timers
does_kept (XORN x) v s pc = kept_self s.timers
does_kept NOT v s pc = kept_self s.timers
does_kept (JMP j) v s pc = kept_self s.timers
does_kept (JMPC j) v s pc = kept_self s.timers
does_kept (JMPCN j) v s pc = kept_self s.timers
does_kept (S x) true s pc = kept_self s.timers
does_kept (S x) false s pc = kept_self s.timers
does_kept (R x) true s pc = kept_self s.timers
does_kept (R x) false s pc = kept_self s.timers
does_kept (TON n) v s pc = timer_kept s n v

step_kept : (rs : List RungRecord) (i : Instr) (m : Machine) (s : State) → RecordsKept s.timers (step rs i m s).1.timers
unfolding step
step_kept rs i m s = does_kept i m.accumulator s m.index

module _ (l : InstructionList) where
  machine_kept : (n : ℕ) (m : Machine) (s : State) → RecordsKept s.timers (scan_machine l n m s).state.timers
  unfolding halted
  machine_kept zero m s = go (get_elem? l.code m.index) refl
    where
      go : (x : Option Instr) → get_elem? l.code m.index ≡ x → RecordsKept s.timers (scan_machine l zero m s).state.timers
      go none e = rw (scan_end l zero m s e) (kept_self s.timers)
      go (some i) e = rw (scan_stop l m s i e) (kept_self s.timers)
  machine_kept (suc n) m s = go (get_elem? l.code m.index) refl (λ i. machine_kept n (step l.records i m s).0 (step l.records i m s).1)
    where
      go : (x : Option Instr) → get_elem? l.code m.index ≡ x
          → ((i : Instr) → RecordsKept (step l.records i m s).1.timers (scan_machine l n (step l.records i m s).0 (step l.records i m s).1).state.timers)
          → RecordsKept s.timers (scan_machine l (suc n) m s).state.timers
      go none e ih = rw (scan_end l (suc n) m s e) (kept_self s.timers)
      go (some i) e ih = rw (scan_step l n m s i e) (kept_both (step_kept l.records i m s) (ih i))

pub call_kept_lem : (vars : ℕ) (ws : List ℕ) (rs : List RungRecord) (t : List ℕ) (timers : List Timer) (now w : ℕ) → RecordsKept timers (call_list_scan vars ws rs t timers now w).timers
unfolding call_list_scan scan_ends scan_list
call_kept_lem vars ws rs t timers now w = go (scan_questions vars ws rs t timers w) refl
  where
    go : (a : Answer) → scan_questions vars ws rs t timers w ≡ a → RecordsKept timers (call_list_scan vars ws rs t timers now w).timers
    go (some refusal) e = rw (e, call_list_scan) (kept_self timers)
    go none e = rw (e, call_list_scan) (machine_kept (list_of ws rs) w (begin (list_of ws rs)) (state_of vars t timers now))
