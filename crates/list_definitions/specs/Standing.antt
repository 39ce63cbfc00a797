-- Where a scan stands before each instruction, with no watchdog: document 01, "What a list does". Theorems says by it when a scan is Stopped and when it Ended.
-- Assumes nothing.
use Rattle.std.specs.Prelude.{◌≡◌}
use Rattle.std.proofs.Math.Option.{Option, some}
use Rattle.std.proofs.Math.ListN.{get_elem?}
use Rattle.table.specs.State.{State}
use Rattle.list_definitions.specs.Instruction.{Instr}
use Rattle.list_definitions.specs.Machine.{InstructionList, Machine, Counts, begin, step}

-- the scan of l that begins in state s comes to the machine m and the state t
pub data Stands (l : InstructionList) (s : State) : Machine → State → Type 0 where
  at_first : Stands l s (begin l) s
  after_step : {m : Machine} {t : State} {i : Instr} → Stands l s m t → get_elem? l.code m.index ≡ some i → Stands l s (step l.records i m t).0 (step l.records i m t).1

-- with counts c and state t it stands before the instruction given, or at the end where none is
pub record StandsAt (l : InstructionList) (s : State) (c : Counts) (t : State) (next : Option Instr) : Type 0 where
  pub machine : Machine
  pub counts : machine.counts ≡ c
  pub stands : Stands l s machine t
  pub instruction : get_elem? l.code machine.index ≡ next
