-- `both_parts::list_watchdog` meets its contract. The bounds keep k × L and 2 × n in range. Assumes nothing.
use native.Mathlib.Nat.{mul-le-mul}
use native.Mathlib.Omega.{arith}
use mathlib.Core.Path.{refl}
use Rattle.translation_definitions.specs.BothScans.{instruction_watchdog}
use Rattle.both_parts.specs.Parts.{watchdog_by}
use Rattle.both_parts.proofs.list_watchdog.Goals as goal

pub returns-in-Some-default : goal.returns-in-Some-default
unfolding watchdog_by
returns-in-Some-default c = rw c.in-Some-default.is-0 refl

pub overflow_mul-result : goal.overflow_mul-result
overflow_mul-result c =
    let bounds = rw c.in-None-Ended.is-1 at c.requires in
    omega (arith, mul-le-mul bounds.0 bounds.1)

pub returns-in-None-Ended : goal.returns-in-None-Ended
unfolding watchdog_by instruction_watchdog
returns-in-None-Ended c = rw (c.in-None-Ended.is-0, c.in-None-Ended.is-1) refl

pub returns-in-None-Stopped : goal.returns-in-None-Stopped
unfolding watchdog_by instruction_watchdog
returns-in-None-Stopped c = rw (c.in-None-Stopped.is-0, c.in-None-Stopped.is-1) (omega arith)
