-- `reader_lines::letters` meets its contract: a law for each way through the loop. Assumes nothing.
use Prim.Native.Nat.{◌-◌}
use Rattle.reader_lines.proofs.Capitals.{Lettering}
use Rattle.reader_lines.proofs.letters.Given as goal

abbrev pub invariant-loop : goal.invariant-loop
invariant-loop l = Lettering l.text l.at l.next (6 - l.counter)
