-- `number` meets its contract. Assumes nothing.
use Prim.Native.Nat.{◌-◌}
use Rattle.text_grammar.proofs.Numbers.{Reading}
use Rattle.text_grammar.proofs.number.Given as goal

abbrev pub invariant-loop : goal.invariant-loop
invariant-loop l = Reading l.text l.at l.value l.next (4 - l.counter)
