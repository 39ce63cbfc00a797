-- `printing::put_text` meets its contract. The loop's invariant: the bytes from the loop's index on are left.
use Rattle.printing.proofs.Texts.{Putting}
use Rattle.printing.proofs.put_text.Given as goal

abbrev pub invariant-loop-byte : goal.invariant-loop-byte
invariant-loop-byte l = Putting l.initial.out l.at l.text l.out l.end l.byte-index
