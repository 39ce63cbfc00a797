-- `translation_layout::lay_out` meets its contract. The loop's invariant: the rungs before are laid out.
use Rattle.translation_layout.proofs.Laying.{Laying}
use Rattle.translation_layout.proofs.lay_out.Given as goal

abbrev pub invariant-loop-rung : goal.invariant-loop-rung
invariant-loop-rung l = Laying l.vars l.ladder.words.now l.ladder.labels.now l.ladder.offsets.now l.initial.starts l.starts l.rung l.instructions l.longest
