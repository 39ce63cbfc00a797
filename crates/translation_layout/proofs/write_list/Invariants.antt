-- `translation_layout::write_list` meets its contract. The loop's invariant: the rungs before are written.
use Rattle.std.proofs.Common.{◌≡◌}
use Rattle.rungs.specs.Buffers.{columns_of, buffers_in, SameLoans}
use Rattle.translation_layout.proofs.Writing.{Writing}
use Rattle.translation_layout.proofs.write_list.Given as goal

abbrev pub invariant-loop-rung : goal.invariant-loop-rung
invariant-loop-rung l = record {
  written : Writing l.vars l.ladder.words.now l.ladder.labels.now l.ladder.offsets.now l.starts (columns_of (buffers_in l.initial.list)) (columns_of (buffers_in l.list)) l.rung l.put;
  times : l.list.times.now ≡ l.initial.list.times.now;
  same : SameLoans l.initial.list l.list;
}
