-- The loop's invariant: the fields of the records before `i`, over zeros.
use Rattle.std.proofs.Common.{◌≡◌}
use Rattle.rows.proofs.Gathers.{fields_to, label_of, offset_of, length_of}
use Rattle.rows.proofs.gather.Given as goal

abbrev pub invariant-loop-i : goal.invariant-loop-i
invariant-loop-i l = record {
  labels : l.labels ≡ fields_to label_of l.i l.row;
  offsets : l.offsets ≡ fields_to offset_of l.i l.row;
  lengths : l.lengths ≡ fields_to length_of l.i l.row;
}
