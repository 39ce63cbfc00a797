-- `rows::gather` meets its contract: record by record, one entry more of each array is set.
use Rattle.std.proofs.Common.{◌≡◌, ◌<◌, min, length, length-take, arith}
use Rattle.std.proofs.lemmas.List.{get_or-take}
use Rattle.rungs.specs.Records.{most_records}
use Rattle.rows.specs.Rows.{no_rung}
use Rattle.rows.proofs.Gathers.{fields_start, fields_next, gathered_all, label_of, offset_of, length_of}
use Rattle.rows.proofs.gather.Goals as goal

pub loop-i-init : goal.loop-i-init
loop-i-init c = record { labels = fields_start label_of c.args.row.now; offsets = fields_start offset_of c.args.row.now; lengths = fields_start length_of c.args.row.now }

pub loop-i-preserved : goal.loop-i-preserved
loop-i-preserved c =
    let row = c.args.row.now in
    let i = c.loop-i in
    let kept : c.min-kept.result ≡ min most_records (length row) = c.min-kept.ensures in
    let few : i.i < c.min-kept.result = omega (arith, length-take c.min-kept.result row) in
    let here = get_or-take c.min-kept.result row i.i no_rung few in
    record {
      labels = rw (here, i.invariant.labels) (fields_next label_of row i.i (omega arith) (omega arith));
      offsets = rw (here, i.invariant.offsets) (fields_next offset_of row i.i (omega arith) (omega arith));
      lengths = rw (here, i.invariant.lengths) (fields_next length_of row i.i (omega arith) (omega arith));
    }

pub returns-clause-fields : goal.returns-clause-fields
returns-clause-fields c =
    let row = c.args.row.now in
    let i = c.loop-i in
    let kept : c.min-kept.result ≡ min most_records (length row) = c.min-kept.ensures in
    let all = gathered_all row i.i (omega (arith, length-take c.min-kept.result row)) in
    rw (i.invariant.labels, i.invariant.offsets, i.invariant.lengths) all
