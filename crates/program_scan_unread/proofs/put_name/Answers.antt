-- `program_scan_unread::put_name` meets its contract. Assumes nothing.
use native.Mathlib.Omega.{arith}
use Rattle.questions.specs.Bytes.{bytes}
use Rattle.printing.proofs.Laws.Puts.{put_then}
use Rattle.program_scan_unread.proofs.put_name.Goals as goal

pub put_number-requires : goal.put_number-requires
put_number-requires c = omega (arith, c.put_text-name.ensures.end, c.requires)

pub returns : goal.returns
unfolding bytes
returns c = put_then c.put_text-name.ensures c.put_number.ensures
