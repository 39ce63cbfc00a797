-- `program_scan_unread::mark_contacts` meets its contract. Assumes nothing.
use Rattle.program_scan_unread.proofs.Marks.{marking_start, marking_more, marking_end}
use Rattle.program_scan_unread.proofs.mark_contacts.Goals as goal

pub loop-word-init : goal.loop-word-init
loop-word-init c = marking_start _ _

pub loop-word-preserved : goal.loop-word-preserved
loop-word-preserved c = marking_more c.loop-word.invariant _ c.loop-word-test.true c.mark_word.ensures

pub returns : goal.returns
returns c = marking_end c.loop-word.invariant c.loop-word-test.false
