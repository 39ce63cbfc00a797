-- The words from the loop's index on are left.
use Rattle.program_scan_unread.proofs.Marks.{Marking}
use Rattle.program_scan_unread.proofs.mark_contacts.Given as goal

abbrev pub invariant-loop-word : goal.invariant-loop-word
invariant-loop-word l = Marking l.words l.initial.marks l.marks l.word-index
