-- `program_scan_unread::mark_word` meets its contract. Assumes nothing.
use mathlib.Core.Path.{sym, ◌∙◌}
use Rattle.program_scan_unread.proofs.Marks.{word_marked, word_other}
use Rattle.program_scan_unread.proofs.mark_word.Goals as goal

pub returns-then-is_contact : goal.returns-then-is_contact
returns-then-is_contact c = c.put.ensures ∙ word_marked _ _ (sym c.is_contact.ensures ∙ c.if-is_contact.true)

pub returns-else-is_contact : goal.returns-else-is_contact
returns-else-is_contact c = word_other _ _ (sym c.is_contact.ensures ∙ c.if-is_contact.false)
