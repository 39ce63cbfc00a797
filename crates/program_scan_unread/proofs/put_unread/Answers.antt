-- `program_scan_unread::put_unread` meets its contract: the contacts marked, and the names of the others put. Assumes nothing.
use native.Mathlib.Omega.{arith}
use Rattle.questions.specs.Bytes.{bytes}
use Rattle.program_scan_unread.proofs.Marks.{head_reach, first_long, names_reach, unread_put}
use Rattle.program_scan_unread.proofs.put_unread.Goals as goal

pub slice_bounds-put_names-end : goal.slice_bounds-put_names-end
slice_bounds-put_names-end c = first_long _ _ _ c.mark_contacts.ensures c.requires.1

pub put_names-names-requires : goal.put_names-names-requires
unfolding bytes
put_names-names-requires c =
    let pre = c.requires in
    let long = first_long _ _ _ c.mark_contacts.ensures pre.1 in
    (head_reach c.put_text-head.ensures pre.0, omega (arith, long, pre.1))

pub put_text-requires : goal.put_text-requires
unfolding bytes
put_text-requires c =
    let pre = c.requires in
    (omega (arith, names_reach _ _ _ c.mark_contacts.ensures pre.1 c.put_text-head.ensures c.put_names-names.ensures pre.0), omega arith)

pub returns : goal.returns
unfolding bytes
returns c =
    let pre = c.requires in
    unread_put _ _ _ c.mark_contacts.ensures pre.1 c.put_text-head.ensures c.put_names-names.ensures pre.0 c.put_text.ensures
