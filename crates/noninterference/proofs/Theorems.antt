-- What is proved of the variables that no contact reads and of those that a scan wrote, a theorem to a sentence; the proofs are in Laws. That the writes of a scan,
-- made in order, give its table, and that nothing else changed it, is ladder_definitions.Theorems.ladder-replayed, and call-writes-tell of the call. Assumes nothing.
use Rattle.std.specs.Prelude.{ℕ, ◌*◌, ◌≤◌, ◌<◌, ◌≡◌, ◌↔◌, List, map, T, get_or}
use Rattle.std.proofs.Common.{arith}
use Rattle.questions.specs.Questions.{yes, question12, most_instruction_watchdog}
use Rattle.table.specs.Timer.{Timer}
use Rattle.table.specs.State.{State, value_at}
use Rattle.table.specs.Halt.{Ended}
use Rattle.rungs.specs.Records.{longest}
use Rattle.ladder_definitions.specs.Tree.{Ladder}
use Rattle.ladder_definitions.specs.Meaning.{scan_ladder}
use Rattle.ladder_definitions.specs.Writes.{ladder_writes}
use Rattle.ladder_definitions.specs.Kept.{Kept}
use Rattle.ladder_definitions.specs.Questions.{ladder_of, ladder_answer, question6}
use Rattle.ladder_definitions.specs.LadderScan.{LadderCounts, call_ladder_scan, scanned}
use Rattle.ladder_definitions.proofs.Theorems.{ladder_replayed}
use Rattle.list_definitions.specs.Instruction.{instr_word}
use Rattle.translation_definitions.specs.Translate.{translate}
use Rattle.translation_definitions.proofs.Theorems.{scans_agree}
use Rattle.noninterference.specs.Contacts.{ladder_contacts, word_contacts, among, named, unread}
use Rattle.noninterference.specs.Noninterference.{AgreeOnContacts, wrote_to, TreesGiven, TreesUninfluenced, CallsGiven, CallsUninfluenced, ListsUninfluenced}
use Rattle.noninterference.proofs.Laws.Unread.{left_out_lem, is_left_out, agree_read, read_agree}
use Rattle.noninterference.proofs.Laws.Words.{kept_contacts}
use Rattle.noninterference.proofs.Laws.Replaying.{replay_kept}
use Rattle.noninterference.proofs.Laws.Uninfluenced.{trees_uninfluenced, calls_uninfluenced}
use Rattle.noninterference.proofs.Laws.Lists.{lists_uninfluenced}
use Rattle.noninterference.proofs.Laws.Again.{still_given}

-- A variable that the scan did not write keeps its byte.
pub not_written_kept : (gs : Ladder) (watchdog : ℕ) (s : State) (v : ℕ) → (T (wrote_to v (ladder_writes gs watchdog s)) → ⊥)
    → get_or (scan_ladder gs watchdog s).state.bytes v 0 ≡ get_or s.bytes v 0
not_written_kept gs watchdog s v h = rw (ladder_replayed gs watchdog s) (replay_kept (ladder_writes gs watchdog s) s.bytes v h)

-- 02, Req 07, over trees,
pub noninterference : (gs : Ladder) (watchdog : ℕ) (s t : State) → TreesGiven gs s t → TreesUninfluenced gs watchdog s t
noninterference gs watchdog s t given = trees_uninfluenced gs watchdog s t given

-- over the call Ladder scan,
pub calls_noninterference : (vars : ℕ) (kept : Kept) (s t : List ℕ) (timers : List Timer) (now watchdog : ℕ) → CallsGiven vars kept s t timers watchdog
    → CallsUninfluenced vars kept s t timers now watchdog
calls_noninterference vars kept s t timers now watchdog given = calls_uninfluenced vars kept s t timers now watchdog given

-- and, beyond the request, over List scan of the ladder's list: where the ladder scan of the one table ended with k rungs entered, under every legal instruction
-- watchdog of k × L or more.
pub lists_noninterference : (vars : ℕ) (kept : Kept) (s t : List ℕ) (timers : List Timer) (now watchdog w : ℕ) → CallsGiven vars kept s t timers watchdog
    → (counts : LadderCounts) → (call_ladder_scan vars kept s timers now watchdog).answer ≡ scanned Ended counts
    → question12 most_instruction_watchdog w ≡ yes → counts.rungs * longest (translate vars (ladder_of kept)).records ≤ w
    → ListsUninfluenced vars kept (map instr_word (translate vars (ladder_of kept)).code) (translate vars (ladder_of kept)).records s t timers now watchdog w
lists_noninterference vars kept s t timers now watchdog w given counts ended legal enough =
    let first = scans_agree vars kept s timers now watchdog given.accepted given.first_legal given.timers_legal given.timers_known given.watchdog_legal in
    let second = scans_agree vars kept t timers now watchdog given.accepted given.second_legal given.timers_legal given.timers_known given.watchdog_legal in
    lists_uninfluenced vars kept _ _ _ timers now watchdog w s t first second (calls_uninfluenced vars kept s t timers now watchdog given) counts ended legal enough

-- Beyond the request: all that was given holds again of what the two scans leave, tables and timer records. So they stay alike over any number of scans, whatever
-- is switched between them at variables that no contact reads.
pub given_again : (vars : ℕ) (kept : Kept) (s t : List ℕ) (timers : List Timer) (now watchdog : ℕ) → CallsGiven vars kept s t timers watchdog
    → CallsGiven vars kept (call_ladder_scan vars kept s timers now watchdog).table (call_ladder_scan vars kept t timers now watchdog).table
    (call_ladder_scan vars kept s timers now watchdog).timers watchdog
given_again vars kept s t timers now watchdog given = still_given vars kept s t timers now watchdog given

-- The contacts of an accepted ladder, in the order of its kept words, are those that code finds there.
pub contacts_in_words : (vars : ℕ) (kept : Kept) → ladder_answer vars kept ≡ yes → word_contacts kept.words ≡ ladder_contacts (ladder_of kept)
contacts_in_words vars kept accepted = kept_contacts vars kept accepted

-- The variables that no contact reads are those below V that no contact names.
pub unread_exactly : (vars : ℕ) (gs : Ladder) (v : ℕ) → T (among v (unread vars gs)) ↔ ((v < vars) × (T (named v gs) → ⊥))
unfolding unread
unread_exactly vars gs v = (
  (λ h. let x = left_out_lem _ 0 vars v h in let below = x.below in (omega arith, x.not_read)),
  (λ h. is_left_out _ 0 vars v (record { lowest = omega arith; below = let below = h.0 in omega arith; not_read = h.1 })),
)

-- So two tables agree on each variable named by a contact exactly when they agree on each of the V variables but those.
pub agree_exactly : (vars : ℕ) (gs : Ladder) (s t : List ℕ) → question6 vars gs ≡ yes
    → AgreeOnContacts gs s t ↔ ((v : ℕ) → v < vars → (T (among v (unread vars gs)) → ⊥) → value_at s v ≡ value_at t v)
agree_exactly vars gs s t variables = (agree_read vars gs s t, read_agree vars gs s t variables)
