-- What is proved of the definitions of this crate, a theorem to a sentence; the proofs are in Laws. Assumes nothing.
use Rattle.std.specs.Prelude.{ℕ, ◌+◌, ◌*◌, ◌^◌, ◌≤◌, ◌<◌, ◌≡◌, refl, ◌↔◌, List, [], ◌∷◌, T, length, drop}
use Rattle.std.proofs.Common.{arith, ap, ◌∙◌}
use Rattle.std.proofs.Math.Option.{some}
use Rattle.questions.specs.Tests.{all}
use Rattle.questions.specs.Questions.{yes, most_rung_watchdog}
use Rattle.questions.proofs.Laws.Answers.{each_passed, watchdog_in_range}
use Rattle.table.specs.Timer.{Timer}
use Rattle.table.specs.State.{State, state_of, beyond_variables, SameButScratch}
use Rattle.table.specs.Halt.{Halt, Ended, Stopped}
use Rattle.table.specs.Questions.{question11, question16, Legal}
use Rattle.table.specs.Writes.{replay, changes, WritesTell}
use Rattle.table.proofs.Laws.Alike.{alike_legal, alike_same}
use Rattle.table.proofs.Laws.Legal.{legal_table}
use Rattle.table.proofs.Laws.Replaying.{untimed, makes_bytes}
use Rattle.table.proofs.Laws.Timers.{timers_below, same_question16}
use Rattle.table.proofs.Laws.Changes.{makes_moved}
use Rattle.rungs.specs.Records.{found, look_up}
use Rattle.rungs.proofs.Theorems.{same_place}
use Rattle.ladder_definitions.specs.Tree.{Input, contact, contactn, Output, coil, coiln, jump, jumpn, set_coil, reset_coil, timer, Rung, Ladder, labels, rung_all, output_names}
use Rattle.ladder_definitions.specs.Meaning.{jumped, from, follow, LadderResult, scan_ladder}
use Rattle.ladder_definitions.specs.Writes.{ladder_writes, most_rung_writes}
use Rattle.ladder_definitions.specs.Entries.{rungs_entered}
use Rattle.ladder_definitions.specs.Standing.{Stands}
use Rattle.ladder_definitions.specs.Kept.{Kept, encode, decode, input_fits, output_fits, input_kind, output_kind, contact_sort, output_sort, kind_sorts, kind_sort, variable_name, name_sorts, name_sort, named_sort}
use Rattle.ladder_definitions.specs.Questions.{question5, question6, rung_below, ladder_of, ladder_answer, Accepted}
use Rattle.ladder_definitions.specs.LadderScan.{LadderCounts, LadderScanCall, call_ladder_scan, scanned}
use Rattle.ladder_definitions.proofs.Laws.Watchdog.{stopped_stands, stands_stopped, ended_stands, stands_ended}
use Rattle.ladder_definitions.proofs.Laws.Scratch.{scan_alike, scan_stays}
use Rattle.ladder_definitions.proofs.Laws.Calls.{call_alike, call_stays}
use Rattle.ladder_definitions.proofs.Laws.Answers.{asked, writes_tell, sum_few, rungs_few}
use Rattle.ladder_definitions.proofs.Laws.Accepting.{decode_encode, encode_decode, ladder_is, sized, accepted, accepting}
use Rattle.ladder_definitions.proofs.Laws.Writes.{ladder_makes, ladder_few}
use Rattle.ladder_definitions.proofs.Laws.Entries.{entries_many}

-- words and records are those of a ladder, whose operands all have 16 bits
pub record IsKept (k : Kept) (gs : Ladder) : Type 0 where
  pub kept : k ≡ encode gs
  pub fits : T (all (rung_all input_fits output_fits) gs)

-- Words and records are decoded to a ladder exactly when they are the kept words and records of that ladder.
pub decoded_exactly : (k : Kept) (gs : Ladder) → (decode k ≡ some gs) ↔ IsKept k gs
decoded_exactly k gs = (
  (λ e. let h = encode_decode k gs e in record { kept = h.0; fits = h.1 }),
  (λ h. rw h.kept (decode_encode gs h.fits)),
)

-- They are those of one ladder at most.
pub one_ladder : (k : Kept) (gs hs : Ladder) → IsKept k gs → IsKept k hs → gs ≡ hs
one_ladder k gs hs g h = let p = (decoded_exactly k gs).1 g in let q = (decoded_exactly k hs).1 h in cc

-- A kind's sort, and what its operand names, are those of the inputs and outputs of that kind.
pub input_sorted : (i : Input) → (kind_sort (input_kind i) ≡ contact_sort) × (name_sort (input_kind i) ≡ variable_name)
unfolding input_kind kind_sort kind_sorts name_sort name_sorts
input_sorted (contact v) = (refl, refl)
input_sorted (contactn v) = (refl, refl)

pub output_sorted : (o : Output) → (kind_sort (output_kind o) ≡ output_sort) × (name_sort (output_kind o) ≡ named_sort (output_names o))
unfolding output_kind output_names kind_sort kind_sorts name_sort name_sorts named_sort
output_sorted (coil v) = (refl, refl)
output_sorted (coiln v) = (refl, refl)
output_sorted (jump l) = (refl, refl)
output_sorted (jumpn l) = (refl, refl)
output_sorted (set_coil v) = (refl, refl)
output_sorted (reset_coil v) = (refl, refl)
output_sorted (timer n) = (refl, refl)

-- Question 1 and questions 4 to 9 all get a "yes" exactly when the words and records are those of an accepted ladder.
pub accepted_exactly : (vars : ℕ) (k : Kept) → (ladder_answer vars k ≡ yes) ↔ ((gs : Ladder) × IsKept k gs × Accepted vars gs)
accepted_exactly vars k = (
  (λ e. let h = accepted vars k e in (ladder_of k, (decoded_exactly k (ladder_of k)).0 h.0, h.1)),
  (λ h. accepting vars k (rw (ladder_is k h.0 ((decoded_exactly k h.0).1 h.1)) h.2)),
)

-- A taken jump goes to the rung at the place that the search for its label finds. Document 02, Req 03.
pub jump_to_found : (gs rest : Ladder) (l : ℕ) (s : State) (place looked : ℕ) → look_up l (labels gs) ≡ found place looked → follow gs rest (jumped l s) ≡ drop place gs
unfolding follow from
jump_to_found gs rest l s place looked e = ap (λ i. drop i gs) (same_place l (labels gs) place looked e)

-- A scan is Stopped with k rungs entered exactly when k equals the watchdog and, after k rungs, a rung is still to come.
pub stopped_exactly : (gs : Ladder) (watchdog : ℕ) (s : State) (k : ℕ) (t : State)
    → (scan_ladder gs watchdog s ≡ record { halt = Stopped; rungs = k; state = t }) ↔ ((k ≡ watchdog) × ((g : Rung) × (rest : Ladder) × Stands gs s k (g ∷ rest) t))
stopped_exactly gs watchdog s k t = (
  stopped_stands gs s watchdog k t,
  (λ h. stands_stopped gs s watchdog h.1.0 h.1.1 t (rw h.0 at h.1.2) ∙ rw h.0 refl),
)

-- A scan Ended with k rungs entered exactly when it is past the last rung after k rungs, and k is at most the watchdog.
pub ended_exactly : (gs : Ladder) (watchdog : ℕ) (s : State) (k : ℕ) (t : State)
    → (scan_ladder gs watchdog s ≡ record { halt = Ended; rungs = k; state = t }) ↔ ((k ≤ watchdog) × Stands gs s k [] t)
ended_exactly gs watchdog s k t = (ended_stands gs s watchdog k t, (λ h. stands_ended gs s watchdog k t h.0 h.1))

-- A scan, Ended or Stopped, leaves the table with its writes made, first to last.
pub ladder_replayed : (gs : Ladder) (watchdog : ℕ) (s : State) → (scan_ladder gs watchdog s).state.bytes ≡ replay (ladder_writes gs watchdog s) s.bytes
ladder_replayed gs watchdog s = ap (λ t. t.bytes) (ladder_makes gs watchdog s) ∙ makes_bytes (ladder_writes gs watchdog s) (untimed s)

-- 02, Req 04: the entries of a scan, Ended or Stopped, are as many as the rungs entered.
pub entries_counted : (gs : Ladder) (watchdog : ℕ) (s : State) → length (rungs_entered gs watchdog s) ≡ (scan_ladder gs watchdog s).rungs
entries_counted gs watchdog s = entries_many gs watchdog s

-- Where question 5 gets a "yes" it makes at most 64 writes for each rung entered.
pub few_writes : (gs : Ladder) (watchdog : ℕ) (s : State) → question5 gs ≡ yes → length (ladder_writes gs watchdog s) ≤ most_rung_writes * (scan_ladder gs watchdog s).rungs
few_writes gs watchdog s q5 = ladder_few gs watchdog s (sized gs q5).words_a_rung

-- 02, Req 02: the sum of a scan from a legal table is the number of its writes that changed a variable's byte.
pub ladder_sum : (gs : Ladder) (watchdog : ℕ) (s : State) → Legal s
    → (scan_ladder gs watchdog s).state.moved ≡ s.moved + changes s.vars (ladder_writes gs watchdog s) s.bytes
ladder_sum gs watchdog s legal = ap (λ t. t.moved) (ladder_makes gs watchdog s) ∙ makes_moved (ladder_writes gs watchdog s) (untimed s) (legal_table s legal)

-- The same of the call, with its table, wherever it is not refused.
pub call_writes_tell : (vars : ℕ) (kept : Kept) (watchdog : ℕ) (table : List ℕ) (timers : List Timer) (now : ℕ) (halt : Halt) (counts : LadderCounts)
    → (call_ladder_scan vars kept table timers now watchdog).answer ≡ scanned halt counts
    → WritesTell vars (ladder_writes (ladder_of kept) watchdog (state_of vars table timers now)) table counts.moved (call_ladder_scan vars kept table timers now watchdog).table
call_writes_tell vars kept watchdog table timers now halt counts e = writes_tell vars kept table timers now watchdog halt counts e

-- And its sum fits 32 bits: at most 64 for each rung entered, since an output takes a word, every output but one a rear-or, and the front a word at least;
-- and at most 65,535 rungs are entered, which makes 4,194,240.
pub record SumFits (counts : LadderCounts) : Type 0 where
  pub a_rung : counts.moved ≤ most_rung_writes * counts.rungs
  pub a_scan : counts.moved ≤ most_rung_writes * most_rung_watchdog
  pub fits : counts.moved < 2 ^ 32

pub call_sum_fits : (vars : ℕ) (kept : Kept) (watchdog : ℕ) (table : List ℕ) (timers : List Timer) (now : ℕ) (halt : Halt) (counts : LadderCounts)
    → (call_ladder_scan vars kept table timers now watchdog).answer ≡ scanned halt counts → SumFits counts
call_sum_fits vars kept watchdog table timers now halt counts e =
    let few = sum_few vars kept table timers now watchdog halt counts e in
    let rungs = rungs_few vars kept table timers now watchdog halt counts e in
    let most = watchdog_in_range most_rung_watchdog watchdog (asked vars kept table timers now watchdog halt counts e).passed.watchdog in
    record { a_rung = few; a_scan = omega arith; fits = omega arith }

-- A ladder scan's answer, and all that it leaves but scratch, do not depend on scratch.
pub record ScansSame (x y : LadderResult) : Type 0 where
  pub halt : x.halt ≡ y.halt
  pub rungs : x.rungs ≡ y.rungs
  pub moved : x.state.moved ≡ y.state.moved
  pub same : SameButScratch x.state y.state

pub scratch_not_read : (gs : Ladder) (watchdog : ℕ) (s t : State) → question6 t.vars gs ≡ yes → Legal s → Legal t
    → SameButScratch s t → s.now ≡ t.now → s.moved ≡ t.moved → ScansSame (scan_ladder gs watchdog s) (scan_ladder gs watchdog t)
unfolding question6
scratch_not_read gs watchdog s t q6 hs ht e now m =
    let x = scan_alike t.vars gs watchdog s t (each_passed 6 (rung_below t.vars) gs q6) (alike_legal s t hs ht e now m) in
    record { halt = x.halt; rungs = x.rungs; moved = x.state.same_moved; same = alike_same x.state }

-- Scratch stays, and with it every byte from V on.
pub scratch_not_written : (gs : Ladder) (watchdog : ℕ) (s : State) → question6 s.vars gs ≡ yes → question16 s.vars s.timers ≡ yes
    → beyond_variables (scan_ladder gs watchdog s).state ≡ beyond_variables s
unfolding question6
scratch_not_written gs watchdog s q6 q16 = (scan_stays gs watchdog s (each_passed 6 (rung_below s.vars) gs q6) (timers_below s.vars s.timers q16)).same_beyond

-- 02, Req 06: each timer record keeps its variable, so question 16 takes the records that a scan leaves, where it took those that it got.
pub timers_still_legal : (gs : Ladder) (watchdog : ℕ) (s : State) → question6 s.vars gs ≡ yes → question16 s.vars s.timers ≡ yes
    → question16 s.vars (scan_ladder gs watchdog s).state.timers ≡ yes
unfolding question6
timers_still_legal gs watchdog s q6 q16 =
    let stays = scan_stays gs watchdog s (each_passed 6 (rung_below s.vars) gs q6) (timers_below s.vars s.timers q16) in
    same_question16 s.vars (scan_ladder gs watchdog s).state.timers s.timers stays.same_timed ∙ q16

-- The same of the call Ladder scan: "scratch t0 to t31, which a ladder scan, once past question 11, neither reads nor writes". Two tables that both get a "yes"
-- to question 11 and have the same variables, scanned with the same timer records at the same tick, get the same answer, a refusal too, and are left with the
-- same variables and timer records.
pub record CallsSame (vars now : ℕ) (x y : LadderScanCall) : Type 0 where
  pub answer : x.answer ≡ y.answer
  pub same : SameButScratch (state_of vars x.table x.timers now) (state_of vars y.table y.timers now)

pub call_reads_no_scratch : (vars : ℕ) (kept : Kept) (watchdog : ℕ) (timers : List Timer) (now : ℕ) (t u : List ℕ) → question11 vars t ≡ yes → question11 vars u ≡ yes
    → SameButScratch (state_of vars t timers now) (state_of vars u timers now)
    → CallsSame vars now (call_ladder_scan vars kept t timers now watchdog) (call_ladder_scan vars kept u timers now watchdog)
call_reads_no_scratch vars kept watchdog timers now t u ht hu e = let x = call_alike vars kept timers now watchdog t u ht hu e in record { answer = x.0; same = x.1 }

-- Every call, refused or not, leaves the bytes from V on.
pub call_writes_no_scratch : (vars : ℕ) (kept : Kept) (watchdog : ℕ) (table : List ℕ) (timers : List Timer) (now : ℕ)
    → beyond_variables (state_of vars (call_ladder_scan vars kept table timers now watchdog).table timers now) ≡ beyond_variables (state_of vars table timers now)
call_writes_no_scratch vars kept watchdog table timers now = call_stays vars kept timers now watchdog table
