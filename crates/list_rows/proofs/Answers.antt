-- Laws of List scan and Listing done on a copy of a row's fields: what they say of the row. Assumes nothing.
use Prim.Native.Nat.{ℕ, ◌<◌}
use native.Mathlib.Omega.{arith}
use mathlib.Core.Path.{◌≡◌, refl, sym, subst, ◌∙◌}
use mathlib.Core.Bool.{true, false, ◌&&◌, and-false}
use mathlib.Core.List.{List, ◌++◌}
use Rattle.std.specs.Prelude.{Ok, Err}
use lib.Dec.{leb}
use lib.ListN.{length, take}
use lib.Seq.{take_at, take_all}
use borrow.Author.Tests.{lt-leb}
use Rattle.questions.specs.Questions.{ask, first_no, vars_in_range, question1}
use Rattle.questions.specs.Refusals.{refusal_of}
use Rattle.questions.specs.declared.Refusal.{Refusal}
use Rattle.questions.specs.declared.Refusal.TheVariants.{Variables, List as ListCase, Timers}
use Rattle.table.specs.Questions.{timers_in_range, question16}
use Rattle.table.specs.TimerRecords.{number_timers}
use Rattle.table.specs.declared.Halt.{Halt as HaltCase}
use Rattle.table.specs.declared.Halt.TheVariants.{Ended as EndedCase, Stopped as StoppedCase}
use Rattle.rungs.specs.Records.{RungRecord, most_records}
use Rattle.rows.specs.Parts.{times_put}
use Rattle.rows.proofs.Laws.Written.{times_put_all}
use Rattle.list_definitions.specs.Questions.{most_instructions, list_in_range, question10, list_answer}
use Rattle.list_definitions.specs.ListScan.{ListScanCall, ListScanned, scan_ends, scan_questions, call_list_scan, list_scanned_answer, ListScanNumbers}
use Rattle.list_definitions.specs.declared.Counts.{Counts}
use Rattle.list_definitions.proofs.Laws.Answers.{asked, times_left}
use Rattle.list_rows.specs.Parts.{LongRefused, LongScanRefused}

-- ---- a row of more than 256 records

long_row : (vars : ℕ) (ws : List ℕ) (rs : List RungRecord) → most_records < length rs → list_in_range vars ws rs ≡ false
unfolding list_in_range
long_row vars ws rs h = rw (lt-leb (length rs) most_records h, and-false (leb 1 (length rs))) (and-false (leb 1 (length ws) && leb (length ws) most_instructions))

pub long_variables : (vars : ℕ) → vars_in_range vars ≡ false → LongRefused vars Variables
unfolding refusal_of list_answer first_no question1 ask
long_variables vars e = record { same = λ ws rs h. rw e }

pub long_list : (vars : ℕ) → vars_in_range vars ≡ true → LongRefused vars ListCase
unfolding refusal_of list_answer first_no question1 question10 ask
long_list vars e = record { same = λ ws rs h. rw (e, long_row vars ws rs h) }

-- the same of List scan, where question 16 stands between
module _ (vars : ℕ) (ks : List ℕ) where
  pub long_scan_variables : vars_in_range vars ≡ false → LongScanRefused vars ks Variables
  unfolding refusal_of scan_questions first_no question1 ask
  long_scan_variables e = record { same = λ ws rs t w h. rw e }

  pub long_scan_timers : vars_in_range vars ≡ true → timers_in_range vars (number_timers ks) ≡ false → LongScanRefused vars ks Timers
  unfolding refusal_of scan_questions first_no question1 question16 ask
  long_scan_timers e f = record { same = λ ws rs t w h. rw (e, f) }

  pub long_scan_list : (x : Refusal) → vars_in_range vars ≡ true → timers_in_range vars (number_timers ks) ≡ true → LongRefused vars x → LongScanRefused vars ks x
  unfolding scan_questions list_answer first_no question1 question16 question10 ask
  long_scan_list x e f r = record {
    same = λ ws rs t w h.
        let l = long_row vars ws rs h in
        rw (e, f, l) (rw (e, l) at (r.same ws rs h));
  }

-- ---- List scan

module _ (vars : ℕ) (ws : List ℕ) (rs : List RungRecord) (t : List ℕ) (ks : List ℕ) (now w : ℕ) where
  abbrev call : ListScanCall
  call = call_list_scan vars ws rs t (number_timers ks) now w

  -- with other times before and after
  on_times : (r : ListScanned) (u ms zs zs' ts ts' : List ℕ) → ListScanNumbers call r u ks ms zs zs' → ts' ≡ call.times ts → ListScanNumbers call r u ks ms ts ts'
  on_times r u ms zs zs' ts ts' n same_times =
      let d = n.done in
      record { done = record { answer = d.answer; same_table = d.same_table; same_timers = d.same_timers; same_times = same_times }; numbers = n.numbers }

  -- a refused one touches none
  pub refused_times : (x : Refusal) (u ms zs zs' ts : List ℕ) → ListScanNumbers call (Err x) u ks ms zs zs' → ListScanNumbers call (Err x) u ks ms ts ts
  unfolding list_scanned_answer
  refused_times x u ms zs zs' ts n =
      on_times (Err x) u ms zs zs' ts ts n (sym (times_left vars ws rs t (number_timers ks) now w (refusal_of x) (sym n.done.answer) ts))

  -- and one that isn't refused "sets every field for that scan alone", whatever stood there
  any_times : (h : HaltCase Counts) → call.answer ≡ list_scanned_answer (Ok h) → (before other : List ℕ) → call.times before ≡ call.times other
  unfolding list_scanned_answer scan_ends
  any_times h e before other = go h e
    where
      same : {x : ListScanCall} → call ≡ x → x.times before ≡ x.times other → call.times before ≡ call.times other
      same q k = rw q k

      go : (x : HaltCase Counts) → call.answer ≡ list_scanned_answer (Ok x) → call.times before ≡ call.times other
      go (EndedCase c) q = same (asked vars ws rs t (number_timers ks) now w _ _ q).call refl
      go (StoppedCase c) q = same (asked vars ws rs t (number_timers ks) now w _ _ q).call refl

  pub set_times : (h : HaltCase Counts) (u ms zs zs' ts ts' : List ℕ) → ListScanNumbers call (Ok h) u ks ms zs zs' → ts' ≡ zs' → ListScanNumbers call (Ok h) u ks ms ts ts'
  set_times h u ms zs zs' ts ts' n e = on_times (Ok h) u ms zs zs' ts ts' n (e ∙ n.done.same_times ∙ any_times h (sym n.done.answer) zs ts)

-- as many times stored as the row has records: those of the scan, which stand at the beginning of an array
pub all_stored : (n : ℕ) (zs rest ts : List ℕ) → length zs ≡ n → length ts ≡ n → times_put (length (take n (zs ++ rest))) (take n (zs ++ rest)) ts ≡ zs
all_stored n zs rest ts e f =
    let all : take n (zs ++ rest) ≡ zs = take_at zs rest n e in
    rw all (subst (λ (m : ℕ). times_put m zs ts ≡ zs) (f ∙ sym e) (times_put_all zs ts ∙ take_all (length ts) zs (omega arith)))
