-- A "no" to question 1 or 10 is the answer of List scan, and after a "yes" to question 14 of Listing, whatever their later questions are; and what a refused
-- List scan leaves. Assumes nothing.
use Rattle.std.specs.Prelude.{ℕ, ◌≡◌, refl, true, false, List, [], ◌∷◌, Err}
use Rattle.std.proofs.Common.{◌∙◌}
use Rattle.std.proofs.Math.Option.{none, some}
use Rattle.std.proofs.Math.ListN.{length}
use Rattle.questions.specs.Questions.{Answer, Refusal, ask, first_no, question1, question13}
use Rattle.questions.specs.Refusals.{refusal_of}
use Rattle.questions.specs.declared.Refusal.{Refusal as RefusalCase}
use Rattle.questions.specs.declared.Refusal.TheVariants.{NameTable}
use Rattle.table.specs.Timer.{Timer}
use Rattle.rungs.specs.Records.{RungRecord}
use Rattle.list_definitions.specs.Questions.{question10, list_answer}
use Rattle.list_definitions.specs.ListScan.{list_of, scan_questions, call_list_scan, list_scanned_answer, ListScanDone}
use Rattle.list_definitions.specs.Listing.{listing_text, listing, listed_answer, ListingDone}
use Rattle.list_definitions.specs.Names.{names_in, is_name_table, question14}

first_refused : (a b : Answer) (later : List Answer) (r : Refusal) → first_no (a ∷ b ∷ []) ≡ some r → first_no (a ∷ b ∷ later) ≡ some r
unfolding first_no
first_refused (some x) b later r e = e
first_refused none (some x) later r e = e
first_refused none none later r e = cc

pub first_accepted : (a b : Answer) (later : List Answer) → first_no (a ∷ b ∷ []) ≡ none → first_no (a ∷ b ∷ later) ≡ first_no later
unfolding first_no
first_accepted none none later e = refl
first_accepted none (some x) later e = cc
first_accepted (some x) b later e = cc

-- question 14 by its test
pub names_refused : (table : List ℕ) → is_name_table table ≡ false → (later : List Answer) → first_no (question14 table ∷ later) ≡ some (refusal_of NameTable)
unfolding first_no question14 ask refusal_of
names_refused table e later = rw e refl

pub names_accepted : (table : List ℕ) → is_name_table table ≡ true → (later : List Answer) → first_no (question14 table ∷ later) ≡ first_no later
unfolding first_no question14 ask
names_accepted table e later = rw e refl

module _ (vars : ℕ) (ws : List ℕ) (rs : List RungRecord) where
  pub scan_refuses : (t : List ℕ) (timers : List Timer) (now w : ℕ) (refusal : RefusalCase) (times : List ℕ) → scan_questions vars ws rs t timers w ≡ some (refusal_of refusal)
      → ListScanDone (call_list_scan vars ws rs t timers now w) (Err refusal) t timers times times
  unfolding call_list_scan list_scanned_answer
  scan_refuses t timers now w refusal times e =
      record { answer = rw (e, call_list_scan); same_table = rw (e, call_list_scan); same_timers = rw (e, call_list_scan); same_times = rw (e, call_list_scan) }

  pub listing_unnamed : (table out : List ℕ) → is_name_table table ≡ false → ListingDone (listing table vars ws rs out) (Err NameTable) out
  unfolding listing listed_answer refusal_of
  listing_unnamed table out e =
      let room = question13 (record { needed = length (listing_text (names_in table) vars (list_of ws rs)); lent = length out } ∷ []) in
      let q = names_refused table e (question1 vars ∷ question10 vars ws rs ∷ room ∷ []) in
      record { answer = rw (q, listing); same_buffer = rw (q, listing) }

  pub listing_refused_lem : (table out : List ℕ) (refusal : RefusalCase) → is_name_table table ≡ true → list_answer vars ws rs ≡ some (refusal_of refusal)
      → ListingDone (listing table vars ws rs out) (Err refusal) out
  unfolding list_answer listing listed_answer
  listing_refused_lem table out refusal named e =
      let room = question13 (record { needed = length (listing_text (names_in table) vars (list_of ws rs)); lent = length out } ∷ []) in
      let q = names_accepted table named _ ∙ first_refused (question1 vars) (question10 vars ws rs) (room ∷ []) (refusal_of refusal) e in
      record { answer = rw (q, listing); same_buffer = rw (q, listing) }
