-- Laws of the questions in order: the first "no" of questions 4 to 8, of those that Translate puts too, and of Ladder scan's. Assumes nothing.
use Prim.Native.Nat.{ℕ, ◌/◌, ◌≤◌}
use mathlib.Core.Path.{◌≡◌, refl, sym, ap, ◌∙◌}
use mathlib.Core.Bool.{Bool, true, false}
use mathlib.Core.Option.{none, some}
use mathlib.Core.List.{List, [], ◌∷◌, map}
use lib.Dec.{leb}
use lib.ListN.{length}
use Rattle.questions.specs.Questions.{Answer, ask, ask_each, first_no, vars_in_range, question1, question12, most_rung_watchdog}
use Rattle.questions.specs.Tests.{first_failed}
use Rattle.questions.specs.Refusals.{refusal_of, verdict_answer}
use Rattle.questions.proofs.Laws.Answers.{first_yes, first_append}
use Rattle.questions.specs.declared.Refusal.{Refusal as RefusalCase}
use Rattle.questions.specs.declared.Refusal.TheVariants.{Variables, Kept as KeptCase, Sizes, Variable, Label, Jump, Scratch, Table, Watchdog, Timers, TimerNumber}
use Rattle.std.specs.Prelude.{Option as Place, Some, None, Ok, Err}
use Rattle.table.specs.Questions.{table_in_range, question11, timers_in_range, question16}
use Rattle.table.specs.TimerRecords.{number_timers}
use Rattle.rungs.proofs.Laws.Rows.{row_lengths}
use Rattle.rungs.proofs.Laws.Layout.{lay_lengths}
use Rattle.ladder_definitions.specs.Tree.{Ladder, labels}
use Rattle.ladder_definitions.specs.Kept.{Kept, kept_of, rung_words, encode, decode}
use Rattle.ladder_definitions.specs.Questions.{ladder_of, holds_ladder, question4, sizes_in_range, question5, rung_below, question6, new_labels, question7, rung_leads, question8, scratch_in_range, question9, timers_known, question17, form_questions, ladder_questions, ladder_answer}
use Rattle.ladder_definitions.proofs.Laws.Accepting.{encode_decode, holds}
use Rattle.ladder_definitions.specs.Held.{LadderHeld}
use Rattle.ladder_definitions.proofs.Laws.Held.{rows, even, held}
use Rattle.ladder_definitions.specs.LadderScan.{scan_questions}
use Rattle.ladder_names.specs.Asking.{LadderIn, place_of, SizesAsked, VariablesAsked, LabelsAsked, JumpsAsked, TimersAsked}
use Rattle.ladder_scratch.specs.Measuring.{ScratchAsked}
use Rattle.ladder.proofs.Scans.{record_count}

-- ---- what question 4 took

module _ (ws ls os ns ts : List ℕ) (gs : Ladder) (e : decode (kept_of ws ls os ns ts) ≡ some gs) (h : 1 ≤ length gs) where
  ladder_in : LadderIn ws ns gs
  unfolding encode
  ladder_in = record {
    words = ap (λ k. k.words) (encode_decode (kept_of ws ls os ns ts) gs e).0;
    lengths = sym (row_lengths ls os ns (even ws ls os ns ts gs e h)) ∙ ap (λ rs. map (λ r. r.length) rs) (rows ws ls os ns ts gs e h) ∙ lay_lengths (λ g. g.label) (λ g. length (rung_words g)) 0 gs;
    fits = (encode_decode (kept_of ws ls os ns ts) gs e).1;
  }

-- the same first, and then others with the same first "no"
under : (answer : Answer) (xs ys : List Answer) → first_no xs ≡ first_no ys → first_no (answer ∷ xs) ≡ first_no (answer ∷ ys)
unfolding first_no
under none xs ys e = e
under (some r) xs ys e = refl

module _ (vars : ℕ) (ws ls os ns ts : List ℕ) where
  abbrev kept : Kept
  kept = kept_of ws ls os ns ts

  abbrev gs : Ladder
  gs = ladder_of kept

  -- the answer of questions 4 to 8
  abbrev pub form_answer : Answer
  form_answer = first_no (form_questions vars kept)

  module _ (e : question4 kept ≡ none) where
    inside : LadderIn ws ns gs
    inside = ladder_in ws ls os ns ts gs (holds kept e).0 (holds kept e).1

    stands : LadderHeld ws ls os gs
    stands = held ws ls os ns ts gs (holds kept e).0 (holds kept e).1

  -- ---- questions 4 to 8

  -- the questions that got a "yes": 4; 4 and 5; and so on
  pub record Past4 : Type 0 where
    pub yes4 : holds_ladder kept ≡ true

  pub record Past5 : Type 0 where
    pub past : Past4
    pub yes5 : sizes_in_range gs ≡ true

  pub record Past6 : Type 0 where
    pub past : Past5
    pub yes6 : first_failed (map (rung_below vars) gs) ≡ none

  pub record Past7 : Type 0 where
    pub past : Past6
    pub yes7 : first_failed (new_labels [] (labels gs)) ≡ none

  pub refused4 : holds_ladder kept ≡ false → verdict_answer (Err KeptCase) ≡ form_answer
  unfolding verdict_answer refusal_of form_questions first_no question4 ask
  refused4 e = rw e

  module _ (p : Past4) where
    passed4 : question4 kept ≡ none
    unfolding question4 ask
    passed4 = rw p.yes4

    pub refused5 : (r : Bool) → SizesAsked ws ns r → r ≡ false → verdict_answer (Err Sizes) ≡ form_answer
    unfolding verdict_answer refusal_of form_questions first_no question4 question5 ask
    refused5 r a e = let n : sizes_in_range gs ≡ false = sym (a.same gs (inside passed4)) ∙ e in rw (p.yes4, n)

    pub past5 : (r : Bool) → SizesAsked ws ns r → r ≡ true → Past5
    past5 r a e = record { past = p; yes5 = sym (a.same gs (inside passed4)) ∙ e }

  module _ (p : Past5) where
    pub refused6 : (r : Place ℕ) (i : ℕ) → VariablesAsked vars ws ns r → r ≡ Some i → verdict_answer (Err (Variable i)) ≡ form_answer
    unfolding verdict_answer refusal_of form_questions first_no question4 question5 question6 ask ask_each place_of
    refused6 r i a e =
        let n : first_failed (map (rung_below vars) gs) ≡ some i = sym (a.same gs (inside (passed4 p.past))) ∙ ap place_of e in
        rw (p.past.yes4, p.yes5, n)

    pub past6 : (r : Place ℕ) → VariablesAsked vars ws ns r → r ≡ None → Past6
    unfolding place_of
    past6 r a e = record { past = p; yes6 = sym (a.same gs (inside (passed4 p.past))) ∙ ap place_of e }

  module _ (p : Past6) where
    labelled : ls ≡ labels gs
    labelled = (stands (passed4 p.past.past)).same_labels

    pub refused7 : (r : Place ℕ) (i : ℕ) → LabelsAsked ls r → r ≡ Some i → verdict_answer (Err (Label i)) ≡ form_answer
    unfolding verdict_answer refusal_of form_questions first_no question4 question5 question6 question7 ask ask_each place_of
    refused7 r i a e =
        let n : first_failed (new_labels [] (labels gs)) ≡ some i = sym (ap (λ l. first_failed (new_labels [] l)) labelled) ∙ sym a.same ∙ ap place_of e in
        rw (p.past.past.yes4, p.past.yes5, p.yes6, n)

    pub past7 : (r : Place ℕ) → LabelsAsked ls r → r ≡ None → Past7
    unfolding place_of
    past7 r a e = record { past = p; yes7 = sym (ap (λ l. first_failed (new_labels [] l)) labelled) ∙ sym a.same ∙ ap place_of e }

  module _ (p : Past7) where
    leads : (r : Place ℕ) → JumpsAsked ls ws ns r → place_of r ≡ first_failed (map (rung_leads (labels gs)) gs)
    leads r a = a.same gs (inside (passed4 p.past.past.past)) ∙ ap (λ l. first_failed (map (rung_leads l) gs)) (labelled p.past)

    pub refused8 : (r : Place ℕ) (i : ℕ) → JumpsAsked ls ws ns r → r ≡ Some i → verdict_answer (Err (Jump i)) ≡ form_answer
    unfolding verdict_answer refusal_of form_questions first_no question4 question5 question6 question7 question8 ask ask_each place_of
    refused8 r i a e =
        let n : first_failed (map (rung_leads (labels gs)) gs) ≡ some i = sym (leads r a) ∙ ap place_of e in
        rw (p.past.past.past.yes4, p.past.past.yes5, p.past.yes6, p.yes7, n)

    pub accepted8 : (r : Place ℕ) → JumpsAsked ls ws ns r → r ≡ None → verdict_answer (Ok tt) ≡ form_answer
    unfolding verdict_answer form_questions first_no question4 question5 question6 question7 question8 ask ask_each place_of
    accepted8 r a e =
        let n : first_failed (map (rung_leads (labels gs)) gs) ≡ none = sym (leads r a) ∙ ap place_of e in
        rw (p.past.past.past.yes4, p.past.past.yes5, p.past.yes6, p.yes7, n)

  module _ (e : form_answer ≡ none) where
    formed4 : question4 kept ≡ none
    unfolding form_questions
    formed4 = first_yes (question4 kept) _ e

    scratch_asked : {r : Bool} → ScratchAsked ws os ns r → r ≡ scratch_in_range gs
    scratch_asked a = a.same ls gs (stands formed4) (inside formed4).lengths

    timers_asked : {records : ℕ} {r : Bool} → TimersAsked records ws r → r ≡ timers_known records gs
    timers_asked a = a.same gs (inside formed4)

  -- ---- the questions that Translate puts too

  answer_first : ladder_answer vars kept ≡ first_no (question1 vars ∷ form_answer ∷ question9 gs ∷ [])
  unfolding ladder_answer ladder_questions
  answer_first = under (question1 vars) _ _ (first_append (form_questions vars kept) (question9 gs ∷ []))

  pub refused1 : vars_in_range vars ≡ false → verdict_answer (Err Variables) ≡ ladder_answer vars kept
  unfolding verdict_answer refusal_of first_no question1 ask
  refused1 e = rw (answer_first, e)

  module _ (yes1 : vars_in_range vars ≡ true) where
    pub refused_form : (refusal : RefusalCase) → form_answer ≡ some (refusal_of refusal) → verdict_answer (Err refusal) ≡ ladder_answer vars kept
    unfolding verdict_answer first_no question1 ask
    refused_form refusal e = rw (answer_first, yes1, e)

    module _ (formed : form_answer ≡ none) (r : Bool) (a : ScratchAsked ws os ns r) where
      pub refused9 : r ≡ false → verdict_answer (Err Scratch) ≡ ladder_answer vars kept
      unfolding verdict_answer refusal_of first_no question1 question9 ask
      refused9 e = let n : scratch_in_range gs ≡ false = sym (scratch_asked formed a) ∙ e in rw (answer_first, yes1, formed, n)

      pub accepted9 : r ≡ true → verdict_answer (Ok tt) ≡ ladder_answer vars kept
      unfolding verdict_answer first_no question1 question9 ask
      accepted9 e = let n : scratch_in_range gs ≡ true = sym (scratch_asked formed a) ∙ e in rw (answer_first, yes1, formed, n)

  -- ---- Ladder scan's questions

  module _ (t ms : List ℕ) (w : ℕ) where
    -- the answer of all of them
    abbrev scan_answer : Answer
    scan_answer = scan_questions vars kept t (number_timers ms) w

    scan_first : scan_answer
        ≡ first_no (question1 vars
        ∷ question16 vars (number_timers ms)
        ∷ form_answer
        ∷ question17 (length (number_timers ms)) gs
        ∷ question9 gs
        ∷ question11 vars t
        ∷ question12 most_rung_watchdog w
        ∷ [])
    unfolding scan_questions
    scan_first = under (question1 vars) _ _ (under (question16 vars (number_timers ms)) _ _ (first_append (form_questions vars kept) _))

    -- those that got a "yes": 1; 1 and 16; and so on
    pub record Asked1 : Type 0 where
      pub yes1 : vars_in_range vars ≡ true

    pub record Asked16 : Type 0 where
      pub past : Asked1
      pub yes16 : timers_in_range vars (number_timers ms) ≡ true

    pub record Asked8 : Type 0 where
      pub past : Asked16
      pub formed : form_answer ≡ none

    pub record Asked17 : Type 0 where
      pub past : Asked8
      pub yes17 : timers_known (length (number_timers ms)) gs ≡ true

    pub record Asked9 : Type 0 where
      pub past : Asked17
      pub yes9 : scratch_in_range gs ≡ true

    pub record Asked11 : Type 0 where
      pub past : Asked9
      pub yes11 : table_in_range vars t ≡ true

    pub scan_refused1 : vars_in_range vars ≡ false → verdict_answer (Err Variables) ≡ scan_answer
    unfolding verdict_answer refusal_of first_no question1 ask
    scan_refused1 e = rw (scan_first, e)

    pub scan_refused16 : Asked1 → timers_in_range vars (number_timers ms) ≡ false → verdict_answer (Err Timers) ≡ scan_answer
    unfolding verdict_answer refusal_of first_no question1 question16 ask
    scan_refused16 p e = rw (scan_first, p.yes1, e)

    pub scan_refused8 : Asked16 → (refusal : RefusalCase) → form_answer ≡ some (refusal_of refusal) → verdict_answer (Err refusal) ≡ scan_answer
    unfolding verdict_answer first_no question1 question16 ask
    scan_refused8 p refusal e = rw (scan_first, p.past.yes1, p.yes16, e)

    module _ (p : Asked8) (r : Bool) (a : TimersAsked (length ms / 5) ws r) where
      known : r ≡ timers_known (length (number_timers ms)) gs
      known = timers_asked p.formed a ∙ ap (λ n. timers_known n gs) (record_count vars ms p.past.yes16)

      pub scan_refused17 : r ≡ false → verdict_answer (Err TimerNumber) ≡ scan_answer
      unfolding verdict_answer refusal_of first_no question1 question16 question17 ask
      scan_refused17 e = let n : timers_known (length (number_timers ms)) gs ≡ false = sym known ∙ e in rw (scan_first, p.past.past.yes1, p.past.yes16, p.formed, n)

      pub asked17 : r ≡ true → Asked17
      asked17 e = record { past = p; yes17 = sym known ∙ e }

    module _ (p : Asked17) (r : Bool) (a : ScratchAsked ws os ns r) where
      pub scan_refused9 : r ≡ false → verdict_answer (Err Scratch) ≡ scan_answer
      unfolding verdict_answer refusal_of first_no question1 question16 question17 question9 ask
      scan_refused9 e =
          let n : scratch_in_range gs ≡ false = sym (scratch_asked p.past.formed a) ∙ e in
          rw (scan_first, p.past.past.past.yes1, p.past.past.yes16, p.past.formed, p.yes17, n)

      pub asked9 : r ≡ true → Asked9
      asked9 e = record { past = p; yes9 = sym (scratch_asked p.past.formed a) ∙ e }

    pub scan_refused11 : Asked9 → table_in_range vars t ≡ false → verdict_answer (Err Table) ≡ scan_answer
    unfolding verdict_answer refusal_of first_no question1 question16 question17 question9 question11 ask
    scan_refused11 p e = rw (scan_first, p.past.past.past.past.yes1, p.past.past.past.yes16, p.past.past.formed, p.past.yes17, p.yes9, e)

    module _ (p : Asked11) where
      pub scan_refused12 : leb w most_rung_watchdog ≡ false → verdict_answer (Err Watchdog) ≡ scan_answer
      unfolding verdict_answer refusal_of first_no question1 question16 question17 question9 question11 question12 ask
      scan_refused12 e = rw (scan_first, p.past.past.past.past.past.yes1, p.past.past.past.past.yes16, p.past.past.past.formed, p.past.past.yes17, p.past.yes9, p.yes11, e)

      pub scan_accepted12 : leb w most_rung_watchdog ≡ true → verdict_answer (Ok tt) ≡ scan_answer
      unfolding verdict_answer first_no question1 question16 question17 question9 question11 question12 ask
      scan_accepted12 e = rw (scan_first, p.past.past.past.past.past.yes1, p.past.past.past.past.yes16, p.past.past.past.formed, p.past.past.yes17, p.past.yes9, p.yes11, e)
