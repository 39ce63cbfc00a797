-- Laws of Read into a row: a copy of the row's fields has room where the row has, and gets what is written. Assumes nothing.
use Prim.Native.Nat.{ℕ, ◌≤◌, min}
use native.Mathlib.Omega.{arith}
use mathlib.Core.Path.{◌≡◌, refl, sym, ap, subst, ◌∙◌}
use mathlib.Core.Option.{none, some}
use mathlib.Core.List.{List}
use lib.Dec.{leb, leb→le}
use mir.Facts.{and_yes}
use lib.ListN.{length, take, replicate, length-replicate}
use lib.Seq.{length-take-le}
use Rattle.questions.specs.Questions.{Answer, question1, question2}
use Rattle.questions.proofs.Laws.Answers.{first_yes, later_yes, ask_passed}
use Rattle.questions.specs.Refusals.{refusal_of}
use Rattle.questions.specs.declared.Refusal.{Refusal as RefusalCase}
use Rattle.rungs.specs.Records.{RungRecord, most_records, none_entered}
use Rattle.rungs.specs.Buffers.{Buffers, buffers, as_buffers, written}
use Rattle.rungs.proofs.Laws.Layout.{lay_length}
use Rattle.rows.specs.Parts.{scattered}
use Rattle.rows.proofs.Laws.Written.{same_asked, few_written, within_written, fields, same_written}
use Rattle.ladder_definitions.specs.Tree.{Ladder}
use Rattle.ladder_definitions.specs.Kept.{rung_words, encode}
use Rattle.ladder_definitions.specs.Questions.{sizes_in_range, question5}
use Rattle.text_grammar.specs.Questions.{question3}
use Rattle.text_definitions.specs.Read.{TextRead, text_ladder, kept, read_text, ReadDone, text_read_answer}
use Rattle.text_definitions.proofs.Laws.Reads.{not_both, before, asked, call_refused, call_kept_lem, all_yes, rungs_count}
use Rattle.text_definitions.specs.declared.Counts.{Counts}
use Rattle.rows.specs.declared.Rows.{Rows}
use Rattle.std.specs.Prelude.{Ok, Err}

module _ (vars : ℕ) (text : List ℕ) where
  abbrev gs : Ladder
  gs = text_ladder text

  abbrev ks : List RungRecord
  ks = (encode gs).records

  abbrev nw : List ℕ
  nw = (encode gs).words

  rungs_laid : length ks ≡ length gs
  unfolding encode
  rungs_laid = lay_length (λ g. g.label) (λ g. length (rung_words g)) 0 gs

  pub few_rungs : before vars text ≡ none → length ks ≤ most_records
  unfolding question5 sizes_in_range
  few_rungs e =
      let five = first_yes (question5 gs) _ (later_yes (question3 text) _ (later_yes (question2 (length text)) _ (later_yes (question1 vars) _ e))) in
      let n = rungs_laid in
      let l = leb→le (length gs) most_records (and_yes (leb (length gs) most_records) _ (ask_passed 5 _ five)).0 in
      omega arith

  -- Read, done on a copy of as many fields as a row of `lent` records has room for
  module _ (words : List ℕ) (lent : ℕ) (zl zo zn zt : List ℕ)
      (el : length zl ≡ min most_records lent) (eo : length zo ≡ min most_records lent) (en : length zn ≡ min most_records lent) (et : length zt ≡ min most_records lent)
      (r : TextRead) (words' ls os ns times' : List ℕ) (done : ReadDone (read_text vars text (buffers words zl zo zn zt)) r (buffers words' ls os ns times')) where
    abbrev lends : Buffers
    lends = buffers words zl zo zn zt

    still_asked : (rs : List RungRecord) (ts : List ℕ) → length rs ≡ lent → length ts ≡ length rs → asked vars text lends ≡ asked vars text (as_buffers words rs ts)
    still_asked = same_asked (before vars text) nw ks few_rungs words lent zl zo zn zt el eo en et

    -- a refusal writes nothing
    pub row_refused : (x : RefusalCase) → r ≡ Err x → (rs : List RungRecord) (ts : List ℕ) → length rs ≡ lent → length ts ≡ length rs
        → ReadDone (read_text vars text (as_buffers words rs ts)) (Err x) (as_buffers words' rs ts)
    unfolding text_read_answer
    row_refused x is rs ts e f = go (asked vars text lends) refl
      where
        go : (a : Answer) → asked vars text lends ≡ a → ReadDone (read_text vars text (as_buffers words rs ts)) (Err x) (as_buffers words' rs ts)
        go (some y) q =
            let small = call_refused vars text lends y q in
            let whole = call_refused vars text (as_buffers words rs ts) y (sym (still_asked rs ts e f) ∙ q) in
            let same = done.same_buffers ∙ ap (λ k. k.buffers) small in
            record {
              answer = ap text_read_answer (sym is) ∙ done.answer ∙ ap (λ k. k.answer) small ∙ sym (ap (λ k. k.answer) whole);
              same_buffers = (λ i. as_buffers (same i).words rs ts) ∙ sym (ap (λ k. k.buffers) whole);
            }
        go none q = absurd (not_both _ _ (refusal_of x) (sym (ap (λ k. k.answer) (call_kept_lem vars text lends q)) ∙ sym done.answer ∙ ap text_read_answer is))

    module _ (c : Counts) (is : r ≡ Ok c) where
      answer_is : (read_text vars text lends).answer ≡ kept c.words c.rungs
      unfolding text_read_answer
      answer_is = sym done.answer ∙ ap text_read_answer is

      was_kept : asked vars text lends ≡ none
      was_kept = all_yes vars text lends c.words c.rungs answer_is

      rungs_are : c.rungs ≡ length ks
      rungs_are = rungs_count vars text lends c.words c.rungs answer_is ∙ sym rungs_laid

      pub rungs_few : (c.rungs ≤ most_records) × (c.rungs ≤ lent)
      rungs_few = rw rungs_are (
        few_written (before vars text) nw ks few_rungs words lent zl zo zn zt el eo en et was_kept,
        within_written (before vars text) nw ks few_rungs words lent zl zo zn zt el eo en et was_kept,
      )

      -- the records that are kept go into the row, with times of 0
      module _ (same-l : length ls ≡ length zl) (same-o : length os ≡ length zo) (same-n : length ns ≡ length zn) (rest : List ℕ) where
        abbrev rows_read : Rows
        rows_read = fields (before vars text) nw ks few_rungs words lent zl zo zn zt el eo en et words' ls os ns times' rest

        kept_done : (rs : List RungRecord) (ts : List ℕ) → length rs ≡ lent → length ts ≡ length rs
            → ReadDone (read_text vars text (as_buffers words rs ts)) (Ok c) (as_buffers words' (scattered (length ks) rows_read rs) (written (none_entered (length ks)) ts))
        kept_done rs ts e f =
            let small = call_kept_lem vars text lends was_kept in
            let whole = call_kept_lem vars text (as_buffers words rs ts) (sym (still_asked rs ts e f) ∙ was_kept) in
            record {
              answer = ap text_read_answer (sym is) ∙ done.answer ∙ ap (λ k. k.answer) small ∙ sym (ap (λ k. k.answer) whole);
              same_buffers = same_written (before vars text) nw ks few_rungs words lent zl zo zn zt el eo en et words' ls os ns times' rest (done.same_buffers ∙ ap (λ k. k.buffers) small) same-l same-o same-n rs ts
                  ∙ sym (ap (λ k. k.buffers) whole);
            }

        pub row_kept : (rs rs' : List RungRecord) (ts ts' : List ℕ) → length rs ≡ lent → length ts ≡ length rs → rs' ≡ scattered c.rungs rows_read rs
            → ts' ≡ written (none_entered c.rungs) ts → ReadDone (read_text vars text (as_buffers words rs ts)) (Ok c) (as_buffers words' rs' ts')
        row_kept rs rs' ts ts' e f p q =
            rw (p ∙ ap (λ (n : ℕ). scattered n rows_read rs) rungs_are, q ∙ ap (λ (n : ℕ). written (none_entered n) ts) rungs_are) (kept_done rs ts e f)
