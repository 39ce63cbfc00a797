-- Laws of Translate over rows: a copy of a row's fields is asked what the row is, has room where the row has, and gets what is written. Assumes nothing.
use Prim.Native.Nat.{ℕ, ◌≤◌, ◌<◌, min}
use native.Mathlib.Omega.{arith}
use mathlib.Core.Path.{◌≡◌, refl, sym, ap, subst, ◌∙◌}
use mathlib.Core.Bool.{Bool}
use mathlib.Core.Option.{none, some}
use mathlib.Core.List.{List, [], ◌∷◌, map}
use lib.Dec.{leb, leb→le}
use mir.Facts.{and_yes}
use lib.ListN.{length, take, replicate, length-replicate}
use lib.Seq.{length-take-le}
use Rattle.questions.specs.Questions.{Answer, Refusal, first_no, question13}
use Rattle.questions.proofs.Laws.Answers.{ask_passed}
use Rattle.questions.specs.Refusals.{refusal_of}
use Rattle.questions.specs.declared.Refusal.{Refusal as RefusalCase}
use Rattle.rungs.specs.Records.{RungRecord, most_records, none_entered}
use Rattle.rungs.specs.Buffers.{Buffers, buffers, as_buffers, needs, written}
use Rattle.rungs.proofs.Laws.Layout.{lay_length}
use Rattle.rows.specs.Parts.{scattered}
use Rattle.rows.proofs.Laws.Written.{same_asked, few_written, within_written, fields, same_written}
use Rattle.rows.specs.declared.Rows.{Rows}
use Rattle.ladder_definitions.specs.Kept.{Kept}
use Rattle.ladder_definitions.specs.Questions.{ladder_of, sizes_in_range, question5, ladder_answer}
use Rattle.ladder_definitions.proofs.Laws.Accepting.{accepted}
use Rattle.list_definitions.specs.Instruction.{instr_word}
use Rattle.list_definitions.specs.Machine.{InstructionList}
use Rattle.translation_definitions.specs.Translate.{list_records, translate}
use Rattle.translation_definitions.specs.TranslateKept.{Translated, counts_of, list_buffers, translated, translate_kept, counts_in, TranslateDone, translated_answer}
use Rattle.translation_definitions.proofs.Laws.Answers.{not_both, asked, call_refused, call_written, all_yes, counts_are}
use Rattle.translation_definitions.specs.declared.Counts.{Counts as CountsStruct}
use Rattle.ladder_rows.specs.Parts.{long_holds, LongRefused}
use Rattle.std.specs.Prelude.{Ok, Err}

module _ (vars : ℕ) (k : Kept) where
  abbrev list : InstructionList
  list = translate vars (ladder_of k)

  abbrev ks : List RungRecord
  ks = list.records

  abbrev nw : List ℕ
  nw = map instr_word list.code

  rungs_laid : length ks ≡ length (ladder_of k)
  unfolding translate list_records
  rungs_laid = lay_length _ _ 0 (ladder_of k)

  pub few_rungs : ladder_answer vars k ≡ none → length ks ≤ most_records
  unfolding question5 sizes_in_range
  few_rungs e =
      let n = rungs_laid in
      let l = leb→le (length (ladder_of k)) most_records (and_yes (leb (length (ladder_of k)) most_records) _ (ask_passed 5 _ (accepted vars k e).1.sizes)).0 in
      omega arith

  -- Translate, done on a copy of as many fields as a row of `lent` records has room for
  module _ (words : List ℕ) (lent : ℕ) (zl zo zn zt : List ℕ)
      (el : length zl ≡ min most_records lent) (eo : length zo ≡ min most_records lent) (en : length zn ≡ min most_records lent) (et : length zt ≡ min most_records lent)
      (r : Translated) (words' ls os ns times' : List ℕ) (done : TranslateDone (translate_kept vars k (buffers words zl zo zn zt)) r (buffers words' ls os ns times')) where
    abbrev lends : Buffers
    lends = buffers words zl zo zn zt

    still_asked : (rs : List RungRecord) (ts : List ℕ) → length rs ≡ lent → length ts ≡ length rs → asked vars k lends ≡ asked vars k (as_buffers words rs ts)
    still_asked = same_asked (ladder_answer vars k) nw ks few_rungs words lent zl zo zn zt el eo en et

    -- a refusal writes nothing
    pub row_refused : (x : RefusalCase) → r ≡ Err x → (rs : List RungRecord) (ts : List ℕ) → length rs ≡ lent → length ts ≡ length rs
        → TranslateDone (translate_kept vars k (as_buffers words rs ts)) (Err x) (as_buffers words' rs ts)
    unfolding translated_answer
    row_refused x is rs ts e f = go (asked vars k lends) refl
      where
        go : (a : Answer) → asked vars k lends ≡ a → TranslateDone (translate_kept vars k (as_buffers words rs ts)) (Err x) (as_buffers words' rs ts)
        go (some y) q =
            let small = call_refused vars k lends y q in
            let whole = call_refused vars k (as_buffers words rs ts) y (sym (still_asked rs ts e f) ∙ q) in
            let same = done.same_buffers ∙ ap (λ c. c.buffers) small in
            record {
              answer = ap translated_answer (sym is) ∙ done.answer ∙ ap (λ c. c.answer) small ∙ sym (ap (λ c. c.answer) whole);
              same_buffers = (λ i. as_buffers (same i).words rs ts) ∙ sym (ap (λ c. c.buffers) whole);
            }
        go none q = absurd (not_both _ (refusal_of x) (sym (ap (λ c. c.answer) (call_written vars k lends q)) ∙ sym done.answer ∙ ap translated_answer is))

    module _ (c : CountsStruct) (is : r ≡ Ok c) where
      answer_is : (translate_kept vars k lends).answer ≡ translated (counts_in c)
      unfolding translated_answer
      answer_is = sym done.answer ∙ ap translated_answer is

      was_written : asked vars k lends ≡ none
      was_written = all_yes vars k lends (counts_in c) answer_is

      rungs_are : c.rungs ≡ length ks
      unfolding counts_of
      rungs_are = ap (λ d. d.rungs) (counts_are vars k lends (counts_in c) answer_is)

      pub rungs_few : (c.rungs ≤ most_records) × (c.rungs ≤ lent)
      rungs_few = rw rungs_are (
        few_written (ladder_answer vars k) nw ks few_rungs words lent zl zo zn zt el eo en et was_written,
        within_written (ladder_answer vars k) nw ks few_rungs words lent zl zo zn zt el eo en et was_written,
      )

      -- the records that are written go into the row, with times of 0
      module _ (same-l : length ls ≡ length zl) (same-o : length os ≡ length zo) (same-n : length ns ≡ length zn) (rest : List ℕ) where
        abbrev rows_written : Rows
        rows_written = fields (ladder_answer vars k) nw ks few_rungs words lent zl zo zn zt el eo en et words' ls os ns times' rest

        written_done : (rs : List RungRecord) (ts : List ℕ) → length rs ≡ lent → length ts ≡ length rs
            → TranslateDone (translate_kept vars k (as_buffers words rs ts)) (Ok c) (as_buffers words' (scattered (length ks) rows_written rs) (written (none_entered (length ks)) ts))
        written_done rs ts e f =
            let small = call_written vars k lends was_written in
            let whole = call_written vars k (as_buffers words rs ts) (sym (still_asked rs ts e f) ∙ was_written) in
            record {
              answer = ap translated_answer (sym is) ∙ done.answer ∙ ap (λ c. c.answer) small ∙ sym (ap (λ c. c.answer) whole);
              same_buffers = same_written (ladder_answer vars k) nw ks few_rungs words lent zl zo zn zt el eo en et words' ls os ns times' rest (done.same_buffers ∙ ap (λ c. c.buffers) small) same-l same-o same-n rs ts
                  ∙ sym (ap (λ c. c.buffers) whole);
            }

        pub row_written : (rs rs' : List RungRecord) (ts ts' : List ℕ) → length rs ≡ lent → length ts ≡ length rs → rs' ≡ scattered c.rungs rows_written rs
            → ts' ≡ written (none_entered c.rungs) ts → TranslateDone (translate_kept vars k (as_buffers words rs ts)) (Ok c) (as_buffers words' rs' ts')
        row_written rs rs' ts ts' e f p q =
            rw (p ∙ ap (λ (n : ℕ). scattered n rows_written rs) rungs_are, q ∙ ap (λ (n : ℕ). written (none_entered n) ts) rungs_are) (written_done rs ts e f)

-- ---- a row of more than 256 records

first_no_lem : (a b : Answer) (r : Refusal) → a ≡ some r → first_no (a ∷ b ∷ []) ≡ some r
unfolding first_no
first_no_lem a b r e = rw (e, first_no)

pub long_refused : (vars : ℕ) (ws : List ℕ) (ks : List RungRecord) (long : Bool) (code : List ℕ) (rs : List RungRecord) (ts : List ℕ) (x : RefusalCase) → most_records < length ks
    → LongRefused vars long x → long ≡ long_holds ws ks → TranslateDone (translate_kept vars (record { words = ws; records = ks }) (as_buffers code rs ts)) (Err x) (as_buffers code rs ts)
unfolding translated_answer
long_refused vars ws ks long code rs ts x h refused held =
    let k : Kept = record { words = ws; records = ks } in
    let q = first_no_lem (ladder_answer vars k) (question13 (needs (list_buffers (translate vars (ladder_of k))) (as_buffers code rs ts))) (refusal_of x) (refused.same ws ks h held) in
    let whole = call_refused vars k (as_buffers code rs ts) (refusal_of x) q in
    record { answer = sym (ap (λ c. c.answer) whole); same_buffers = sym (ap (λ c. c.buffers) whole) }
