-- Demand 3 over rows of rung records, from demand 3 over the calls' definitions: the first records of a row that Translate left are those that it wrote.
-- Assumes nothing.
use Rattle.std.specs.Prelude.{ℕ, min, ◌≡◌, refl, List, length, take, Ok, Err}
use Rattle.std.proofs.Math.Path.{sym}
use Rattle.std.proofs.Common.{ap, ◌∙◌, length-take}
use Rattle.std.proofs.lemmas.List.{length-map}
use Rattle.questions.proofs.Laws.Maps.{take_map}
use Rattle.rungs.specs.Records.{RungRecord, row_of}
use Rattle.rungs.specs.Buffers.{Buffers, as_buffers, written_words, written_records}
use Rattle.rungs.proofs.Laws.Rows.{row_back, row_fields}
use Rattle.rows.specs.declared.Rung.{Rung}
use Rattle.rows.specs.Rows.{record_of, records_of, times_of}
use Rattle.table.specs.Timer.{Timer}
use Rattle.ladder_definitions.specs.Kept.{Kept}
use Rattle.translation_definitions.specs.TranslateKept.{Counts, counts_in, translate_kept, Translated, translated_answer, TranslateDone}
use Rattle.translation_definitions.specs.Calls.{Given, ScansAgree, CallsAgree}
use Rattle.translation_definitions.specs.RowsAgree.{RowsAgree}
use Rattle.translation_definitions.proofs.Laws.Answers.{not_both, same_counts}
use Rattle.translation_definitions.proofs.Laws.Calls.{calls_alike}

-- the first words and records of buffers of just their size
words_first : (words : List ℕ) (rs : List RungRecord) (ts : List ℕ) (m : ℕ) → written_words (as_buffers words rs ts) m ≡ take m words
unfolding written_words as_buffers
words_first words rs ts m = refl

records_first : (words : List ℕ) (rs : List RungRecord) (ts : List ℕ) (m : ℕ) → length rs ≡ length ts → written_records (as_buffers words rs ts) m ≡ take m rs
unfolding written_records as_buffers
records_first words rs ts m e =
    (λ i. row_of (take_map (λ r. r.label) m rs i) (take_map (λ r. r.offset) m rs i) (take_map (λ r. r.length) m rs i) (take m ts))
    ∙ row_fields _ _ _ (take m ts) (length-map (take m rs) (λ r. r.label) ∙ length-take m rs ∙ ap (λ n. min m n) e ∙ sym (length-take m ts))
    ∙ row_back (take m rs)

module _ (vars : ℕ) (kept : Kept) (lent : Buffers) (table : List ℕ) (timers : List Timer) (now n : ℕ) (given : Given vars kept lent table timers n) (code : List ℕ) (row : List Rung) where
  agree : CallsAgree vars kept lent table timers now n
  agree = calls_alike vars kept lent table timers now n given

  abbrev c : Counts
  c = agree.counts

  left_agree : as_buffers code (records_of row) (times_of row) ≡ (translate_kept vars kept lent).buffers
      → ScansAgree vars kept (take c.instructions code) (records_of (take c.rungs row)) c.longest table timers now n
  left_agree e = rw (
    ← (words_first code (records_of row) (times_of row) c.instructions),
    ← (take_map record_of c.rungs row),
    ← (records_first code (records_of row) (times_of row) c.rungs (length-map row record_of ∙ sym (length-map row (λ r. r.times)))),
    e,
  ) agree.scans

  pub rows_alike : (answer : Translated) → TranslateDone (translate_kept vars kept lent) answer (as_buffers code (records_of row) (times_of row))
      → RowsAgree vars kept answer code row table timers now n
  unfolding translated_answer
  rows_alike (Ok d) done =
      let e : c ≡ counts_in d = same_counts (sym agree.translated ∙ sym done.answer) in
      record { counts = d; translated = refl; scans = rw e at (left_agree done.same_buffers) }
  rows_alike (Err refusal) done = absurd (not_both c _ (sym agree.translated ∙ sym done.answer))
