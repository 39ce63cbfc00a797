-- What an answer of Translate tells: a refusal leaves the buffers, and what was written has room. Assumes nothing.
use Rattle.std.specs.Prelude.{ℕ, ◌≤◌, ◌≡◌, refl, [], ◌∷◌, map, length, take}
use Rattle.std.proofs.Common.{arith, sym, ◌∙◌}
use Rattle.std.proofs.Math.Path.{ap}
use Rattle.std.proofs.Math.Option.{none, some}
use Rattle.std.proofs.Math.ListN.{length-map}
use Rattle.std.proofs.lemmas.List.{length-replicate}
use Rattle.questions.specs.Questions.{Answer, Refusal, first_no, question13}
use Rattle.questions.proofs.Laws.Answers.{first_yes, later_yes}
use Rattle.rungs.specs.Records.{none_entered}
use Rattle.rungs.specs.Buffers.{Buffers, as_buffers, needs, written_over}
use Rattle.rungs.proofs.Laws.Filling.{first_written, labels_count, offsets_count, lengths_count, times_count, roomy}
use Rattle.ladder_definitions.specs.Kept.{Kept}
use Rattle.ladder_definitions.specs.Questions.{ladder_of, ladder_answer}
use Rattle.ladder_definitions.proofs.Laws.Accepting.{ladder_first}
use Rattle.list_definitions.specs.Instruction.{instr_word}
use Rattle.list_definitions.specs.Machine.{InstructionList}
use Rattle.translation_definitions.specs.Translate.{translate}
use Rattle.translation_definitions.specs.TranslateKept.{Counts, counts_of, list_buffers, TranslateAnswer, translated, refused, list_written, translate_kept}

pub not_both : (c : Counts) (r : Refusal) → ◌≡◌ {A = TranslateAnswer} (translated c) (refused r) → ⊥
not_both c r e = let z : ◌≡◌ {A = ℕ} 0 1 = cc in omega arith

pub same_counts : {c d : Counts} → ◌≡◌ {A = TranslateAnswer} (translated c) (translated d) → c ≡ d
same_counts e = cc

module _ (vars : ℕ) (k : Kept) (lent : Buffers) where
  abbrev list : InstructionList
  list = translate vars (ladder_of k)

  abbrev pub asked : Answer
  asked = first_no (ladder_answer vars k ∷ question13 (needs (list_buffers list) lent) ∷ [])

  abbrev room : Answer
  room = question13 (needs (list_buffers list) lent)

  pub call_refused : (r : Refusal) → asked ≡ some r → translate_kept vars k lent ≡ record { answer = refused r; buffers = lent }
  unfolding translate_kept list_written
  call_refused r e = rw (ladder_first vars k (room ∷ []) ∙ e, translate_kept)

  pub call_written : asked ≡ none → translate_kept vars k lent ≡ record { answer = translated (counts_of list); buffers = written_over (list_buffers list) lent }
  unfolding translate_kept list_written
  call_written e = rw (ladder_first vars k (room ∷ []) ∙ e, translate_kept)

  pub refused_same : (r : Refusal) → (translate_kept vars k lent).answer ≡ refused r → (translate_kept vars k lent).buffers ≡ lent
  refused_same r e = go asked refl
    where
      go : (a : Answer) → asked ≡ a → (translate_kept vars k lent).buffers ≡ lent
      go (some y) q = ap (λ t. t.buffers) (call_refused y q)
      go none q = absurd (not_both (counts_of list) r (sym (ap (λ t. t.answer) (call_written q)) ∙ e))

  module _ (c : Counts) (e : (translate_kept vars k lent).answer ≡ translated c) where
    pub all_yes : asked ≡ none
    all_yes = go asked refl
      where
        go : (a : Answer) → asked ≡ a → asked ≡ none
        go none q = q
        go (some y) q = absurd (not_both c y (sym e ∙ ap (λ t. t.answer) (call_refused y q)))

    pub counts_are : c ≡ counts_of list
    counts_are = same_counts (sym e ∙ ap (λ t. t.answer) (call_written all_yes))

    -- what was written has room
    pub written_room : (c.instructions ≤ length lent.words) × (c.rungs ≤ length lent.labels) × (c.rungs ≤ length lent.offsets) × (c.rungs ≤ length lent.lengths)
        × (c.rungs ≤ length lent.times)
    unfolding counts_of as_buffers translate
    written_room =
        let r = roomy (list_buffers list) lent (first_yes _ _ (later_yes (ladder_answer vars k) _ all_yes)) in
        let i = ap (λ d. d.instructions) counts_are in
        let g = ap (λ d. d.rungs) counts_are in
        let m = length-map list.code instr_word in (
          omega (arith, r.words),
          omega (arith, r.labels, labels_count (map instr_word list.code) list.records (none_entered (length list.records))),
          omega (arith, r.offsets, offsets_count (map instr_word list.code) list.records (none_entered (length list.records))),
          omega (arith, r.lengths, lengths_count (map instr_word list.code) list.records (none_entered (length list.records))),
          omega (arith, r.times, times_count (map instr_word list.code) list.records),
        )

    -- its records have been entered no times
    pub no_times : take c.rungs (translate_kept vars k lent).buffers.times ≡ none_entered c.rungs
    unfolding written_over counts_of as_buffers
    no_times = rw (call_written all_yes, counts_are)
        (first_written (length list.records) (none_entered (length list.records)) lent.times (length-replicate {A = ℕ} (length list.records) 0))
