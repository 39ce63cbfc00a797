-- What an answer of Read tells: the questions that got a "yes", and what stands in the buffers. Assumes nothing.
use Rattle.std.specs.Prelude.{ℕ, ◌≤◌, ◌≡◌, refl, List, [], ◌∷◌, take}
use Rattle.std.proofs.Common.{arith, sym, subst, ◌∙◌}
use Rattle.std.proofs.Math.Path.{ap}
use Rattle.std.proofs.Math.Option.{none, some}
use Rattle.std.proofs.Math.ListN.{length}
use Rattle.questions.specs.Questions.{Refusal, Answer, first_no, question1, question2, question13}
use Rattle.questions.proofs.Laws.Answers.{first_yes, later_yes}
use Rattle.rungs.specs.Records.{row_of, none_entered}
use Rattle.rungs.specs.Buffers.{Buffers, as_buffers, needs, written_over, written_words, written_records}
use Rattle.rungs.proofs.Laws.Layout.{lay_length}
use Rattle.rungs.proofs.Laws.Filling.{written_first, first_written, row_of_new, labels_count, offsets_count, lengths_count, times_count, roomy}
use Rattle.ladder_definitions.specs.Tree.{Ladder}
use Rattle.ladder_definitions.specs.Kept.{rung_words, encode}
use Rattle.ladder_definitions.specs.Questions.{question5, question6, question7, question8, ladder_answer, Accepted}
use Rattle.ladder_definitions.proofs.Laws.Accepting.{ladder_is, accepting}
use Rattle.text_grammar.specs.Grammar.{IsText}
use Rattle.text_grammar.specs.Questions.{question3}
use Rattle.text_grammar.proofs.Theorems.{read_exactly, yes_exactly, scratch_always, some_rung, operands_fit, decoded_always}
use Rattle.text_definitions.specs.Read.{text_ladder, kept_buffers, kept, refused, ReadCall, read_text, written_kept}

-- ---- what was written, taken out again

module _ (gs : Ladder) (lent : Buffers) where
  abbrev new : Buffers
  new = kept_buffers gs

  rungs_laid : length (encode gs).records ≡ length gs
  unfolding encode
  rungs_laid = lay_length (λ g. g.label) (λ g. length (rung_words g)) 0 gs

  row_first : written_records (written_over new lent) (length gs) ≡ (encode gs).records
  unfolding written_over written_records
  row_first =
      let l = first_written (length gs) new.labels lent.labels (labels_count (encode gs).words (encode gs).records _ ∙ rungs_laid) in
      let o = first_written (length gs) new.offsets lent.offsets (offsets_count (encode gs).words (encode gs).records _ ∙ rungs_laid) in
      let n = first_written (length gs) new.lengths lent.lengths (lengths_count (encode gs).words (encode gs).records _ ∙ rungs_laid) in
      let t = first_written (length gs) new.times lent.times (times_count (encode gs).words (encode gs).records ∙ rungs_laid) in
      (λ i. row_of (l i) (o i) (n i) (t i)) ∙ row_of_new (encode gs).words (encode gs).records

  times_first : take (length gs) (written_over new lent).times ≡ none_entered (length gs)
  unfolding written_over as_buffers
  times_first = first_written (length gs) new.times lent.times (times_count (encode gs).words (encode gs).records ∙ rungs_laid) ∙ ap none_entered rungs_laid

  words_first : written_words (written_over new lent) (length new.words) ≡ (encode gs).words
  unfolding written_over written_words as_buffers
  words_first = written_first (encode gs).words lent.words

  kept_first : written_kept (written_over new lent) (length new.words) (length gs) ≡ encode gs
  unfolding written_kept
  kept_first i = record { words = words_first i; records = row_first i }

-- ---- the call, by its answer

pub not_both : (words rungs : ℕ) (r : Refusal) → kept words rungs ≡ refused r → ⊥
not_both words rungs r e = let z : ◌≡◌ {A = ℕ} 0 1 = cc in omega arith

-- the questions before 13 as one
first_join : (a b c d e f g h : Answer) → first_no (a ∷ b ∷ c ∷ d ∷ e ∷ f ∷ g ∷ h ∷ []) ≡ first_no (first_no (a ∷ b ∷ c ∷ d ∷ e ∷ f ∷ g ∷ []) ∷ h ∷ [])
unfolding first_no
first_join (some x) b c d e f g h = refl
first_join none (some x) c d e f g h = refl
first_join none none (some x) d e f g h = refl
first_join none none none (some x) e f g h = refl
first_join none none none none (some x) f g h = refl
first_join none none none none none (some x) g h = refl
first_join none none none none none none (some x) h = refl
first_join none none none none none none none h = refl

-- question 3 got a "yes": the text has its ladder
ladder_of_lem : (text : List ℕ) (gs : Ladder) → IsText text gs → text_ladder text ≡ gs
unfolding text_ladder
ladder_of_lem text gs x = rw ((read_exactly text gs).1 x, text_ladder)

yes_ladder : (text : List ℕ) → question3 text ≡ none → IsText text (text_ladder text)
yes_ladder text e = let h = (yes_exactly text).0 e in subst (λ gs. IsText text gs) (sym (ladder_of_lem text h.0 h.1)) h.1

-- the questions before 13
abbrev pub before : ℕ → List ℕ → Answer
before vars text =
    let gs = text_ladder text in
    first_no (question1 vars ∷ question2 (length text) ∷ question3 text ∷ question5 gs ∷ question6 vars gs ∷ question7 gs ∷ question8 gs ∷ [])

module _ (vars : ℕ) (text : List ℕ) (lent : Buffers) where
  abbrev pub asked : Answer
  asked = first_no (before vars text ∷ question13 (needs (kept_buffers (text_ladder text)) lent) ∷ [])

  joined : first_no (question1 vars ∷ question2 (length text) ∷ question3 text ∷ question5 (text_ladder text) ∷ question6 vars (text_ladder text) ∷ question7 (text_ladder text) ∷ question8 (text_ladder text)
      ∷ question13 (needs (kept_buffers (text_ladder text)) lent) ∷ []) ≡ asked
  joined = first_join (question1 vars) (question2 (length text)) (question3 text) (question5 (text_ladder text)) (question6 vars (text_ladder text)) (question7 (text_ladder text)) (question8 (text_ladder text)) _

  pub call_refused : (r : Refusal) → asked ≡ some r → read_text vars text lent ≡ record { answer = refused r; buffers = lent }
  unfolding read_text
  call_refused r e = rw (joined, e, read_text)

  abbrev call_kept : Ladder → ReadCall
  call_kept gs = record { answer = kept (length (kept_buffers gs).words) (length gs); buffers = written_over (kept_buffers gs) lent }

  pub call_kept_lem : asked ≡ none → read_text vars text lent ≡ call_kept (text_ladder text)
  unfolding read_text
  call_kept_lem e = rw (joined, e, read_text)

  pub refused_same : (r : Refusal) → (read_text vars text lent).answer ≡ refused r → (read_text vars text lent).buffers ≡ lent
  refused_same r a = go asked refl
    where
      go : (x : Answer) → asked ≡ x → (read_text vars text lent).buffers ≡ lent
      go none q = absurd (not_both _ _ r (sym (ap (λ c. c.answer) (call_kept_lem q)) ∙ a))
      go (some s) q = ap (λ c. c.buffers) (call_refused s q)

  module _ (words rungs : ℕ) (a : (read_text vars text lent).answer ≡ kept words rungs) where
    pub all_yes : asked ≡ none
    all_yes = go asked refl
      where
        go : (x : Answer) → asked ≡ x → asked ≡ none
        go none q = q
        go (some r) q = absurd (not_both words rungs r (sym a ∙ ap (λ c. c.answer) (call_refused r q)))

    yes_before : before vars text ≡ none
    yes_before = first_yes (before vars text) _ all_yes

    same_counts : kept words rungs ≡ kept (length (kept_buffers (text_ladder text)).words) (length (text_ladder text))
    same_counts = sym a ∙ ap (λ c. c.answer) (call_kept_lem all_yes)

    words_count : words ≡ length (kept_buffers (text_ladder text)).words
    words_count = let e = same_counts in cc

    pub rungs_count : rungs ≡ length (text_ladder text)
    rungs_count = let e = same_counts in cc

    -- what was written has room
    pub written_room : (words ≤ length lent.words) × (rungs ≤ length lent.labels)
    written_room =
        let gs = text_ladder text in
        let r = roomy (kept_buffers gs) lent (first_yes _ _ (later_yes (before vars text) _ all_yes)) in
        (omega (arith, r.words, words_count), omega (arith, r.labels, rungs_count, labels_count (encode gs).words (encode gs).records (none_entered (length (encode gs).records)), rungs_laid gs lent))

    pub first_encoded : written_kept (read_text vars text lent).buffers words rungs ≡ encode (text_ladder text)
    first_encoded = rw (call_kept_lem all_yes, words_count, rungs_count) (kept_first (text_ladder text) lent)

    pub no_times : take rungs (read_text vars text lent).buffers.times ≡ none_entered rungs
    no_times = rw (call_kept_lem all_yes, rungs_count) (times_first (text_ladder text) lent)

    pub in_grammar : IsText text (text_ladder text)
    in_grammar = yes_ladder text (first_yes (question3 text) _ (later_yes (question2 (length text)) _ (later_yes (question1 vars) _ yes_before)))

    -- the questions that got a "yes", one by one, and what holds of every text
    accepted : Accepted vars (text_ladder text)
    accepted =
        let gs = text_ladder text in
        let e2 = later_yes (question1 vars) _ yes_before in
        let e3 = later_yes (question2 (length text)) _ e2 in
        let e5 = later_yes (question3 text) _ e3 in
        let e6 = later_yes (question5 gs) _ e5 in
        let e7 = later_yes (question6 vars gs) _ e6 in
        let e8 = later_yes (question7 gs) _ e7 in
        record {
          range = first_yes (question1 vars) _ yes_before;
          some_rung = some_rung in_grammar;
          fits = operands_fit in_grammar;
          sizes = first_yes (question5 gs) _ e5;
          variables = first_yes (question6 vars gs) _ e6;
          differ = first_yes (question7 gs) _ e7;
          jumps = first_yes (question8 gs) _ e8;
          scratch = scratch_always in_grammar;
        }

    pub encoded_accepted : ladder_answer vars (encode (text_ladder text)) ≡ none
    encoded_accepted = accepting vars (encode (text_ladder text)) (rw (ladder_is (encode (text_ladder text)) (text_ladder text) (decoded_always in_grammar)) accepted)
