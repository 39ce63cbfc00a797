-- Laws of Translate: its questions in order, and what it writes. Assumes nothing.
use Prim.Native.Nat.{ℕ, zero, suc, ◌≤◌}
use native.Mathlib.Omega.{arith}
use mathlib.Core.Path.{◌≡◌, refl, sym, ap, ◌∙◌}
use mathlib.Core.Bool.{true, false}
use Rattle.std.specs.Prelude.{Ok, Err}
use mathlib.Core.Option.{none, some}
use mathlib.Core.List.{List, [], ◌∷◌, ◌++◌, map}
use lib.ListN.{length, get_or, drop, replicate, length-replicate, length-map}
use lib.Seq.{sets, get_or-drop}
use Rattle.questions.specs.Tests.{all}
use Rattle.questions.specs.Questions.{ask, first_no, long_enough, question13}
use Rattle.questions.specs.Refusals.{refusal_of}
use Rattle.questions.proofs.Laws.Answers.{passed_ask}
use Rattle.questions.specs.declared.Refusal.{Refusal as RefusalCase}
use Rattle.questions.specs.declared.Refusal.TheVariants.{Buffer as BufferCase}
use Rattle.rungs.specs.Records.{offsets, search}
use Rattle.rungs.specs.Buffers.{Buffers, columns_of, as_buffers, needs, has_room, written}
use Rattle.rungs.proofs.Laws.Layout.{lay_length}
use Rattle.rungs.proofs.Laws.Filling.{written_sets, labels_count, offsets_count, lengths_count, times_count, room_needs, roomy, put_written}
use Rattle.ladder_definitions.specs.Tree.{Ladder}
use Rattle.ladder_definitions.specs.Kept.{Kept, kept_of}
use Rattle.ladder_definitions.specs.Questions.{most_rungs, ladder_of, ladder_answer}
use Rattle.ladder_definitions.specs.Held.{LadderHeld}
use Rattle.ladder_definitions.proofs.Laws.Accepting.{sized, accepted}
use Rattle.ladder_definitions.proofs.Laws.Held.{held, as_many}
use Rattle.list_definitions.specs.Instruction.{instr_word}
use Rattle.translation_definitions.specs.Translate.{rung_code, list_records, translate}
use Rattle.translation_definitions.specs.TranslateKept.{list_buffers, counts_of, translate_kept, translated_answer, TranslateDone}
use Rattle.translation_definitions.proofs.Laws.Answers.{call_refused, call_written}
use Rattle.translation_code.specs.Parts.{start_in}
use Rattle.translation_layout.specs.Parts.{LadderReady, LaidOut, ListPut}
use Rattle.translation_layout.specs.declared.Layout.{Layout}

-- ---- entries over zeros

zero_at : (m j : ℕ) → ◌≡◌ {A = ℕ} (get_or (replicate m 0) j 0) 0
zero_at zero j = refl
zero_at (suc m) zero = refl
zero_at (suc m) (suc j) = zero_at m j

before_zeros : (xs zs : List ℕ) → ((j : ℕ) → get_or zs j 0 ≡ 0) → (i : ℕ) → get_or (xs ++ zs) i 0 ≡ get_or xs i 0
before_zeros [] zs z i = z i
before_zeros (x ∷ xs) zs z zero = refl
before_zeros (x ∷ xs) zs z (suc i) = before_zeros xs zs z i

over_zeros_lem : (xs : List ℕ) (m i : ℕ) → length xs ≤ m → get_or (sets (replicate m 0) 0 xs) i 0 ≡ get_or xs i 0
unfolding written
over_zeros_lem xs m i h =
    ap (λ l. get_or l i 0) (written_sets xs (replicate m 0) (omega (arith, length-replicate {A = ℕ} m 0)))
    ∙ before_zeros xs (drop (length xs) (replicate m 0)) (λ j. get_or-drop (length xs) (replicate m 0) j 0 ∙ zero_at m _) i

-- ---- the questions in order

module _ (vars : ℕ) (ws ls os ns ts : List ℕ) (ok : ladder_answer vars (kept_of ws ls os ns ts) ≡ none) where
  is_held : LadderHeld ws ls os (ladder_of (kept_of ws ls os ns ts))
  is_held = held ws ls os ns ts (ladder_of (kept_of ws ls os ns ts)) (accepted vars (kept_of ws ls os ns ts) ok).0 (accepted vars (kept_of ws ls os ns ts) ok).1.some_rung

  pub ready : (starts : List ℕ) → length starts ≡ most_rungs → LadderReady vars ws ls os starts
  ready starts e = record { ladder = ladder_of (kept_of ws ls os ns ts); held = is_held; accepted = (accepted vars (kept_of ws ls os ns ts) ok).1; enough = e }

module _ (vars : ℕ) (ws ls os ns ts : List ℕ) (lent : Buffers) where
  abbrev kept : Kept
  kept = kept_of ws ls os ns ts

  abbrev gs : Ladder
  gs = ladder_of kept

  abbrev new : Buffers
  new = list_buffers (translate vars gs)

  refuses : (refusal : RefusalCase) → first_no (ladder_answer vars kept ∷ question13 (needs new lent) ∷ []) ≡ some (refusal_of refusal)
      → TranslateDone (translate_kept vars kept lent) (Err refusal) lent
  unfolding translated_answer
  refuses refusal e = let c = call_refused vars kept lent (refusal_of refusal) e in record { answer = sym (ap (λ t. t.answer) c); same_buffers = sym (ap (λ t. t.buffers) c) }

  pub translate_refused_lem : (refusal : RefusalCase) → ladder_answer vars kept ≡ some (refusal_of refusal) → TranslateDone (translate_kept vars kept lent) (Err refusal) lent
  unfolding first_no
  translate_refused_lem refusal e = refuses refusal (rw e)

  module _ (ok : ladder_answer vars kept ≡ none) where
    the_held : LadderHeld ws ls os gs
    the_held = is_held vars ws ls os ns ts ok

    rungs_many : length os ≡ length gs
    rungs_many = as_many ws ls os gs the_held

    -- as many records as rungs
    records_many : length (translate vars gs).records ≡ length os
    unfolding translate list_records
    records_many = lay_length (λ g. g.label) (λ g. length (rung_code vars (λ l. 0) g)) 0 gs ∙ sym rungs_many

    labels_many : length new.labels ≡ length os
    labels_many = labels_count (map instr_word (translate vars gs).code) (translate vars gs).records _ ∙ records_many

    offsets_many : length new.offsets ≡ length os
    offsets_many = offsets_count (map instr_word (translate vars gs).code) (translate vars gs).records _ ∙ records_many

    lengths_many : length new.lengths ≡ length os
    lengths_many = lengths_count (map instr_word (translate vars gs).code) (translate vars gs).records _ ∙ records_many

    times_many : length new.times ≡ length os
    times_many = times_count (map instr_word (translate vars gs).code) (translate vars gs).records ∙ records_many

    module _ (r : Layout) (e x : List ℕ) (laid : LaidOut vars ws ls os r e x) where
      words_many : length new.words ≡ r.instructions
      unfolding as_buffers translate
      words_many = length-map (translate vars gs).code instr_word ∙ sym (laid.instructions gs the_held)

      needs_room : all long_enough (needs new lent) ≡ has_room lent r.instructions (length os)
      needs_room = room_needs new lent r.instructions (length os) words_many labels_many offsets_many lengths_many times_many

      pub short : has_room lent r.instructions (length os) ≡ false → TranslateDone (translate_kept vars kept lent) (Err BufferCase) lent
      unfolding first_no question13 ask refusal_of
      short h = refuses BufferCase (rw (ok, needs_room, h))

      module _ (room : has_room lent r.instructions (length os) ≡ true) where
        asked : first_no (ladder_answer vars kept ∷ question13 (needs new lent) ∷ []) ≡ none
        unfolding first_no question13 ask
        asked = rw (ok, needs_room, room) refl

        -- the starts that were laid out are those of the list
        starts_laid : e ≡ replicate most_rungs 0 → (i : ℕ) → start_in ls x i ≡ start_in ls (offsets (list_records vars gs)) i
        unfolding start_in translate
        starts_laid z i =
            ap (λ s. get_or s (search i ls) 0) (laid.starts gs the_held ∙ ap (λ s. sets s 0 (offsets (list_records vars gs))) z)
            ∙ over_zeros_lem (offsets (list_records vars gs)) most_rungs (search i ls) (omega (arith, length-map (list_records vars gs) (λ r. r.offset), records_many, rungs_many, (sized gs (accepted vars kept ok).1.sizes).rungs))

        pub translate_done : e ≡ replicate most_rungs 0 → (after : Buffers) → ListPut vars ws ls os x (columns_of lent) (columns_of after)
            → after.times ≡ sets lent.times 0 (replicate (length os) 0)
            → TranslateDone (translate_kept vars kept lent) (Ok (record { instructions = r.instructions; rungs = length os; longest = r.longest })) after
        unfolding translated_answer counts_of translate as_buffers question13
        translate_done z after put cleared =
            let counted = laid.instructions gs the_held in
            let c = call_written vars kept lent asked in
            let fits = roomy new lent (rw (needs_room, room) (passed_ask 13 true tt)) in
            record {
              answer = rw (c, counted, laid.longest gs the_held, ← records_many) refl;
              same_buffers = rw c
                  (put_written new lent fits.words fits.labels fits.offsets fits.lengths fits.times after
                  (put.wrote gs the_held (starts_laid z)) (cleared ∙ ap (λ (k : ℕ). sets lent.times 0 (replicate k 0)) (sym records_many)));
            }
