-- Laws of a held ladder: what words and records that decode to it hold, and the rung at a place. Assumes nothing.
use Rattle.std.specs.Prelude.{ℕ, zero, suc, ◌≤◌, ◌<◌, ◌≡◌, refl, take}
use Rattle.std.proofs.Math.Nat.{zero-add}
use Rattle.std.proofs.Common.{arith, sym, ◌∙◌, take-append-drop}
use Rattle.std.proofs.Math.Path.{ap}
use Rattle.std.proofs.Math.Option.{some}
use mathlib.Core.List.{List, [], ◌∷◌, flat_map}
use Rattle.std.proofs.Math.ListN.{length, get_or, drop, length-map}
use Rattle.questions.proofs.Laws.Tests.{all_head, all_second}
use Rattle.rungs.specs.Records.{fields_of, row_of, labels as record_labels, offsets}
use Rattle.rungs.proofs.Laws.Rows.{Even, row_even, row_labels, row_offsets, row_fields, row_times}
use Rattle.rungs.proofs.Laws.Layout.{lay_length, lay_labels, sizes, offset_at, drop_pieces}
use Rattle.ladder_definitions.specs.Tree.{Rung, Ladder, rung_all}
use Rattle.ladder_definitions.specs.Kept.{Kept, kept_of, rung_words, encode, decode, input_fits, output_fits}
use Rattle.ladder_definitions.specs.Held.{RungAt, LadderHeld}
use Rattle.ladder_definitions.proofs.Laws.Accepting.{encode_decode}

pub kept_held : (k : Kept) (gs : Ladder) → decode k ≡ some gs → LadderHeld k.words (record_labels k.records) (offsets k.records) gs
unfolding encode
kept_held k gs e =
    let p = encode_decode k gs e in
    record {
      words = ap (λ k. k.words) p.0;
      same_labels = ap (λ k. record_labels k.records) p.0 ∙ lay_labels (λ g. g.label) (λ g. length (rung_words g)) 0 gs;
      same_offsets = ap (λ k. offsets k.records) p.0;
      fits = p.1;
    }

pub kept_many : (k : Kept) (gs : Ladder) → decode k ≡ some gs → length k.records ≡ length gs
unfolding encode
kept_many k gs e = ap (λ k. length k.records) (encode_decode k gs e).0 ∙ lay_length (λ g. g.label) (λ g. length (rung_words g)) 0 gs

-- ---- records as four number slices

module _ (ws ls os ns ts : List ℕ) (gs : Ladder) (e : decode (kept_of ws ls os ns ts) ≡ some gs) (h : 1 ≤ length gs) where
  -- where they hold a ladder, the first three make its records
  pub three_fields : row_of ls os ns ts ≡ fields_of ls os ns
  three_fields = let n = kept_many (kept_of ws ls os ns ts) gs e in row_fields ls os ns ts (row_times ls os ns ts (omega arith))

  pub rows : fields_of ls os ns ≡ (encode gs).records
  rows = sym three_fields ∙ ap (λ k. k.records) (encode_decode (kept_of ws ls os ns ts) gs e).0

  pub even : Even ls os ns
  even = let n = kept_many (kept_of ws ls os ns ts) gs e in let same = ap (λ rs. length rs) three_fields in row_even ls os ns (omega arith)

  pub held : LadderHeld ws ls os gs
  held = rw (three_fields, row_labels ls os ns even, row_offsets ls os ns even) at (kept_held (kept_of ws ls os ns ts) gs e)

-- ---- the rung at a place

-- gs stands apart at place k
pub record Apart (gs : Ladder) (k : ℕ) : Type 0 where
  pub rung : Rung
  pub here : drop k gs ≡ rung ∷ drop (suc k) gs

pub apart : (gs : Ladder) (k : ℕ) → k < length gs → Apart gs k
apart [] k h = absurd (omega arith)
apart (g ∷ gs) zero h = record { rung = g; here = refl }
apart (g ∷ gs) (suc k) h = let a = apart gs k (omega arith) in record { rung = a.rung; here = a.here }

module _ (ws ls os : List ℕ) (gs : Ladder) (held : LadderHeld ws ls os gs) where
  pub many : length ls ≡ length gs
  many = ap length held.same_labels ∙ length-map gs (λ g. g.label)

  pub as_many : length os ≡ length gs
  unfolding encode
  as_many = ap length held.same_offsets ∙ length-map (encode gs).records (λ r. r.offset) ∙ lay_length (λ g. g.label) (λ g. length (rung_words g)) 0 gs

  -- the words of the rung at place k stand from its offset on
  pub rung_at_lem : (k : ℕ) → k < length gs → (a : Apart gs k) → RungAt ws (get_or os k 0) a.rung
  unfolding encode flat_map
  rung_at_lem k h a = record {
    fits = all_head (rung_all input_fits output_fits) a.rung (drop (suc k) gs)
        (rw a.here at (all_second (rung_all input_fits output_fits) (take k gs) (drop k gs) (rw (take-append-drop k gs) held.fits)));
    rest = flat_map rung_words (drop (suc k) gs);
    words =
        let o = ap (λ l. get_or l k 0) held.same_offsets ∙ offset_at (λ g. g.label) (λ g. length (rung_words g)) 0 k gs h ∙ zero-add _ in
        ap (λ n. drop n ws) o ∙ ap (λ l. drop (sizes (λ g. length (rung_words g)) (take k gs)) l) held.words
        ∙ drop_pieces rung_words gs (take k gs) (drop k gs) (sym (take-append-drop k gs)) ∙ rw a.here;
  }
