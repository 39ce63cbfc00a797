-- Laws of rungs that are kept in buffers one after the other, and of what they take. Assumes nothing.
use mathlib.Core.Path.{◌≡◌, refl, sym, ap, ◌∙◌}
use mathlib.Core.List.{List, [], ◌∷◌, ◌++◌, map, flat_map, map-append}
use Prim.Native.Nat.{ℕ, zero, suc, ◌+◌, ◌≤◌, max}
use native.Mathlib.Nat.{zero-add}
use native.Mathlib.Omega.{arith}
use borrow.Author.Tests.{eq-eqb, ne_eqb}
use lib.Dec.{eqb}
use lib.ListN.{length, take, set, length-append, length-map}
use lib.Seq.{sets}
use Rattle.rungs.specs.Records.{RungRecord, labels, offsets, lay, longest}
use Rattle.rungs.proofs.Laws.Layout.{pieces_length, lay_length, flat_map_snoc, lay_snoc, longest_snoc}
use Rattle.ladder_definitions.specs.Tree.{Rung, Ladder}
use Rattle.ladder_definitions.specs.Kept.{rung_words, encode}
use Rattle.text_grammar.specs.Reader.{pick, Parse, read, stuck, map_p, bind, line_of, lines_of, text_of}
use Rattle.rungs.specs.Buffers.{Columns, as_buffers}
use Rattle.rungs.specs.Parts.{put_all}
use Rattle.text_lines.specs.Parts.{line_parsed, LineRead, with_rung, put_rung, line_kept, LineIsKept, sizes_of, kept_columns, LinesAreKept}
use Rattle.text_lines.specs.declared.Sizes.{Sizes}
use Rattle.text_lines.specs.declared.LineParsed.{LineParsed}
use Rattle.text_lines.specs.declared.LineKept.{LineKept}
use Rattle.text_fronts.specs.declared.part.Stuck.{Stuck}
use Rattle.std.specs.Prelude.{Ok, Err}
use Rattle.text_grammar.proofs.Laws.Parses.{same_tree, not_both, map_none, map_more}
use Rattle.questions.proofs.Laws.Stores.{sets_append}
use Rattle.text_fronts.proofs.Sets.{taken}

-- four stores
pub stored : (b : Columns) (z : Sizes) (label count : ℕ) (ws words labels offsets lengths : List ℕ) → words ≡ sets b.words z.words ws
    → labels ≡ set b.labels z.rungs label → offsets ≡ set b.offsets z.rungs z.words → lengths ≡ set b.lengths z.rungs count
    → record { words = words; labels = labels; offsets = offsets; lengths = lengths } ≡ put_rung b z label count ws
unfolding put_rung
stored b z label count ws words labels offsets lengths e f g h = rw (e, f, g, h) refl

-- ---- a line

line_is : (p : Parse Rung) (l : LineParsed) → Ok l ≡ line_parsed p → (g : Rung) × (p ≡ read l.next g) × (g.label ≡ l.label) × (length (rung_words g) ≡ l.count)
line_is (read m g) l e =
    let q : l ≡ record { label = g.label; next = m; count = length (rung_words g) } = cc in
    (g, rw q refl, rw q refl, rw q refl)
line_is (stuck p) l e = let z : ◌≡◌ {A = ℕ} 0 1 = cc in absurd (omega arith)

line_stuck : (p : Parse Rung) (x : Stuck) → Err x ≡ line_parsed p → p ≡ stuck x.place
line_stuck (read m g) x e = let z : ◌≡◌ {A = ℕ} 0 1 = cc in absurd (omega arith)
line_stuck (stuck p) x e = let q : x ≡ record { place = p } = cc in rw q refl

module _ (p : Parse Rung) (s : List ℕ) (at : ℕ) (e x : List ℕ) where
  pub line_not_kept : (m : Stuck) → LineRead p s at (Err m) e x → (z : Sizes) (before after : Columns) → LineIsKept p s at z (Err m) before after
  line_not_kept m f z before after =
      let k = line_stuck p m f.same in
      record { same = rw k refl; within = tt; out = λ n t b h. absurd (not_both p m.place n t k b) }

  module _ (l : LineParsed) (f : LineRead p s at (Ok l) e x) where
    pub line_kept_lem : length e ≡ 128 → (z : Sizes) → z.words ≤ at → z.rungs ≤ at → (before after : Columns)
        → after ≡ put_rung before z l.label l.count (take l.count x)
        → (y : Sizes) → y ≡ with_rung z l.count → LineIsKept p s at z (Ok (record { next = l.next; sizes = y })) before after
    unfolding with_rung
    line_kept_lem long z few fewer before after put y grown =
        let t = line_is p l f.same in
        let c = f.within in
        let a : y.words ≡ z.words + l.count = ap (λ (k : Sizes). k.words) grown in
        let b : y.rungs ≡ z.rungs + 1 = ap (λ (k : Sizes). k.rungs) grown in
        record {
          same = rw (t.1, t.3) (ap (λ (k : Sizes). Ok (record { next = l.next; sizes = k })) grown);
          within = (omega arith, omega arith, omega arith, omega arith);
          out = λ m g k room.
              let u : t.0 ≡ g = same_tree (sym t.1 ∙ k) in
              let d : l.label ≡ g.label = sym t.2 ∙ ap (λ (h : Rung). h.label) u in
              let c : l.count ≡ length (rung_words g) = sym t.3 ∙ ap (λ (h : Rung). length (rung_words h)) u in
              let o : take l.count x ≡ rung_words g =
              ap (λ (i : ℕ). take i x) c ∙ ap (take (length (rung_words g))) (f.out m g k (omega arith)) ∙ taken e 0 (rung_words g) (omega arith) in
              put ∙ rw (d, o, c) refl;
        }

-- ---- records and words of a ladder with one rung more

module _ (done : Ladder) (g : Rung) where
  last_record : RungRecord
  last_record = record { label = g.label; offset = length (encode done).words; length = length (rung_words g) }

  encode_records : (encode (done ++ g ∷ [])).records ≡ (encode done).records ++ last_record ∷ []
  unfolding encode last_record
  encode_records =
      lay_snoc (λ g. g.label) (λ g. length (rung_words g)) 0 done g
      ∙ rw (zero-add, pieces_length rung_words done) refl

  encode_words : (encode (done ++ g ∷ [])).words ≡ (encode done).words ++ rung_words g
  unfolding encode
  encode_words = flat_map_snoc rung_words done g

  records_length : length (encode done).records ≡ length done
  unfolding encode
  records_length = lay_length (λ g. g.label) (λ g. length (rung_words g)) 0 done

  pub sizes_more : sizes_of (done ++ g ∷ []) ≡ with_rung (sizes_of done) (length (rung_words g))
  unfolding sizes_of with_rung last_record
  sizes_more =
      rw (encode_words, encode_records, length-append (encode done).words (rung_words g), length-append done (g ∷ []), longest_snoc (encode done).records last_record) refl

  -- a field of the records, stored after those before
  stored_after : (field : RungRecord → ℕ) (b : List ℕ)
      → set (sets b 0 (map field (encode done).records)) (length done) (field last_record) ≡ sets b 0 (map field (encode (done ++ g ∷ [])).records)
  stored_after field b =
      let rs = (encode done).records in
      let e : 0 + length (map field rs) ≡ length done = zero-add (length (map field rs)) ∙ length-map rs field ∙ records_length in
      sym (ap (λ (l : List RungRecord). sets b 0 (map field l)) encode_records
      ∙ ap (sets b 0) (map-append field rs (last_record ∷ []))
      ∙ sets_append b 0 (map field rs) (field last_record ∷ [])
      ∙ ap (λ (i : ℕ). sets (sets b 0 (map field rs)) i (field last_record ∷ [])) e)

  words_after : (b : List ℕ) → sets (sets b 0 (encode done).words) (length (encode done).words) (rung_words g) ≡ sets b 0 (encode (done ++ g ∷ [])).words
  words_after b =
      sym (ap (sets b 0) encode_words
      ∙ sets_append b 0 (encode done).words (rung_words g)
      ∙ ap (λ (i : ℕ). sets (sets b 0 (encode done).words) i (rung_words g)) (zero-add (length (encode done).words)))

  pub put_more : (b : Columns) → put_rung (put_all b (kept_columns done)) (sizes_of done) g.label (length (rung_words g)) (rung_words g)
      ≡ put_all b (kept_columns (done ++ g ∷ []))
  unfolding put_rung put_all as_buffers sizes_of last_record
  put_more b =
      rw (words_after b.words, stored_after (λ r. r.label) b.labels, stored_after (λ r. r.offset) b.offsets, stored_after (λ r. r.length) b.lengths) refl

-- ---- the loop over lines: the rungs before what the lines that follow give are the text, and they are kept

pub record Keeping (s : List ℕ) (before now : Columns) (next : ℕ) (z : Sizes) : Type 0 where
  pub left : ℕ
  pub done : Ladder
  pub takes : z ≡ sizes_of done
  pub same : map_p (λ gs. done ++ gs) (lines_of s (suc left) next) ≡ text_of s
  pub enough : length s ≤ next + left
  pub within : next ≤ length s
  pub few : z.words ≤ next
  pub fewer : z.rungs ≤ next
  pub out : z.longest ≤ 128 → now ≡ put_all before (kept_columns done)

no_rungs : sizes_of [] ≡ record { words = 0; rungs = 0; longest = 0 }
unfolding sizes_of encode lay longest flat_map
no_rungs = refl

nothing_put : (b : Columns) → put_all b (kept_columns []) ≡ b
unfolding put_all as_buffers encode lay flat_map
nothing_put b = refl

pub keeping_start : (s : List ℕ) (b : Columns) → Keeping s b b 0 (record { words = 0; rungs = 0; longest = 0 })
unfolding text_of
keeping_start s b =
    record {
      left = length s;
      done = [];
      takes = sym no_rungs;
      same = map_none (lines_of s (suc (length s)) 0);
      enough = omega arith;
      within = omega arith;
      few = omega arith;
      fewer = omega arith;
      out = λ h. sym (nothing_put b);
    }

kept_is : (z : Sizes) (p : Parse Rung) (k : LineKept) → Ok k ≡ line_kept z p → (g : Rung) × (p ≡ read k.next g) × (k.sizes ≡ with_rung z (length (rung_words g)))
kept_is z (read m g) k e = let q : k ≡ record { next = m; sizes = with_rung z (length (rung_words g)) } = cc in (g, rw q refl, rw q refl)
kept_is z (stuck p) k e = let k : ◌≡◌ {A = ℕ} 0 1 = cc in absurd (omega arith)

not_kept : (z : Sizes) (p : Parse Rung) (x : Stuck) → Err x ≡ line_kept z p → p ≡ stuck x.place
not_kept z (read m g) x e = let k : ◌≡◌ {A = ℕ} 0 1 = cc in absurd (omega arith)
not_kept z (stuck p) x e = let q : x ≡ record { place = p } = cc in rw q refl

line_then : (s : List ℕ) (l n : ℕ) (g : Rung) (p : Parse Rung) → p ≡ read n g → (n ≡ length s → ⊥)
    → bind p (λ m g. pick (eqb m (length s)) (read m (g ∷ [])) (map_p (λ gs. g ∷ gs) (lines_of s l m))) ≡ map_p (λ gs. g ∷ gs) (lines_of s l n)
unfolding bind
line_then s l n g p e q = rw (e, ne_eqb _ _ q) refl

line_last : (s : List ℕ) (l n : ℕ) (g : Rung) (p : Parse Rung) → p ≡ read n g → n ≡ length s
    → bind p (λ m g. pick (eqb m (length s)) (read m (g ∷ [])) (map_p (λ gs. g ∷ gs) (lines_of s l m))) ≡ read n (g ∷ [])
unfolding bind
line_last s l n g p e q = rw (e, eq-eqb _ _ q) refl

module _ (s : List ℕ) (before now : Columns) (next : ℕ) (z : Sizes) (h : Keeping s before now next z)
    (after : Columns) where
  pub lines_stuck : (x : Stuck) → LineIsKept (line_of s next) s next z (Err x) now after → (last : Columns) → LinesAreKept (text_of s) (Err x) before last
  unfolding lines_of bind map_p
  lines_stuck x f last =
      let k : text_of s ≡ stuck x.place = sym h.same ∙ ends (not_kept z (line_of s next) x f.same) in
      record { same = rw k refl; out = λ n gs b i. absurd (not_both (text_of s) x.place n gs k b) }
    where
      ends : line_of s next ≡ stuck x.place → map_p (λ gs. h.done ++ gs) (lines_of s (suc h.left) next) ≡ stuck x.place
      ends q = rw q refl

  module _ (l : LineKept) (f : LineIsKept (line_of s next) s next z (Ok l) now after) where
    module _ (g : Rung) (p : line_of s next ≡ read l.next g) (grown : l.sizes ≡ with_rung z (length (rung_words g))) where
      takes_more : l.sizes ≡ sizes_of (h.done ++ g ∷ [])
      takes_more = grown ∙ ap (λ (k : Sizes). with_rung k (length (rung_words g))) h.takes ∙ sym (sizes_more h.done g)

      put_line : l.sizes.longest ≤ 128 → after ≡ put_all before (kept_columns (h.done ++ g ∷ []))
      unfolding with_rung
      put_line m =
          let k : l.sizes.longest ≡ max z.longest (length (rung_words g)) = ap (λ (k : Sizes). k.longest) grown in
          f.out l.next g p (omega arith)
          ∙ ap (λ (b : Columns). put_rung b z g.label (length (rung_words g)) (rung_words g)) (h.out (omega arith))
          ∙ ap (λ (k : Sizes). put_rung (put_all before (kept_columns h.done)) k g.label (length (rung_words g)) (rung_words g)) h.takes
          ∙ put_more h.done g before

      ended : l.next ≡ length s → text_of s ≡ read l.next (h.done ++ g ∷ [])
      unfolding lines_of map_p
      ended q = sym h.same ∙ go
        where
          go : map_p (λ gs. h.done ++ gs) (lines_of s (suc h.left) next) ≡ read l.next (h.done ++ g ∷ [])
          go = ap (map_p (λ gs. h.done ++ gs)) (line_last s h.left l.next g (line_of s next) p q)

      more : (l.next ≡ length s → ⊥) → Keeping s before after l.next l.sizes
      unfolding lines_of
      more q = go h.left h.enough h.same
        where
          go : (k : ℕ) → length s ≤ next + k → map_p (λ gs. h.done ++ gs) (lines_of s (suc k) next) ≡ text_of s → Keeping s before after l.next l.sizes
          go zero a b = let c = f.within in absurd (omega arith)
          go (suc k) a b =
              let c = f.within in
              let d : lines_of s (suc (suc k)) next ≡ map_p (λ gs. g ∷ gs) (lines_of s (suc k) l.next) = line_then s (suc k) l.next g (line_of s next) p q in
              record {
                left = k;
                done = h.done ++ g ∷ [];
                takes = takes_more;
                same = sym (map_more h.done g (lines_of s (suc k) l.next)) ∙ (ap (map_p (λ gs. h.done ++ gs)) (sym d) ∙ b);
                enough = omega arith;
                within = omega arith;
                few = c.2;
                fewer = c.3;
                out = put_line;
              }

    pub lines_end : l.next ≡ length s → LinesAreKept (text_of s) (Ok l.sizes) before after
    lines_end q =
        let t = kept_is z (line_of s next) l f.same in
        let k = ended t.0 t.1 t.2 q in
        let a = takes_more t.0 t.1 t.2 in
        record {
          same = rw k (ap Ok a);
          out = λ m gs b small.
              let u : h.done ++ t.0 ∷ [] ≡ gs = same_tree (sym k ∙ b) in
              let v : l.sizes ≡ sizes_of gs = a ∙ ap sizes_of u in
              put_line t.0 t.1 t.2 (rw v small) ∙ ap (λ (l : Ladder). put_all before (kept_columns l)) u;
        }

    pub lines_more : (l.next ≡ length s → ⊥) → Keeping s before after l.next l.sizes
    lines_more q = let t = kept_is z (line_of s next) l f.same in more t.0 t.1 t.2 q
