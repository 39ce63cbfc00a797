-- Laws of rungs that are kept as words and records one after the other. Assumes nothing.
use Prim.Native.Nat.{ℕ, zero, suc, ◌+◌, ◌≤◌, ◌<◌}
use native.Mathlib.Omega.{arith}
use native.Mathlib.Nat.{zero-add}
use mathlib.Core.Path.{◌≡◌, refl, sym, ap, ◌∙◌}
use mathlib.Core.List.{List, [], ◌∷◌, ◌++◌, map, flat_map, map-append}
use borrow.Author.Tests.{eq-eqb, ne_eqb}
use lib.ListN.{length, set, length-append, length-map}
use lib.Seq.{sets}
use Rattle.questions.proofs.Laws.Stores.{sets_append}
use Rattle.rungs.specs.Records.{RungRecord, lay, longest}
use Rattle.rungs.specs.Buffers.{Columns, as_buffers}
use Rattle.rungs.specs.Parts.{put_all}
use Rattle.rungs.proofs.Laws.Layout.{sizes, pieces_length, lay_length, flat_map_snoc, lay_snoc, longest_snoc}
use Rattle.text_grammar.specs.Grammar.{most_number}
use Rattle.text_grammar.specs.Reader.{Parse, read, stuck, map_p, bind}
use Rattle.text_grammar.proofs.Laws.Parses.{same_tree, not_both, map_none, map_more, bind_stuck, bind_read, map_stuck, map_read}
use Rattle.list_definitions.specs.Instruction.{Instr, instr_word}
use Rattle.list_definitions.specs.Names.{Names}
use Rattle.reader_definitions.specs.Form.{ListRung, list_of_rungs}
use Rattle.reader_definitions.specs.ReadList.{words_of}
use Rattle.reader_definitions.specs.Reader.{label_from, code_from, list_rung, rung_from, rungs_from, list_text_of}
use Rattle.std.specs.Prelude.{Some, None}
use Rattle.reader_lines.specs.Parts.{label_case, LabelParsed}
use Rattle.reader_lines.specs.declared.LabelAt.{LabelAt}
use Rattle.reader.specs.Parts.{code_case, CodeParsed, with_rung, put_rung, rung_case, RungIsKept, sizes_of, list_columns, RungsAreKept}
use Rattle.reader.specs.declared.reading.CodeAt.{CodeAt}
use Rattle.reader.specs.declared.reading.RungAt.{RungAt}
use Rattle.reader.specs.declared.reading.Sizes.{Sizes}

-- ---- what an answer tells of the reader

label_got : (p : Parse ℕ) (l : LabelAt) → Some l ≡ label_case p → p ≡ read l.next l.label
label_got (read m i) l e = let q : l ≡ record { label = i; next = m } = cc in rw q refl
label_got (stuck m) l e = let z : ◌≡◌ {A = ℕ} 0 1 = cc in absurd (omega arith)

label_lost : (p : Parse ℕ) → None ≡ label_case p → (m : ℕ) × (p ≡ stuck m)
label_lost (read m i) e = let z : ◌≡◌ {A = ℕ} 0 1 = cc in absurd (omega arith)
label_lost (stuck m) e = (m, refl)

code_got : (p : Parse (List Instr)) (c : CodeAt) → Some c ≡ code_case p → (is : List Instr) × (p ≡ read c.next is) × (length is ≡ c.count)
code_got (read m is) c e = let q : c ≡ record { next = m; count = length is } = cc in (is, rw q refl, rw q refl)
code_got (stuck m) c e = let z : ◌≡◌ {A = ℕ} 0 1 = cc in absurd (omega arith)

code_lost : (p : Parse (List Instr)) → None ≡ code_case p → (m : ℕ) × (p ≡ stuck m)
code_lost (read m i) e = let z : ◌≡◌ {A = ℕ} 0 1 = cc in absurd (omega arith)
code_lost (stuck m) e = (m, refl)

-- ---- a rung

module _ (names : Names) (vars : ℕ) (s : List ℕ) (at : ℕ) (z : Sizes) where
  pub rung_no_label : LabelParsed (label_from s at) s at None → (before after : Columns) → RungIsKept (rung_from names vars s at) s at z None before after
  unfolding rung_from
  rung_no_label f before after =
      let m = label_lost (label_from s at) f.same in
      let whole : rung_from names vars s at ≡ stuck m.0 = bind_stuck (label_from s at) _ m.0 m.1 in
      record { same = rw whole refl; within = tt; out = λ n g b. absurd (not_both _ _ _ _ whole b) }

  module _ (l : LabelAt) (f : LabelParsed (label_from s at) s at (Some l)) (e x : List ℕ) where
    rung_rest : rung_from names vars s at ≡ map_p (list_rung l.label) (code_from names vars s (suc (length s)) l.next)
    unfolding rung_from
    rung_rest = bind_read (label_from s at) _ l.next l.label (label_got (label_from s at) l f.same)

    pub rung_stuck : CodeParsed (code_from names vars s (suc (length s)) l.next) s l.next None z.instructions e x → (before after : Columns)
        → RungIsKept (rung_from names vars s at) s at z None before after
    rung_stuck g before after =
        let m = code_lost _ g.same in
        let whole : rung_from names vars s at ≡ stuck m.0 = rung_rest ∙ map_stuck (list_rung l.label) _ m.0 m.1 in
        record { same = rw whole refl; within = tt; out = λ n g b. absurd (not_both _ _ _ _ whole b) }

    module _ (c : CodeAt) (g : CodeParsed (code_from names vars s (suc (length s)) l.next) s l.next (Some c) z.instructions e x) where
      pub rung_kept : z.instructions ≤ at → z.rungs ≤ at → (ls os ns ls' os' ns' : List ℕ) (o n : ℕ)
          → (z.instructions ≤ most_number → o ≡ z.instructions) → (c.count ≤ most_number → n ≡ c.count)
          → ls' ≡ set ls z.rungs l.label → os' ≡ set os z.rungs o → ns' ≡ set ns z.rungs n
          → (y : Sizes) → y ≡ with_rung z c.count
          → RungIsKept (rung_from names vars s at) s at z (Some (record { next = c.next; sizes = y }))
          (record { words = e; labels = ls; offsets = os; lengths = ns }) (record { words = x; labels = ls'; offsets = os'; lengths = ns' })
      unfolding with_rung put_rung
      rung_kept few fewer ls os ns ls' os' ns' o n same_o same_n kl ko kn y grown =
          let p = code_got _ c g.same in
          let is = p.0 in
          let whole : rung_from names vars s at ≡ read c.next (list_rung l.label is) = rung_rest ∙ map_read (list_rung l.label) _ c.next is p.1 in
          let lb0 = f.within.0 in
          let cb0 = g.within.0 in
          let yi : y.instructions ≡ z.instructions + c.count = ap (λ (y : Sizes). y.instructions) grown in
          let yr : y.rungs ≡ z.rungs + 1 = ap (λ (y : Sizes). y.rungs) grown in
          record {
            same = rw (whole, p.2) (ap (λ (k : Sizes). Some (record { next = c.next; sizes = k })) grown);
            within = (omega arith, g.within.1, omega arith, omega arith);
            out = λ m h b room.
                let u : list_rung l.label is ≡ h = same_tree (sym whole ∙ b) in
                let ul : l.label ≡ h.label = ap (λ (q : ListRung). q.label) u in
                let uc : is ≡ h.code = ap (λ (q : ListRung). q.code) u in
                let un : c.count ≡ length h.code = sym p.2 ∙ ap length uc in
                four (g.out c.next is p.1 ∙ ap (λ d. sets e z.instructions (map instr_word d)) uc) (kl ∙ ap (set ls z.rungs) ul)
                (ko ∙ ap (set os z.rungs) (same_o (omega arith))) (kn ∙ ap (set ns z.rungs) (same_n (omega arith) ∙ un));
          }
        where
          four : {ws ws' ds ds' bs bs' cs cs' : List ℕ} → ws ≡ ws' → ds ≡ ds' → bs ≡ bs' → cs ≡ cs'
              → ◌≡◌ {A = Columns} (record { words = ws; labels = ds; offsets = bs; lengths = cs }) (record { words = ws'; labels = ds'; offsets = bs'; lengths = cs' })
          four a b c d = λ i. record { words = a i; labels = b i; offsets = c i; lengths = d i }

-- ---- words and records of some rungs with one rung more

module _ (done : List ListRung) (g : ListRung) where
  last_record : RungRecord
  last_record = record { label = g.label; offset = length (words_of (list_of_rungs done)); length = length g.code }

  words_length : length (words_of (list_of_rungs done)) ≡ sizes (λ g. length g.code) done
  unfolding list_of_rungs
  words_length = length-map (flat_map (λ g. g.code) done) instr_word ∙ pieces_length (λ (g : ListRung). g.code) done

  records_snoc : (list_of_rungs (done ++ g ∷ [])).records ≡ (list_of_rungs done).records ++ last_record ∷ []
  unfolding list_of_rungs last_record
  records_snoc = lay_snoc (λ g. g.label) (λ g. length g.code) 0 done g ∙ rw (zero-add, ← words_length) refl

  words_snoc : words_of (list_of_rungs (done ++ g ∷ [])) ≡ words_of (list_of_rungs done) ++ map instr_word g.code
  unfolding list_of_rungs
  words_snoc = ap (map instr_word) (flat_map_snoc (λ (g : ListRung). g.code) done g) ∙ map-append instr_word (flat_map (λ g. g.code) done) g.code

  records_length : length (list_of_rungs done).records ≡ length done
  unfolding list_of_rungs
  records_length = lay_length (λ (g : ListRung). g.label) (λ g. length g.code) 0 done

  sizes_more : sizes_of (done ++ g ∷ []) ≡ with_rung (sizes_of done) (length g.code)
  unfolding sizes_of with_rung last_record
  sizes_more =
      rw (words_snoc, records_snoc, length-append (words_of (list_of_rungs done)) (map instr_word g.code), length-map g.code instr_word, length-append done (g ∷ []), longest_snoc (list_of_rungs done).records last_record) refl

  stored_after : (field : RungRecord → ℕ) (b : List ℕ)
      → set (sets b 0 (map field (list_of_rungs done).records)) (length done) (field last_record) ≡ sets b 0 (map field (list_of_rungs (done ++ g ∷ [])).records)
  stored_after field b =
      let rs = (list_of_rungs done).records in
      let e : 0 + length (map field rs) ≡ length done = zero-add (length (map field rs)) ∙ length-map rs field ∙ records_length in
      sym (ap (λ (l : List RungRecord). sets b 0 (map field l)) records_snoc
      ∙ ap (sets b 0) (map-append field rs (last_record ∷ []))
      ∙ sets_append b 0 (map field rs) (field last_record ∷ [])
      ∙ ap (λ (i : ℕ). sets (sets b 0 (map field rs)) i (field last_record ∷ [])) e)

  words_after : (b : List ℕ) → sets (sets b 0 (words_of (list_of_rungs done))) (length (words_of (list_of_rungs done))) (map instr_word g.code) ≡ sets b 0 (words_of (list_of_rungs (done ++ g ∷ [])))
  words_after b =
      let ws = words_of (list_of_rungs done) in
      sym (ap (sets b 0) words_snoc ∙ sets_append b 0 ws (map instr_word g.code) ∙ ap (λ (i : ℕ). sets (sets b 0 ws) i (map instr_word g.code)) (zero-add (length ws)))

  put_more : (b : Columns) → put_rung (put_all b (list_columns done)) (sizes_of done) g.label (length g.code) (map instr_word g.code) ≡ put_all b (list_columns (done ++ g ∷ []))
  unfolding put_rung put_all as_buffers sizes_of last_record
  put_more b =
      rw (words_after b.words, stored_after (λ r. r.label) b.labels, stored_after (λ r. r.offset) b.offsets, stored_after (λ r. r.length) b.lengths) refl

-- ---- the loop over rungs: the rungs before what the lines that follow give are the text, and they are kept

pub record Keeping (names : Names) (vars : ℕ) (s : List ℕ) (before now : Columns) (next : ℕ) (z : Sizes) : Type 0 where
  pub left : ℕ
  pub done : List ListRung
  pub takes : z ≡ sizes_of done
  pub same : map_p (λ gs. done ++ gs) (rungs_from names vars s (suc left) next) ≡ list_text_of names vars s
  pub enough : length s ≤ next + left
  pub within : next ≤ length s
  pub few : z.instructions ≤ next
  pub fewer : z.rungs ≤ next
  pub out : z.instructions ≤ most_number → now ≡ put_all before (list_columns done)

no_rungs : sizes_of [] ≡ record { instructions = 0; rungs = 0; longest = 0 }
unfolding sizes_of list_of_rungs lay longest flat_map
no_rungs = refl

nothing_put : (b : Columns) → put_all b (list_columns []) ≡ b
unfolding put_all as_buffers list_of_rungs lay flat_map
nothing_put b = refl

pub keeping_start : (names : Names) (vars : ℕ) (s : List ℕ) (b : Columns) → Keeping names vars s b b 0 (record { instructions = 0; rungs = 0; longest = 0 })
unfolding list_text_of
keeping_start names vars s b =
    record {
      left = length s;
      done = [];
      takes = sym no_rungs;
      same = map_none (rungs_from names vars s (suc (length s)) 0);
      enough = omega arith;
      within = omega arith;
      few = omega arith;
      fewer = omega arith;
      out = λ h. sym (nothing_put b);
    }

rung_got : (z : Sizes) (p : Parse ListRung) (r : RungAt) → Some r ≡ rung_case z p → (g : ListRung) × (p ≡ read r.next g) × (r.sizes ≡ with_rung z (length g.code))
rung_got z (read m g) r e = let q : r ≡ record { next = m; sizes = with_rung z (length g.code) } = cc in (g, rw q refl, rw q refl)
rung_got z (stuck p) r e = let k : ◌≡◌ {A = ℕ} 0 1 = cc in absurd (omega arith)

rung_lost : (z : Sizes) (p : Parse ListRung) → None ≡ rung_case z p → (m : ℕ) × (p ≡ stuck m)
rung_lost z (read m g) e = let k : ◌≡◌ {A = ℕ} 0 1 = cc in absurd (omega arith)
rung_lost z (stuck m) e = (m, refl)

pred_of : (k : ℕ) → 1 ≤ k → (j : ℕ) × (k ≡ suc j)
pred_of zero h = absurd (omega arith)
pred_of (suc j) h = (j, refl)

rung_then : (names : Names) (vars : ℕ) (s : List ℕ) (l next n : ℕ) (g : ListRung) → rung_from names vars s next ≡ read n g → (n ≡ length s → ⊥)
    → rungs_from names vars s (suc l) next ≡ map_p (λ gs. g ∷ gs) (rungs_from names vars s l n)
unfolding rungs_from bind
rung_then names vars s l next n g e q = rw (e, ne_eqb n (length s) q) refl

rung_last : (names : Names) (vars : ℕ) (s : List ℕ) (l next n : ℕ) (g : ListRung) → rung_from names vars s next ≡ read n g → n ≡ length s → rungs_from names vars s (suc l) next ≡ read n (g ∷ [])
unfolding rungs_from bind
rung_last names vars s l next n g e q = rw (e, eq-eqb n (length s) q) refl

rungs_lost : (names : Names) (vars : ℕ) (s : List ℕ) (l next x : ℕ) → rung_from names vars s next ≡ stuck x → rungs_from names vars s (suc l) next ≡ stuck x
unfolding rungs_from bind
rungs_lost names vars s l next x e = rw e refl

module _ (names : Names) (vars : ℕ) (s : List ℕ) (before now : Columns) (next : ℕ) (z : Sizes) (h : Keeping names vars s before now next z)
    (after : Columns) where
  pub rungs_stuck : RungIsKept (rung_from names vars s next) s next z None now after → (last : Columns)
      → RungsAreKept (list_text_of names vars s) None before last
  rungs_stuck f last =
      let m = rung_lost z (rung_from names vars s next) f.same in
      let k : list_text_of names vars s ≡ stuck m.0 = sym h.same ∙ map_stuck (λ gs. h.done ++ gs) _ m.0 (rungs_lost names vars s h.left next m.0 m.1) in
      record { same = rw k refl; out = λ n gs b i. absurd (not_both _ _ _ _ k b) }

  module _ (r : RungAt) (f : RungIsKept (rung_from names vars s next) s next z (Some r) now after) where
    module _ (g : ListRung) (p : rung_from names vars s next ≡ read r.next g) (grown : r.sizes ≡ with_rung z (length g.code)) where
      takes_more : r.sizes ≡ sizes_of (h.done ++ g ∷ [])
      takes_more = grown ∙ ap (λ (k : Sizes). with_rung k (length g.code)) h.takes ∙ sym (sizes_more h.done g)

      put_rung_lem : r.sizes.instructions ≤ most_number → after ≡ put_all before (list_columns (h.done ++ g ∷ []))
      unfolding with_rung
      put_rung_lem m =
          let k : r.sizes.instructions ≡ z.instructions + length g.code = ap (λ (k : Sizes). k.instructions) grown in
          f.out r.next g p (omega arith)
          ∙ ap (λ (b : Columns). put_rung b z g.label (length g.code) (map instr_word g.code)) (h.out (omega arith))
          ∙ ap (λ (k : Sizes). put_rung (put_all before (list_columns h.done)) k g.label (length g.code) (map instr_word g.code)) h.takes
          ∙ put_more h.done g before

      end_with : r.next ≡ length s → RungsAreKept (list_text_of names vars s) (Some r.sizes) before after
      end_with q =
          let whole : list_text_of names vars s ≡ read r.next (h.done ++ g ∷ []) =
          sym h.same ∙ map_read (λ gs. h.done ++ gs) _ r.next (g ∷ []) (rung_last names vars s h.left next r.next g p q) in
          record {
            same = rw whole (ap Some takes_more);
            out = λ k gs b m.
                let u : h.done ++ g ∷ [] ≡ gs = same_tree (sym whole ∙ b) in
                let v : r.sizes ≡ sizes_of gs = takes_more ∙ ap sizes_of u in
                let w : r.sizes.instructions ≡ (sizes_of gs).instructions = ap (λ (k : Sizes). k.instructions) v in
                put_rung_lem (omega arith) ∙ ap (λ hs. put_all before (list_columns hs)) u;
          }

      more_with : (r.next ≡ length s → ⊥) → Keeping names vars s before after r.next r.sizes
      more_with q =
          let b = f.within in
          let b0 = b.0 in
          let en = h.enough in
          let b1 = b.1 in
          let less = pred_of h.left (bigger (r.next ≡ length s → ⊥) q b1 b0 en) in
          let step = rung_then names vars s h.left next r.next g p q in
          let u = less.1 in
          record {
            left = less.0;
            done = h.done ++ g ∷ [];
            takes = takes_more;
            same = rw (← u) (sym (map_more h.done g (rungs_from names vars s h.left r.next)) ∙ (ap (map_p (λ gs. h.done ++ gs)) (sym step) ∙ h.same));
            enough = omega arith;
            within = b1;
            few = b.2;
            fewer = b.3;
            out = put_rung_lem;
          }
        where
          bigger : (Q : Type 0) → Q → r.next ≤ length s → next < r.next → length s ≤ next + h.left → 1 ≤ h.left
          bigger Q q a b c = omega arith

    pub rungs_end : r.next ≡ length s → RungsAreKept (list_text_of names vars s) (Some r.sizes) before after
    rungs_end q = let t = rung_got z (rung_from names vars s next) r f.same in end_with t.0 t.1 t.2 q

    pub rungs_more : (r.next ≡ length s → ⊥) → Keeping names vars s before after r.next r.sizes
    rungs_more q = let t = rung_got z (rung_from names vars s next) r f.same in more_with t.0 t.1 t.2 q
