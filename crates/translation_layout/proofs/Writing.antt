-- Laws of the loop that writes a ladder's list, rung by rung. Assumes nothing.
use mathlib.Core.Path.{◌≡◌, refl, sym, ap, ◌∙◌}
use mathlib.Core.List.{List, ◌++◌, map, flat_map, map-append}
use Prim.Native.Nat.{ℕ, ◌+◌, ◌-◌, ◌≤◌, ◌<◌}
use native.Mathlib.Nat.{zero-add}
use native.Mathlib.Omega.{arith}
use lib.ListN.{length, get_or, take, set, length-map}
use lib.Seq.{sets, length-sets}
use Rattle.rungs.specs.Records.{RungRecord, lay, search, start_of, labels as labels_of, offsets as offsets_of}
use Rattle.rungs.specs.Buffers.{Columns, columns_of, as_buffers}
use Rattle.rungs.specs.Parts.{put_all}
use Rattle.rungs.proofs.Laws.Layout.{sizes, lay_labels, flat_map_snoc}
use Rattle.ladder_definitions.specs.Tree.{Ladder}
use Rattle.ladder_definitions.specs.Held.{LadderHeld}
use Rattle.ladder_definitions.proofs.Laws.Held.{many, as_many}
use Rattle.list_definitions.specs.Instruction.{instr_word}
use Rattle.translation_definitions.specs.Translate.{rung_code, list_records, translate}
use Rattle.translation_definitions.specs.TranslateKept.{list_buffers}
use Rattle.translation_code.specs.Parts.{RungPut, start_in}
use Rattle.translation_layout.specs.Parts.{LadderReady, ListPut}
use Rattle.translation_code.specs.declared.Positions.{Positions}
use Rattle.questions.proofs.Laws.Stores.{sets_append}
use Rattle.translation_layout.proofs.Laying.{size_of, firsts, Next, upto_one, stored_label, stored_offset, stored_length, in_ladder, next_of, few_rungs, Before, before_first, few_put, one_put, one_size, before_more, all_taken, all_firsts, code_length}

-- the words of the list's first k rungs, whose jumps lead where `start` says
abbrev pub first_words : ℕ → (ℕ → ℕ) → Ladder → ℕ → List ℕ
first_words vars start gs k = map instr_word (flat_map (rung_code vars start) (take k gs))

module _ (vars : ℕ) (start : ℕ → ℕ) (gs : Ladder) (k : ℕ) where
  words_long : length (first_words vars start gs k) ≡ sizes (size_of vars) (take k gs)
  words_long = length-map (flat_map (rung_code vars start) (take k gs)) instr_word ∙ code_length vars start (take k gs)

  module _ (n : Next gs k) where
    words_more : first_words vars start gs (k + 1) ≡ first_words vars start gs k ++ map instr_word (rung_code vars start n.apart.rung)
    words_more =
        ap (λ (hs : Ladder). map instr_word (flat_map (rung_code vars start) hs)) (upto_one vars gs k n)
        ∙ ap (map instr_word) (flat_map_snoc (rung_code vars start) (take k gs) n.apart.rung)
        ∙ map-append instr_word (flat_map (rung_code vars start) (take k gs)) (rung_code vars start n.apart.rung)

    words_stored : (b x y : List ℕ) (put : ℕ) → x ≡ sets b 0 (first_words vars start gs k) → put ≡ sizes (size_of vars) (take k gs)
        → y ≡ sets x put (map instr_word (rung_code vars start n.apart.rung)) → y ≡ sets b 0 (first_words vars start gs (k + 1))
    words_stored b x y put p q e =
        let more = map instr_word (rung_code vars start n.apart.rung) in
        let i : put ≡ 0 + length (first_words vars start gs k) = q ∙ sym words_long ∙ sym (zero-add (length (first_words vars start gs k))) in
        e ∙ ap (λ (l : List ℕ). sets l put more) p ∙ ap (λ (j : ℕ). sets (sets b 0 (first_words vars start gs k)) j more) i
        ∙ sym (sets_append b 0 (first_words vars start gs k) more) ∙ sym (ap (sets b 0) words_more)

-- ---- the loop: the rungs before place k are written

pub record Writing (vars : ℕ) (ws ls os starts : List ℕ) (e x : Columns) (k put : ℕ) : Type 0 where
  pub put_before : Before vars ws ls os k put
  pub words : (gs : Ladder) → LadderHeld ws ls os gs → x.words ≡ sets e.words 0 (first_words vars (start_in ls starts) gs k)
  pub labels : (gs : Ladder) → LadderHeld ws ls os gs → x.labels ≡ sets e.labels 0 (labels_of (firsts vars gs k))
  pub offsets : (gs : Ladder) → LadderHeld ws ls os gs → x.offsets ≡ sets e.offsets 0 (offsets_of (firsts vars gs k))
  pub lengths : (gs : Ladder) → LadderHeld ws ls os gs → x.lengths ≡ sets e.lengths 0 (map (λ (r : RungRecord). r.length) (firsts vars gs k))

pub writing_first : (vars : ℕ) (ws ls os starts : List ℕ) (e : Columns) → Writing vars ws ls os starts e e 0 0
unfolding lay flat_map
writing_first vars ws ls os starts e = record {
  put_before = before_first vars ws ls os;
  words = λ gs held. refl;
  labels = λ gs held. refl;
  offsets = λ gs held. refl;
  lengths = λ gs held. refl;
}

-- no buffer gets longer
pub record AsLong (a b : Columns) : Type 0 where
  pub words : length b.words ≡ length a.words
  pub labels : length b.labels ≡ length a.labels
  pub offsets : length b.offsets ≡ length a.offsets
  pub lengths : length b.lengths ≡ length a.lengths

kept_long : (x b : List ℕ) (i : ℕ) (vs : List ℕ) → x ≡ sets b i vs → length x ≡ length b
kept_long x b i vs p = ap length p ∙ length-sets b i vs

module _ (vars : ℕ) (ws ls os starts : List ℕ) (e x : Columns) (k put : ℕ) (w : Writing vars ws ls os starts e x k put) where
  pub room : LadderReady vars ws ls os starts → k < length os → (put ≤ 16384) × (k < length ls) × (k < 256)
  room r h =
      let a = few_put vars ws ls os k put w.put_before starts r in
      let b = few_rungs vars ws ls os starts r in
      let c = as_many ws ls os r.ladder r.held in
      let d = many ws ls os r.ladder r.held in
      (a, omega arith, omega arith)

  pub as_long : LadderReady vars ws ls os starts → AsLong e x
  as_long r = record {
    words = kept_long _ e.words 0 (first_words vars (start_in ls starts) r.ladder k) (w.words r.ladder r.held);
    labels = kept_long _ e.labels 0 (labels_of (firsts vars r.ladder k)) (w.labels r.ladder r.held);
    offsets = kept_long _ e.offsets 0 (offsets_of (firsts vars r.ladder k)) (w.offsets r.ladder r.held);
    lengths = kept_long _ e.lengths 0 (map (λ (q : RungRecord). q.length) (firsts vars r.ladder k)) (w.lengths r.ladder r.held);
  }

  module _ (h : k < length os) (at : ℕ) (here : at ≡ get_or os k 0) (r : Positions) (c : List ℕ) (p : RungPut vars ws at ls starts put r x.words c) where
    after : Before vars ws ls os (k + 1) r.put
    after = before_more vars ws ls os k put h at here ls starts r x.words c p w.put_before

    pub few_more : LadderReady vars ws ls os starts → r.put ≤ 16384
    few_more ready = few_put vars ws ls os (k + 1) r.put after starts ready

    pub writing_more : (y : Columns) → y.words ≡ c → y.labels ≡ set x.labels k (get_or ls k 0) → y.offsets ≡ set x.offsets k put
        → y.lengths ≡ set x.lengths k (r.put - put) → Writing vars ws ls os starts e y (k + 1) r.put
    writing_more y a f o l = record {
      put_before = after;
      words = λ gs held.
          words_stored vars (start_in ls starts) gs k (next_of ws ls os k h gs held) e.words x.words y.words put (w.words gs held) (w.put_before.same gs held)
          (a ∙ (one_put vars ws ls os k put h at here ls starts r x.words c p gs held).wrote);
      labels = λ gs held.
          let n = next_of ws ls os k h gs held in
          f ∙ stored_label vars gs k n (in_ladder ws ls os k h gs held) e.labels x.labels (get_or ls k 0) (w.labels gs held)
          (ap (λ (ms : List ℕ). get_or ms k 0) held.same_labels ∙ n.same_label);
      offsets = λ gs held.
          o ∙ stored_offset vars gs k (next_of ws ls os k h gs held) (in_ladder ws ls os k h gs held) e.offsets x.offsets put (w.offsets gs held)
          (w.put_before.same gs held);
      lengths = λ gs held.
          l ∙ stored_length vars gs k (next_of ws ls os k h gs held) (in_ladder ws ls os k h gs held) e.lengths x.lengths (r.put - put) (w.lengths gs held)
          (omega (arith, one_size vars ws ls os k put h at here ls starts r x.words c p gs held));
    }

  module _ (h : length os ≤ k) (gs : Ladder) (held : LadderHeld ws ls os gs) where
    -- where the records say that a label's rung begins
    start_of_lem : (l : ℕ) → start_in ls (offsets_of (list_records vars gs)) l ≡ start_of (list_records vars gs) l
    unfolding start_in start_of list_records
    start_of_lem l =
        ap (λ (ms : List ℕ). get_or (offsets_of (list_records vars gs)) (search l ms) 0)
        (held.same_labels ∙ sym (lay_labels (λ g. g.label) (size_of vars) 0 gs))

    module _ (s : (l : ℕ) → start_in ls starts l ≡ start_in ls (offsets_of (list_records vars gs)) l) where
      same_start : start_in ls starts ≡ start_of (list_records vars gs)
      same_start = λ i l. (s l ∙ start_of_lem l) i

      all_words : first_words vars (start_in ls starts) gs k ≡ map instr_word (translate vars gs).code
      unfolding translate
      all_words =
          ap (λ (start : ℕ → ℕ). first_words vars start gs k) same_start
          ∙ ap (λ (hs : Ladder). map instr_word (flat_map (rung_code vars (start_of (list_records vars gs))) hs)) (all_taken ws ls os k h gs held)

      all_put : x ≡ put_all e (columns_of (list_buffers (translate vars gs)))
      unfolding put_all as_buffers translate
      all_put =
          let rs = all_firsts ws ls os k h gs held vars in
          let a = w.words gs held ∙ ap (sets e.words 0) all_words in
          let b = w.labels gs held ∙ ap (λ (qs : List RungRecord). sets e.labels 0 (labels_of qs)) rs in
          let c = w.offsets gs held ∙ ap (λ (qs : List RungRecord). sets e.offsets 0 (offsets_of qs)) rs in
          let d = w.lengths gs held ∙ ap (λ (qs : List RungRecord). sets e.lengths 0 (map (λ (r : RungRecord). r.length) qs)) rs in
          λ i. record { words = a i; labels = b i; offsets = c i; lengths = d i }

  pub written_all : length os ≤ k → ListPut vars ws ls os starts e x
  written_all h = record { wrote = λ gs held s. all_put h gs held s }
