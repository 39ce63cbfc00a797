-- Laws of a ladder's list with one rung more, and of the loop that lays it out. Assumes nothing.
use mathlib.Core.Path.{◌≡◌, refl, sym, ap, subst, ◌∙◌}
use mathlib.Core.List.{List, [], ◌∷◌, ◌++◌, map, flat_map, map-append}
use Prim.Native.Nat.{ℕ, zero, suc, ◌+◌, ◌-◌, ◌*◌, ◌≤◌, ◌<◌, ◌^◌, max}
use native.Mathlib.Nat.{zero-add}
use native.Mathlib.Numerals.{add-one}
use native.Mathlib.Omega.{arith}
use lib.ListN.{length, get_or, take, set, length-map, length-set}
use lib.Seq.{sets, length-take-le, take_all}
use Rattle.questions.proofs.Laws.Answers.{vars_in_range_lem}
use Rattle.rungs.specs.Records.{RungRecord, offsets, lay, start_of, longest}
use Rattle.rungs.proofs.Laws.Layout.{sizes, sizes_snoc, pieces_length, lay_length, lay_snoc, longest_snoc}
use Rattle.ladder_definitions.specs.Tree.{Rung, Ladder}
use Rattle.ladder_definitions.specs.Kept.{rung_words, encode}
use Rattle.ladder_definitions.specs.Held.{RungAt, LadderHeld}
use Rattle.ladder_definitions.proofs.Laws.Held.{Apart, as_many, rung_at_lem}
use Rattle.ladder_definitions.proofs.Laws.Accepting.{sized}
use Rattle.translation_definitions.specs.Translate.{rung_code, list_records, translate}
use Rattle.translation_code.specs.Parts.{CodePut, RungPut, start_in}
use Rattle.translation_layout.specs.Parts.{LadderReady, LaidOut}
use Rattle.translation_definitions.proofs.Laws.Parts.{same_length}
use Rattle.translation_code.specs.declared.Positions.{Positions}
use Rattle.questions.proofs.Laws.Stores.{sets_append}

-- ---- one rung more

-- the rung at place k, and the rungs up to it
pub record Next (gs : Ladder) (k : ℕ) : Type 0 where
  pub apart : Apart gs k
  pub upto : take (suc k) gs ≡ take k gs ++ apart.rung ∷ []
  pub same_label : get_or (map (λ (g : Rung). g.label) gs) k 0 ≡ apart.rung.label

pub next_rung_lem : (gs : Ladder) (k : ℕ) → k < length gs → Next gs k
next_rung_lem [] k h = absurd (omega arith)
next_rung_lem (g ∷ gs) zero h = record { apart = record { rung = g; here = refl }; upto = refl; same_label = refl }
next_rung_lem (g ∷ gs) (suc k) h =
    let n = next_rung_lem gs k (omega arith) in
    record { apart = record { rung = n.apart.rung; here = n.apart.here }; upto = ap (λ l. g ∷ l) n.upto; same_label = n.same_label }

abbrev pub words_of : Rung → ℕ
words_of g = length (rung_words g)

abbrev pub size_of : ℕ → Rung → ℕ
size_of vars g = length (rung_code vars (λ l. 0) g)

-- the records of the list's first k rungs
abbrev pub firsts : ℕ → Ladder → ℕ → List RungRecord
firsts vars gs k = lay (λ g. g.label) (size_of vars) 0 (take k gs)

sizes_some : {A : Type 0} (size : A → ℕ) (k : ℕ) (gs : List A) → sizes size (take k gs) ≤ sizes size gs
unfolding sizes
sizes_some size zero gs = omega arith
sizes_some size (suc k) [] = omega arith
sizes_some size (suc k) (g ∷ gs) = let h = sizes_some size k gs in omega arith

module _ (vars : ℕ) (gs : Ladder) (k : ℕ) (n : Next gs k) where
  abbrev last_record : RungRecord
  last_record = record { label = n.apart.rung.label; offset = sizes (size_of vars) (take k gs); length = size_of vars n.apart.rung }

  pub upto_one : take (k + 1) gs ≡ take k gs ++ n.apart.rung ∷ []
  upto_one = ap (λ j. take j gs) (add-one k) ∙ n.upto

  pub sizes_more : (size : Rung → ℕ) → sizes size (take (k + 1) gs) ≡ sizes size (take k gs) + size n.apart.rung
  sizes_more size = ap (sizes size) upto_one ∙ sizes_snoc size (take k gs) n.apart.rung

  firsts_more : firsts vars gs (k + 1) ≡ firsts vars gs k ++ last_record ∷ []
  firsts_more =
      ap (lay (λ g. g.label) (size_of vars) 0) upto_one
      ∙ lay_snoc (λ g. g.label) (size_of vars) 0 (take k gs) n.apart.rung
      ∙ rw zero-add refl

  longest_more : longest (firsts vars gs (k + 1)) ≡ max (longest (firsts vars gs k)) (size_of vars n.apart.rung)
  longest_more = ap longest firsts_more ∙ longest_snoc (firsts vars gs k) last_record

  module _ (h : k < length gs) (field : RungRecord → ℕ) (b : List ℕ) where
    -- a field of the records, stored after those before
    stored_after : set (sets b 0 (map field (firsts vars gs k))) k (field last_record) ≡ sets b 0 (map field (firsts vars gs (k + 1)))
    stored_after =
        let rs = firsts vars gs k in
        let e : 0 + length (map field rs) ≡ k =
        zero-add (length (map field rs)) ∙ length-map rs field ∙ lay_length (λ g. g.label) (size_of vars) 0 (take k gs) ∙ length-take-le k gs (omega arith) in
        sym (ap (λ (l : List RungRecord). sets b 0 (map field l)) firsts_more
        ∙ ap (sets b 0) (map-append field rs (last_record ∷ []))
        ∙ sets_append b 0 (map field rs) (field last_record ∷ [])
        ∙ ap (λ (i : ℕ). sets (sets b 0 (map field rs)) i (field last_record ∷ [])) e)

    pub stored : (x : List ℕ) (v : ℕ) → x ≡ sets b 0 (map field (firsts vars gs k)) → v ≡ field last_record → set x k v ≡ sets b 0 (map field (firsts vars gs (k + 1)))
    stored x v p q = rw (p, q) stored_after

  pub stored_label : k < length gs → (b x : List ℕ) (v : ℕ) → x ≡ sets b 0 (map (λ r. r.label) (firsts vars gs k)) → v ≡ n.apart.rung.label
      → set x k v ≡ sets b 0 (map (λ r. r.label) (firsts vars gs (k + 1)))
  stored_label h b x v p q = stored h (λ r. r.label) b x v p q

  pub stored_offset : k < length gs → (b x : List ℕ) (v : ℕ) → x ≡ sets b 0 (offsets (firsts vars gs k)) → v ≡ sizes (size_of vars) (take k gs)
      → set x k v ≡ sets b 0 (offsets (firsts vars gs (k + 1)))
  stored_offset h b x v p q = stored h (λ r. r.offset) b x v p q

  pub stored_length : k < length gs → (b x : List ℕ) (v : ℕ) → x ≡ sets b 0 (map (λ r. r.length) (firsts vars gs k)) → v ≡ size_of vars n.apart.rung
      → set x k v ≡ sets b 0 (map (λ r. r.length) (firsts vars gs (k + 1)))
  stored_length h b x v p q = stored h (λ r. r.length) b x v p q

-- ---- what is known of a ready ladder

pub all_words : (ws ls os : List ℕ) (gs : Ladder) → LadderHeld ws ls os gs → length ws ≡ sizes words_of gs
unfolding encode
all_words ws ls os gs held = ap length held.words ∙ pieces_length rung_words gs

module _ (ws ls os : List ℕ) (k : ℕ) (h : k < length os) (gs : Ladder) (held : LadderHeld ws ls os gs) where
  pub in_ladder : k < length gs
  in_ladder = let m = as_many ws ls os gs held in omega arith

  pub next_of : Next gs k
  next_of = next_rung_lem gs k in_ladder

module _ (vars : ℕ) (ws ls os starts : List ℕ) (r : LadderReady vars ws ls os starts) where
  pub few_vars : vars ≤ 1024
  few_vars = (vars_in_range_lem vars r.accepted.range).1

  pub few_words : length ws ≤ 8192
  unfolding encode
  few_words = let h = (sized r.ladder r.accepted.sizes).words in omega (arith, ap length r.held.words)

  pub few_rungs : length os ≤ 256
  few_rungs = let h = (sized r.ladder r.accepted.sizes).rungs in omega (arith, as_many ws ls os r.ladder r.held)

-- the instructions before place k of the list
pub record Before (vars : ℕ) (ws ls os : List ℕ) (k put : ℕ) : Type 0 where
  pub same : (gs : Ladder) → LadderHeld ws ls os gs → put ≡ sizes (size_of vars) (take k gs)
  pub few : (gs : Ladder) → LadderHeld ws ls os gs → put ≤ 2 * sizes words_of (take k gs)

pub before_first : (vars : ℕ) (ws ls os : List ℕ) → Before vars ws ls os 0 0
unfolding sizes
before_first vars ws ls os = record { same = λ gs held. refl; few = λ gs held. omega arith }

module _ (vars : ℕ) (ws ls os : List ℕ) (k put : ℕ) (b : Before vars ws ls os k put) where
  -- two instructions a word at most
  pub few_put : (starts : List ℕ) → LadderReady vars ws ls os starts → put ≤ 16384
  few_put starts r =
      let h = b.few r.ladder r.held in
      let s = sizes_some words_of k r.ladder in
      let w = all_words ws ls os r.ladder r.held in
      let m = few_words vars ws ls os starts r in
      omega arith

  pub rung_ready : (starts : List ℕ) → LadderReady vars ws ls os starts → (at : ℕ) → (vars ≤ 1024) × (length ws ≤ 8192) × (put + 2 * (length ws - at) < 2 ^ 31)
  rung_ready starts r at =
      let m = few_words vars ws ls os starts r in
      let p = few_put starts r in
      (few_vars vars ws ls os starts r, m, omega arith)

-- one rung's instructions put, from its offset on, its jumps by the labels ms and their starts
module _ (vars : ℕ) (ws ls os : List ℕ) (k put : ℕ) (h : k < length os) (at : ℕ) (here : at ≡ get_or os k 0) (ms st : List ℕ) (r : Positions) (e x : List ℕ)
    (p : RungPut vars ws at ms st put r e x) where
  module _ (gs : Ladder) (held : LadderHeld ws ls os gs) where
    abbrev pub rung_at : Rung
    rung_at = (next_of ws ls os k h gs held).apart.rung

    pub one_put : CodePut at (length (rung_words rung_at)) put (rung_code vars (start_in ms st) rung_at) r e x
    one_put =
        let n = next_of ws ls os k h gs held in
        p.done rung_at (subst (λ (i : ℕ). RungAt ws i rung_at) (sym here) (rung_at_lem ws ls os gs held k (in_ladder ws ls os k h gs held) n.apart))

    pub one_size : r.put ≡ put + size_of vars rung_at
    one_size = one_put.end ∙ ap (λ n. put + n) (same_length vars (start_in ms st) (λ l. 0) rung_at)

  pub before_more : Before vars ws ls os k put → Before vars ws ls os (k + 1) r.put
  before_more b = record {
    same = λ gs held.
        one_size gs held ∙ ap (λ n. n + size_of vars (rung_at gs held)) (b.same gs held) ∙ sym (sizes_more vars gs k (next_of ws ls os k h gs held) (size_of vars));
    few = λ gs held.
        let w = p.within.few in
        let f = b.few gs held in
        let n = (one_put gs held).next in
        let m = sizes_more vars gs k (next_of ws ls os k h gs held) words_of in
        omega arith;
  }

-- ---- all rungs

module _ (ws ls os : List ℕ) (k : ℕ) (h : length os ≤ k) (gs : Ladder) (held : LadderHeld ws ls os gs) where
  pub all_taken : take k gs ≡ gs
  all_taken = let m = as_many ws ls os gs held in take_all k gs (omega arith)

  pub all_firsts : (vars : ℕ) → firsts vars gs k ≡ list_records vars gs
  unfolding list_records
  all_firsts vars = ap (lay (λ g. g.label) (size_of vars) 0) all_taken

sizes_same : {A : Type 0} (size size' : A → ℕ) → ((g : A) → size g ≡ size' g) → (gs : List A) → sizes size gs ≡ sizes size' gs
unfolding sizes
sizes_same size size' h [] = refl
sizes_same size size' h (g ∷ gs) = rw (h g, sizes_same size size' h gs)

pub code_length : (vars : ℕ) (start : ℕ → ℕ) (gs : Ladder) → length (flat_map (rung_code vars start) gs) ≡ sizes (size_of vars) gs
code_length vars start gs = pieces_length (rung_code vars start) gs ∙ sizes_same (λ g. length (rung_code vars start g)) (size_of vars) (same_length vars start (λ l. 0)) gs

list_length : (vars : ℕ) (gs : Ladder) → length (translate vars gs).code ≡ sizes (size_of vars) gs
unfolding translate
list_length vars gs = code_length vars (start_of (list_records vars gs)) gs

-- ---- the loop: the rungs before place k are laid out

pub record Laying (vars : ℕ) (ws ls os e x : List ℕ) (k put most : ℕ) : Type 0 where
  pub put_before : Before vars ws ls os k put
  pub longest_before : (gs : Ladder) → LadderHeld ws ls os gs → most ≡ longest (firsts vars gs k)
  pub starts : (gs : Ladder) → LadderHeld ws ls os gs → x ≡ sets e 0 (offsets (firsts vars gs k))
  pub long : length x ≡ length e

pub laying_first : (vars : ℕ) (ws ls os e : List ℕ) → Laying vars ws ls os e e 0 0 0
unfolding lay longest
laying_first vars ws ls os e =
    record { put_before = before_first vars ws ls os; longest_before = λ gs held. refl; starts = λ gs held. refl; long = refl }

module _ (vars : ℕ) (ws ls os e x : List ℕ) (k put most : ℕ) (l : Laying vars ws ls os e x k put most) where
  pub room : LadderReady vars ws ls os e → k < length os → (put ≤ 16384) × (k < length x) × (k < 256)
  room r h =
      let a = few_put vars ws ls os k put l.put_before e r in
      let b = few_rungs vars ws ls os e r in
      let c = l.long in
      let d = r.enough in
      (a, omega arith, omega arith)

  pub laying_more : k < length os → (at : ℕ) → at ≡ get_or os k 0 → (ms st : List ℕ) (r : Positions) (a b : List ℕ) → RungPut vars ws at ms st put r a b
      → (most' : ℕ) → most' ≡ max most (r.put - put) → Laying vars ws ls os e (set x k put) (k + 1) r.put most'
  laying_more h at here ms st r a b p most' m = record {
    put_before = before_more vars ws ls os k put h at here ms st r a b p l.put_before;
    longest_before = λ gs held.
        let n = next_of ws ls os k h gs held in
        let s : r.put - put ≡ size_of vars n.apart.rung = omega (arith, one_size vars ws ls os k put h at here ms st r a b p gs held) in
        m ∙ ap (λ i. max most i) s ∙ ap (λ i. max i (size_of vars n.apart.rung)) (l.longest_before gs held) ∙ sym (longest_more vars gs k n);
    starts = λ gs held.
        stored_offset vars gs k (next_of ws ls os k h gs held) (in_ladder ws ls os k h gs held) e x put (l.starts gs held) (l.put_before.same gs held);
    long = length-set x k put ∙ l.long;
  }

  pub laid_all : length os ≤ k → LaidOut vars ws ls os (record { instructions = put; longest = most }) e x
  laid_all h = record {
    instructions = λ gs held. l.put_before.same gs held ∙ ap (sizes (size_of vars)) (all_taken ws ls os k h gs held) ∙ sym (list_length vars gs);
    longest = λ gs held. l.longest_before gs held ∙ ap longest (all_firsts ws ls os k h gs held vars);
    starts = λ gs held. l.starts gs held ∙ ap (λ rs. sets e 0 (offsets rs)) (all_firsts ws ls os k h gs held vars);
  }
