-- Decoding undoes encoding, and what is decoded was encoded. Assumes nothing.
use Rattle.std.specs.Prelude.{ℕ, zero, suc, ◌+◌, ◌/◌, ◌%◌, ◌≤◌, ◌<◌, ◌≡◌, refl, Bool, true, false, ◌&&◌, T, eqb, leb, ltb, length, take, drop, get_or}
use Rattle.std.proofs.Common.{arith, sym, ap, ◌∙◌, eqb→eq, le→leb, leb→le, ltb→lt, lt→ltb, length-append, take-append-drop, length-take-le}
use Rattle.std.proofs.Math.Option.{Option, none, some}
use mathlib.Core.List.{List, [], ◌∷◌, ◌++◌, flat_map, append_assoc, append-nil}
use Rattle.std.proofs.Math.Dec.{eqb_refl}
use Rattle.std.proofs.Math.Seq.{take-append_seam, drop-append_seam}
use Rattle.std.proofs.Math.Facts.{and_yes, yes_and}
use Rattle.questions.specs.Tests.{all}
use Rattle.questions.proofs.Laws.Tests.{none_some, T→true, all_head, all_tail, all_cons}
use Rattle.rungs.specs.Records.{RungRecord, lay}
use Rattle.rungs.proofs.Laws.Numbers.{Firsts, ◌then◌, past, every}
use Rattle.ladder_definitions.specs.Tree.{Input, contact, contactn, Front, input, front_and, front_or, Output, coil, coiln, jump, jumpn, set_coil, reset_coil, timer, Rear, output, rear_and, rear_or, Rung, Ladder, front_all, rear_all, rung_all, input_variable, output_names, number}
use Rattle.rungs.specs.Words.{operands, word}
use Rattle.ladder_definitions.specs.Kept.{input_kind, output_kind, input_word, output_word, front_words, rear_words, rung_words, Trees, trees, put_input, put_front, put_output, put_rear_and, put_rear_or, no_kind, kinds, decode_words, one_rung, decode_rung, decode_from, input_fits, output_fits}

abbrev front_fits : Front → Bool
front_fits = front_all input_fits

abbrev rear_fits : Rear → Bool
rear_fits = rear_all input_fits output_fits

abbrev pub rung_fits : Rung → Bool
rung_fits = rung_all input_fits output_fits

-- ---- from trees to words and back

decode_word : (w k o : ℕ) (ws : List ℕ) (ts : Trees) → decode_words ws ≡ some ts → w / operands ≡ k → w % operands ≡ o → decode_words (w ∷ ws) ≡ get_or kinds k no_kind o ts
unfolding decode_words
decode_word w k o ws ts e p q = rw (e, p, q, decode_words)

-- a word that holds an operand of 16 bits
operand_word : (k o : ℕ) (ws : List ℕ) (ts : Trees) → T (ltb o operands) → decode_words ws ≡ some ts → decode_words (word k o ∷ ws) ≡ get_or kinds k no_kind o ts
operand_word k o ws ts h e = let l = ltb→lt o operands h in decode_word (word k o) k o ws ts e (omega arith) (omega arith)

front_back : (f : Front) (ws : List ℕ) (fs : List Front) (rs : List Rear) → T (front_fits f) → decode_words ws ≡ some (trees fs rs)
    → decode_words (front_words f ++ ws) ≡ some (trees (f ∷ fs) rs)
unfolding front_words input_word input_kind input_variable front_all input_fits kinds put_input put_front
front_back (input (contact v)) ws fs rs h e = operand_word 1 v ws _ h e
front_back (input (contactn v)) ws fs rs h e = operand_word 2 v ws _ h e
front_back (front_and f g) ws fs rs h e =
    let b = and_yes (front_fits f) (front_fits g) h in
    rw append_assoc (decode_word (word 3 0) 3 0 (front_words f ++ (front_words g ++ ws)) _ (front_back f (front_words g ++ ws) _ _ b.0 (front_back g ws fs rs b.1 e)) refl refl)
front_back (front_or f g) ws fs rs h e =
    let b = and_yes (front_fits f) (front_fits g) h in
    rw append_assoc (decode_word (word 4 0) 4 0 (front_words f ++ (front_words g ++ ws)) _ (front_back f (front_words g ++ ws) _ _ b.0 (front_back g ws fs rs b.1 e)) refl refl)

rear_back : (r : Rear) (ws : List ℕ) (rs : List Rear) → T (rear_fits r) → decode_words ws ≡ some (trees [] rs) → decode_words (rear_words r ++ ws) ≡ some (trees [] (r ∷ rs))
unfolding rear_words output_word output_kind output_names number rear_all output_fits kinds put_output put_rear_and put_rear_or
rear_back (output (coil v)) ws rs h e = operand_word 5 v ws _ h e
rear_back (output (coiln v)) ws rs h e = operand_word 6 v ws _ h e
rear_back (output (jump l)) ws rs h e = operand_word 7 l ws _ h e
rear_back (output (jumpn l)) ws rs h e = operand_word 8 l ws _ h e
rear_back (output (set_coil v)) ws rs h e = operand_word 11 v ws _ h e
rear_back (output (reset_coil v)) ws rs h e = operand_word 12 v ws _ h e
rear_back (output (timer n)) ws rs h e = operand_word 13 n ws _ h e
rear_back (rear_and f r) ws rs h e =
    let b = and_yes (front_fits f) (rear_fits r) h in
    rw append_assoc (decode_word (word 9 0) 9 0 (front_words f ++ (rear_words r ++ ws)) _ (front_back f (rear_words r ++ ws) _ _ b.0 (rear_back r ws rs b.1 e)) refl refl)
rear_back (rear_or a c) ws rs h e =
    let b = and_yes (rear_fits a) (rear_fits c) h in
    rw append_assoc (decode_word (word 10 0) 10 0 (rear_words a ++ (rear_words c ++ ws)) _ (rear_back a (rear_words c ++ ws) _ b.0 (rear_back c ws rs b.1 e)) refl refl)

rung_back : (g : Rung) → T (rung_fits g) → decode_rung g.label (rung_words g) ≡ some g
unfolding decode_rung rung_words one_rung decode_words rung_all
rung_back g h =
    let b = and_yes (front_fits g.front) (rear_fits g.rear) h in
    let e = front_back g.front (rear_words g.rear) [] (g.rear ∷ []) b.0 (rw append-nil at (rear_back g.rear [] [] b.1 refl)) in
    rw (e, decode_rung)

-- ---- from words to trees and back

-- the words of some fronts and then some rears
unfoldable pub words_of : Trees → List ℕ
words_of (trees fs rs) = flat_map front_words fs ++ flat_map rear_words rs

TreesFit : Trees → Type 0
TreesFit (trees fs rs) = T (all front_fits fs) × T (all rear_fits rs)

-- the trees after a word, from those before it
record Put (w o : ℕ) (ts us : Trees) : Type 0 where
  words : words_of us ≡ w ∷ words_of ts
  fit : o < operands → TreesFit ts → TreesFit us

put_input_lem : (k : ℕ) (make : ℕ → Input) → ((v : ℕ) → input_word (make v) ≡ word k v) → ((v : ℕ) → v < operands → T (input_fits (make v)))
    → (o : ℕ) (ts us : Trees) → put_input make o ts ≡ some us → Put (word k o) o ts us
unfolding put_input words_of flat_map front_words TreesFit front_all
put_input_lem k make h i o (trees fs rs) us e =
    let z : trees (input (make o) ∷ fs) rs ≡ us = cc in
    record { words = rw (← z, h o) refl; fit = λ l t. rw (← z) (all_cons front_fits (input (make o)) fs (i o l) t.0, t.1) }

put_front_lem : (k : ℕ) (make : Front → Front → Front) → ((f g : Front) → front_words (make f g) ≡ word k 0 ∷ front_words f ++ front_words g)
    → ((f g : Front) → T (front_fits f) → T (front_fits g) → T (front_fits (make f g)))
    → (o : ℕ) (ts us : Trees) → put_front make o ts ≡ some us → Put (word k o) o ts us
unfolding put_front words_of flat_map TreesFit
put_front_lem k make h i zero (trees (f ∷ g ∷ fs) rs) us e =
    let z : trees (make f g ∷ fs) rs ≡ us = cc in
    record {
      words = rw (← z, h f g) (simp append_assoc);
      fit = λ l t. rw (← z) (
        all_cons front_fits (make f g) fs (i f g (all_head front_fits f (g ∷ fs) t.0) (all_head front_fits g fs (all_tail front_fits f (g ∷ fs) t.0)))
            (all_tail front_fits g fs (all_tail front_fits f (g ∷ fs) t.0)),
        t.1,
      );
    }
put_front_lem k make h i zero (trees (f ∷ []) rs) us e = absurd (none_some e)
put_front_lem k make h i zero (trees [] rs) us e = absurd (none_some e)
put_front_lem k make h i (suc o) ts us e = absurd (none_some e)

put_output_lem : (k : ℕ) (make : ℕ → Output) → ((v : ℕ) → output_word (make v) ≡ word k v) → ((v : ℕ) → v < operands → T (output_fits (make v)))
    → (o : ℕ) (ts us : Trees) → put_output make o ts ≡ some us → Put (word k o) o ts us
unfolding put_output words_of flat_map rear_words TreesFit rear_all
put_output_lem k make h i o (trees [] rs) us e =
    let z : trees [] (output (make o) ∷ rs) ≡ us = cc in
    record { words = rw (← z, h o) refl; fit = λ l t. rw (← z) (t.0, all_cons rear_fits (output (make o)) rs (i o l) t.1) }
put_output_lem k make h i o (trees (f ∷ fs) rs) us e = absurd (none_some e)

put_rear_and_lem : (o : ℕ) (ts us : Trees) → put_rear_and o ts ≡ some us → Put (word 9 o) o ts us
unfolding put_rear_and words_of flat_map rear_words TreesFit rear_all
put_rear_and_lem zero (trees (f ∷ []) (r ∷ rs)) us e =
    let z : trees [] (rear_and f r ∷ rs) ≡ us = cc in
    record {
      words = rw (← z) (simp (append_assoc, append-nil));
      fit = λ l t. rw (← z) (
        tt,
        all_cons rear_fits (rear_and f r) rs (yes_and (front_fits f) (rear_fits r) (all_head front_fits f [] t.0) (all_head rear_fits r rs t.1)) (all_tail rear_fits r rs t.1),
      );
    }
put_rear_and_lem zero (trees (f ∷ []) []) us e = absurd (none_some e)
put_rear_and_lem zero (trees (f ∷ g ∷ fs) rs) us e = absurd (none_some e)
put_rear_and_lem zero (trees [] rs) us e = absurd (none_some e)
put_rear_and_lem (suc o) ts us e = absurd (none_some e)

put_rear_or_lem : (o : ℕ) (ts us : Trees) → put_rear_or o ts ≡ some us → Put (word 10 o) o ts us
unfolding put_rear_or words_of flat_map rear_words TreesFit rear_all
put_rear_or_lem zero (trees [] (a ∷ b ∷ rs)) us e =
    let z : trees [] (rear_or a b ∷ rs) ≡ us = cc in
    record {
      words = rw (← z) (simp append_assoc);
      fit = λ l t. rw (← z) (
        t.0,
        all_cons rear_fits (rear_or a b) rs
            (yes_and (rear_fits a) (rear_fits b) (all_head rear_fits a (b ∷ rs) t.1) (all_head rear_fits b rs (all_tail rear_fits a (b ∷ rs) t.1)))
            (all_tail rear_fits b rs (all_tail rear_fits a (b ∷ rs) t.1)),
      );
    }
put_rear_or_lem zero (trees [] (a ∷ [])) us e = absurd (none_some e)
put_rear_or_lem zero (trees [] []) us e = absurd (none_some e)
put_rear_or_lem zero (trees (f ∷ fs) rs) us e = absurd (none_some e)
put_rear_or_lem (suc o) ts us e = absurd (none_some e)

fits : (v : ℕ) → v < operands → T (ltb v operands)
fits v h = lt→ltb v operands h

put_word : (k o : ℕ) (ts us : Trees) → get_or kinds k no_kind o ts ≡ some us → Put (word k o) o ts us
unfolding kinds input_word input_kind input_variable output_word output_kind output_names number front_words input_fits output_fits front_all Firsts past
put_word = every 14 (λ k. (o : ℕ) (ts us : Trees) → get_or kinds k no_kind o ts ≡ some us → Put (word k o) o ts us)
    ((λ o ts us e. absurd (none_some e))
    then put_input_lem 1 contact (λ v. refl) fits
    then put_input_lem 2 contactn (λ v. refl) fits
    then put_front_lem 3 front_and (λ f g. refl) (λ f g. yes_and (front_fits f) (front_fits g))
    then put_front_lem 4 front_or (λ f g. refl) (λ f g. yes_and (front_fits f) (front_fits g))
    then put_output_lem 5 coil (λ v. refl) fits
    then put_output_lem 6 coiln (λ v. refl) fits
    then put_output_lem 7 jump (λ v. refl) fits
    then put_output_lem 8 jumpn (λ v. refl) fits
    then put_rear_and_lem
    then put_rear_or_lem
    then put_output_lem 11 set_coil (λ v. refl) fits
    then put_output_lem 12 reset_coil (λ v. refl) fits
    then put_output_lem 13 timer (λ v. refl) fits
    then tt)
    (λ k o ts us e. absurd (none_some e))

record Decoded (ws : List ℕ) (us : Trees) : Type 0 where
  words : ws ≡ words_of us
  fit : TreesFit us

decoded : (ws : List ℕ) (us : Trees) → decode_words ws ≡ some us → Decoded ws us
unfolding decode_words words_of flat_map TreesFit
decoded [] us e = let z : trees [] [] ≡ us = cc in record { words = rw (← z) refl; fit = rw (← z) (tt, tt) }
decoded (w ∷ ws) us e = go (decode_words ws) refl (λ ts. decoded ws ts)
  where
    go : (x : Option Trees) → decode_words ws ≡ x → ((ts : Trees) → decode_words ws ≡ some ts → Decoded ws ts) → Decoded (w ∷ ws) us
    go none q ih = absurd (none_some (rw (q, decode_words) at e))
    go (some ts) q ih =
        let p = put_word (w / operands) (w % operands) ts us (rw (q, decode_words) at e) in
        let k : w ≡ word (w / operands) (w % operands) = omega arith in
        let d = ih ts q in
        record {
          words = ap (λ x. x ∷ ws) k ∙ ap (λ x. word (w / operands) (w % operands) ∷ x) d.words ∙ sym p.words;
          fit = p.fit (omega arith) d.fit;
        }

record RungDecoded (l : ℕ) (ws : List ℕ) (g : Rung) : Type 0 where
  label : l ≡ g.label
  words : ws ≡ rung_words g
  fit : T (rung_fits g)

one_rung_lem : (l : ℕ) (ts : Trees) (g : Rung) → one_rung l ts ≡ some g → TreesFit ts → (l ≡ g.label) × (words_of ts ≡ rung_words g) × T (rung_fits g)
unfolding one_rung words_of flat_map rung_words TreesFit rung_all
one_rung_lem l (trees (f ∷ []) (r ∷ [])) g e t =
    let z : ◌≡◌ {A = Rung} (record { label = l; front = f; rear = r }) g = cc in (
      ap (λ x. x.label) z,
      rw (← z) (simp append-nil),
      rw (← z) (yes_and (front_fits f) (rear_fits r) (all_head front_fits f [] t.0) (all_head rear_fits r [] t.1)),
    )
one_rung_lem l (trees (f ∷ []) []) g e t = absurd (none_some e)
one_rung_lem l (trees (f ∷ []) (r ∷ q ∷ rs)) g e t = absurd (none_some e)
one_rung_lem l (trees (f ∷ g ∷ fs) rs) h e t = absurd (none_some e)
one_rung_lem l (trees [] rs) g e t = absurd (none_some e)

rung_decoded : (l : ℕ) (ws : List ℕ) (g : Rung) → decode_rung l ws ≡ some g → RungDecoded l ws g
unfolding decode_rung
rung_decoded l ws g e = go (decode_words ws) refl
  where
    go : (x : Option Trees) → decode_words ws ≡ x → RungDecoded l ws g
    go none q = absurd (none_some (rw (q, decode_rung) at e))
    go (some ts) q =
        let d = decoded ws ts q in
        let o = one_rung_lem l ts g (rw (q, decode_rung) at e) d.fit in
        record { label = o.0; words = d.words ∙ o.1; fit = o.2 }

-- ---- whole ladders with their records

abbrev lay_ladder : ℕ → Ladder → List RungRecord
lay_ladder = lay (λ g. g.label) (λ g. length (rung_words g))

decode_one : (start : ℕ) (r : RungRecord) (rs : List RungRecord) (ws : List ℕ) (g : Rung) (gs : Ladder) → (eqb r.offset start && leb r.length (length ws)) ≡ true
    → decode_rung r.label (take r.length ws) ≡ some g → decode_from (start + r.length) rs (drop r.length ws) ≡ some gs → decode_from start (r ∷ rs) ws ≡ some (g ∷ gs)
unfolding decode_from
decode_one start r rs ws g gs t e q = rw (t, decode_from) (rw e (rw q))

pub ladder_back : (start : ℕ) (gs : Ladder) → T (all rung_fits gs) → decode_from start (lay_ladder start gs) (flat_map rung_words gs) ≡ some gs
unfolding lay flat_map decode_from
ladder_back start [] h = refl
ladder_back start (g ∷ gs) h =
    let n = length (rung_words g) in
    let room : n ≤ length (rung_words g ++ flat_map rung_words gs) = rw length-append (omega arith) in
    decode_one start (record { label = g.label; offset = start; length = n }) (lay_ladder (start + n) gs) (rung_words g ++ flat_map rung_words gs) g gs
    (T→true _ (yes_and (eqb start start) (leb n (length (rung_words g ++ flat_map rung_words gs))) (eqb_refl start) (le→leb n _ room)))
    (rw take-append_seam (rung_back g (all_head rung_fits g gs h)))
    (rw drop-append_seam (ladder_back (start + n) gs (all_tail rung_fits g gs h)))

-- words and records from `start` on are those of the ladder gs
pub record Held (start : ℕ) (rs : List RungRecord) (ws : List ℕ) (gs : Ladder) : Type 0 where
  pub words : ws ≡ flat_map rung_words gs
  pub records : rs ≡ lay_ladder start gs
  pub fit : T (all rung_fits gs)

pub ladder_held : (start : ℕ) (rs : List RungRecord) (ws : List ℕ) (gs : Ladder) → decode_from start rs ws ≡ some gs → Held start rs ws gs
unfolding decode_from lay flat_map
ladder_held start [] [] gs e = let z : ◌≡◌ {A = Ladder} [] gs = cc in record { words = rw (← z) refl; records = rw (← z) refl; fit = rw (← z) tt }
ladder_held start [] (w ∷ ws) gs e = absurd (none_some e)
ladder_held start (r ∷ rs) ws gs e = go (eqb r.offset start && leb r.length (length ws)) refl (λ ts. ladder_held (start + r.length) rs (drop r.length ws) ts)
  where
    go : (b : Bool) → (eqb r.offset start && leb r.length (length ws)) ≡ b
        → ((ts : Ladder) → decode_from (start + r.length) rs (drop r.length ws) ≡ some ts → Held (start + r.length) rs (drop r.length ws) ts)
        → Held start (r ∷ rs) ws gs
    go false b ih = absurd (none_some (rw (b, decode_from) at e))
    go true b ih = whole (decode_rung r.label (take r.length ws)) refl (decode_from (start + r.length) rs (drop r.length ws)) refl
      where
        whole : (x : Option Rung) → decode_rung r.label (take r.length ws) ≡ x
            → (y : Option Ladder) → decode_from (start + r.length) rs (drop r.length ws) ≡ y → Held start (r ∷ rs) ws gs
        whole none q y p = let z : decode_from start (r ∷ rs) ws ≡ none = rw (b, decode_from) (rw q) in absurd (none_some (sym z ∙ e))
        whole (some g) q none p = let z : decode_from start (r ∷ rs) ws ≡ none = rw (b, decode_from) (rw q (rw p)) in absurd (none_some (sym z ∙ e))
        whole (some g) q (some ts) p =
            let z : ◌≡◌ {A = Ladder} (g ∷ ts) gs = cc (decode_one start r rs ws g ts b q p) in
            let d = rung_decoded r.label (take r.length ws) g q in
            let tail = ih ts p in
            let tests = and_yes (eqb r.offset start) (leb r.length (length ws)) (rw b tt) in
            let Fit-length = length-take-le r.length ws (leb→le r.length (length ws) tests.1) in
            let n : r.length ≡ length (rung_words g) = sym Fit-length ∙ ap (λ l. length l) d.words in
            let here : r ≡ record { label = g.label; offset = start; length = length (rung_words g) } =
            λ i. record { label = d.label i; offset = eqb→eq r.offset start tests.0 i; length = n i } in
            rw (← z) (record {
              words = sym (take-append-drop r.length ws) ∙ ap (λ l. l ++ drop r.length ws) d.words ∙ ap (λ l. rung_words g ++ l) tail.words;
              records = ap (λ x. x ∷ rs) here ∙ ap (λ l. record { label = g.label; offset = start; length = length (rung_words g) } ∷ l)
                  (tail.records ∙ ap (λ m. lay_ladder (start + m) ts) n);
              fit = all_cons rung_fits g ts d.fit tail.fit;
            })
