-- Laws of question 4: counting the pending fronts and rears tells just when words decode, and so do the tests of one record after the other. Assumes nothing.
use Rattle.std.specs.Prelude.{ℕ, zero, suc, ◌+◌, ◌-◌, ◌≤◌, ◌≡◌, refl, Bool, true, false, ◌&&◌, leb, take, get_or}
use Rattle.std.proofs.Common.{arith, ap, ◌∙◌, length-drop, take-add, drop_at, length-take-le}
use Rattle.std.proofs.Math.Decide.{ℕ_discrete}
use Rattle.std.proofs.Math.Path.{sym}
use Rattle.std.proofs.Math.Option.{Option, none, some}
use mathlib.Core.List.{List, [], ◌∷◌}
use Rattle.std.proofs.Math.Dec.{eqb, eqb-zero-suc, eqb-suc-zero, eqb-suc-suc}
use Rattle.std.proofs.Math.ListN.{length, drop, drop_of_length-le}
use Rattle.std.proofs.Math.Seq.{slice, drop-drop}
use borrow.Author.Tests.{eq-eqb, ne_eqb, le-leb}
use Rattle.rungs.specs.Words.{number_of, operand_of}
use Rattle.rungs.specs.Records.{RungRecord}
use Rattle.rungs.proofs.Laws.Numbers.{Firsts, ◌then◌, past, every}
use Rattle.ladder_definitions.specs.Tree.{Input, contact, contactn, Front, front_and, front_or, Output, coil, coiln, jump, jumpn, set_coil, reset_coil, timer, Rung, Ladder}
use Rattle.ladder_definitions.specs.Kept.{Trees, trees, put_input, put_front, put_output, put_rear_and, put_rear_or, no_kind, kinds, kind_sorts, kind_sort, decode_words, one_rung, decode_rung, decode_from, decode}
use Rattle.ladder_definitions.specs.Questions.{ladder_of, holds_ladder}
use Rattle.ladder_kept.specs.Pending.{Pending, misplaced, pending, take_front, split_front, take_rear, front_rear, split_rear, pending_after, completes, holds_from}

-- ---- words and trees

-- whether trees are f fronts and r rears
shaped : ℕ → ℕ → Trees → Bool
shaped f r (trees fs rs) = eqb f (length fs) && eqb r (length rs)

decoded_as : ℕ → ℕ → Option Trees → Bool
decoded_as f r none = false
decoded_as f r (some ts) = shaped f r ts

-- whether trees are the pending ones
met : Pending → Trees → Bool
met misplaced ts = false
met (pending f r) ts = shaped f r ts

input_met : (make : ℕ → Input) (o f r : ℕ) (ts : Trees) → met (take_front f r) ts ≡ decoded_as f r (put_input make o ts)
unfolding take_front put_input met decoded_as shaped
input_met make o zero r (trees fs rs) = rw (eqb-zero-suc (length fs))
input_met make o (suc f) r (trees fs rs) = rw (eqb-suc-suc f (length fs))

front_met : (make : Front → Front → Front) (o f r : ℕ) (ts : Trees) → met (split_front o f r) ts ≡ decoded_as f r (put_front make o ts)
unfolding split_front put_front met decoded_as shaped
front_met make zero zero r (trees (a ∷ b ∷ fs) rs) = rw (eqb-zero-suc (length fs))
front_met make zero zero r (trees (a ∷ []) rs) = refl
front_met make zero zero r (trees [] rs) = refl
front_met make zero (suc f) r (trees (a ∷ b ∷ fs) rs) = rw (eqb-suc-suc (suc f) (suc (length fs)))
front_met make zero (suc f) r (trees (a ∷ []) rs) = rw (eqb-suc-suc (suc f) 0, eqb-suc-zero f)
front_met make zero (suc f) r (trees [] rs) = rw (eqb-suc-zero (suc f))
front_met make (suc o) f r ts = refl

output_met : (make : ℕ → Output) (o f r : ℕ) (ts : Trees) → met (take_rear f r) ts ≡ decoded_as f r (put_output make o ts)
unfolding take_rear put_output met decoded_as shaped
output_met make o zero zero (trees [] rs) = rw (eqb-zero-suc (length rs))
output_met make o zero zero (trees (a ∷ fs) rs) = refl
output_met make o zero (suc r) (trees [] rs) = rw (eqb-suc-suc r (length rs))
output_met make o zero (suc r) (trees (a ∷ fs) rs) = rw (eqb-zero-suc (length fs))
output_met make o (suc f) r (trees [] rs) = rw (eqb-suc-zero f)
output_met make o (suc f) r (trees (a ∷ fs) rs) = refl

rear_and_met : (o f r : ℕ) (ts : Trees) → met (front_rear o f r) ts ≡ decoded_as f r (put_rear_and o ts)
unfolding front_rear put_rear_and met decoded_as shaped
rear_and_met zero zero zero (trees (a ∷ []) (b ∷ rs)) = rw (eqb-zero-suc (length rs))
rear_and_met zero zero (suc r) (trees (a ∷ []) (b ∷ rs)) = refl
rear_and_met zero (suc f) r (trees (a ∷ []) (b ∷ rs)) = rw (eqb-suc-zero f)
rear_and_met zero zero zero (trees (a ∷ []) []) = refl
rear_and_met zero zero (suc r) (trees (a ∷ []) []) = rw (eqb-suc-zero r)
rear_and_met zero (suc f) r (trees (a ∷ []) []) = refl
rear_and_met zero zero zero (trees (a ∷ b ∷ fs) rs) = refl
rear_and_met zero zero (suc r) (trees (a ∷ b ∷ fs) rs) = rw (eqb-suc-suc 0 (suc (length fs)), eqb-zero-suc (length fs))
rear_and_met zero (suc f) r (trees (a ∷ b ∷ fs) rs) = refl
rear_and_met zero zero zero (trees [] rs) = refl
rear_and_met zero zero (suc r) (trees [] rs) = refl
rear_and_met zero (suc f) r (trees [] rs) = refl
rear_and_met (suc o) f r ts = refl

rear_or_met : (o f r : ℕ) (ts : Trees) → met (split_rear o f r) ts ≡ decoded_as f r (put_rear_or o ts)
unfolding split_rear put_rear_or met decoded_as shaped
rear_or_met zero zero zero (trees [] (a ∷ b ∷ rs)) = rw (eqb-zero-suc (length rs))
rear_or_met zero zero (suc r) (trees [] (a ∷ b ∷ rs)) = rw (eqb-suc-suc (suc r) (suc (length rs)))
rear_or_met zero (suc f) r (trees [] (a ∷ b ∷ rs)) = rw (eqb-suc-zero f)
rear_or_met zero zero zero (trees [] (a ∷ [])) = refl
rear_or_met zero zero (suc r) (trees [] (a ∷ [])) = rw (eqb-suc-suc (suc r) 0, eqb-suc-zero r)
rear_or_met zero (suc f) r (trees [] (a ∷ [])) = refl
rear_or_met zero zero zero (trees [] []) = refl
rear_or_met zero zero (suc r) (trees [] []) = rw (eqb-suc-zero (suc r))
rear_or_met zero (suc f) r (trees [] []) = refl
rear_or_met zero zero zero (trees (a ∷ fs) rs) = refl
rear_or_met zero zero (suc r) (trees (a ∷ fs) rs) = rw (eqb-zero-suc (length fs))
rear_or_met zero (suc f) r (trees (a ∷ fs) rs) = refl
rear_or_met (suc o) f r ts = refl

-- a word is put before the trees that are pending after it, and before no others
word_met : (k o f r : ℕ) (ts : Trees) → met (pending_after (kind_sort k) o f r) ts ≡ decoded_as f r (get_or kinds k no_kind o ts)
unfolding pending_after kind_sort kind_sorts kinds met decoded_as Firsts past
word_met = every 14 (λ k. (o f r : ℕ) (ts : Trees) → met (pending_after (kind_sort k) o f r) ts ≡ decoded_as f r (get_or kinds k no_kind o ts))
    ((λ o f r ts. refl)
    then input_met contact
    then input_met contactn
    then front_met front_and
    then front_met front_or
    then output_met coil
    then output_met coiln
    then output_met jump
    then output_met jumpn
    then rear_and_met
    then rear_or_met
    then output_met set_coil
    then output_met reset_coil
    then output_met timer
    then tt)
    (λ k o f r ts. refl)

completes_decoded : (f r : ℕ) (ws : List ℕ) → completes f r ws ≡ decoded_as f r (decode_words ws)
unfolding completes decode_words decoded_as shaped met
completes_decoded f r [] = refl
completes_decoded f r (w ∷ ws) = go (decode_words ws) refl (pending_after (kind_sort (number_of w)) (operand_of w) f r) refl (λ g s. completes_decoded g s ws)
  where
    go : (x : Option Trees) → decode_words ws ≡ x → (d : Pending) → pending_after (kind_sort (number_of w)) (operand_of w) f r ≡ d → ((g s : ℕ) → completes g s ws ≡ decoded_as g s (decode_words ws))
        → completes f r (w ∷ ws) ≡ decoded_as f r (decode_words (w ∷ ws))
    go none q misplaced e ih = rw (e, completes, q, decode_words)
    go none q (pending g s) e ih = rw (e, completes, q, decode_words) (ih g s ∙ rw q)
    go (some ts) q misplaced e ih =
        let m = word_met (number_of w) (operand_of w) f r ts in
        rw (e, completes, q, decode_words) (rw e at m)
    go (some ts) q (pending g s) e ih =
        let m = word_met (number_of w) (operand_of w) f r ts in
        rw (e, completes, q, decode_words) (ih g s ∙ rw q (rw e at m))

found : {A : Type 0} → Option A → Bool
found none = false
found (some x) = true

one_rung_lem : (l : ℕ) (ts : Trees) → found (one_rung l ts) ≡ shaped 1 1 ts
unfolding one_rung found shaped
one_rung_lem l (trees (f ∷ []) (r ∷ [])) = refl
one_rung_lem l (trees (f ∷ []) []) = refl
one_rung_lem l (trees (f ∷ []) (r ∷ q ∷ rs)) = rw (eqb-suc-suc 0 (suc (length rs)), eqb-zero-suc (length rs))
one_rung_lem l (trees (f ∷ g ∷ fs) rs) = rw (eqb-suc-suc 0 (suc (length fs)), eqb-zero-suc (length fs))
one_rung_lem l (trees [] rs) = refl

-- words hold a rung just when they are a front and a rear
rung_found : (l : ℕ) (ws : List ℕ) → completes 1 1 ws ≡ found (decode_rung l ws)
unfolding decode_rung found decoded_as
rung_found l ws = completes_decoded 1 1 ws ∙ go (decode_words ws) refl
  where
    go : (x : Option Trees) → decode_words ws ≡ x → decoded_as 1 1 (decode_words ws) ≡ found (decode_rung l ws)
    go none q = rw (q, decode_rung)
    go (some ts) q = rw (q, decode_rung) (sym (one_rung_lem l ts))

-- ---- whole ladders

counted : Option Ladder → Option ℕ
counted none = none
counted (some gs) = some (length gs)

only_if : Bool → ℕ → Option ℕ
only_if true n = some n
only_if false n = none

-- records and words hold as many rungs as there are records, or none
rungs_counted : (start : ℕ) (rs : List RungRecord) (ws : List ℕ) → counted (decode_from start rs ws) ≡ only_if (holds_from start rs ws) (length rs)
unfolding decode_from holds_from counted only_if found
rungs_counted start [] [] = refl
rungs_counted start [] (w ∷ ws) = rw (eqb-suc-zero (length ws))
rungs_counted start (r ∷ rs) ws =
    go (eqb r.offset start && leb r.length (length ws)) refl (decode_rung r.label (take r.length ws)) refl (rung_found r.label (take r.length ws))
    (decode_from (start + r.length) rs (drop r.length ws)) refl (holds_from (start + r.length) rs (drop r.length ws)) refl (rungs_counted (start + r.length) rs (drop r.length ws))
  where
    go : (b : Bool) → (eqb r.offset start && leb r.length (length ws)) ≡ b
        → (x : Option Rung) → decode_rung r.label (take r.length ws) ≡ x → completes 1 1 (take r.length ws) ≡ found (decode_rung r.label (take r.length ws))
        → (y : Option Ladder) → decode_from (start + r.length) rs (drop r.length ws) ≡ y
        → (t : Bool) → holds_from (start + r.length) rs (drop r.length ws) ≡ t
        → counted (decode_from (start + r.length) rs (drop r.length ws)) ≡ only_if (holds_from (start + r.length) rs (drop r.length ws)) (length rs)
        → counted (decode_from start (r ∷ rs) ws) ≡ only_if (holds_from start (r ∷ rs) ws) (suc (length rs))
    go false b x q o y p t h ih = rw (b, decode_from)
    go true b none q o y p t h ih = rw (b, decode_from) (rw (o, q))
    go true b (some g) q o none p false h ih = rw (b, decode_from) (rw (o, q, p, h))
    go true b (some g) q o none p true h ih = let e = rw (p, h) at ih in let z : ◌≡◌ {A = ℕ} 0 1 = cc in absurd (omega arith)
    go true b (some g) q o (some gs) p false h ih = let e = rw (p, h) at ih in let z : ◌≡◌ {A = ℕ} 0 1 = cc in absurd (omega arith)
    go true b (some g) q o (some gs) p true h ih =
        let e : ◌≡◌ {A = Option ℕ} (some (length gs)) (some (length rs)) = rw (p, h) at ih in
        let z : length gs ≡ length rs = cc in
        rw (b, decode_from) (rw (o, q, p, h) (ap (λ n. some (suc n)) z))

pub holds_counted : (rs : List RungRecord) (ws : List ℕ) → 1 ≤ length rs → holds_ladder (record { words = ws; records = rs }) ≡ holds_from 0 rs ws
unfolding holds_ladder ladder_of decode counted only_if
holds_counted rs ws some_record = go (decode_from 0 rs ws) refl (holds_from 0 rs ws) refl (rungs_counted 0 rs ws)
  where
    go : (x : Option Ladder) → decode_from 0 rs ws ≡ x → (b : Bool) → holds_from 0 rs ws ≡ b → counted (decode_from 0 rs ws) ≡ only_if (holds_from 0 rs ws) (length rs)
        → holds_ladder (record { words = ws; records = rs }) ≡ holds_from 0 rs ws
    go none q false h e = rw (q, ladder_of, h)
    go none q true h e = let d = rw (q, h) at e in let z : ◌≡◌ {A = ℕ} 0 1 = cc in absurd (omega arith)
    go (some gs) q false h e = let d = rw (q, h) at e in let z : ◌≡◌ {A = ℕ} 0 1 = cc in absurd (omega arith)
    go (some gs) q true h e =
        let d : ◌≡◌ {A = Option ℕ} (some (length gs)) (some (length rs)) = rw (q, h) at e in
        let z : length gs ≡ length rs = cc in
        rw (q, ladder_of, h) (le-leb 1 (length gs) (omega arith))

-- ---- records, one after the other

-- the words from `start` on, and those that a length takes of them
take_slice : (ws : List ℕ) (start n : ℕ) → start ≤ length ws → take n (drop start ws) ≡ slice start (start + n) ws
take_slice ws start n h = rw take-add (sym (drop_at (take start ws) (take n (drop start ws)) start (length-take-le start ws h)))

module _ (ws : List ℕ) (rs : List RungRecord) (start i : ℕ) (within : start ≤ length ws) where
  -- the tests of the i-th record, and then the records after it
  pub holds_next : (r : RungRecord) → drop i rs ≡ r ∷ drop (suc i) rs
      → holds_from start (drop i rs) (drop start ws)
      ≡ ((eqb r.offset start && leb r.length (length ws - start))
      && (completes 1 1 (slice start (start + r.length) ws) && holds_from (start + r.length) (drop (suc i) rs) (drop (start + r.length) ws)))
  unfolding holds_from
  holds_next r here = rw here (rw (length-drop start ws, take_slice ws start r.length within, drop-drop r.length start ws))

  -- no record is left
  pub holds_last : length rs ≤ i → holds_from start (drop i rs) (drop start ws) ≡ eqb start (length ws)
  unfolding holds_from
  holds_last h =
      let d : drop i rs ≡ [] = drop_of_length-le rs {i = i} h in
      rw (d, length-drop) (sym (same_test (ℕ_discrete start (length ws))))
    where
      same_test : Dec (start ≡ length ws) → eqb start (length ws) ≡ eqb (length ws - start) 0
      same_test (yes e) = eq-eqb _ _ e ∙ sym (eq-eqb (length ws - start) 0 (omega arith))
      same_test (no n) = ne_eqb _ _ n ∙ sym (ne_eqb (length ws - start) 0 (λ e. n (omega arith)))
