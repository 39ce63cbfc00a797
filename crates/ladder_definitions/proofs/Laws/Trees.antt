-- The tree whose words begin at a position is known by the kind of the word there: a law for each sort of kind, and one for no front and no rear.
-- Assumes nothing.
use Rattle.std.specs.Prelude.{ℕ, ◌+◌, ◌≤◌, ◌<◌, ◌≡◌, refl, Bool, true, false, List, [], ◌∷◌, ◌++◌, T, length, drop, get_or}
use Rattle.std.proofs.Common.{add-zero, arith, sym, ap, subst, ◌∙◌, true≢false, append_assoc, ltb→lt, drop-drop, get_or-drop}
use Rattle.std.proofs.Math.Decide.{dec_le}
use Rattle.std.proofs.Math.ListN.{get_or-eq_default}
use Rattle.std.proofs.Math.Seq.{drop-append_seam}
use Rattle.std.proofs.Math.Facts.{and_yes}
use Rattle.rungs.specs.Words.{operands, word, number_of, operand_of, is_operand}
use Rattle.ladder_definitions.specs.Tree.{Input, contact, contactn, Front, input, front_and, front_or, Output, coil, coiln, jump, jumpn, set_coil, reset_coil, timer, Rear, output, rear_and, rear_or, Rung, input_variable, output_names, number, front_all, rear_all, rung_all}
use Rattle.ladder_definitions.specs.Kept.{input_kind, output_kind, input_word, output_word, KindSort, contact_sort, joined_sort, output_sort, rear_and_sort, rear_or_sort, no_sort, kind_sorts, kind_sort, front_words, rear_words, rung_words, input_fits, output_fits}
use Rattle.ladder_definitions.specs.Held.{FrontAt, RearAt, RungAt}
use Rattle.ladder_definitions.specs.Roots.{front_kind, rear_kind}

-- ---- words from a position on

head_is : (ws xs : List ℕ) (at w : ℕ) → drop at ws ≡ w ∷ xs → get_or ws at 0 ≡ w
head_is ws xs at w e = rw add-zero at (sym (get_or-drop at ws 0 0)) ∙ ap (λ l. get_or l 0 0) e

after_head : (ws xs : List ℕ) (at w : ℕ) → drop at ws ≡ w ∷ xs → drop (at + 1) ws ≡ xs
after_head ws xs at w e = sym (drop-drop 1 at ws) ∙ ap (λ l. drop 1 l) e

after : (ws xs ys : List ℕ) (at : ℕ) → drop at ws ≡ xs ++ ys → drop (at + length xs) ws ≡ ys
after ws xs ys at e = sym (drop-drop (length xs) at ws) ∙ (ap (λ l. drop (length xs) l) e ∙ drop-append_seam xs ys)

first_part : (ws xs ys rest : List ℕ) (at w : ℕ) → drop at ws ≡ w ∷ ((xs ++ ys) ++ rest) → drop (at + 1) ws ≡ xs ++ (ys ++ rest)
first_part ws xs ys rest at w e = after_head ws _ at w e ∙ append_assoc xs ys rest

second_part : (ws xs ys rest : List ℕ) (at w : ℕ) → drop at ws ≡ w ∷ ((xs ++ ys) ++ rest) → drop (at + 1 + length xs) ws ≡ ys ++ rest
second_part ws xs ys rest at w e = after ws xs (ys ++ rest) (at + 1) (first_part ws xs ys rest at w e)

-- past the end stands the word 0, which is of no kind
pub inside : (ws : List ℕ) (at w : ℕ) → w ≡ get_or ws at 0 → (number_of w ≡ 0 → ⊥) → at < length ws
inside ws at w e n = go (dec_le (length ws) at)
  where
    go : Dec (length ws ≤ at) → at < length ws
    go (yes l) = let z : w ≡ 0 = e ∙ get_or-eq_default ws 0 l in absurd (n (rw z refl))
    go (no m) = omega arith

pub inside_sort : (ws : List ℕ) (at w : ℕ) → w ≡ get_or ws at 0 → (s : KindSort) → kind_sort (number_of w) ≡ s → (s ≡ no_sort → ⊥) → at < length ws
unfolding kind_sort kind_sorts
inside_sort ws at w e s k n = inside ws at w e (λ z. n (sym k ∙ rw z refl))

-- ---- a tree's root

-- the sort of a tree's first word
abbrev front_sort : Front → KindSort
front_sort (input i) = contact_sort
front_sort (front_and f g) = joined_sort
front_sort (front_or f g) = joined_sort

abbrev rear_sort : Rear → KindSort
rear_sort (output o) = output_sort
rear_sort (rear_and f r) = rear_and_sort
rear_sort (rear_or a b) = rear_or_sort

front_kind_sort : (f : Front) → kind_sort (front_kind f) ≡ front_sort f
unfolding kind_sort kind_sorts input_kind
front_kind_sort (input (contact v)) = refl
front_kind_sort (input (contactn v)) = refl
front_kind_sort (front_and f g) = refl
front_kind_sort (front_or f g) = refl

rear_kind_sort : (r : Rear) → kind_sort (rear_kind r) ≡ rear_sort r
unfolding kind_sort kind_sorts output_kind
rear_kind_sort (output (coil v)) = refl
rear_kind_sort (output (coiln v)) = refl
rear_kind_sort (output (jump l)) = refl
rear_kind_sort (output (jumpn l)) = refl
rear_kind_sort (output (set_coil v)) = refl
rear_kind_sort (output (reset_coil v)) = refl
rear_kind_sort (output (timer n)) = refl
rear_kind_sort (rear_and f r) = refl
rear_kind_sort (rear_or a b) = refl

-- kind and operand tell an input, and an output
input_by : ℕ → ℕ → Input
input_by k v = get_or (contact ∷ contact ∷ contactn ∷ []) k contact v

input_told : (i : Input) → input_by (input_kind i) (input_variable i) ≡ i
unfolding input_by input_kind input_variable
input_told (contact v) = refl
input_told (contactn v) = refl

same_input : (i j : Input) → input_kind i ≡ input_kind j → input_variable i ≡ input_variable j → i ≡ j
same_input i j k v = sym (input_told i) ∙ rw (k, v) (input_told j)

output_by : ℕ → ℕ → Output
output_by k o = get_or (coil ∷ coil ∷ coil ∷ coil ∷ coil ∷ coil ∷ coiln ∷ jump ∷ jumpn ∷ coil ∷ coil ∷ set_coil ∷ reset_coil ∷ timer ∷ []) k coil o

output_told : (o : Output) → output_by (output_kind o) (number (output_names o)) ≡ o
unfolding output_by output_kind output_names number
output_told (coil v) = refl
output_told (coiln v) = refl
output_told (jump l) = refl
output_told (jumpn l) = refl
output_told (set_coil v) = refl
output_told (reset_coil v) = refl
output_told (timer n) = refl

pub same_output : (p q : Output) → output_kind p ≡ output_kind q → number (output_names p) ≡ number (output_names q) → p ≡ q
same_output p q k o = sym (output_told p) ∙ rw (k, o) (output_told q)

-- whether a front begins with a word of a sort, and whether a rear does
abbrev pub starts_front : KindSort → Bool
starts_front contact_sort = true
starts_front joined_sort = true
starts_front output_sort = false
starts_front rear_and_sort = false
starts_front rear_or_sort = false
starts_front no_sort = false

abbrev pub starts_rear : KindSort → Bool
starts_rear contact_sort = false
starts_rear joined_sort = false
starts_rear output_sort = true
starts_rear rear_and_sort = true
starts_rear rear_or_sort = true
starts_rear no_sort = false

-- what a word says of the tree that begins with it
record Root (w k o : ℕ) : Type 0 where
  kind : number_of w ≡ k
  operand : operand_of w ≡ o

module _ (ws : List ℕ) (at w : ℕ) (e : w ≡ get_or ws at 0) where
  root : (k o : ℕ) (xs : List ℕ) → T (is_operand o) → drop at ws ≡ word k o ∷ xs → Root w k o
  root k o xs h d =
      let l = ltb→lt o operands h in
      let q = head_is ws xs at (word k o) d in
      record { kind = omega arith; operand = omega arith }

  input_root : (i : Input) → FrontAt ws at (input i) → Root w (input_kind i) (input_variable i)
  unfolding front_words input_word front_all input_fits
  input_root i s = root (input_kind i) (input_variable i) _ s.fits s.words

  output_root : (o : Output) → RearAt ws at (output o) → Root w (output_kind o) (number (output_names o))
  unfolding rear_words output_word rear_all output_fits
  output_root o s = root (output_kind o) (number (output_names o)) _ s.fits s.words

  front_root : (f : Front) → FrontAt ws at f → number_of w ≡ front_kind f
  unfolding front_words
  front_root (input i) s = (input_root i s).kind
  front_root (front_and f g) s = (root (front_kind (front_and f g)) 0 _ tt s.words).kind
  front_root (front_or f g) s = (root (front_kind (front_or f g)) 0 _ tt s.words).kind

  rear_root : (r : Rear) → RearAt ws at r → number_of w ≡ rear_kind r
  unfolding rear_words
  rear_root (output o) s = (output_root o s).kind
  rear_root (rear_and f r) s = (root (rear_kind (rear_and f r)) 0 _ tt s.words).kind
  rear_root (rear_or a b) s = (root (rear_kind (rear_or a b)) 0 _ tt s.words).kind

  -- ---- what holds of a front, from its word's kind
  module _ (P : Front → Type 0) where
    abbrev Parts : (Front → Front → Front) → Type 0
    Parts make = (f g : Front) → number_of w ≡ front_kind (make f g) → FrontAt ws (at + 1) f → FrontAt ws (at + 1 + length (front_words f)) g → P (make f g)

    pub front_cases : ((i : Input) → number_of w ≡ input_kind i → operand_of w ≡ input_variable i → P (input i)) → Parts front_and → Parts front_or
        → (f : Front) → FrontAt ws at f → P f
    unfolding front_words front_all
    front_cases inputs ands ors (input i) s = let q = input_root i s in inputs i q.kind q.operand
    front_cases inputs ands ors (front_and f g) s =
        let b = and_yes (front_all input_fits f) (front_all input_fits g) s.fits in
        ands f g (front_root (front_and f g) s)
        (record { fits = b.0; rest = _; words = first_part ws (front_words f) (front_words g) s.rest at _ s.words })
        (record { fits = b.1; rest = s.rest; words = second_part ws (front_words f) (front_words g) s.rest at _ s.words })
    front_cases inputs ands ors (front_or f g) s =
        let b = and_yes (front_all input_fits f) (front_all input_fits g) s.fits in
        ors f g (front_root (front_or f g) s)
        (record { fits = b.0; rest = _; words = first_part ws (front_words f) (front_words g) s.rest at _ s.words })
        (record { fits = b.1; rest = s.rest; words = second_part ws (front_words f) (front_words g) s.rest at _ s.words })

    -- a front whose sort the word does not have
    other_front : (f : Front) → number_of w ≡ front_kind f → (kind_sort (number_of w) ≡ front_sort f → ⊥) → P f
    other_front f k n = absurd (n (ap kind_sort k ∙ front_kind_sort f))

    pub input_only : kind_sort (number_of w) ≡ contact_sort → ((i : Input) → number_of w ≡ input_kind i → operand_of w ≡ input_variable i → P (input i))
        → (f : Front) → FrontAt ws at f → P f
    input_only k p = front_cases p
        (λ f g q sf sg. other_front (front_and f g) q (λ z. let n : ◌≡◌ {A = ℕ} 0 1 = cc in omega arith))
        (λ f g q sf sg. other_front (front_or f g) q (λ z. let n : ◌≡◌ {A = ℕ} 0 1 = cc in omega arith))

    pub that_input : (i : Input) → number_of w ≡ input_kind i → operand_of w ≡ input_variable i → P (input i) → (f : Front) → FrontAt ws at f → P f
    that_input i k v p =
        input_only (ap kind_sort k ∙ front_kind_sort (input i)) (λ j l u. subst (λ (x : Input). P (input x)) (same_input i j (sym k ∙ l) (sym v ∙ u)) p)

    pub parts_only : (kind_sort (number_of w) ≡ contact_sort → ⊥) → Parts front_and → Parts front_or → (f : Front) → FrontAt ws at f → P f
    parts_only n ands ors = front_cases (λ i q o. other_front (input i) q n) ands ors

    pub no_front_lem : starts_front (kind_sort (number_of w)) ≡ false → (f : Front) → FrontAt ws at f → P f
    no_front_lem n = front_cases (λ i q o. other_front (input i) q (λ z. true≢false (sym (ap starts_front z) ∙ n)))
        (λ f g q sf sg. other_front (front_and f g) q (λ z. true≢false (sym (ap starts_front z) ∙ n)))
        (λ f g q sf sg. other_front (front_or f g) q (λ z. true≢false (sym (ap starts_front z) ∙ n)))

  -- ---- and of a rear
  module _ (P : Rear → Type 0) where
    abbrev FrontAndRear : Type 0
    FrontAndRear = (f : Front) (r : Rear) → number_of w ≡ rear_kind (rear_and f r) → FrontAt ws (at + 1) f → RearAt ws (at + 1 + length (front_words f)) r → P (rear_and f r)

    abbrev TwoRears : Type 0
    TwoRears = (a b : Rear) → number_of w ≡ rear_kind (rear_or a b) → RearAt ws (at + 1) a → RearAt ws (at + 1 + length (rear_words a)) b → P (rear_or a b)

    pub rear_cases : ((o : Output) → number_of w ≡ output_kind o → operand_of w ≡ number (output_names o) → P (output o)) → FrontAndRear → TwoRears
        → (r : Rear) → RearAt ws at r → P r
    unfolding rear_words rear_all
    rear_cases outputs ands ors (output o) s = let q = output_root o s in outputs o q.kind q.operand
    rear_cases outputs ands ors (rear_and f r) s =
        let h = and_yes (front_all input_fits f) (rear_all input_fits output_fits r) s.fits in
        ands f r (rear_root (rear_and f r) s)
        (record { fits = h.0; rest = _; words = first_part ws (front_words f) (rear_words r) s.rest at _ s.words })
        (record { fits = h.1; rest = s.rest; words = second_part ws (front_words f) (rear_words r) s.rest at _ s.words })
    rear_cases outputs ands ors (rear_or a b) s =
        let h = and_yes (rear_all input_fits output_fits a) (rear_all input_fits output_fits b) s.fits in
        ors a b (rear_root (rear_or a b) s)
        (record { fits = h.0; rest = _; words = first_part ws (rear_words a) (rear_words b) s.rest at _ s.words })
        (record { fits = h.1; rest = s.rest; words = second_part ws (rear_words a) (rear_words b) s.rest at _ s.words })

    other_rear : (r : Rear) → number_of w ≡ rear_kind r → (kind_sort (number_of w) ≡ rear_sort r → ⊥) → P r
    other_rear r k n = absurd (n (ap kind_sort k ∙ rear_kind_sort r))

    pub output_only : kind_sort (number_of w) ≡ output_sort → ((o : Output) → number_of w ≡ output_kind o → operand_of w ≡ number (output_names o) → P (output o))
        → (r : Rear) → RearAt ws at r → P r
    output_only k p = rear_cases p (λ f r q sf sr. other_rear (rear_and f r) q (λ z. let n : ◌≡◌ {A = ℕ} 0 1 = cc in omega arith)) (λ a b q sa sb. other_rear (rear_or a b) q (λ z. let n : ◌≡◌ {A = ℕ} 0 1 = cc in omega arith))

    pub rear_and_only : kind_sort (number_of w) ≡ rear_and_sort → FrontAndRear → (r : Rear) → RearAt ws at r → P r
    rear_and_only k p = rear_cases (λ o q v. other_rear (output o) q (λ z. let n : ◌≡◌ {A = ℕ} 0 1 = cc in omega arith)) p (λ a b q sa sb. other_rear (rear_or a b) q (λ z. let n : ◌≡◌ {A = ℕ} 0 1 = cc in omega arith))

    pub rear_or_only : kind_sort (number_of w) ≡ rear_or_sort → TwoRears → (r : Rear) → RearAt ws at r → P r
    rear_or_only k p = rear_cases (λ o q v. other_rear (output o) q (λ z. let n : ◌≡◌ {A = ℕ} 0 1 = cc in omega arith)) (λ f r q sf sr. other_rear (rear_and f r) q (λ z. let n : ◌≡◌ {A = ℕ} 0 1 = cc in omega arith)) p

    pub no_rear_lem : starts_rear (kind_sort (number_of w)) ≡ false → (r : Rear) → RearAt ws at r → P r
    no_rear_lem n = rear_cases (λ o q v. other_rear (output o) q (λ z. true≢false (sym (ap starts_rear z) ∙ n)))
        (λ f r q sf sr. other_rear (rear_and f r) q (λ z. true≢false (sym (ap starts_rear z) ∙ n)))
        (λ a b q sa sb. other_rear (rear_or a b) q (λ z. true≢false (sym (ap starts_rear z) ∙ n)))

-- ---- rungs

pub rung_only : (ws : List ℕ) (at : ℕ) (P : Rung → Type 0) → ((g : Rung) → FrontAt ws at g.front → RearAt ws (at + length (front_words g.front)) g.rear → P g)
    → (g : Rung) → RungAt ws at g → P g
unfolding rung_words rung_all
rung_only ws at P p g s =
    let h = and_yes (front_all input_fits g.front) (rear_all input_fits output_fits g.rear) s.fits in
    let d = s.words ∙ append_assoc (front_words g.front) (rear_words g.rear) s.rest in
    p g (record { fits = h.0; rest = _; words = d }) (record { fits = h.1; rest = s.rest; words = after ws (front_words g.front) _ at d })
