-- Laws of the code of a front: what is put for a front, and for a front that is joined, from what is put for its parts. Assumes nothing.
use Prim.Native.Nat.{ℕ, zero, suc, ◌+◌, ◌≤◌, ◌<◌}
use native.Mathlib.Nat.{add-zero}
use native.Mathlib.Omega.{arith}
use mathlib.Core.Path.{◌≡◌, refl, sym, ap, ◌∙◌}
use mathlib.Core.List.{List, [], ◌∷◌, ◌++◌, map, map-append}
use lib.ListN.{length, length-append, length-map, get_or, set}
use Rattle.rungs.specs.Words.{word, number_of, operand_of}
use Rattle.rungs.specs.Records.{search}
use Rattle.ladder_definitions.specs.Tree.{Input, contact, contactn, Front, front_and, front_or, input_variable}
use Rattle.ladder_definitions.specs.Kept.{input_kind, front_words, kind_sort, kind_sorts, no_sort}
use Rattle.ladder_kinds.specs.Kinds.{kind_number}
use Rattle.ladder_kinds.specs.declared.Kind.{Kind}
use Rattle.ladder_kinds.specs.declared.Kind.TheVariants as the_kind
use Rattle.ladder_definitions.specs.Held.{FrontAt}
use Rattle.ladder_definitions.proofs.Laws.Trees.{inside, front_cases, that_input}
use Rattle.list_definitions.specs.Instruction.{Instr, LD, LDN, ST, AND, ANDN, OR, ORN, operand, op_of, operand_number, instr_word}
use Rattle.translation_definitions.specs.Translate.{F, join}
use Rattle.translation_code.specs.Parts.{CodePut, Within, OnePut, FrontPut, Joins, JoinPut, start_in}
use Rattle.translation_code.specs.declared.Positions.{Positions}
use Rattle.questions.proofs.Laws.Stores.{sets_append}

-- ---- runs of instructions

-- one instruction, which stands for no word of its own
pub put_code : (at put op v : ℕ) (i : Instr) (e x : List ℕ) → instr_word i ≡ word op v → x ≡ set e put (word op v)
    → CodePut at 0 put (i ∷ []) (record { next = at; put = put + 1 }) e x
put_code at put op v i e x q h = record { next = sym (add-zero at); end = refl; wrote = h ∙ ap (set e put) (sym q) }

-- one instruction for the word at `at`
pub one_code : (at put op v : ℕ) (i : Instr) (r : Positions) (e x : List ℕ) → instr_word i ≡ word op v → OnePut at put op v r e x → CodePut at 1 put (i ∷ []) r e x
one_code at put op v i r e x q h = record { next = h.next; end = h.end; wrote = h.wrote ∙ ap (set e put) (sym q) }

-- some instructions and then others
pub code_after : (at n put k : ℕ) (is js : List Instr) (r s : Positions) (e m x : List ℕ) → CodePut at n put is r e m → CodePut r.next k r.put js s m x
    → (from l : ℕ) → from + l ≡ at + n + k → CodePut from l put (is ++ js) s e x
code_after at n put k is js r s e m x a b from l q = record {
  next = omega (arith, a.next, b.next);
  end = rw (length-append is js) (omega (arith, a.end, b.end));
  wrote = b.wrote ∙ rw (a.wrote, a.end, map-append instr_word is js, sets_append e put (map instr_word is) (map instr_word js), length-map is instr_word) refl;
}

-- ---- bounds

pub one_within : (ws : List ℕ) (at more put op v : ℕ) (r : Positions) (e x : List ℕ) → at < length ws → OnePut at put op v r e x → Within ws at more put r
one_within ws at more put op v r e x l o =
    let n = o.next in
    let p = o.end in
    record { onward = omega arith; inside = omega arith; few = omega arith; on = omega arith }

joined_within : (ws : List ℕ) (at put : ℕ) (r s : Positions) → at < length ws → Within ws (at + 1) 0 put r → Within ws r.next 2 r.put s → Within ws at 0 put s
joined_within ws at put r s l a b = record {
  onward = omega (arith, a.onward, b.onward);
  inside = omega (arith, a.inside, b.inside);
  few = omega (arith, a.few, b.few);
  on = omega (arith, a.on, b.on);
}

through_within : (ws : List ℕ) (at put : ℕ) (r : Positions) → Within ws at 0 (put + 1) r → Within ws at 2 put (record { next = r.next; put = r.put + 1 })
through_within ws at put r a = record { onward = a.onward; inside = a.inside; few = omega (arith, a.few); on = omega (arith, a.on) }

-- ---- the ops that join

pub joins_and : Joins 5 6 AND ANDN
unfolding instr_word op_of operand operand_number
joins_and = record { plain = λ v. refl; negated = λ v. refl }

pub joins_or : Joins 7 8 OR ORN
unfolding instr_word op_of operand operand_number
joins_or = record { plain = λ v. refl; negated = λ v. refl }

-- ---- a front

-- a kind that no input has
no_input : (k : ℕ) → (1 ≤ k → k < 3 → ⊥) → (i : Input) → k ≡ input_kind i → ⊥
unfolding input_kind
no_input k h (contact v) e = h (omega arith) (omega arith)
no_input k h (contactn v) e = h (omega arith) (omega arith)

abbrev FrontCode : ℕ → ℕ → ℕ → ℕ → Positions → List ℕ → List ℕ → Front → Type 0
FrontCode vars at depth put r e x f = CodePut at (length (front_words f)) put (F vars f depth) r e x

abbrev JoinCode : ℕ → ℕ → ℕ → ℕ → ℕ → ℕ → Positions → List ℕ → List ℕ → Front → Type 0
JoinCode vars at op opn depth put r e x f = (make maken : ℕ → Instr) → Joins op opn make maken
    → CodePut at (length (front_words f)) put (join make maken f (F vars f (depth + 1)) (vars + depth)) r e x

module _ (vars : ℕ) (ws : List ℕ) (at w : ℕ) (e : w ≡ get_or ws at 0) (depth put : ℕ) where
  -- ---- a front, by the kind of its word
  pub front_contact : (r : Positions) (y z : List ℕ) → number_of w ≡ 1 → OnePut at put 1 (operand_of w) r y z → FrontPut vars ws at depth put r y z
  unfolding F front_words input_kind input_variable instr_word op_of operand operand_number
  front_contact r y z k o = record {
    within = one_within ws at 0 put 1 _ r y z (inside ws at w e (λ z. omega arith)) o;
    done = that_input ws at w e (FrontCode vars at depth put r y z) (contact (operand_of w)) k refl (one_code at put 1 _ (LD (operand_of w)) r y z refl o);
  }

  pub front_contactn : (r : Positions) (y z : List ℕ) → number_of w ≡ 2 → OnePut at put 2 (operand_of w) r y z → FrontPut vars ws at depth put r y z
  unfolding F front_words input_kind input_variable instr_word op_of operand operand_number
  front_contactn r y z k o = record {
    within = one_within ws at 0 put 2 _ r y z (inside ws at w e (λ z. omega arith)) o;
    done = that_input ws at w e (FrontCode vars at depth put r y z) (contactn (operand_of w)) k refl (one_code at put 2 _ (LDN (operand_of w)) r y z refl o);
  }

  -- the first part's code, and then that which joins the second
  parts : (op opn : ℕ) (make maken : ℕ → Instr) → Joins op opn make maken → (r s : Positions) (y m z : List ℕ)
      → FrontPut vars ws (at + 1) depth put r y m → JoinPut vars ws r.next op opn depth r.put s m z
      → (f g : Front) → FrontAt ws (at + 1) f → FrontAt ws (at + 1 + length (front_words f)) g → (l : ℕ) → l ≡ 1 + length (front_words f ++ front_words g)
      → CodePut at l put (F vars f depth ++ join make maken g (F vars g (depth + 1)) (vars + depth)) s y z
  parts op opn make maken j r s y m z a b f g sf sg l q =
      let x = a.done f sf in
      code_after (at + 1) _ put _ _ _ r s y m z x (b.done g (rw (← x.next) at sg) make maken j) at l (omega (arith, length-append (front_words f) (front_words g)))

  pub front_and_lem : (r s : Positions) (y m z : List ℕ) → number_of w ≡ 3 → FrontPut vars ws (at + 1) depth put r y m → JoinPut vars ws r.next 5 6 depth r.put s m z
      → FrontPut vars ws at depth put s y z
  unfolding F front_words
  front_and_lem r s y m z k a b = record {
    within = joined_within ws at put r s (inside ws at w e (λ z. omega arith)) a.within b.within;
    done = front_cases ws at w e (FrontCode vars at depth put s y z) (λ i q v. absurd (no_input (number_of w) (λ l h. omega arith) i q))
        (λ f g q sf sg. parts 5 6 AND ANDN joins_and r s y m z a b f g sf sg _ (omega arith)) (λ f g q sf sg. absurd (omega arith));
  }

  pub front_or_lem : (r s : Positions) (y m z : List ℕ) → number_of w ≡ 4 → FrontPut vars ws (at + 1) depth put r y m → JoinPut vars ws r.next 7 8 depth r.put s m z
      → FrontPut vars ws at depth put s y z
  unfolding F front_words
  front_or_lem r s y m z k a b = record {
    within = joined_within ws at put r s (inside ws at w e (λ z. omega arith)) a.within b.within;
    done = front_cases ws at w e (FrontCode vars at depth put s y z) (λ i q v. absurd (no_input (number_of w) (λ l h. omega arith) i q))
        (λ f g q sf sg. absurd (omega arith)) (λ f g q sf sg. parts 7 8 OR ORN joins_or r s y m z a b f g sf sg _ (omega arith));
  }

  pub front_none : (y : List ℕ) → (1 ≤ number_of w → number_of w < 5 → ⊥) → FrontPut vars ws at depth put (record { next = at; put = put }) y y
  front_none y k = record {
    within = record { onward = omega arith; inside = omega arith; few = omega arith; on = omega arith };
    done = front_cases ws at w e (FrontCode vars at depth put (record { next = at; put = put }) y y)
        (λ i q v. absurd (no_input (number_of w) (λ l h. k l (omega arith)) i q))
        (λ f g q sf sg. absurd (k (omega arith) (omega arith))) (λ f g q sf sg. absurd (k (omega arith) (omega arith)));
  }

  -- ---- a front that is joined
  pub join_contact : (op opn : ℕ) (r : Positions) (y z : List ℕ) → number_of w ≡ 1 → OnePut at put op (operand_of w) r y z → JoinPut vars ws at op opn depth put r y z
  unfolding F join front_words input_kind input_variable
  join_contact op opn r y z k o = record {
    within = one_within ws at 2 put op _ r y z (inside ws at w e (λ z. omega arith)) o;
    done = that_input ws at w e (JoinCode vars at op opn depth put r y z) (contact (operand_of w)) k refl (λ make maken j. one_code at put op _ (make (operand_of w)) r y z (j.plain _) o);
  }

  pub join_contactn : (op opn : ℕ) (r : Positions) (y z : List ℕ) → number_of w ≡ 2 → OnePut at put opn (operand_of w) r y z → JoinPut vars ws at op opn depth put r y z
  unfolding F join front_words input_kind input_variable
  join_contactn op opn r y z k o = record {
    within = one_within ws at 2 put opn _ r y z (inside ws at w e (λ z. omega arith)) o;
    done = that_input ws at w e (JoinCode vars at op opn depth put r y z) (contactn (operand_of w)) k refl (λ make maken j. one_code at put opn _ (maken (operand_of w)) r y z (j.negated _) o);
  }

  pub join_none : (op opn : ℕ) (y : List ℕ) → (1 ≤ number_of w → number_of w < 5 → ⊥) → JoinPut vars ws at op opn depth put (record { next = at; put = put }) y y
  join_none op opn y k = record {
    within = record { onward = omega arith; inside = omega arith; few = omega arith; on = omega arith };
    done = front_cases ws at w e (JoinCode vars at op opn depth put (record { next = at; put = put }) y y)
        (λ i q v. absurd (no_input (number_of w) (λ l h. k l (omega arith)) i q))
        (λ f g q sf sg. absurd (k (omega arith) (omega arith))) (λ f g q sf sg. absurd (k (omega arith) (omega arith)));
  }

  -- through td: ST td, the front's code, and the op with td
  through_code : (op opn : ℕ) (r : Positions) (y i o z : List ℕ) → i ≡ set y put (word 3 (vars + depth)) → FrontPut vars ws at (depth + 1) (put + 1) r i o
      → z ≡ set o r.put (word op (vars + depth)) → (f : Front) → FrontAt ws at f → (make maken : ℕ → Instr) → Joins op opn make maken
      → CodePut at (length (front_words f)) put (ST (vars + depth) ∷ (F vars f (depth + 1) ++ make (vars + depth) ∷ [])) (record { next = r.next; put = r.put + 1 }) y z
  unfolding instr_word op_of operand operand_number
  through_code op opn r y i o z p a q f sf make maken j =
      let x = put_code at put 3 (vars + depth) (ST (vars + depth)) y i refl p in
      let b = code_after at 0 put _ _ _ _ r y i o x (a.done f sf) at (length (front_words f)) (omega arith) in
      code_after at _ put 0 _ _ r _ y o z b (put_code r.next r.put op (vars + depth) (make (vars + depth)) o z (j.plain _) q) at _ (omega arith)

  pub join_through : (op opn : ℕ) (r : Positions) (y i o z : List ℕ) → (1 ≤ number_of w → number_of w < 3 → ⊥) → i ≡ set y put (word 3 (vars + depth))
      → FrontPut vars ws at (depth + 1) (put + 1) r i o → z ≡ set o r.put (word op (vars + depth))
      → JoinPut vars ws at op opn depth put (record { next = r.next; put = r.put + 1 }) y z
  unfolding join
  join_through op opn r y i o z k p a q = record {
    within = through_within ws at put r a.within;
    done = λ f s.
        front_cases ws at w e (λ f. FrontAt ws at f → JoinCode vars at op opn depth put (record { next = r.next; put = r.put + 1 }) y z f)
        (λ i u v. absurd (no_input (number_of w) k i u))
        (λ f g u sf sg. through_code op opn r y i o z p a q (front_and f g)) (λ f g u sf sg. through_code op opn r y i o z p a q (front_or f g)) f s s;
  }

-- ---- the kinds

-- a number that no kind has is none of a front's words
pub front_sorted : (n : ℕ) → 1 ≤ n → n < 5 → kind_sort n ≡ no_sort → ⊥
unfolding kind_sort kind_sorts
front_sorted zero h k e = absurd (omega arith)
front_sorted (suc zero) h k e = absurd (cc)
front_sorted (suc (suc zero)) h k e = absurd (cc)
front_sorted (suc (suc (suc zero))) h k e = absurd (cc)
front_sorted (suc (suc (suc (suc zero)))) h k e = absurd (cc)
front_sorted (suc (suc (suc (suc (suc n))))) h k e = absurd (omega arith)

-- no kind has the number 0, so that its word stands among the words
some_kind : (k : Kind) → kind_number k ≡ 0 → ⊥
unfolding kind_number
some_kind the_kind.Contact e = absurd (omega arith)
some_kind the_kind.NegatedContact e = absurd (omega arith)
some_kind the_kind.FrontAnd e = absurd (omega arith)
some_kind the_kind.FrontOr e = absurd (omega arith)
some_kind the_kind.Coil e = absurd (omega arith)
some_kind the_kind.NegatedCoil e = absurd (omega arith)
some_kind the_kind.Jump e = absurd (omega arith)
some_kind the_kind.NegatedJump e = absurd (omega arith)
some_kind the_kind.RearAnd e = absurd (omega arith)
some_kind the_kind.RearOr e = absurd (omega arith)
some_kind the_kind.SetCoil e = absurd (omega arith)
some_kind the_kind.ResetCoil e = absurd (omega arith)
some_kind the_kind.Timer e = absurd (omega arith)

pub kind_inside : (ws : List ℕ) (at w : ℕ) (k : Kind) → kind_number k ≡ number_of w → w ≡ get_or ws at 0 → at < length ws
kind_inside ws at w k e q = inside ws at w q (λ z. some_kind k (e ∙ z))

-- a kind that is no contact's
pub no_contact : (k : Kind) {n : ℕ} → kind_number k ≡ n → (k ≡ the_kind.Contact → ⊥) → (k ≡ the_kind.NegatedContact → ⊥) → 1 ≤ n → n < 3 → ⊥
unfolding kind_number
no_contact the_kind.Contact e a b h l = a refl
no_contact the_kind.NegatedContact e a b h l = b refl
no_contact the_kind.FrontAnd e a b h l = absurd (omega arith)
no_contact the_kind.FrontOr e a b h l = absurd (omega arith)
no_contact the_kind.Coil e a b h l = absurd (omega arith)
no_contact the_kind.NegatedCoil e a b h l = absurd (omega arith)
no_contact the_kind.Jump e a b h l = absurd (omega arith)
no_contact the_kind.NegatedJump e a b h l = absurd (omega arith)
no_contact the_kind.RearAnd e a b h l = absurd (omega arith)
no_contact the_kind.RearOr e a b h l = absurd (omega arith)
no_contact the_kind.SetCoil e a b h l = absurd (omega arith)
no_contact the_kind.ResetCoil e a b h l = absurd (omega arith)
no_contact the_kind.Timer e a b h l = absurd (omega arith)

-- nor that of a front's other words
pub no_front : (k : Kind) {n : ℕ} → kind_number k ≡ n → (k ≡ the_kind.Contact → ⊥) → (k ≡ the_kind.NegatedContact → ⊥) → (k ≡ the_kind.FrontAnd → ⊥)
    → (k ≡ the_kind.FrontOr → ⊥) → 1 ≤ n → n < 5 → ⊥
unfolding kind_number
no_front the_kind.Contact e a b c d h l = a refl
no_front the_kind.NegatedContact e a b c d h l = b refl
no_front the_kind.FrontAnd e a b c d h l = c refl
no_front the_kind.FrontOr e a b c d h l = d refl
no_front the_kind.Coil e a b c d h l = absurd (omega arith)
no_front the_kind.NegatedCoil e a b c d h l = absurd (omega arith)
no_front the_kind.Jump e a b c d h l = absurd (omega arith)
no_front the_kind.NegatedJump e a b c d h l = absurd (omega arith)
no_front the_kind.RearAnd e a b c d h l = absurd (omega arith)
no_front the_kind.RearOr e a b c d h l = absurd (omega arith)
no_front the_kind.SetCoil e a b c d h l = absurd (omega arith)
no_front the_kind.ResetCoil e a b c d h l = absurd (omega arith)
no_front the_kind.Timer e a b c d h l = absurd (omega arith)

-- ---- the start of the rung with a label

pub start_read : (ls starts : List ℕ) (l n : ℕ) → n ≡ search l ls → get_or starts n 0 ≡ start_in ls starts l
unfolding start_in
start_read ls starts l n q = ap (λ k. get_or starts k 0) q
