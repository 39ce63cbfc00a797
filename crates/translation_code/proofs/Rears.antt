-- Laws of the code of a rear and of a rung: the instructions that are put for a tree, from those that are put for its parts. Assumes nothing.
use Prim.Native.Nat.{ℕ, ◌+◌, ◌-◌, ◌≤◌, ◌<◌, ◌^◌}
use native.Mathlib.Omega.{arith}
use native.Mathlib.Numerals.{add-one}
use mathlib.Core.Path.{◌≡◌, refl, sym, ap, ◌∙◌}
use mathlib.Core.Bool.{true, false, true≢false}
use mathlib.Core.List.{List, ◌∷◌, ◌++◌}
use lib.ListN.{length, length-append, get_or, set}
use Rattle.questions.specs.Questions.{most_variables}
use Rattle.table.specs.State.{scratch_index}
use Rattle.rungs.specs.Words.{word, number_of, operand_of}
use Rattle.ladder_definitions.specs.Tree.{Rear}
use Rattle.ladder_definitions.specs.Questions.{most_words}
use Rattle.ladder_definitions.specs.Kept.{output_sort, rear_and_sort, rear_or_sort, kind_sorts, kind_sort, rear_words, rung_words}
use Rattle.ladder_definitions.proofs.Laws.Trees.{inside, starts_rear, output_only, rear_and_only, rear_or_only, no_rear_lem, rung_only}
use Rattle.ladder_kinds.specs.Kinds.{kind_number}
use Rattle.ladder_kinds.specs.declared.Kind.{Kind}
use Rattle.ladder_kinds.specs.declared.Kind.TheVariants as the_kind
use Rattle.list_definitions.specs.Instruction.{Instr, LD, ST, AND, ANDN, op_of, operand, operand_number, instr_word}
use Rattle.translation_definitions.specs.Translate.{R, rung_code, code_bound}
use Rattle.translation_code.specs.Parts.{CodePut, Within, FrontPut, JoinPut, start_in, InstructionOf, RearPut, RungPut}
use Rattle.translation_code.specs.declared.Positions.{Positions}
use Rattle.translation_code.proofs.Fronts.{code_after, joins_and}

-- ---- instructions after instructions

-- the root word stands before the parts' words
rooted : {at n m put : ℕ} {is : List Instr} {r : Positions} {a x : List ℕ} → m ≡ n + 1 → CodePut (at + 1) n put is r a x → CodePut at m put is r a x
rooted q h = record { next = let z = h.next in omega arith; end = h.end; wrote = h.wrote }

put_first : {at n put v : ℕ} {i : Instr} {is : List Instr} {r : Positions} {a b x : List ℕ} → instr_word i ≡ v → b ≡ set a put v
    → CodePut at n (put + 1) is r b x → CodePut at n put (i ∷ is) r a x
put_first q s h = record {
  next = h.next;
  end = let z = h.end in omega arith;
  wrote = h.wrote ∙ rw (s, q, add-one) refl;
}

put_then : {at n m put : ℕ} {is js : List Instr} {s r : Positions} {a b x : List ℕ} → CodePut at n put is s a b
    → CodePut s.next m s.put js r b x → CodePut at (n + m) put (is ++ js) r a x
put_then g h = code_after _ _ _ _ _ _ _ _ _ _ _ g h _ _ (omega arith)

-- ---- room for a rear's parts

-- what rear_code requires
abbrev Room : ℕ → List ℕ → ℕ → ℕ → ℕ → Type 0
Room vars ws at depth put = (vars ≤ most_variables) × (length ws ≤ most_words) × (depth + (length ws - at) ≤ most_words) × (put + code_bound (length ws - at) < 2 ^ 31)

-- and the measure of a call, t, which falls
abbrev Enters : ℕ → ℕ → List ℕ → ℕ → ℕ → ℕ → Type 0
Enters t vars ws at depth put = (length ws - at < t) × Room vars ws at depth put

-- a rear's word stands among the words
pub rear_inside : (ws : List ℕ) (at w : ℕ) → w ≡ get_or ws at 0 → starts_rear (kind_sort (number_of w)) ≡ true → at < length ws
unfolding kind_sort kind_sorts
rear_inside ws at w e k = inside ws at w e (λ z. true≢false (sym k ∙ rw z refl))

module _ (t vars : ℕ) (ws : List ℕ) (at depth put w : ℕ) (e : w ≡ get_or ws at 0) (h : (length ws - at ≡ t) × Room vars ws at depth put) (s : Positions) where
  pub room_and : kind_sort (number_of w) ≡ rear_and_sort → Within ws (at + 1) 2 put s → Enters t vars ws s.next depth s.put
  room_and k g =
      let l = rear_inside ws at w e (ap starts_rear k) in
      let go = g.onward in let gi = g.inside in let gf = g.few in
      (omega arith, (omega arith, omega arith, omega arith, omega arith))

  pub room_or : kind_sort (number_of w) ≡ rear_or_sort → Within ws (at + 1) 0 (put + 1) s → Enters t vars ws s.next depth (s.put + 1)
  room_or k g =
      let l = rear_inside ws at w e (ap starts_rear k) in
      let go = g.onward in let gi = g.inside in let gf = g.few in
      (omega arith, (omega arith, omega arith, omega arith, omega arith))

-- ---- a kind that no rear begins with

pub no_rear_kind : (k : Kind) {n : ℕ} → kind_number k ≡ n → (k ≡ the_kind.RearAnd → ⊥) → (k ≡ the_kind.RearOr → ⊥) → (kind_sort (kind_number k) ≡ output_sort → ⊥)
    → starts_rear (kind_sort n) ≡ false
unfolding kind_number kind_sort kind_sorts
no_rear_kind the_kind.Contact e a b o = rw (← e) refl
no_rear_kind the_kind.NegatedContact e a b o = rw (← e) refl
no_rear_kind the_kind.FrontAnd e a b o = rw (← e) refl
no_rear_kind the_kind.FrontOr e a b o = rw (← e) refl
no_rear_kind the_kind.Coil e a b o = absurd (o refl)
no_rear_kind the_kind.NegatedCoil e a b o = absurd (o refl)
no_rear_kind the_kind.Jump e a b o = absurd (o refl)
no_rear_kind the_kind.NegatedJump e a b o = absurd (o refl)
no_rear_kind the_kind.RearAnd e a b o = absurd (a refl)
no_rear_kind the_kind.RearOr e a b o = absurd (b refl)
no_rear_kind the_kind.SetCoil e a b o = absurd (o refl)
no_rear_kind the_kind.ResetCoil e a b o = absurd (o refl)
no_rear_kind the_kind.Timer e a b o = absurd (o refl)

-- ---- a rear, by the sort of its word's kind

module _ (vars : ℕ) (ws : List ℕ) (at depth : ℕ) (ls starts : List ℕ) (put w : ℕ) (e : w ≡ get_or ws at 0) where
  abbrev Put : Positions → List ℕ → List ℕ → Rear → Type 0
  Put r a x k = CodePut at (length (rear_words k)) put (R vars (start_in ls starts) k depth) r a x

  pub rear_output : (i : ℕ) (a x : List ℕ) → InstructionOf (number_of w) (operand_of w) ls starts i → x ≡ set a put i
      → RearPut vars ws at depth ls starts put (record { next = at + 1; put = put + 1 }) a x
  unfolding rear_words R
  rear_output i a x h q = record {
    within =
        let l = rear_inside ws at w e (ap starts_rear h.sort) in
        record { onward = omega arith; inside = omega arith; few = omega arith; on = omega arith };
    done = output_only ws at w e (Put (record { next = at + 1; put = put + 1 }) a x) h.sort (λ o n v.
        record { next = refl; end = refl; wrote = q ∙ ap (set a put) (h.same o n v) });
  }

  pub rear_and_lem : (j r : Positions) (a b x : List ℕ) → kind_sort (number_of w) ≡ rear_and_sort → JoinPut vars ws (at + 1) 5 6 depth put j a b
      → RearPut vars ws j.next depth ls starts j.put r b x → RearPut vars ws at depth ls starts put r a x
  unfolding rear_words R
  rear_and_lem j r a b x k g h = record {
    within =
        let l = rear_inside ws at w e (ap starts_rear k) in
        let go = g.within.onward in let gi = g.within.inside in let gf = g.within.few in let gn = g.within.on in
        let ho = h.within.onward in let hi = h.within.inside in let hf = h.within.few in let hn = h.within.on in
        record { onward = omega arith; inside = omega arith; few = omega arith; on = omega arith };
    done = rear_and_only ws at w e (Put r a x) k (λ f q u sf sq.
        let y = g.done f sf AND ANDN joins_and in
        let z = h.done q (rw (← y.next) at sq) in
        rooted (simp length-append (omega arith)) (put_then y z));
  }

  pub rear_or_lem : (s r : Positions) (a b c d x : List ℕ) → kind_sort (number_of w) ≡ rear_or_sort → b ≡ set a put (word 3 (scratch_index vars depth))
      → RearPut vars ws (at + 1) (depth + 1) ls starts (put + 1) s b c → d ≡ set c s.put (word 1 (scratch_index vars depth))
      → RearPut vars ws s.next depth ls starts (s.put + 1) r d x → RearPut vars ws at depth ls starts put r a x
  unfolding rear_words R instr_word op_of operand operand_number
  rear_or_lem s r a b c d x k st g ld h = record {
    within =
        let l = rear_inside ws at w e (ap starts_rear k) in
        let go = g.within.onward in let gi = g.within.inside in let gf = g.within.few in let gn = g.within.on in
        let ho = h.within.onward in let hi = h.within.inside in let hf = h.within.few in let hn = h.within.on in
        record { onward = omega arith; inside = omega arith; few = omega arith; on = omega arith };
    done = rear_or_only ws at w e (Put r a x) k (λ p q u sp sq.
        let y = g.done p sp in
        let z = h.done q (rw (← y.next) at sq) in
        rooted (simp length-append (omega arith)) (put_first {i = ST (scratch_index vars depth)} refl st (put_then y (put_first {i = LD (scratch_index vars depth)} refl ld z))));
  }

  pub rear_none : (a : List ℕ) → starts_rear (kind_sort (number_of w)) ≡ false → RearPut vars ws at depth ls starts put (record { next = at; put = put }) a a
  rear_none a k = record {
    within = record { onward = omega arith; inside = omega arith; few = omega arith; on = omega arith };
    done = no_rear_lem ws at w e (Put (record { next = at; put = put }) a a) k;
  }

-- ---- a rung

pub rung_put : (vars : ℕ) (ws : List ℕ) (at : ℕ) (ls starts : List ℕ) (put : ℕ) (s r : Positions) (a b x : List ℕ) → FrontPut vars ws at 0 put s a b
    → RearPut vars ws s.next 0 ls starts s.put r b x → RungPut vars ws at ls starts put r a x
unfolding rung_words rung_code
rung_put vars ws at ls starts put s r a b x g h = record {
  within =
      let go = g.within.onward in let gi = g.within.inside in let gf = g.within.few in let gn = g.within.on in
      let ho = h.within.onward in let hi = h.within.inside in let hf = h.within.few in let hn = h.within.on in
      record { onward = omega arith; inside = omega arith; few = omega arith; on = omega arith };
  done = rung_only ws at (λ u. CodePut at (length (rung_words u)) put (rung_code vars (start_in ls starts) u) r a x) (λ u sf sr.
      let y = g.done u.front sf in
      let z = h.done u.rear (rw (← y.next) at sr) in
      rw length-append (put_then y z));
}
