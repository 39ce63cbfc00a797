-- Question 9 asks what it says: where the translated code stays within t0 to t31, so does the count of scratch bytes. Legal has the converse. Assumes nothing.
use Rattle.std.specs.Prelude.{◌≡◌, ◌⊎◌, Bool, ℕ, ◌+◌, ◌≤◌, ◌<◌, max, T}
use Rattle.std.proofs.Math.Path.{refl}
use Rattle.std.proofs.Math.Logic.{inl}
use Rattle.std.proofs.Common.{inr, le→leb}
use mathlib.Core.List.{List, [], ◌∷◌, ◌++◌, flat_map}
use native.Mathlib.Omega.{arith}
use Rattle.std.proofs.Math.Dec.{ltb→lt, leb}
use Rattle.questions.specs.Tests.{all}
use Rattle.questions.proofs.Laws.Tests.{all_head, all_tail, all_cons, all_first, all_second}
use Rattle.table.specs.State.{scratch_bytes, table_size}
use Rattle.ladder_definitions.specs.Tree.{contact, contactn, Front, input, front_and, front_or, Rear, output, rear_and, rear_or, Rung, Ladder}
use Rattle.ladder_definitions.specs.Questions.{join_scratch, front_scratch, rear_scratch, rung_scratch}
use Rattle.list_definitions.specs.Instruction.{Instr, LD, ST, AND, ANDN, OR, ORN, table_index, operand}
use Rattle.list_definitions.specs.Questions.{operand_in_range, instr_in_range}
use Rattle.translation_definitions.specs.Translate.{F, R, join, rung_code}
use Rattle.translation_definitions.proofs.Laws.Legal.{InRange}

-- a part at depth d that takes a scratch bytes takes none, or stays within the 32
abbrev Within : ℕ → ℕ → Type 0
Within d a = (a ≡ 0) ⊎ (d + a ≤ scratch_bytes)

within_max : (d a b : ℕ) → Within d a → Within d b → Within d (max a b)
within_max d a b (inl p) (inl q) = inl (omega arith)
within_max d a b (inl p) (inr q) = inr (omega arith)
within_max d a b (inr p) (inl q) = inr (omega arith)
within_max d a b (inr p) (inr q) = inr (omega arith)

within_suc : (d a : ℕ) → d < scratch_bytes → Within (d + 1) a → Within d (a + 1)
within_suc d a h (inl p) = inr (omega arith)
within_suc d a h (inr p) = inr (omega arith)

module _ (vars n : ℕ) where
  abbrev test : Instr → Bool
  test = instr_in_range (table_size vars) n

  below : (d : ℕ) → T (operand_in_range (table_size vars) n (table_index (vars + d))) → d < scratch_bytes
  unfolding operand_in_range
  below d h = let k = ltb→lt (vars + d) (vars + scratch_bytes) h in omega arith

  through_within : (own : List Instr) (i : Instr) (d a : ℕ) → InRange (table_size vars) n (ST (vars + d) ∷ own ++ i ∷ []) → (InRange (table_size vars) n own → Within (d + 1) a) → Within d (a + 1)
  unfolding operand
  through_within own i d a h k = within_suc d a (below d (all_head test (ST (vars + d)) _ h)) (k (all_first test own (i ∷ []) (all_tail test (ST (vars + d)) _ h)))

  join_within : (op opn : ℕ → Instr) (g : Front) (own : List Instr) (d : ℕ) → InRange (table_size vars) n (join op opn g own (vars + d)) → (InRange (table_size vars) n own → Within (d + 1) (front_scratch g)) → Within d (join_scratch g (front_scratch g))
  unfolding join join_scratch operand
  join_within op opn (input (contact v)) own d h k = inl refl
  join_within op opn (input (contactn v)) own d h k = inl refl
  join_within op opn (front_and f g) own d h k = through_within own (op (vars + d)) d _ h k
  join_within op opn (front_or f g) own d h k = through_within own (op (vars + d)) d _ h k

  F_within : (f : Front) (d : ℕ) → InRange (table_size vars) n (F vars f d) → Within d (front_scratch f)
  unfolding F front_scratch
  F_within (input (contact v)) d h = inl refl
  F_within (input (contactn v)) d h = inl refl
  F_within (front_and f g) d h = within_max d _ _ (F_within f d (all_first test (F vars f d) _ h))
      (join_within AND ANDN g (F vars g (d + 1)) d (all_second test (F vars f d) _ h) (λ k. F_within g (d + 1) k))
  F_within (front_or f g) d h = within_max d _ _ (F_within f d (all_first test (F vars f d) _ h))
      (join_within OR ORN g (F vars g (d + 1)) d (all_second test (F vars f d) _ h) (λ k. F_within g (d + 1) k))

  R_within : (start : ℕ → ℕ) (r : Rear) (d : ℕ) → InRange (table_size vars) n (R vars start r d) → Within d (rear_scratch r)
  unfolding R rear_scratch operand
  R_within start (output o) d h = inl refl
  R_within start (rear_and f r) d h =
      let joined = join AND ANDN f (F vars f (d + 1)) (vars + d) in
      within_max d _ _ (join_within AND ANDN f (F vars f (d + 1)) d (all_first test joined _ h) (λ k. F_within f (d + 1) k))
      (R_within start r d (all_second test joined _ h))
  R_within start (rear_or a b) d h =
      let rest = all_tail test (ST (vars + d)) (R vars start a (d + 1) ++ LD (vars + d) ∷ R vars start b d) h in
      within_max d _ _
      (within_suc d _ (below d (all_head test (ST (vars + d)) (R vars start a (d + 1) ++ LD (vars + d) ∷ R vars start b d) h)) (R_within start a (d + 1) (all_first test (R vars start a (d + 1)) _ rest)))
      (R_within start b d (all_tail test (LD (vars + d)) (R vars start b d) (all_second test (R vars start a (d + 1)) _ rest)))

  rung_within : (start : ℕ → ℕ) (g : Rung) → InRange (table_size vars) n (rung_code vars start g) → rung_scratch g ≤ scratch_bytes
  unfolding rung_code rung_scratch
  rung_within start g h = go (within_max 0 _ _ (F_within g.front 0 (all_first test (F vars g.front 0) _ h)) (R_within start g.rear 0 (all_second test (F vars g.front 0) _ h)))
    where
      go : Within 0 (rung_scratch g) → rung_scratch g ≤ scratch_bytes
      go (inl p) = omega arith
      go (inr p) = omega arith

  pub codes_within : (start : ℕ → ℕ) (gs : Ladder) → InRange (table_size vars) n (flat_map (rung_code vars start) gs) → T (all (λ g. leb (rung_scratch g) scratch_bytes) gs)
  unfolding flat_map
  codes_within start [] h = tt
  codes_within start (g ∷ gs) h = all_cons (λ k. leb (rung_scratch k) scratch_bytes) g gs
      (le→leb (rung_scratch g) scratch_bytes (rung_within start g (all_first test (rung_code vars start g) _ h)))
      (codes_within start gs (all_second test (rung_code vars start g) _ h))
