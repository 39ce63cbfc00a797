-- Laws of the way from a front's first word to its first contact and back. Assumes nothing.
use Prim.Native.Nat.{ℕ, ◌+◌, ◌-◌, ◌≤◌, ◌<◌}
use native.Mathlib.Omega.{arith}
use mathlib.Core.Path.{◌≡◌, refl, sym, subst}
use mathlib.Core.Bool.{Bool, true, false}
use mathlib.Core.List.{List}
use lib.Dec.{eqb}
use Rattle.std.specs.Prelude.{Option, Some, None}
use Rattle.std.specs.Option.{unwrap_or}
use lib.ListN.{length, get_or, get_or-eq_default}
use borrow.Author.Tests.{eqb-true, eqb-false}
use Rattle.rungs.specs.Words.{number_of}
use Rattle.ladder_definitions.specs.Kept.{joined_sort, kind_sorts, kind_sort}
use Rattle.ladder_walk.specs.Walking.{FrontWorked, Root, ContactWorked, RootsPassed, PartsJoined}
use Rattle.ladder_walk.specs.declared.Worked.{Worked}
use Rattle.ladder_definitions.proofs.Laws.Trees.{inside_sort}
use Rattle.ladder_walk.proofs.Walks.{worked_joined}

-- ---- the way to the first contact

-- the loop's invariant: roots only stand from `from` up to `at`
pub record Passing (ws : List ℕ) (from at : ℕ) : Type 0 where
  pub onward : from ≤ at
  pub roots : (k : ℕ) → from ≤ k → k < at → Root ws k

pub passing_first : (ws : List ℕ) (from : ℕ) → Passing ws from from
passing_first ws from = record { onward = omega arith; roots = λ k h l. absurd (omega arith) }

module _ {ws : List ℕ} {from at : ℕ} (p : Passing ws from at) where
  pub passing_more : Root ws at → Passing ws from (at + 1)
  passing_more r = record { onward = omega (arith, p.onward); roots = λ k h l. go k h (eqb k at) refl l }
    where
      go : (k : ℕ) → from ≤ k → (x : Bool) → eqb k at ≡ x → k < at + 1 → Root ws k
      go k h true e l = ap_root (sym (eqb-true k at e)) r
        where
          ap_root : {i j : ℕ} → i ≡ j → Root ws i → Root ws j
          ap_root q s = rw (← q) s
      go k h false e l = p.roots k h (omega (arith, l, eqb-false k at e))

  pub passed_leaf : (Root ws at → ⊥) → RootsPassed ws from at
  passed_leaf n = record { onward = p.onward; roots = p.roots; leaf = n }

  pub passed_end : length ws ≤ at → RootsPassed ws from at
  unfolding kind_sort kind_sorts
  passed_end h = passed_leaf (λ r. let z : get_or ws at 0 ≡ 0 = get_or-eq_default ws 0 h in let q = rw z at r in let n : ◌≡◌ {A = ℕ} 0 1 = cc in omega arith)

-- ---- and back

-- the loop's invariant: what stands from `at` on is worked and left the bytes u, and roots only are left before it
pub record Climbing (ws : List ℕ) (from : ℕ) (t : List ℕ) (at : ℕ) (first : Worked) (u : List ℕ) : Type 0 where
  pub onward : from ≤ at
  pub roots : (k : ℕ) → from ≤ k → k < at → Root ws k
  pub worked : FrontWorked ws at t first u

pub climbing_first : {ws : List ℕ} {from at : ℕ} {t : List ℕ} {contact : Option Worked} {first : Worked} {u : List ℕ} → RootsPassed ws from at → ContactWorked ws at t contact u
    → first ≡ unwrap_or contact (record { value = false; next = at }) → Climbing ws from t at first u
climbing_first {contact = None} p c e = record { onward = p.onward; roots = p.roots; worked = rw e (c.cases p.leaf) }
climbing_first {contact = Some w} p c e = record { onward = p.onward; roots = p.roots; worked = rw e c.cases }

module _ {ws : List ℕ} {from : ℕ} {t : List ℕ} {at : ℕ} {first : Worked} {u : List ℕ} (c : Climbing ws from t at first u) where
  -- the first word stands within the words, and the worked part ends after it
  pub climbing_within : from < at → (from < length ws) × (from < first.next)
  climbing_within h =
      let r = c.roots from (omega arith) h in
      (inside_sort ws from (get_or ws from 0) refl joined_sort r (λ z. let n : ◌≡◌ {A = ℕ} 0 1 = cc in omega arith), omega (arith, c.worked.onward))

  pub climbing_more : from < at → (w : ℕ) → w ≡ get_or ws (at - 1) 0 → (second : Worked) (v : List ℕ) → FrontWorked ws first.next u second v
      → (b : Bool) → PartsJoined (number_of w) first.value second.value b → Climbing ws from t (at - 1) (record { value = b; next = second.next }) v
  climbing_more h w e second v s b j =
      let r = c.roots (at - 1) (omega arith) (omega arith) in
      let back : at - 1 + 1 ≡ at = omega arith in
      record {
        onward = omega arith;
        roots = λ k l m. c.roots k l (omega arith);
        worked = worked_joined ws (at - 1) w t e first u second v (subst (λ (i : ℕ). FrontWorked ws i t first u) (sym back) c.worked) s b j
            (subst (λ (i : ℕ). kind_sort (number_of i) ≡ joined_sort) (sym e) r);
      }

  pub climbing_end : at ≤ from → FrontWorked ws from t first u
  climbing_end h = let q : at ≡ from = omega (arith, c.onward) in subst (λ (i : ℕ). FrontWorked ws i t first u) q c.worked
