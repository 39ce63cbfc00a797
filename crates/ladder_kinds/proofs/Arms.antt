-- What the arms of a match on the sort of a kind tell: an arm its sort, and the last arm that it is none of those before. Assumes nothing.
use Prim.Native.Nat.{ℕ}
use native.Mathlib.Omega.{arith}
use mathlib.Core.Path.{◌≡◌, refl, sym, ap, ◌∙◌}
use mathlib.Core.Bool.{false}
use Rattle.std.specs.Prelude.{Option, Some, None}
use Rattle.ladder_definitions.specs.Kept.{contact_sort, joined_sort, kind_sort}
use Rattle.ladder_kinds.specs.Kinds.{case_sort, sort_in}
use Rattle.ladder_kinds.specs.declared.KindSort.{KindSort as KindSortCase}
use Rattle.ladder_kinds.specs.declared.KindSort.TheVariants.{Contact, Joined, Output, RearAnd, RearOr}
use Rattle.ladder_definitions.proofs.Laws.Trees.{starts_front, starts_rear}

-- an arm after a `?`
pub arm : {x y : KindSortCase} → x ≡ y → Some x ≡ Some y
arm e = ap Some e

pub other_arm : {x y : KindSortCase} → (x ≡ y → ⊥) → Some x ≡ Some y → ⊥
other_arm {x} {y} n e = n cc

-- no sort at a `?`
module _ (k : ℕ) (e : sort_in None ≡ kind_sort k) where
  pub none_contact : kind_sort k ≡ contact_sort → ⊥
  unfolding sort_in
  none_contact z = let q = e ∙ z in let o : ◌≡◌ {A = ℕ} 0 1 = cc in omega arith

  pub none_joined : kind_sort k ≡ joined_sort → ⊥
  unfolding sort_in
  none_joined z = let q = e ∙ z in let o : ◌≡◌ {A = ℕ} 0 1 = cc in omega arith

  pub none_fronts : starts_front (kind_sort k) ≡ false
  unfolding sort_in
  none_fronts = sym (ap starts_front e)

  pub none_rears : starts_rear (kind_sort k) ≡ false
  unfolding sort_in
  none_rears = sym (ap starts_rear e)

module _ (k : ℕ) (r : Option KindSortCase) (e : sort_in r ≡ kind_sort k) where
  pub told : (named : Option KindSortCase) → r ≡ named → kind_sort k ≡ sort_in named
  told named q = sym e ∙ ap sort_in q

  pub not_contact : (r ≡ Some Contact → ⊥) → kind_sort k ≡ contact_sort → ⊥
  unfolding sort_in case_sort
  not_contact other z = go r other (e ∙ z)
    where
      go : (x : Option KindSortCase) → (x ≡ Some Contact → ⊥) → sort_in x ≡ contact_sort → ⊥
      go (Some Contact) n q = n refl
      go (Some Joined) n q = let o : ◌≡◌ {A = ℕ} 0 1 = cc in omega arith
      go (Some Output) n q = let o : ◌≡◌ {A = ℕ} 0 1 = cc in omega arith
      go (Some RearAnd) n q = let o : ◌≡◌ {A = ℕ} 0 1 = cc in omega arith
      go (Some RearOr) n q = let o : ◌≡◌ {A = ℕ} 0 1 = cc in omega arith
      go None n q = let o : ◌≡◌ {A = ℕ} 0 1 = cc in omega arith

  pub not_joined : (r ≡ Some Joined → ⊥) → kind_sort k ≡ joined_sort → ⊥
  unfolding sort_in case_sort
  not_joined other z = go r other (e ∙ z)
    where
      go : (x : Option KindSortCase) → (x ≡ Some Joined → ⊥) → sort_in x ≡ joined_sort → ⊥
      go (Some Joined) n q = n refl
      go (Some Contact) n q = let o : ◌≡◌ {A = ℕ} 0 1 = cc in omega arith
      go (Some Output) n q = let o : ◌≡◌ {A = ℕ} 0 1 = cc in omega arith
      go (Some RearAnd) n q = let o : ◌≡◌ {A = ℕ} 0 1 = cc in omega arith
      go (Some RearOr) n q = let o : ◌≡◌ {A = ℕ} 0 1 = cc in omega arith
      go None n q = let o : ◌≡◌ {A = ℕ} 0 1 = cc in omega arith

  pub not_front : (r ≡ Some Contact → ⊥) → (r ≡ Some Joined → ⊥) → starts_front (kind_sort k) ≡ false
  unfolding sort_in case_sort
  not_front a b = sym (ap starts_front e) ∙ go r a b
    where
      go : (x : Option KindSortCase) → (x ≡ Some Contact → ⊥) → (x ≡ Some Joined → ⊥) → starts_front (sort_in x) ≡ false
      go (Some Contact) a b = absurd (a refl)
      go (Some Joined) a b = absurd (b refl)
      go (Some Output) a b = refl
      go (Some RearAnd) a b = refl
      go (Some RearOr) a b = refl
      go None a b = refl

  pub not_rear : (r ≡ Some Output → ⊥) → (r ≡ Some RearAnd → ⊥) → (r ≡ Some RearOr → ⊥) → starts_rear (kind_sort k) ≡ false
  unfolding sort_in case_sort
  not_rear a b c = sym (ap starts_rear e) ∙ go r a b c
    where
      go : (x : Option KindSortCase) → (x ≡ Some Output → ⊥) → (x ≡ Some RearAnd → ⊥) → (x ≡ Some RearOr → ⊥) → starts_rear (sort_in x) ≡ false
      go (Some Contact) a b c = refl
      go (Some Joined) a b c = refl
      go (Some Output) a b c = absurd (a refl)
      go (Some RearAnd) a b c = absurd (b refl)
      go (Some RearOr) a b c = absurd (c refl)
      go None a b c = refl
