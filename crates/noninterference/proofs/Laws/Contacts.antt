-- Laws of `among`, and what passes for every variable that contacts name passes at every contact. Assumes nothing.
use Rattle.std.specs.Prelude.{ℕ, ◌≡◌, Bool, true, false, ◌||◌, ◌⊎◌, T, eqb}
use Rattle.std.proofs.Common.{inl, inr, eqb→eq}
use mathlib.Core.List.{List, [], ◌∷◌, flat_map}
use Rattle.std.proofs.Math.Dec.{eqb_refl}
use Rattle.std.proofs.Math.Facts.{or_yes}
use Rattle.questions.specs.Tests.{all}
use Rattle.questions.proofs.Laws.Tests.{all_head, all_tail, all_cons, all_first, all_second, all_weaker}
use Rattle.ladder_definitions.specs.Tree.{Rung, Ladder}
use Rattle.noninterference.specs.Contacts.{rung_contacts, ladder_contacts, among}

or_first : (a b : Bool) → T a → T (a || b)
or_first true b h = tt
or_first false b h = absurd h

or_second : (a b : Bool) → T b → T (a || b)
or_second true b h = tt
or_second false b h = h

pub among_head : (v : ℕ) (xs : List ℕ) → T (among v (v ∷ xs))
unfolding among
among_head v xs = or_first (eqb v v) (among v xs) (eqb_refl v)

pub among_tail : (v x : ℕ) (xs : List ℕ) → T (among v xs) → T (among v (x ∷ xs))
unfolding among
among_tail v x xs h = or_second (eqb x v) (among v xs) h

pub among_cases : (v x : ℕ) (xs : List ℕ) → T (among v (x ∷ xs)) → (x ≡ v) ⊎ T (among v xs)
unfolding among
among_cases v x xs h = go (or_yes (eqb x v) (among v xs) h)
  where
    go : T (eqb x v) ⊎ T (among v xs) → (x ≡ v) ⊎ T (among v xs)
    go (inl k) = inl (eqb→eq x v k)
    go (inr k) = inr k

-- each of some variables is among them
pub all_among : (xs : List ℕ) → T (all (λ v. among v xs) xs)
all_among [] = tt
all_among (x ∷ xs) =
    all_cons (λ v. among v (x ∷ xs)) x xs (among_head x xs) (all_weaker (λ v. among v xs) (λ v. among v (x ∷ xs)) (λ v h. among_tail v x xs h) xs (all_among xs))

-- what passes for each of some variables passes for one among them
pub among_passes : (test : ℕ → Bool) (v : ℕ) (xs : List ℕ) → T (all test xs) → T (among v xs) → T (test v)
unfolding among
among_passes test v [] h m = absurd m
among_passes test v (x ∷ xs) h m = go (among_cases v x xs m) (among_passes test v xs (all_tail test x xs h))
  where
    go : (x ≡ v) ⊎ T (among v xs) → (T (among v xs) → T (test v)) → T (test v)
    go (inl e) ih = rw e at (all_head test x xs h)
    go (inr k) ih = ih k

-- a test that each contact of a rung passes
abbrev pub contacts_pass : (ℕ → Bool) → Rung → Bool
contacts_pass test g = all test (rung_contacts g)

pub rungs_pass : (test : ℕ → Bool) (gs : Ladder) → T (all test (ladder_contacts gs)) → T (all (contacts_pass test) gs)
unfolding ladder_contacts flat_map
rungs_pass test [] h = tt
rungs_pass test (g ∷ gs) h =
    let later = flat_map rung_contacts gs in
    all_cons (contacts_pass test) g gs (all_first test (rung_contacts g) later h) (rungs_pass test gs (all_second test (rung_contacts g) later h))
