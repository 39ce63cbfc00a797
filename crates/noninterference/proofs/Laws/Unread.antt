-- The variables that are left out are those of a range that are not among some others; and contacts name variables below V. Assumes nothing.
use Prim.Native.Nat.{ℕ, zero, suc, ◌+◌, ◌<◌, ◌≤◌}
use Rattle.std.proofs.Common.{arith, sym, inl, inr}
use Rattle.std.proofs.Math.Decide.{ℕ_discrete}
use Rattle.std.specs.Prelude.{◌≡◌, Bool, ◌⊎◌, T, ltb}
use Rattle.std.proofs.Math.Path.{refl}
use Rattle.std.proofs.Math.Bool.{true, false}
use Rattle.std.proofs.Math.Option.{none}
use mathlib.Core.List.{List, [], ◌∷◌, flat_map}
use Rattle.std.proofs.Math.Dec.{ltb→lt}
use Rattle.std.proofs.Math.Facts.{and_yes}
use Rattle.questions.specs.Tests.{all}
use Rattle.questions.proofs.Laws.Tests.{all_head, all_tail, all_one, all_append}
use Rattle.questions.proofs.Laws.Answers.{each_passed}
use Rattle.table.specs.State.{value_at}
use Rattle.ladder_definitions.specs.Tree.{Front, input, front_and, front_or, Rear, output, rear_and, rear_or, Ladder, input_variable, front_all, rear_all, rung_all}
use Rattle.ladder_definitions.specs.Questions.{input_below, output_below, rung_below, question6}
use Rattle.noninterference.specs.Contacts.{front_contacts, rear_contacts, rung_contacts, ladder_contacts, among, named, left_out, unread}
use Rattle.noninterference.specs.Noninterference.{AgreeOnContacts}
use Rattle.noninterference.proofs.Laws.Contacts.{among_head, among_tail, among_cases, among_passes}

-- v is in the range, and not among those read
pub record LeftOut (read : List ℕ) (from many v : ℕ) : Type 0 where
  pub lowest : from ≤ v
  pub below : v < from + many
  pub not_read : T (among v read) → ⊥

module _ (read : List ℕ) where
  read_one : (from many : ℕ) → among from read ≡ true → left_out read from (suc many) ≡ left_out read (suc from) many
  unfolding left_out
  read_one from many e = rw (e, left_out) refl

  left_one : (from many : ℕ) → among from read ≡ false → left_out read from (suc many) ≡ from ∷ left_out read (suc from) many
  unfolding left_out
  left_one from many e = rw (e, left_out) refl

  pub left_out_lem : (from many v : ℕ) → T (among v (left_out read from many)) → LeftOut read from many v
  unfolding left_out among
  left_out_lem from zero v h = absurd h
  left_out_lem from (suc many) v h = go (among from read) refl (left_out_lem (suc from) many v)
    where
      later : LeftOut read (suc from) many v → LeftOut read from (suc many) v
      later x = record { lowest = let l = x.lowest in omega arith; below = let l = x.below in omega arith; not_read = x.not_read }

      go : (b : Bool) → among from read ≡ b → (T (among v (left_out read (suc from) many)) → LeftOut read (suc from) many v) → LeftOut read from (suc many) v
      go true e ih = later (ih (rw (read_one from many e) at h))
      go false e ih = cases (among_cases v from (left_out read (suc from) many) (rw (left_one from many e) at h))
        where
          cases : (from ≡ v) ⊎ T (among v (left_out read (suc from) many)) → LeftOut read from (suc many) v
          cases (inl k) = record { lowest = omega (arith, k); below = omega (arith, k); not_read = λ m. rw (sym k, e) at m }
          cases (inr k) = later (ih k)

  pub is_left_out : (from many v : ℕ) → LeftOut read from many v → T (among v (left_out read from many))
  is_left_out from zero v x = let l = x.lowest in let b = x.below in absurd (omega arith)
  is_left_out from (suc many) v x = go (ℕ_discrete from v) (among from read) refl (is_left_out (suc from) many v)
    where
      later : (from ≡ v → ⊥) → LeftOut read (suc from) many v
      later h = record { lowest = let l = x.lowest in let n : from < v = omega (arith, h) in omega arith; below = let b = x.below in omega arith; not_read = x.not_read }

      go : Dec (from ≡ v) → (b : Bool) → among from read ≡ b → (LeftOut read (suc from) many v → T (among v (left_out read (suc from) many)))
          → T (among v (left_out read from (suc many)))
      go (yes k) true e ih = absurd (x.not_read (rw (sym k, e) tt))
      go (yes k) false e ih = rw (left_one from many e, k) (among_head v (left_out read (suc v) many))
      go (no k) true e ih = rw (read_one from many e) (ih (later k))
      go (no k) false e ih = rw (left_one from many e) (among_tail v from (left_out read (suc from) many) (ih (later k)))

-- ---- contacts name variables below V

module _ (vars : ℕ) where
  abbrev below : ℕ → Bool
  below v = ltb v vars

  front_below_lem : (f : Front) → T (front_all (input_below vars) f) → T (all below (front_contacts f))
  unfolding front_all front_contacts input_below
  front_below_lem (input i) h = all_one below (input_variable i) h
  front_below_lem (front_and f g) h =
      let b = and_yes (front_all (input_below vars) f) (front_all (input_below vars) g) h in
      all_append below (front_contacts f) (front_contacts g) (front_below_lem f b.0) (front_below_lem g b.1)
  front_below_lem (front_or f g) h =
      let b = and_yes (front_all (input_below vars) f) (front_all (input_below vars) g) h in
      all_append below (front_contacts f) (front_contacts g) (front_below_lem f b.0) (front_below_lem g b.1)

  rear_below_lem : (r : Rear) → T (rear_all (input_below vars) (output_below vars) r) → T (all below (rear_contacts r))
  unfolding rear_all rear_contacts
  rear_below_lem (output o) h = tt
  rear_below_lem (rear_and f r) h =
      let b = and_yes (front_all (input_below vars) f) (rear_all (input_below vars) (output_below vars) r) h in
      all_append below (front_contacts f) (rear_contacts r) (front_below_lem f b.0) (rear_below_lem r b.1)
  rear_below_lem (rear_or a c) h =
      let b = and_yes (rear_all (input_below vars) (output_below vars) a) (rear_all (input_below vars) (output_below vars) c) h in
      all_append below (rear_contacts a) (rear_contacts c) (rear_below_lem a b.0) (rear_below_lem c b.1)

  rungs_below : (gs : Ladder) → T (all (rung_below vars) gs) → T (all below (ladder_contacts gs))
  unfolding ladder_contacts rung_contacts rung_all flat_map
  rungs_below [] h = tt
  rungs_below (g ∷ gs) h =
      let b = and_yes (front_all (input_below vars) g.front) (rear_all (input_below vars) (output_below vars) g.rear) (all_head (rung_below vars) g gs h) in
      all_append below (rung_contacts g) (ladder_contacts gs)
      (all_append below (front_contacts g.front) (rear_contacts g.rear) (front_below_lem g.front b.0) (rear_below_lem g.rear b.1))
      (rungs_below gs (all_tail (rung_below vars) g gs h))

  pub named_below_lem : (gs : Ladder) (v : ℕ) → question6 vars gs ≡ none → T (named v gs) → v < vars
  unfolding question6
  named_below_lem gs v q h = ltb→lt v vars (among_passes below v (ladder_contacts gs) (rungs_below gs (each_passed 6 (rung_below vars) gs q)) h)

  -- ---- so all but the unread ones are those that contacts name

  module _ (gs : Ladder) (s t : List ℕ) where
    abbrev AgreeElsewhere : Type 0
    AgreeElsewhere = (v : ℕ) → v < vars → (T (among v (unread vars gs)) → ⊥) → value_at s v ≡ value_at t v

    pub agree_read : AgreeOnContacts gs s t → AgreeElsewhere
    unfolding unread
    agree_read agree v h u = go (named v gs) refl
      where
        go : (b : Bool) → named v gs ≡ b → value_at s v ≡ value_at t v
        go true e = agree v (rw e tt)
        go false e = absurd (u (is_left_out (ladder_contacts gs) 0 vars v (record { lowest = omega arith; below = omega arith; not_read = λ m. rw e at m })))

    pub read_agree : question6 vars gs ≡ none → AgreeElsewhere → AgreeOnContacts gs s t
    unfolding unread
    read_agree q agree v h = agree v (named_below_lem gs v q h) (λ u. (left_out_lem (ladder_contacts gs) 0 vars v u).not_read h)
