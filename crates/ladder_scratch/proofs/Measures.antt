-- Laws of one word of a measuring walk: the scratch that a tree takes, from what its parts take. Assumes nothing.
use Prim.Native.Nat.{ℕ, ◌+◌, max}
use native.Mathlib.Omega.{arith}
use mathlib.Core.Path.{◌≡◌, refl}
use mathlib.Core.Bool.{false}
use mathlib.Core.List.{List}
use lib.ListN.{length, length-append, get_or}
use Rattle.rungs.specs.Words.{number_of}
use Rattle.ladder_definitions.specs.Tree.{Input, contact, contactn, Front, input, front_and, Rear}
use Rattle.ladder_definitions.specs.Kept.{contact_sort, joined_sort, output_sort, rear_and_sort, rear_or_sort, kind_sort, front_words, rear_words}
use Rattle.ladder_definitions.specs.Questions.{join_scratch, front_scratch, rear_scratch, rung_scratch}
use Rattle.ladder_definitions.specs.Held.{FrontAt}
use Rattle.ladder_scratch.specs.Measuring.{JoinMeasured, TakenDone, FrontMeasured, RearMeasured, RungMeasured}
use Rattle.ladder_scratch.specs.declared.Taken.{Taken}
use Rattle.ladder_definitions.proofs.Laws.Trees.{starts_front, starts_rear, input_only, parts_only, no_front_lem, output_only, rear_and_only, rear_or_only, no_rear_lem, rung_only}

abbrev FrontTaken : ℕ → Taken → Front → Type 0
FrontTaken at r f = TakenDone at (length (front_words f)) (front_scratch f) r

abbrev RearTaken : ℕ → Taken → Rear → Type 0
RearTaken at r k = TakenDone at (length (rear_words k)) (rear_scratch k) r

module _ (ws : List ℕ) (at w : ℕ) (e : w ≡ get_or ws at 0) where
  pub joined_short : (through : ℕ) → kind_sort (number_of w) ≡ contact_sort → JoinMeasured ws at through 0
  unfolding join_scratch
  joined_short through k = record { few = omega arith; same = λ f s n q. input_only ws at w e (λ f. 0 ≡ join_scratch f n) k (λ i z v. short n i) f s }
    where
      short : (n : ℕ) (i : Input) → 0 ≡ join_scratch (input i) n
      short n (contact v) = refl
      short n (contactn v) = refl

  pub joined_through : (through : ℕ) → (kind_sort (number_of w) ≡ contact_sort → ⊥) → JoinMeasured ws at through through
  unfolding join_scratch
  joined_through through k = record {
    few = omega arith;
    same = λ f s n q. parts_only ws at w e (λ f. through ≡ join_scratch f n) k (λ f g z sf sg. q) (λ f g z sf sg. q) f s;
  }

  pub measured_input : kind_sort (number_of w) ≡ contact_sort → FrontMeasured ws at (record { bytes = 0; next = at + 1 })
  unfolding front_words front_scratch
  measured_input k = record {
    onward = omega arith;
    done = input_only ws at w e (FrontTaken at (record { bytes = 0; next = at + 1 })) k (λ i z v. record { same = refl; next = refl });
  }

  pub measured_parts : (first second : Taken) (j m : ℕ) → kind_sort (number_of w) ≡ joined_sort → FrontMeasured ws (at + 1) first → FrontMeasured ws first.next second
      → JoinMeasured ws first.next (second.bytes + 1) j → m ≡ max first.bytes j → FrontMeasured ws at (record { bytes = m; next = second.next })
  unfolding front_words front_scratch
  measured_parts first second j m k a b c q = record {
    onward = omega arith;
    done = parts_only ws at w e (FrontTaken at (record { bytes = m; next = second.next })) (λ z. let n : ◌≡◌ {A = ℕ} 0 1 = cc in omega arith) (λ f g z. parts f g) (λ f g z. parts f g);
  }
    where
      parts : (f g : Front) → FrontAt ws (at + 1) f → FrontAt ws (at + 1 + length (front_words f)) g → FrontTaken at (record { bytes = m; next = second.next }) (front_and f g)
      parts f g sf sg =
          let x = a.done f sf in
          let z = rw (← x.next) at sg in
          let y = b.done g z in
          record { same = rw (q, x.same, c.same g z second.bytes refl, y.same); next = simp length-append (omega arith) }

  pub measured_none : starts_front (kind_sort (number_of w)) ≡ false → FrontMeasured ws at (record { bytes = 0; next = at })
  measured_none k = record { onward = omega arith; done = no_front_lem ws at w e (FrontTaken at (record { bytes = 0; next = at })) k }

  pub measured_output : kind_sort (number_of w) ≡ output_sort → RearMeasured ws at (record { bytes = 0; next = at + 1 })
  unfolding rear_words rear_scratch
  measured_output k = record {
    onward = omega arith;
    done = output_only ws at w e (RearTaken at (record { bytes = 0; next = at + 1 })) k (λ o z v. record { same = refl; next = refl });
  }

  pub measured_rear_and : (front rear : Taken) (j m : ℕ) → kind_sort (number_of w) ≡ rear_and_sort → FrontMeasured ws (at + 1) front → JoinMeasured ws (at + 1) (front.bytes + 1) j
      → RearMeasured ws front.next rear → m ≡ max j rear.bytes → RearMeasured ws at (record { bytes = m; next = rear.next })
  unfolding rear_words rear_scratch
  measured_rear_and front rear j m k a c b q = record {
    onward = omega arith;
    done = rear_and_only ws at w e (RearTaken at (record { bytes = m; next = rear.next })) k (λ f r z sf sr.
        let x = a.done f sf in
        let y = b.done r (rw (← x.next) at sr) in
        record { same = rw (q, c.same f sf front.bytes refl, x.same, y.same); next = simp length-append (omega arith) });
  }

  pub measured_rear_or : (first second : Taken) (m : ℕ) → kind_sort (number_of w) ≡ rear_or_sort → RearMeasured ws (at + 1) first → RearMeasured ws first.next second
      → m ≡ max (first.bytes + 1) second.bytes → RearMeasured ws at (record { bytes = m; next = second.next })
  unfolding rear_words rear_scratch
  measured_rear_or first second m k a b q = record {
    onward = omega arith;
    done = rear_or_only ws at w e (RearTaken at (record { bytes = m; next = second.next })) k (λ f g z sf sg.
        let x = a.done f sf in
        let y = b.done g (rw (← x.next) at sg) in
        record { same = rw (q, x.same, y.same); next = simp length-append (omega arith) });
  }

  pub measured_no_rear : starts_rear (kind_sort (number_of w)) ≡ false → RearMeasured ws at (record { bytes = 0; next = at })
  measured_no_rear k = record { onward = omega arith; done = no_rear_lem ws at w e (RearTaken at (record { bytes = 0; next = at })) k }

pub measured_rung : (ws : List ℕ) (at : ℕ) (front rear : Taken) (m : ℕ) → FrontMeasured ws at front → RearMeasured ws front.next rear → m ≡ max front.bytes rear.bytes → RungMeasured ws at m
unfolding rung_scratch
measured_rung ws at front rear m a b q = record {
  same = rung_only ws at (λ g. m ≡ rung_scratch g) (λ g sf sr.
      let x = a.done g.front sf in
      let y = b.done g.rear (rw (← x.next) at sr) in
      rw (q, x.same, y.same));
}
