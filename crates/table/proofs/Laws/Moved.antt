-- What a write turns over: one variable at most, and none past V or where the value stands there. Assumes nothing.
use Rattle.std.specs.Prelude.{ℕ, ◌+◌, ◌≤◌, ◌<◌, ◌≡◌, Bool, true, false, not, List, ltb, refl}
use mathlib.Core.Bool.{beq}
use Rattle.std.proofs.Common.{arith, ap, lt-ltb, le-ltb}
use mathlib.Core.Bool.{xor}
use Rattle.questions.proofs.Laws.Tests.{bit_few}
use Rattle.table.specs.State.{State, value_at, turns, write, write_if}
use Rattle.table.specs.Parts.{state_in, Changed}
use Rattle.table.specs.declared.State.{State as StateStruct}

differs : (v b : Bool) → not (beq v b) ≡ xor v b
unfolding xor
differs true true = refl
differs true false = refl
differs false true = refl
differs false false = refl

module _ (vars : ℕ) (bytes : List ℕ) (i : ℕ) (b : Bool) where
  -- a variable, by its value
  pub turns_below : (v : Bool) → i < vars → v ≡ value_at bytes i → not (beq v b) ≡ turns vars bytes i b
  unfolding turns
  turns_below v h e = rw (lt-ltb i vars h, ← e) (differs v b)

  -- no variable
  pub turns_beyond : vars ≤ i → ltb i vars ≡ turns vars bytes i b
  unfolding turns
  turns_beyond h = rw (le-ltb i vars h)

pub write_few : (s : State) (i : ℕ) (b : Bool) → (write s i b).moved ≤ s.moved + 1
unfolding write
write_few s i b = let few = bit_few (turns s.vars s.bytes i b) in omega arith

pub write_if_few : (q : Bool) (s : State) (i : ℕ) (b : Bool) → (write_if q s i b).moved ≤ s.moved + 1
unfolding write_if
write_if_few true s i b = write_few s i b
write_if_few false s i b = omega arith

-- the same of a state that is lent
module _ (old new : StateStruct) (i : ℕ) (b : Bool) where
  pub sum_few : Changed old new (λ s. write s i b) → new.moved ≤ old.moved + 1
  sum_few h = let few = write_few (state_in old) i b in let is = ap (λ s. s.moved) h.same in omega arith

  pub sum_if_few : (q : Bool) → Changed old new (λ s. write_if q s i b) → new.moved ≤ old.moved + 1
  sum_if_few q h = let few = write_if_few q (state_in old) i b in let is = ap (λ s. s.moved) h.same in omega arith
