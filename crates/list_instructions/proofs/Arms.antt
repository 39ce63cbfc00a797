-- Laws of one instruction: what a word's op makes of its operand. Assumes nothing.
use Prim.Native.Nat.{ℕ, zero, suc, ◌+◌, ◌≤◌, ◌<◌}
use native.Mathlib.Omega.{arith}
use native.Mathlib.Decide.{dec_le}
use mathlib.Core.Path.{◌≡◌, refl, sym, ap, ◌∙◌}
use mathlib.Core.Bool.{Bool, not}
use mathlib.Core.Option.{some}
use lib.ListN.{length, get_or, get_or-eq_default}
use Rattle.questions.proofs.Laws.Tests.{none_some}
use Rattle.table.specs.State.{State, run_timer}
use Rattle.table.specs.Parts.{state_in, Changed}
use Rattle.table.specs.declared.State.{State as StateStruct}
use Rattle.timers.proofs.Laws.Kept.{timer_few}
use Rattle.rungs.specs.Words.{number_of, operand_of}
use Rattle.list_definitions.specs.Instruction.{Instr, NOT, no_op, only_not, ops, decode_instr}
use Rattle.list_definitions.specs.Machine.{does}
use Rattle.std.specs.Prelude.{Option, Some}
use Rattle.list_ops.specs.Ops.{op_number, numbered}
use Rattle.list_ops.specs.declared.Op.{Op}
use Rattle.list_ops.proofs.Laws.Ops.{number_told}
use Rattle.list_instructions.specs.Parts.{Did}
use Rattle.list_instructions.specs.declared.Effect.{Effect}

-- the number that an op was told from
pub op_told : {r : Option Op} {k : ℕ} {o op : Op} → r ≡ numbered k → r ≡ Some o → o ≡ op → k ≡ op_number op
op_told e f g = rw (← g) (number_told (sym e ∙ f))

-- the op of a word that holds an instruction
pub op_known : (w : ℕ) (i : Instr) → decode_instr w ≡ some i → (1 ≤ number_of w) × (number_of w < length ops)
unfolding decode_instr ops
op_known w i e = go (number_of w) refl (dec_le (length ops) (number_of w))
  where
    go : (k : ℕ) → number_of w ≡ k → Dec (length ops ≤ number_of w) → (1 ≤ number_of w) × (number_of w < length ops)
    go k q (yes h) = absurd (none_some (ap (λ make. make (operand_of w)) (sym (get_or-eq_default ops no_op {n = number_of w} h)) ∙ e))
    go zero q (no h) = absurd (none_some (rw q at e))
    go (suc k) q (no h) = (omega arith, omega arith)

module _ (w : ℕ) (v : Bool) (straight : ℕ) (before after : StateStruct) (r : Effect) (change : State → State) where
  -- an op that makes the instruction `make x` of its operand x: what the word's instruction does
  pub arm_same : {k : ℕ} → number_of w ≡ k → (make : ℕ → Instr) → get_or ops k no_op (operand_of w) ≡ some (make (operand_of w))
      → {a : Bool} {j : ℕ} → r ≡ record { accumulator = a; index = j } → state_in after ≡ change (state_in before)
      → ((pc : ℕ) → straight ≡ pc + 1 → does (make (operand_of w)) v (state_in before) pc ≡ record { accumulator = a; state = change (state_in before); index = j })
      → (i : Instr) → decode_instr w ≡ some i → (pc : ℕ) → straight ≡ pc + 1
      → does i v (state_in before) pc ≡ record { accumulator = r.accumulator; state = state_in after; index = r.index }
  unfolding decode_instr
  arm_same e make m f changed h i d pc q =
      let z : make (operand_of w) ≡ i = cc (rw e at d) in
      rw (← z, f, changed) (h pc q)

module _ {w : ℕ} {v : Bool} {straight : ℕ} {before after : StateStruct} {r : Effect} where
  -- and all that the word does
  pub arm : {k : ℕ} → number_of w ≡ k → (make : ℕ → Instr) → get_or ops k no_op (operand_of w) ≡ some (make (operand_of w))
      → {a : Bool} {j : ℕ} {change : State → State} → r ≡ record { accumulator = a; index = j } → Changed before after change → after.moved ≤ before.moved + 1
      → ((pc : ℕ) → straight ≡ pc + 1 → does (make (operand_of w)) v (state_in before) pc ≡ record { accumulator = a; state = change (state_in before); index = j })
      → Did w v straight before r after
  arm {k = k} e make m {a = a} {j = j} {change = change} f changed few h = record {
    same = arm_same w v straight before after r change e make m f changed.same h;
    few = few;
    same_table = changed.same_table;
    same_timers = changed.same_timers;
    vars = changed.vars;
    tick = changed.tick;
  }

module _ {w : ℕ} {v : Bool} {straight : ℕ} {state : StateStruct} {r : Effect} where
  -- the same, where it changes nothing
  pub arm_keeps : {k : ℕ} → number_of w ≡ k → (make : ℕ → Instr) → get_or ops k no_op (operand_of w) ≡ some (make (operand_of w))
      → {a : Bool} {j : ℕ} → r ≡ record { accumulator = a; index = j }
      → ((pc : ℕ) → straight ≡ pc + 1 → does (make (operand_of w)) v (state_in state) pc ≡ record { accumulator = a; state = state_in state; index = j })
      → Did w v straight state r state
  arm_keeps e make m f h =
      let kept : Changed state state (λ s. s) = record { same = refl; same_table = refl; same_timers = refl; vars = refl; tick = refl } in
      arm e make m f kept (omega arith) h

  pub arm_not : number_of w ≡ 11 → r ≡ record { accumulator = not v; index = straight } → Did w v straight state r state
  unfolding decode_instr ops only_not does
  arm_not e f = record {
    same = λ i d pc q. rw (is_not i (operand_of w) (rw e at d), f, q) refl;
    few = omega arith;
    same_table = refl;
    same_timers = refl;
    vars = refl;
    tick = refl;
  }
    where
      is_not : (i : Instr) (x : ℕ) → only_not x ≡ some i → i ≡ NOT
      is_not i zero p = cc
      is_not i (suc x) p = absurd (none_some p)

  -- no instruction has another op
  pub arm_other : (1 ≤ number_of w → number_of w < length ops → ⊥) → Did w v straight state r state
  arm_other differs = record {
    same = λ i d pc q.
        let known = op_known w i d in absurd (differs known.0 known.1);
    few = omega arith;
    same_table = refl;
    same_timers = refl;
    vars = refl;
    tick = refl;
  }

-- a timer's run turns one variable over at most
pub ran_few : (old new : StateStruct) (n : ℕ) (p : Bool) → Changed old new (λ s. run_timer s n p) → new.moved ≤ old.moved + 1
ran_few old new n p h =
    let few = timer_few (state_in old) n p in
    let is = ap (λ s. s.moved) h.same in
    omega arith
