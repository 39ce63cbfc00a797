-- A stretch of code that is left only at its end or by a jump, run without an index, and how the scan of a list runs it. Assumes nothing.
use Rattle.std.specs.Prelude.{◌≡◌, cond, length, drop}
use Rattle.std.proofs.Math.Path.{refl}
use Rattle.std.proofs.Common.{ap, ◌∙◌, add_assoc, add-one, one-add}
use Rattle.std.proofs.Math.Bool.{Bool, true, false}
use Rattle.std.proofs.Math.Option.{Option, none, some}
use mathlib.Core.List.{List, [], ◌∷◌, ◌++◌}
use Prim.Native.Nat.{ℕ, zero, suc, ◌+◌, ◌≤◌}
use Rattle.std.proofs.Math.Nat.{zero-add}
use native.Mathlib.Omega.{arith}
use Rattle.std.proofs.Math.ListN.{get_elem?}
use Rattle.questions.specs.Tests.{bit}
use Rattle.table.specs.State.{State}
use Rattle.rungs.specs.Records.{is_start, enter}
use Rattle.ladder_definitions.specs.Meaning.{Run, onward, jumped, left}
use Rattle.list_definitions.specs.Instruction.{Instr, LD, LDN, ST, STN, AND, ANDN, OR, ORN, XOR, XORN, NOT, JMP, JMPC, JMPCN, S, R, TON}
use Rattle.list_definitions.specs.Machine.{InstructionList, Counts, Machine, ListResult, does, count, step, scan_machine}
use Rattle.list_definitions.proofs.Laws.Times.{enter_length, enter_none}
use Rattle.list_definitions.proofs.Laws.Watchdog.{scan_step}

-- how many instructions were carried out, the accumulator, and whether the stretch was left by a jump, and to which index
pub record Out : Type 0 where
  pub count : ℕ
  pub accumulator : Bool
  pub run : Run

unfoldable pub more : ℕ → Out → Out
more n o = record { count = n + o.count; accumulator = o.accumulator; run = o.run }

pub more_more : (a b : ℕ) (o : Out) → more a (more b o) ≡ more (a + b) o
unfolding more
more_more a b o = rw (add_assoc a b o.count)

-- where an instruction jumps to, if it jumps
unfoldable pub leaves : Instr → Bool → Option ℕ
leaves (LD x) v = none
leaves (LDN x) v = none
leaves (ST x) v = none
leaves (STN x) v = none
leaves (AND x) v = none
leaves (ANDN x) v = none
leaves (OR x) v = none
leaves (ORN x) v = none
leaves (XOR x) v = none
leaves (XORN x) v = none
leaves NOT v = none
leaves (JMP j) v = some j
leaves (JMPC j) v = cond v (some j) none
leaves (JMPCN j) v = cond v none (some j)
leaves (S x) v = none
leaves (R x) v = none
leaves (TON n) v = none

unfoldable pub exec : List Instr → Bool → State → Out
exec [] v t = record { count = 0; accumulator = v; run = onward t }
exec (i ∷ is) v t = elim (leaves i v) [
  | none ↦ more 1 (exec is (does i v t 0).accumulator (does i v t 0).state)
  | some j ↦ record { count = 1; accumulator = (does i v t 0).accumulator; run = jumped j (does i v t 0).state }
]

pub exec_on : (i : Instr) (is : List Instr) (v : Bool) (t : State) → leaves i v ≡ none → exec (i ∷ is) v t ≡ more 1 (exec is (does i v t 0).accumulator (does i v t 0).state)
unfolding exec
exec_on i is v t q = rw (q, exec)

pub exec_off : (i : Instr) (is : List Instr) (v : Bool) (t : State) (j : ℕ) → leaves i v ≡ some j
    → exec (i ∷ is) v t ≡ record { count = 1; accumulator = (does i v t 0).accumulator; run = jumped j (does i v t 0).state }
unfolding exec
exec_off i is v t j q = rw (q, exec)

goes : Option ℕ → ℕ → ℕ
goes none pc = pc + 1
goes (some j) pc = j

-- the same instruction at another index
does_at : (i : Instr) (v : Bool) (t : State) (pc : ℕ) → does i v t pc ≡ record { accumulator = (does i v t 0).accumulator; state = (does i v t 0).state; index = goes (leaves i v) pc }
unfolding does goes leaves
does_at (LD x) v t pc = refl
does_at (LDN x) v t pc = refl
does_at (ST x) v t pc = refl
does_at (STN x) v t pc = refl
does_at (AND x) v t pc = refl
does_at (ANDN x) v t pc = refl
does_at (OR x) v t pc = refl
does_at (ORN x) v t pc = refl
does_at (XOR x) v t pc = refl
does_at (XORN x) v t pc = refl
does_at NOT v t pc = refl
does_at (JMP j) v t pc = refl
does_at (JMPC j) true t pc = refl
does_at (JMPC j) false t pc = refl
does_at (JMPCN j) true t pc = refl
does_at (JMPCN j) false t pc = refl
does_at (S x) v t pc = refl
does_at (R x) v t pc = refl
does_at (TON n) v t pc = refl

-- the index after n instructions from pc on
unfoldable pub landing : ℕ → Run → ℕ → ℕ
landing pc (onward u) n = pc + n
landing pc (jumped j u) n = j

abbrev pub machine : Bool → ℕ → Counts → Machine
machine v pc c = record { accumulator = v; index = pc; counts = c }

drop_tail : {A : Type 0} (l : List A) (j : ℕ) {x : A} {xs : List A} → drop j l ≡ x ∷ xs → drop (suc j) l ≡ xs
drop_tail [] zero e = cc
drop_tail [] (suc j) e = cc
drop_tail (y ∷ l) zero e = cc
drop_tail (y ∷ l) (suc j) e = drop_tail l j e

-- what stands at an index is the first of what stands from it on
pub drop_head : {A : Type 0} (l : List A) (j : ℕ) {x : A} {xs : List A} → drop j l ≡ x ∷ xs → get_elem? l j ≡ some x
drop_head [] zero e = cc
drop_head [] (suc j) e = cc
drop_head (y ∷ l) zero e = cc
drop_head (y ∷ l) (suc j) e = drop_head l j e

pub drop_none : {A : Type 0} (l : List A) (j : ℕ) → drop j l ≡ [] → get_elem? l j ≡ none
drop_none [] zero e = refl
drop_none [] (suc j) e = refl
drop_none (y ∷ l) zero e = cc
drop_none (y ∷ l) (suc j) e = drop_none l j e

module _ (l : InstructionList) where
  pub same_machine : (k : ℕ) (v : Bool) (t : State) {pc pc' : ℕ} {c c' : Counts} → pc ≡ pc' → c ≡ c'
      → scan_machine l k (machine v pc c) t ≡ scan_machine l k (machine v pc' c') t
  same_machine k v t p q = cc

  one_step : (pc : ℕ) (i : Instr) (rest : List Instr) → drop pc l.code ≡ i ∷ rest → (n : ℕ) (v : Bool) (t : State) (c : Counts)
      → scan_machine l (suc n) (machine v pc c) t
      ≡ scan_machine l n (machine (does i v t 0).accumulator (goes (leaves i v) pc) (count l.records pc c)) (does i v t 0).state
  unfolding step
  one_step pc i rest e n v t c = scan_step l n (machine v pc c) t i (drop_head l.code pc e) ∙ rw (does_at i v t pc)

  -- the counts after n instructions from index pc on
  unfoldable pub counted : ℕ → ℕ → Counts → Counts
  counted pc zero c = c
  counted pc (suc n) c = counted (suc pc) n (count l.records pc c)

  pub counted_instructions : (pc n : ℕ) (c : Counts) → (counted pc n c).instructions ≡ c.instructions + n
  unfolding counted count
  counted_instructions pc zero c = omega arith
  counted_instructions pc (suc n) c = counted_instructions (suc pc) n (count l.records pc c) ∙ omega arith

  -- how many of the n instructions from pc on stand at a record's offset
  unfoldable pub entered : ℕ → ℕ → ℕ
  entered pc zero = 0
  entered pc (suc n) = bit (is_start l.records pc) + entered (suc pc) n

  pub counted_rungs : (pc n : ℕ) (c : Counts) → (counted pc n c).rungs ≡ c.rungs + entered pc n
  unfolding counted count entered
  counted_rungs pc zero c = omega arith
  counted_rungs pc (suc n) c = counted_rungs (suc pc) n (count l.records pc c) ∙ omega arith

  -- no record is entered where no instruction stands at an offset
  counted_quiet : (pc n : ℕ) (c : Counts) → entered pc n ≡ 0 → length c.times ≡ length l.records → (counted pc n c).times ≡ c.times
  unfolding counted count entered
  counted_quiet pc zero c e k = refl
  counted_quiet pc (suc n) c e k =
      go (is_start l.records pc) refl (λ f. counted_quiet (suc pc) n (count l.records pc c) f (enter_length l.records pc c.times k))
    where
      go : (b : Bool) → is_start l.records pc ≡ b → (entered (suc pc) n ≡ 0 → (counted (suc pc) n (count l.records pc c)).times ≡ enter l.records pc c.times)
          → (counted pc (suc n) c).times ≡ c.times
      go true q ih = let z = rw q at e in absurd (omega arith)
      go false q ih = ih (rw (q, zero-add) at e) ∙ enter_none l.records pc c.times q k

  -- where the first of some instructions alone stands at a record's offset, that record is entered
  pub counted_times : (pc n : ℕ) (c : Counts) → 1 ≤ n → is_start l.records pc ≡ true → entered pc n ≡ 1 → length c.times ≡ length l.records
      → (counted pc n c).times ≡ enter l.records pc c.times
  unfolding counted count entered
  counted_times pc zero c h q e k = absurd (omega arith)
  counted_times pc (suc n) c h q e k =
      let once = rw q at e in
      counted_quiet (suc pc) n (count l.records pc c) (omega arith) (enter_length l.records pc c.times k)

  unfoldable pub resumes : ℕ → ℕ → Counts → Out → ListResult
  resumes k pc c o = scan_machine l k (machine o.accumulator (landing pc o.run o.count) (counted pc o.count c)) (left o.run)

  resumes_more : (k pc : ℕ) (c : Counts) (o : Out) → resumes k (suc pc) (count l.records pc c) o ≡ resumes k pc c (more 1 o)
  unfolding resumes more counted landing
  resumes_more k pc c o = same_machine k o.accumulator (left o.run) (landing_more o.run) (rw one-add)
    where
      landing_more : (x : Run) → landing (suc pc) x o.count ≡ landing pc x (1 + o.count)
      landing_more (onward u) = omega arith
      landing_more (jumped j u) = refl

  pub exec_run : (seg post : List Instr) (pc : ℕ) → drop pc l.code ≡ seg ++ post → (k : ℕ) (v : Bool) (t : State) (c : Counts)
      → scan_machine l ((exec seg v t).count + k) (machine v pc c) t ≡ resumes k pc c (exec seg v t)
  unfolding exec resumes landing left counted more goes
  exec_run [] post pc e k v t c = rw zero-add (same_machine k v t (omega arith) refl)
  exec_run (i ∷ is) post pc e k v t c =
      go (leaves i v) refl (exec_run is post (suc pc) (drop_tail l.code pc e) k (does i v t 0).accumulator (does i v t 0).state (count l.records pc c))
    where
      w : Bool
      w = (does i v t 0).accumulator

      u : State
      u = (does i v t 0).state

      c' : Counts
      c' = count l.records pc c

      go : (x : Option ℕ) → leaves i v ≡ x
          → scan_machine l ((exec is w u).count + k) (machine w (suc pc) c') u ≡ resumes k (suc pc) c' (exec is w u)
          → scan_machine l ((exec (i ∷ is) v t).count + k) (machine v pc c) t ≡ resumes k pc c (exec (i ∷ is) v t)
      go none q ih = rw (exec_on i is v t q)
          (ap (λ n. scan_machine l n (machine v pc c) t) (omega arith)
          ∙ (rw q at (one_step pc i (is ++ post) e ((exec is w u).count + k) v t c))
          ∙ same_machine ((exec is w u).count + k) w u (add-one pc) refl
          ∙ ih
          ∙ resumes_more k pc c (exec is w u))
      go (some j) q ih = rw (exec_off i is v t j q)
          (ap (λ n. scan_machine l n (machine v pc c) t) (one-add k)
          ∙ (rw q at (one_step pc i (is ++ post) e k v t c)))
