-- Laws of the instruction of an output: the kind of its word tells the op, and what it names the operand. Assumes nothing.
use Prim.Native.Nat.{ℕ, ◌<◌}
use native.Mathlib.Omega.{arith}
use mathlib.Core.Path.{◌≡◌, refl, sym, ap, ◌∙◌}
use mathlib.Core.Bool.{Bool, true, false}
use mathlib.Core.List.{List}
use Rattle.rungs.specs.Words.{operands, word}
use Rattle.ladder_definitions.specs.Tree.{Output, coil, coiln, jump, jumpn, set_coil, reset_coil, timer, output_names, number}
use Rattle.ladder_definitions.specs.Kept.{output_kind, output_sort, kind_sort, kind_sorts, name_sorts, name_sort}
use Rattle.list_ops.specs.Ops.{op_number}
use Rattle.list_ops.specs.declared.Op.{Op}
use Rattle.list_ops.specs.declared.Op.TheVariants as the_op
use Rattle.ladder_definitions.proofs.Laws.Trees.{same_output}
use Rattle.ladder_kinds.specs.Kinds.{kind_number, names_label}
use Rattle.ladder_kinds.specs.declared.Kind.{Kind}
use Rattle.ladder_kinds.specs.declared.Kind.TheVariants as the_kind
use Rattle.list_definitions.specs.Instruction.{operand, op_of, operand_number, instr_word}
use Rattle.translation_definitions.specs.Translate.{output_code}
use Rattle.translation_code.specs.Parts.{start_in, OpOf, InstructionOf}

-- ---- the op

pub op_few : (op : Op) → op_number op < operands
unfolding op_number
op_few the_op.Ld = omega arith
op_few the_op.Ldn = omega arith
op_few the_op.St = omega arith
op_few the_op.Stn = omega arith
op_few the_op.And = omega arith
op_few the_op.Andn = omega arith
op_few the_op.Or = omega arith
op_few the_op.Orn = omega arith
op_few the_op.Xor = omega arith
op_few the_op.Xorn = omega arith
op_few the_op.Not = omega arith
op_few the_op.Jmp = omega arith
op_few the_op.Jmpc = omega arith
op_few the_op.Jmpcn = omega arith
op_few the_op.S = omega arith
op_few the_op.R = omega arith
op_few the_op.Ton = omega arith

-- that of the outputs that `make` makes
op_made : (make : ℕ → Output) (kind op : ℕ) → kind_sort kind ≡ output_sort → ((n : ℕ) → kind ≡ output_kind (make n)) → ((n : ℕ) → number (output_names (make n)) ≡ n)
    → ((n : ℕ) (start : ℕ → ℕ) → op ≡ op_of (output_code start (make n))) → OpOf kind op
op_made make kind op s k v p = record {
  sort = s;
  same = λ o e start.
      let n = number (output_names o) in
      p n start ∙ ap (λ q. op_of (output_code start q)) (same_output (make n) o (sym (k n) ∙ e) (v n));
}

pub coil_op : OpOf 5 3
unfolding kind_sort kind_sorts output_kind output_names number output_code op_of
coil_op = op_made coil 5 3 refl (λ v. refl) (λ v. refl) (λ v start. refl)

pub coiln_op : OpOf 6 4
unfolding kind_sort kind_sorts output_kind output_names number output_code op_of
coiln_op = op_made coiln 6 4 refl (λ v. refl) (λ v. refl) (λ v start. refl)

pub jump_op : OpOf 7 13
unfolding kind_sort kind_sorts output_kind output_names number output_code op_of
jump_op = op_made jump 7 13 refl (λ l. refl) (λ l. refl) (λ l start. refl)

pub jumpn_op : OpOf 8 14
unfolding kind_sort kind_sorts output_kind output_names number output_code op_of
jumpn_op = op_made jumpn 8 14 refl (λ l. refl) (λ l. refl) (λ l start. refl)

pub set_op : OpOf 11 15
unfolding kind_sort kind_sorts output_kind output_names number output_code op_of
set_op = op_made set_coil 11 15 refl (λ v. refl) (λ v. refl) (λ v start. refl)

pub reset_op : OpOf 12 16
unfolding kind_sort kind_sorts output_kind output_names number output_code op_of
reset_op = op_made reset_coil 12 16 refl (λ v. refl) (λ v. refl) (λ v start. refl)

pub timer_op : OpOf 13 17
unfolding kind_sort kind_sorts output_kind output_names number output_code op_of
timer_op = op_made timer 13 17 refl (λ n. refl) (λ n. refl) (λ n start. refl)

-- a kind that no output has
pub no_op : (k : Kind) → (k ≡ the_kind.Coil → ⊥) → (k ≡ the_kind.NegatedCoil → ⊥) → (k ≡ the_kind.Jump → ⊥) → (k ≡ the_kind.NegatedJump → ⊥) → (k ≡ the_kind.SetCoil → ⊥)
    → (k ≡ the_kind.ResetCoil → ⊥) → (k ≡ the_kind.Timer → ⊥) → kind_sort (kind_number k) ≡ output_sort → ⊥
unfolding kind_sort kind_sorts kind_number
no_op the_kind.Coil a b c d e f g q = a refl
no_op the_kind.NegatedCoil a b c d e f g q = b refl
no_op the_kind.Jump a b c d e f g q = c refl
no_op the_kind.NegatedJump a b c d e f g q = d refl
no_op the_kind.SetCoil a b c d e f g q = e refl
no_op the_kind.ResetCoil a b c d e f g q = f refl
no_op the_kind.Timer a b c d e f g q = g refl
no_op the_kind.Contact a b c d e f g q = cc
no_op the_kind.NegatedContact a b c d e f g q = cc
no_op the_kind.FrontAnd a b c d e f g q = cc
no_op the_kind.FrontOr a b c d e f g q = cc
no_op the_kind.RearAnd a b c d e f g q = cc
no_op the_kind.RearOr a b c d e f g q = cc

-- ---- the operand

-- what is named: a variable or a timer, or a label, which stands for the start of its rung
abbrev named_operand : (ℕ → ℕ) → Bool → ℕ → ℕ
named_operand start label n = elim label [ true ↦ start n | false ↦ n ]

operand_named : (start : ℕ → ℕ) (o : Output) → named_operand start (names_label (output_kind o)) (number (output_names o)) ≡ operand_number (operand (output_code start o))
unfolding names_label name_sort name_sorts output_kind output_names number output_code operand operand_number
operand_named start (coil v) = refl
operand_named start (coiln v) = refl
operand_named start (jump l) = refl
operand_named start (jumpn l) = refl
operand_named start (set_coil v) = refl
operand_named start (reset_coil v) = refl
operand_named start (timer n) = refl

operand_read : (start : ℕ → ℕ) (kind n : ℕ) (label : Bool) (o : Output) → label ≡ names_label kind → kind ≡ output_kind o → n ≡ number (output_names o)
    → named_operand start label n ≡ operand_number (operand (output_code start o))
operand_read start kind n label o b k v = rw (b, k, v) (operand_named start o)

pub instruction_made : (kind n : ℕ) (ls starts : List ℕ) (op x : ℕ) (label : Bool) → OpOf kind op → label ≡ names_label kind
    → x ≡ named_operand (start_in ls starts) label n → InstructionOf kind n ls starts (word op x)
unfolding instr_word
instruction_made kind n ls starts op x label h b q = record {
  sort = h.sort;
  same = λ o k v. rw (h.same o k (start_in ls starts), q ∙ operand_read (start_in ls starts) kind n label o b k v) refl;
}
