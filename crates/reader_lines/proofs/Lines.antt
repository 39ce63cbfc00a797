-- Laws of an instruction by its op and operand, and of an instruction line. Assumes nothing.
use Prim.Native.Nat.{ℕ, ◌+◌, ◌*◌, ◌≤◌}
use native.Mathlib.Omega.{arith}
use mathlib.Core.Path.{◌≡◌, refl, sym, ap, subst, ◌∙◌}
use mathlib.Core.Bool.{Bool, true, false}
use mathlib.Core.Option.{none, some}
use mathlib.Core.List.{List}
use borrow.Author.Tests.{eq-eqb, ne_eqb}
use lib.ListN.{get_or}
use lib.Dec.{T, eqb, eqb→eq, lt→ltb}
use denote.Enum.Bare.{sameb}
use Rattle.rungs.specs.Words.{operands}
use Rattle.rungs.proofs.Laws.Numbers.{Firsts, ◌then◌, past, every}
use Rattle.text_grammar.specs.Grammar.{most_number}
use Rattle.text_grammar.specs.Reader.{Parse, read, stuck, bind, followed}
use Rattle.list_definitions.specs.Instruction.{Instr, LD, LDN, ST, STN, AND, ANDN, OR, ORN, XOR, XORN, NOT, JMP, JMPC, JMPCN, S, R, TON, Operand, table_index, no_operand, instruction_index, timer_number, operand, operand_number, instr_word, no_op, only_not, ops, sort_of, operand_sort, sort_number, same_sort}
use Rattle.list_definitions.specs.Names.{Names}
use Rattle.list_definitions.proofs.Laws.Decoding.{decode_word, instr_decoded}
use Rattle.reader_definitions.specs.Reader.{between, given, operand_from, instr_with, instr_named, instruction_from}
use Rattle.std.specs.Prelude.{Some, None}
use Rattle.text_grammar.specs.Numbers.{ByteRead}
use Rattle.list_ops.specs.Ops.{op_number}
use Rattle.list_ops.specs.Sorts.{sort_in}
use Rattle.list_ops.specs.declared.Op.{Op}
use Rattle.list_ops.specs.declared.Op.TheVariants as the_op
use Rattle.list_ops.specs.contracts.OperandSort.{the_type}
use Rattle.list_ops.specs.declared.OperandSort.{OperandSort}
use Rattle.list_ops.specs.declared.OperandSort.TheVariants.{Table, Nothing, Instruction, Timer}
use Rattle.reader_lines.specs.Parts.{LettersRead, OpFound, sort_case, operand_case, OperandParsed, line_case, LineParsed}
use Rattle.reader_lines.specs.declared.OperandAt.{OperandAt}

-- ---- an instruction by its op and operand

-- an op makes an instruction of any operand of the sort that it takes
abbrev Makes : ℕ → Type 0
Makes k = (o : Operand) → sort_number (operand_sort k) ≡ sort_number (sort_of o) → (i : Instr) × (get_or ops k no_op (operand_number o) ≡ some i)

no_operand_sort : (o : Operand) → 4 ≡ sort_number (sort_of o) → ⊥
unfolding sort_of sort_number
no_operand_sort (table_index x) e = omega arith
no_operand_sort no_operand e = omega arith
no_operand_sort (instruction_index j) e = omega arith
no_operand_sort (timer_number n) e = omega arith

makes_not : (o : Operand) → 1 ≡ sort_number (sort_of o) → (i : Instr) × (only_not (operand_number o) ≡ some i)
unfolding sort_of sort_number operand_number only_not
makes_not (table_index x) e = absurd (omega arith)
makes_not no_operand e = (NOT, refl)
makes_not (instruction_index j) e = absurd (omega arith)
makes_not (timer_number n) e = absurd (omega arith)

makes : (k : ℕ) → Makes k
unfolding ops only_not operand sort_of operand_sort sort_number Firsts past
makes = every 18 Makes
    ((λ o e. absurd (no_operand_sort o e))
    then (λ o e. (LD (operand_number o), refl))
    then (λ o e. (LDN (operand_number o), refl))
    then (λ o e. (ST (operand_number o), refl))
    then (λ o e. (STN (operand_number o), refl))
    then (λ o e. (AND (operand_number o), refl))
    then (λ o e. (ANDN (operand_number o), refl))
    then (λ o e. (OR (operand_number o), refl))
    then (λ o e. (ORN (operand_number o), refl))
    then (λ o e. (XOR (operand_number o), refl))
    then (λ o e. (XORN (operand_number o), refl))
    then makes_not
    then (λ o e. (JMP (operand_number o), refl))
    then (λ o e. (JMPC (operand_number o), refl))
    then (λ o e. (JMPCN (operand_number o), refl))
    then (λ o e. (S (operand_number o), refl))
    then (λ o e. (R (operand_number o), refl))
    then (λ o e. (TON (operand_number o), refl))
    then tt)
    (λ k o e. absurd (no_operand_sort o e))

with_none : (o : Operand) (k : ℕ) → (sort_number (operand_sort k) ≡ sort_number (sort_of o) → ⊥) → instr_with o k ≡ none
unfolding instr_with same_sort
with_none o k d = rw (ne_eqb (sort_number (operand_sort k)) (sort_number (sort_of o)) d) refl

with_some : (o : Operand) (k : ℕ) → operand_number o ≤ most_number → sort_number (operand_sort k) ≡ sort_number (sort_of o)
    → (i : Instr) × (instr_with o k ≡ some i) × (instr_word i ≡ k * operands + operand_number o)
unfolding instr_with same_sort
with_some o k h e =
    let m = makes k o e in
    let d = decode_word k (operand_number o) (lt→ltb (operand_number o) operands (omega arith)) ∙ m.1 in
    (m.0, rw (eq-eqb (sort_number (operand_sort k)) (sort_number (sort_of o)) e) d, sym (instr_decoded _ m.0 d).0)

-- ---- ops and sorts as cases

pub op_small : (op : Op) → op_number op ≤ 17
unfolding op_number
op_small the_op.Ld = omega arith
op_small the_op.Ldn = omega arith
op_small the_op.St = omega arith
op_small the_op.Stn = omega arith
op_small the_op.And = omega arith
op_small the_op.Andn = omega arith
op_small the_op.Or = omega arith
op_small the_op.Orn = omega arith
op_small the_op.Xor = omega arith
op_small the_op.Xorn = omega arith
op_small the_op.Not = omega arith
op_small the_op.Jmp = omega arith
op_small the_op.Jmpc = omega arith
op_small the_op.Jmpcn = omega arith
op_small the_op.S = omega arith
op_small the_op.R = omega arith
op_small the_op.Ton = omega arith

sort_told : (o : Operand) → sort_in (Some (sort_case o)) ≡ sort_of o
unfolding sort_in sort_of
sort_told (table_index x) = refl
sort_told no_operand = refl
sort_told (instruction_index j) = refl
sort_told (timer_number n) = refl

-- sorts with one number are one
one_sort : (a b : OperandSort) → sort_number (sort_in (Some a)) ≡ sort_number (sort_in (Some b)) → a ≡ b
unfolding sort_in sort_number
one_sort Table Table e = refl
one_sort Table Nothing e = absurd (omega arith)
one_sort Table Instruction e = absurd (omega arith)
one_sort Table Timer e = absurd (omega arith)
one_sort Nothing Table e = absurd (omega arith)
one_sort Nothing Nothing e = refl
one_sort Nothing Instruction e = absurd (omega arith)
one_sort Nothing Timer e = absurd (omega arith)
one_sort Instruction Table e = absurd (omega arith)
one_sort Instruction Nothing e = absurd (omega arith)
one_sort Instruction Instruction e = refl
one_sort Instruction Timer e = absurd (omega arith)
one_sort Timer Table e = absurd (omega arith)
one_sort Timer Nothing e = absurd (omega arith)
one_sort Timer Instruction e = absurd (omega arith)
one_sort Timer Timer e = refl

-- the enum's test for equality is that of sorts
pub same_case : (a b : OperandSort) (r : Bool) → r ≡ sameb the_type a b → r ≡ same_sort (sort_in (Some a)) (sort_in (Some b))
unfolding same_sort sort_in sort_number
same_case Table Table r e = e
same_case Table Nothing r e = e
same_case Table Instruction r e = e
same_case Table Timer r e = e
same_case Nothing Table r e = e
same_case Nothing Nothing r e = e
same_case Nothing Instruction r e = e
same_case Nothing Timer r e = e
same_case Instruction Table r e = e
same_case Instruction Nothing r e = e
same_case Instruction Instruction r e = e
same_case Instruction Timer r e = e
same_case Timer Table r e = e
same_case Timer Nothing r e = e
same_case Timer Instruction r e = e
same_case Timer Timer r e = e

pub takes_true : (a b : OperandSort) (r : Bool) → r ≡ same_sort (sort_in (Some a)) (sort_in (Some b)) → r ≡ true → a ≡ b
unfolding same_sort
takes_true a b r e t = one_sort a b (eqb→eq (sort_number (sort_in (Some a))) (sort_number (sort_in (Some b))) (subst T (sym t ∙ e) tt))

pub takes_false : (a b : OperandSort) (r : Bool) → r ≡ same_sort (sort_in (Some a)) (sort_in (Some b)) → r ≡ false → a ≡ b → ⊥
unfolding same_sort
takes_false a b r e f q =
    let z : eqb (sort_number (sort_in (Some a))) (sort_number (sort_in (Some b))) ≡ true = eq-eqb _ _ (ap (λ c. sort_number (sort_in (Some c))) q) in
    subst T (sym z ∙ sym e ∙ f) tt

-- ---- an instruction line

operand_got : (p : Parse Operand) (r : OperandAt) → Some r ≡ operand_case p → (o : Operand) × (p ≡ read r.next o) × (sort_case o ≡ r.sort) × (operand_number o ≡ r.number)
operand_got (read m o) r e = let q : r ≡ record { sort = sort_case o; number = operand_number o; next = m } = cc in (o, rw q refl, rw q refl, rw q refl)
operand_got (stuck m) r e = let z : ◌≡◌ {A = ℕ} 0 1 = cc in absurd (omega arith)

operand_lost : (p : Parse Operand) → None ≡ operand_case p → (m : ℕ) × (p ≡ stuck m)
operand_lost (read m o) e = let z : ◌≡◌ {A = ℕ} 0 1 = cc in absurd (omega arith)
operand_lost (stuck m) e = (m, refl)

module _ (names : Names) (vars : ℕ) (s : List ℕ) (at to : ℕ) (l : LettersRead s at to) where
  line_is : instruction_from names vars s at ≡ followed s 10 (bind (operand_from vars s to) (λ m o. given m (instr_named names (between s at to) o)))
  unfolding instruction_from
  line_is = rw (← l.same) refl

  pub op_none : OpFound names (between s at to) None → LineParsed (instruction_from names vars s at) s at None
  unfolding instr_named bind given followed
  op_none f = record { same = rw line_is (go (operand_from vars s to)); within = tt }
    where
      go : (p : Parse Operand) → None ≡ line_case (followed s 10 (bind p (λ m o. given m (instr_named names (between s at to) o))))
      go (read n o) = let z : instr_named names (between s at to) o ≡ none = rw (← f.same, instr_named) in rw z refl
      go (stuck m) = refl

  pub operand_none : OperandParsed (operand_from vars s to) s to None → LineParsed (instruction_from names vars s at) s at None
  unfolding bind followed
  operand_none g = let m = operand_lost (operand_from vars s to) g.same in record { same = rw (line_is, m.1) refl; within = tt }

  module _ (op : Op) (f : OpFound names (between s at to) (Some op)) (r : OperandAt) (g : OperandParsed (operand_from vars s to) s to (Some r)) where
    read_of : (o : Operand) × (operand_from vars s to ≡ read r.next o) × (sort_case o ≡ r.sort) × (operand_number o ≡ r.number)
    read_of = operand_got (operand_from vars s to) r g.same

    named_with : (o : Operand) → instr_named names (between s at to) o ≡ instr_with o (op_number op)
    unfolding instr_named
    named_with o = rw (← f.same, instr_named)

    not_made : instr_with read_of.0 (op_number op) ≡ none → LineParsed (instruction_from names vars s at) s at None
    unfolding bind given followed
    not_made e = let z : instr_named names (between s at to) read_of.0 ≡ none = named_with read_of.0 ∙ e in record { same = rw (line_is, read_of.1, z) refl; within = tt }

    pub sort_none : sort_in None ≡ operand_sort (op_number op) → LineParsed (instruction_from names vars s at) s at None
    unfolding sort_in sort_number
    sort_none q = not_made (with_none read_of.0 (op_number op) (λ w. no_operand_sort read_of.0 (ap sort_number q ∙ w)))

    module _ (sort : OperandSort) (q : sort_in (Some sort) ≡ operand_sort (op_number op)) where
      pub sort_differs : (sort ≡ r.sort → ⊥) → LineParsed (instruction_from names vars s at) s at None
      sort_differs d =
          let o = read_of in
          not_made (with_none o.0 (op_number op) (λ w.
          d (one_sort sort (sort_case o.0) (ap sort_number q ∙ (w ∙ ap sort_number (sym (sort_told o.0)))) ∙ o.2)))

      module _ (d : sort ≡ r.sort) where
        made : (i : Instr) × (instr_named names (between s at to) read_of.0 ≡ some i) × (instr_word i ≡ op_number op * operands + r.number)
        made =
            let o = read_of in
            let e : sort ≡ sort_case o.0 = d ∙ sym o.2 in
            let k : operand_sort (op_number op) ≡ sort_of o.0 = sym q ∙ (ap (λ c. sort_in (Some c)) e ∙ sort_told o.0) in
            let w = with_some o.0 (op_number op) (let a = g.within.2 in let b = o.3 in omega arith) (ap sort_number k) in
            (w.0, named_with o.0 ∙ w.1, w.2 ∙ ap (λ n. op_number op * operands + n) o.3)

        pub no_end : ByteRead s r.next 10 None → LineParsed (instruction_from names vars s at) s at None
        unfolding bind given followed
        no_end z = record { same = rw (line_is, read_of.1, made.1, ne_eqb (get_or s r.next 0) 10 z) refl; within = tt }

        pub whole_line : (n w : ℕ) → ByteRead s r.next 10 (Some n) → w ≡ op_number op * operands + r.number
            → LineParsed (instruction_from names vars s at) s at (Some (record { word = w; next = n }))
        unfolding bind given followed
        whole_line n w z v =
            let b = g.within.0 in
            let e = l.from in
            let z0 = z.0 in
            let z2 = z.2 in
            record {
              same = rw (line_is, read_of.1, made.1, eq-eqb (get_or s r.next 0) 10 z.1, ← z.0, v) (ap (λ w. Some (record { word = w; next = n })) (sym made.2));
              within = (omega arith, omega arith);
            }
