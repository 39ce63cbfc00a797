-- Operands and ops: their text, their words. Assumes nothing.
use Rattle.std.specs.Prelude.{ℕ, zero, suc, ◌+◌, ◌≤◌, ◌≡◌, refl, Bool, true, false, List, T, eqb}
use Rattle.std.proofs.Common.{arith, sym, ap, ◌∙◌, eqb-true, eq-eqb, lt→ltb}
use Rattle.std.proofs.Math.Option.{Option, none, some}
use Rattle.questions.proofs.Laws.Tests.{none_some}
use Rattle.rungs.specs.Words.{operands, word}
use Rattle.list_definitions.specs.Instruction.{Instr, LD, LDN, ST, STN, AND, ANDN, OR, ORN, XOR, XORN, NOT, JMP, JMPC, JMPCN, S, R, TON, Operand, table_index, no_operand, instruction_index, timer_number, operand, op_of, operand_number, instr_word, ops, only_not, decode_instr, operand_fits, instr_fits, sort_of, operand_sort, sort_number, same_sort}
use Rattle.list_definitions.specs.Names.{Names, name_of}
use Rattle.list_definitions.proofs.Laws.Decoding.{number_small, decode_instr_lem, instr_decoded}
use Rattle.reader_definitions.specs.Form.{IsOperand, v_number, t_number, at_number, d_number, name_only}
use Rattle.reader_definitions.specs.Reader.{op_named, instr_with, instr_named}
use Rattle.reader_definitions.proofs.Laws.Numbers.{number_most}
use Rattle.reader_definitions.proofs.Laws.Search.{Good, found_name}

-- an operand of the form has 16 bits
pub operand_small : {vars : ℕ} {w : List ℕ} {o : Operand} → vars ≤ 1024 → IsOperand vars w o → T (operand_fits o)
unfolding operand_fits
operand_small h (v_number {x = x} y l) = lt→ltb x operands (omega arith)
operand_small {vars} h (t_number {x = x} y l) = lt→ltb (vars + x) operands (omega arith)
operand_small h (at_number {j = j} y) = lt→ltb j operands (let m = number_most y in omega arith)
operand_small h (d_number {n = n} y) = lt→ltb n operands (let m = number_most y in omega arith)
operand_small h name_only = tt

-- sort and number tell an operand
made : ℕ → ℕ → Operand
made zero x = table_index x
made (suc zero) x = no_operand
made (suc (suc zero)) x = instruction_index x
made (suc (suc (suc k))) x = timer_number x

made_back : (o : Operand) → made (sort_number (sort_of o)) (operand_number o) ≡ o
unfolding made sort_number sort_of operand_number
made_back (table_index x) = refl
made_back no_operand = refl
made_back (instruction_index j) = refl
made_back (timer_number n) = refl

sort_number_lem : (a b : Operand) → sort_number (sort_of a) ≡ sort_number (sort_of b) → operand_number a ≡ operand_number b → a ≡ b
sort_number_lem a b s n = sym (made_back a) ∙ (rw (s, n) (made_back b))

-- the sort of an instruction's operand is the one that its op takes
pub sort_taken : (i : Instr) → operand_sort (op_of i) ≡ sort_of (operand i)
unfolding operand_sort ops only_not op_of operand sort_of
sort_taken (LD x) = refl
sort_taken (LDN x) = refl
sort_taken (ST x) = refl
sort_taken (STN x) = refl
sort_taken (AND x) = refl
sort_taken (ANDN x) = refl
sort_taken (OR x) = refl
sort_taken (ORN x) = refl
sort_taken (XOR x) = refl
sort_taken (XORN x) = refl
sort_taken NOT = refl
sort_taken (JMP j) = refl
sort_taken (JMPC j) = refl
sort_taken (JMPCN j) = refl
sort_taken (S x) = refl
sort_taken (R x) = refl
sort_taken (TON n) = refl

-- the instruction of an op and an operand has that op and that operand
pub with_sound : (o : Operand) (k : ℕ) (i : Instr) → T (operand_fits o) → instr_with o k ≡ some i → (op_of i ≡ k) × (operand i ≡ o)
unfolding instr_with same_sort instr_word instr_fits
with_sound o k i h e = go (eqb (sort_number (operand_sort k)) (sort_number (sort_of o))) refl
  where
    go : (b : Bool) → eqb (sort_number (operand_sort k)) (sort_number (sort_of o)) ≡ b → (op_of i ≡ k) × (operand i ≡ o)
    go false q = let z : instr_with o k ≡ none = rw (q, instr_with) in absurd (none_some (sym z ∙ e))
    go true q =
        let z : instr_with o k ≡ decode_instr (word k (operand_number o)) = rw (q, instr_with) in
        let d = instr_decoded (word k (operand_number o)) i (sym z ∙ e) in
        let IsWord-same = d.0 in
        let a = number_small o h in
        let b = number_small (operand i) d.1 in
        let n : operand_number (operand i) ≡ operand_number o = omega arith in
        let op : op_of i ≡ k = omega arith in
        let s : sort_number (sort_of (operand i)) ≡ sort_number (sort_of o) = ap sort_number (sym (sort_taken i)) ∙ (ap (λ j. sort_number (operand_sort j)) op ∙ eqb-true _ _ q) in
        (op, sort_number_lem (operand i) o s n)

pub named_sound : (names : Names) (w : List ℕ) (o : Operand) (i : Instr) → T (operand_fits o) → instr_named names w o ≡ some i → (w ≡ name_of names (op_of i)) × (operand i ≡ o)
unfolding instr_named name_of
named_sound names w o i h e = go (op_named 1 names w) refl
  where
    go : (x : Option ℕ) → op_named 1 names w ≡ x → (w ≡ name_of names (op_of i)) × (operand i ≡ o)
    go none p = let z : instr_named names w o ≡ none = rw (p, instr_named) in absurd (none_some (sym z ∙ e))
    go (some k) p =
        let z : instr_named names w o ≡ instr_with o k = rw (p, instr_named) in
        let d = with_sound o k i h (sym z ∙ e) in
        let f = found_name 1 names w k p in
        (rw d.0 (sym f.2), d.1)

pub named_complete : (names : Names) (i : Instr) → Good names → T (instr_fits i) → instr_named names (name_of names (op_of i)) (operand i) ≡ some i
unfolding instr_named instr_with same_sort instr_word
named_complete names i good h =
    let s = eq-eqb (sort_number (operand_sort (op_of i))) (sort_number (sort_of (operand i))) (ap sort_number (sort_taken i)) in
    rw (good.found i, instr_named, s, instr_with) (decode_instr_lem i h)
