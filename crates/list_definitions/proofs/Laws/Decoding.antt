-- Decoding undoes encoding, and what is decoded was encoded. Assumes nothing.
use Rattle.std.specs.Prelude.{ℕ, zero, suc, ◌<◌, ◌≡◌, refl, List, [], ◌∷◌, map, T, get_or}
use Rattle.std.proofs.Common.{arith, sym, ap, ◌∙◌, ltb→lt, lt→ltb}
use Rattle.std.proofs.Math.Option.{Option, none, some}
use Rattle.questions.specs.Tests.{all}
use Rattle.questions.proofs.Laws.Tests.{none_some, all_head, all_tail, all_cons}
use Rattle.rungs.specs.Words.{operands, word, number_of, operand_of, is_operand}
use Rattle.rungs.proofs.Laws.Numbers.{Firsts, ◌then◌, past, every}
use Rattle.list_definitions.specs.Instruction.{Instr, LD, LDN, ST, STN, AND, ANDN, OR, ORN, XOR, XORN, NOT, JMP, JMPC, JMPCN, S, R, TON, Operand, table_index, no_operand, instruction_index, timer_number, operand, operand_fits, instr_fits, op_of, operand_number, instr_word, no_op, op, only_not, ops, decode_instr, decode_code}

pub decode_word : (k x : ℕ) → T (is_operand x) → decode_instr (word k x) ≡ get_or ops k no_op x
unfolding decode_instr
decode_word k x h =
    let l = ltb→lt x operands h in
    let p : number_of (word k x) ≡ k = omega arith in
    let q : operand_of (word k x) ≡ x = omega arith in
    rw (p, q)

-- the number of an operand of 16 bits
pub number_small : (o : Operand) → T (operand_fits o) → operand_number o < operands
unfolding operand_fits operand_number
number_small (table_index x) h = ltb→lt x operands h
number_small no_operand h = omega arith
number_small (instruction_index j) h = ltb→lt j operands h
number_small (timer_number n) h = ltb→lt n operands h

pub decode_instr_lem : (i : Instr) → T (instr_fits i) → decode_instr (instr_word i) ≡ some i
unfolding instr_word op_of operand_number instr_fits operand operand_fits ops only_not
decode_instr_lem (LD x) h = decode_word 1 x h
decode_instr_lem (LDN x) h = decode_word 2 x h
decode_instr_lem (ST x) h = decode_word 3 x h
decode_instr_lem (STN x) h = decode_word 4 x h
decode_instr_lem (AND x) h = decode_word 5 x h
decode_instr_lem (ANDN x) h = decode_word 6 x h
decode_instr_lem (OR x) h = decode_word 7 x h
decode_instr_lem (ORN x) h = decode_word 8 x h
decode_instr_lem (XOR x) h = decode_word 9 x h
decode_instr_lem (XORN x) h = decode_word 10 x h
decode_instr_lem NOT h = decode_word 11 0 tt
decode_instr_lem (JMP j) h = decode_word 12 j h
decode_instr_lem (JMPC j) h = decode_word 13 j h
decode_instr_lem (JMPCN j) h = decode_word 14 j h
decode_instr_lem (S x) h = decode_word 15 x h
decode_instr_lem (R x) h = decode_word 16 x h
decode_instr_lem (TON n) h = decode_word 17 n h

-- the instruction that an op makes of an operand
record Made (k x : ℕ) (i : Instr) : Type 0 where
  same : word k x ≡ instr_word i
  fits : x < operands → T (instr_fits i)

made : (k : ℕ) (make : ℕ → Instr) → ((x : ℕ) → instr_word (make x) ≡ word k x) → ((x : ℕ) → x < operands → T (instr_fits (make x)))
    → (x : ℕ) (i : Instr) → op make x ≡ some i → Made k x i
made k make h f x i e = let z : make x ≡ i = cc in record { same = rw (← z) (sym (h x)); fits = λ l. rw (← z) (f x l) }

made_not : (x : ℕ) (i : Instr) → only_not x ≡ some i → Made 11 x i
unfolding only_not instr_word op_of operand_number instr_fits operand operand_fits
made_not zero i e = let z : NOT ≡ i = cc in record { same = rw (← z) refl; fits = λ l. rw (← z) tt }
made_not (suc x) i e = absurd (none_some e)

fit : (x : ℕ) → x < operands → T (is_operand x)
fit x h = lt→ltb x operands h

made_by : (k x : ℕ) (i : Instr) → get_or ops k no_op x ≡ some i → Made k x i
unfolding ops instr_word op_of operand_number instr_fits operand operand_fits Firsts past
made_by = every 18 (λ k. (x : ℕ) (i : Instr) → get_or ops k no_op x ≡ some i → Made k x i)
    ((λ x i e. absurd (none_some e))
    then made 1 LD (λ y. refl) fit
    then made 2 LDN (λ y. refl) fit
    then made 3 ST (λ y. refl) fit
    then made 4 STN (λ y. refl) fit
    then made 5 AND (λ y. refl) fit
    then made 6 ANDN (λ y. refl) fit
    then made 7 OR (λ y. refl) fit
    then made 8 ORN (λ y. refl) fit
    then made 9 XOR (λ y. refl) fit
    then made 10 XORN (λ y. refl) fit
    then made_not
    then made 12 JMP (λ y. refl) fit
    then made 13 JMPC (λ y. refl) fit
    then made 14 JMPCN (λ y. refl) fit
    then made 15 S (λ y. refl) fit
    then made 16 R (λ y. refl) fit
    then made 17 TON (λ y. refl) fit
    then tt)
    (λ k x i e. absurd (none_some e))

pub instr_decoded : (w : ℕ) (i : Instr) → decode_instr w ≡ some i → (w ≡ instr_word i) × T (instr_fits i)
unfolding decode_instr
instr_decoded w i e =
    let m = made_by (number_of w) (operand_of w) i e in
    let k : w ≡ word (number_of w) (operand_of w) = omega arith in
    (k ∙ m.same, m.fits (omega arith))

pub decode_code_lem : (is : List Instr) → T (all instr_fits is) → decode_code (map instr_word is) ≡ some is
unfolding decode_code
decode_code_lem [] h = refl
decode_code_lem (i ∷ is) h = rw (decode_instr_lem i (all_head instr_fits i is h), decode_code) (rw (decode_code_lem is (all_tail instr_fits i is h)))

pub code_decoded : (ws : List ℕ) (is : List Instr) → decode_code ws ≡ some is → (ws ≡ map instr_word is) × T (all instr_fits is)
unfolding decode_code
code_decoded [] is e = let z : ◌≡◌ {A = List Instr} [] is = cc in rw (← z) (refl, tt)
code_decoded (w ∷ ws) is e = go (decode_instr w) refl (decode_code ws) refl (λ js. code_decoded ws js)
  where
    go : (x : Option Instr) → decode_instr w ≡ x → (y : Option (List Instr)) → decode_code ws ≡ y
        → ((js : List Instr) → decode_code ws ≡ some js → (ws ≡ map instr_word js) × T (all instr_fits js)) → (w ∷ ws ≡ map instr_word is) × T (all instr_fits is)
    go none p y q ih = let z : decode_code (w ∷ ws) ≡ none = rw (p, decode_code) in absurd (none_some (sym z ∙ e))
    go (some i) p none q ih = let z : decode_code (w ∷ ws) ≡ none = rw (p, decode_code) (rw q) in absurd (none_some (sym z ∙ e))
    go (some i) p (some js) q ih =
        let z : decode_code (w ∷ ws) ≡ some (i ∷ js) = rw (p, decode_code) (rw q) in
        let same : ◌≡◌ {A = List Instr} (i ∷ js) is = cc in
        let d = instr_decoded w i p in
        let t = ih js q in
        rw (← same) (ap (λ x. x ∷ ws) d.0 ∙ ap (λ l. instr_word i ∷ l) t.0, all_cons instr_fits i js d.1 t.1)
