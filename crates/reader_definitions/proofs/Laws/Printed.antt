-- A text of the form is the printout of its rungs, and rungs whose numbers are in range print a text of the form. Assumes nothing.
use Rattle.std.specs.Prelude.{ℕ, ◌+◌, ◌-◌, ◌≤◌, ◌≡◌, Bool, T, leb, length}
use native.Mathlib.Omega.{arith}
use Rattle.std.proofs.Math.Path.{refl, sym}
use Rattle.std.proofs.Common.{ap, subst, ◌∙◌, leb→le}
use Rattle.std.proofs.Math.Bool.{true, false}
use mathlib.Core.List.{List, [], ◌∷◌, ◌++◌, flat_map, append_assoc, append-nil}
use borrow.Author.Tests.{lt-ltb, le-ltb, ltb-true, ltb-false}
use Rattle.std.proofs.Math.Facts.{and_yes, yes_and}
use Rattle.std.proofs.Math.Dec.{ltb, le→leb, ltb→lt, lt→ltb}
use Rattle.questions.specs.Bytes.{decimal}
use Rattle.questions.specs.Tests.{all}
use Rattle.questions.proofs.Laws.Tests.{all_head, all_tail, all_cons, all_one}
use Rattle.table.specs.State.{table_size}
use Rattle.text_grammar.specs.Grammar.{most_number}
use Rattle.rungs.specs.Words.{operands}
use Rattle.list_definitions.specs.Instruction.{Instr, Operand, table_index, no_operand, instruction_index, timer_number, operand, op_of, operand_fits, instr_fits}
use Rattle.list_definitions.specs.Questions.{operand_in_range, instr_in_range}
use Rattle.list_definitions.specs.Names.{Names, name_of}
use Rattle.list_definitions.specs.Listing.{operand_text, instr_line, ended, label_line as label_text}
use Rattle.reader_definitions.specs.Form.{ListRung, IsOperand, v_number, t_number, at_number, d_number, name_only, IsInstruction, instruction_line, IsLabel, label_line, IsCode, no_line, more_line, IsRung, rung_lines, IsListText, one_rung, more_rungs, instr_in_form, rung_in_form}
use Rattle.reader_definitions.proofs.Laws.Numbers.{number_decimal, number_most, decimal_number}
use Rattle.reader_definitions.proofs.Laws.Operands.{operand_small}

-- the printed lines of some instructions, and of a rung
unfoldable pub code_text : Names → ℕ → List Instr → List ℕ
code_text names vars is = flat_map (λ i. ended (instr_line names vars i)) is

unfoldable pub rung_text : Names → ℕ → ListRung → List ℕ
rung_text names vars g = ended (label_text g.label) ++ code_text names vars g.code

label_prints : {w : List ℕ} {l : ℕ} → IsLabel w l → w ≡ ended (label_text l)
unfolding ended label_text
label_prints (label_line {l = l} y) = rw (number_decimal y) (ap (λ r. 76 ∷ r) (sym (append_assoc (decimal l) (58 ∷ []) (10 ∷ []))))

label_printed : (l : ℕ) → l ≤ most_number → IsLabel (ended (label_text l)) l
unfolding ended label_text
label_printed l h = rw (append_assoc (decimal l) (58 ∷ []) (10 ∷ [])) (label_line (decimal_number l h))

label_ranged : {w : List ℕ} {l : ℕ} → IsLabel w l → T (leb l most_number)
label_ranged (label_line {l = l} x) = le→leb l most_number (number_most x)

module _ {vars : ℕ} where
  operand_prints : {w : List ℕ} {o : Operand} → IsOperand vars w o → w ≡ operand_text vars o
  unfolding operand_text
  operand_prints (v_number {x = x} y h) = rw (lt-ltb x vars h, operand_text, number_decimal y)
  operand_prints (t_number {x = x} y h) =
      let q : vars + x - vars ≡ x = omega arith in
      rw (le-ltb (vars + x) vars (omega arith), operand_text, q, number_decimal y)
  operand_prints (at_number y) = rw (number_decimal y)
  operand_prints (d_number y) = rw (number_decimal y)
  operand_prints name_only = refl

  operand_ranged : {w : List ℕ} {o : Operand} → IsOperand vars w o → T (operand_in_range (table_size vars) most_number o)
  unfolding operand_in_range
  operand_ranged (v_number {x = x} y h) = lt→ltb x (table_size vars) (omega arith)
  operand_ranged (t_number {x = x} y h) = lt→ltb (vars + x) (table_size vars) (omega arith)
  operand_ranged (at_number {j = j} y) = le→leb j most_number (number_most y)
  operand_ranged (d_number y) = tt
  operand_ranged name_only = tt

  operand_printed : vars ≤ 1024 → (o : Operand) → T (operand_in_range (table_size vars) most_number o) → T (operand_fits o) → IsOperand vars (operand_text vars o) o
  unfolding operand_text operand_in_range operand_fits
  operand_printed few (table_index x) h f = go (ltb x vars) refl
    where
      go : (b : Bool) → ltb x vars ≡ b → IsOperand vars (operand_text vars (table_index x)) (table_index x)
      go true e = let l = ltb-true x vars e in rw (e, operand_text) (v_number (decimal_number x (omega arith)) l)
      go false e =
          let l = ltb-false x vars e in
          let m = ltb→lt x (table_size vars) h in
          let q : vars + (x - vars) ≡ x = omega arith in
          let t : IsOperand vars (32 ∷ 116 ∷ decimal (x - vars)) (table_index (vars + (x - vars))) = t_number (decimal_number (x - vars) (omega arith)) (omega arith) in
          rw (e, operand_text) (subst (λ y. IsOperand vars (32 ∷ 116 ∷ decimal (x - vars)) (table_index y)) q t)
  operand_printed few no_operand h f = name_only
  operand_printed few (instruction_index j) h f = at_number (decimal_number j (leb→le j most_number h))
  operand_printed few (timer_number n) h f = d_number (decimal_number n (let l = ltb→lt n operands f in omega arith))

  module _ {names : Names} where
    instruction_prints : {w : List ℕ} {i : Instr} → IsInstruction names vars w i → w ≡ ended (instr_line names vars i)
    unfolding ended instr_line
    instruction_prints (instruction_line {i = i} x) = rw (operand_prints x) (sym (append_assoc (name_of names (op_of i)) (operand_text vars (operand i)) (10 ∷ [])))

    instruction_ranged : vars ≤ 1024 → {w : List ℕ} {i : Instr} → IsInstruction names vars w i → T (instr_in_form vars i)
    unfolding instr_in_form instr_fits
    instruction_ranged few (instruction_line {i = i} x) = yes_and (instr_in_range (table_size vars) most_number i) (instr_fits i) (operand_ranged x) (operand_small few x)

    code_prints : {w : List ℕ} {is : List Instr} → IsCode names vars w is → w ≡ code_text names vars is
    unfolding code_text flat_map
    code_prints no_line = refl
    code_prints (more_line x y) = rw (← (code_prints y), ← (instruction_prints x)) refl

    code_ranged : vars ≤ 1024 → {w : List ℕ} {is : List Instr} → IsCode names vars w is → T (all (instr_in_form vars) is)
    code_ranged few no_line = tt
    code_ranged few (more_line {i = i} {is = is} x y) = all_cons (instr_in_form vars) i is (instruction_ranged few x) (code_ranged few y)

    rung_prints : {w : List ℕ} {g : ListRung} → IsRung names vars w g → w ≡ rung_text names vars g
    unfolding rung_text
    rung_prints (rung_lines x y) = rw (← (code_prints y), ← (label_prints x)) refl

    rung_ranged : vars ≤ 1024 → {w : List ℕ} {g : ListRung} → IsRung names vars w g → T (rung_in_form vars g)
    unfolding rung_in_form
    rung_ranged few (rung_lines {l = l} x y) = yes_and (leb l most_number) _ (label_ranged x) (code_ranged few y)

    pub text_prints : {w : List ℕ} {gs : List ListRung} → IsListText names vars w gs → w ≡ flat_map (rung_text names vars) gs
    unfolding flat_map
    text_prints (one_rung {g = g} x) = rung_prints x ∙ sym (append-nil (rung_text names vars g))
    text_prints (more_rungs x y) = rw (← (text_prints y), ← (rung_prints x)) refl

    pub text_ranged : vars ≤ 1024 → {w : List ℕ} {gs : List ListRung} → IsListText names vars w gs → (1 ≤ length gs) × T (all (rung_in_form vars) gs)
    text_ranged few (one_rung {g = g} x) = (omega arith, all_one (rung_in_form vars) g (rung_ranged few x))
    text_ranged few (more_rungs {g = g} {gs = gs} x y) = (omega arith, all_cons (rung_in_form vars) g gs (rung_ranged few x) (text_ranged few y).1)

  module _ (names : Names) (few : vars ≤ 1024) where
    instruction_printed : (i : Instr) → T (instr_in_form vars i) → IsInstruction names vars (ended (instr_line names vars i)) i
    unfolding ended instr_line instr_in_form instr_fits
    instruction_printed i h =
        let p = and_yes (instr_in_range (table_size vars) most_number i) (instr_fits i) h in
        rw (append_assoc (name_of names (op_of i)) (operand_text vars (operand i)) (10 ∷ [])) (instruction_line {i = i} (operand_printed few (operand i) p.0 p.1))

    code_printed : (is : List Instr) → T (all (instr_in_form vars) is) → IsCode names vars (code_text names vars is) is
    unfolding code_text flat_map
    code_printed [] h = no_line
    code_printed (i ∷ is) h = more_line (instruction_printed i (all_head (instr_in_form vars) i is h)) (code_printed is (all_tail (instr_in_form vars) i is h))

    rung_printed : (g : ListRung) → T (rung_in_form vars g) → IsRung names vars (rung_text names vars g) g
    unfolding rung_in_form rung_text
    rung_printed g h =
        let p = and_yes (leb g.label most_number) (all (instr_in_form vars) g.code) h in
        rung_lines (label_printed g.label (leb→le _ _ p.0)) (code_printed g.code p.1)

    pub text_printed_lem : (gs : List ListRung) → 1 ≤ length gs → T (all (rung_in_form vars) gs) → IsListText names vars (flat_map (rung_text names vars) gs) gs
    unfolding flat_map
    text_printed_lem [] l h = absurd (omega arith)
    text_printed_lem (g ∷ []) l h = rw append-nil (one_rung (rung_printed g (all_head (rung_in_form vars) g [] h)))
    text_printed_lem (g ∷ g' ∷ gs) l h =
        more_rungs (rung_printed g (all_head (rung_in_form vars) g (g' ∷ gs) h)) (text_printed_lem (g' ∷ gs) (omega arith) (all_tail (rung_in_form vars) g (g' ∷ gs) h))
