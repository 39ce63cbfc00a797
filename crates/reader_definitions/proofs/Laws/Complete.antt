-- What is in the form is read. Assumes nothing.
use Prim.Native.Nat.{ℕ, zero, suc, ◌+◌, ◌≤◌, ◌<◌}
use native.Mathlib.Omega.{arith}
use Rattle.std.proofs.Math.Path.{◌≡◌, refl, ap}
use Rattle.std.proofs.Common.{sym, ◌∙◌, leb→le}
use Rattle.std.specs.Prelude.{Bool, T, leb, ltb}
use Rattle.std.proofs.Math.Bool.{true, false}
use Rattle.std.proofs.Math.Option.{some}
use mathlib.Core.List.{List, [], ◌∷◌, ◌++◌, append-nil}
use borrow.Author.Tests.{eqb-true, eq-eqb, ne_eqb, lt-ltb, le-ltb, lt-leb}
use Rattle.std.proofs.Math.Facts.{and_yes}
use Rattle.std.proofs.Math.Dec.{eqb}
use Rattle.std.proofs.Math.ListN.{length, get_or}
use Rattle.std.proofs.Math.Seq.{drop-length}
use Rattle.questions.specs.Tests.{all}
use Rattle.questions.proofs.Laws.Tests.{T→true, all_head, all_tail}
use Rattle.table.specs.State.{scratch_bytes}
use Rattle.text_grammar.specs.Grammar.{IsNumber}
use Rattle.text_grammar.specs.Reader.{pick, read, map_p, bind, followed, digit_of, numeral_of}
use Rattle.text_grammar.proofs.Laws.Spans.{Span, inside, span_cut, span_head, span_tail, digit_of_lem}
use Rattle.text_grammar.proofs.Laws.Complete.{number_read, past}
use Rattle.list_definitions.specs.Instruction.{Instr, Operand, table_index, no_operand, instruction_index, timer_number, operand, op_of, instr_fits}
use Rattle.list_definitions.specs.Names.{Names, name_of, name_bytes, is_capital}
use Rattle.reader_definitions.specs.Form.{ListRung, IsOperand, v_number, t_number, at_number, d_number, name_only, IsInstruction, instruction_line, IsLabel, label_line, IsCode, no_line, more_line, IsRung, rung_lines, IsListText, one_rung, more_rungs}
use Rattle.reader_definitions.specs.Reader.{letters_from, between, given, lettered, operand_from, instr_named, instruction_from, opens_label, label_from, code_from, list_rung, rung_from, rungs_from, list_text_of}
use Rattle.reader_definitions.proofs.Laws.Numbers.{number_opens}
use Rattle.reader_definitions.proofs.Laws.Search.{Good}
use Rattle.reader_definitions.proofs.Laws.Operands.{operand_small, named_complete}
use Rattle.reader_definitions.proofs.Laws.Sound.{between_is}

low_digit : (b : ℕ) → b < 48 → digit_of b ≡ 10
unfolding digit_of
low_digit b h = rw (lt-ltb b 48 h) refl

high_digit : (b : ℕ) → 57 < b → digit_of b ≡ 10
unfolding digit_of
high_digit b h = rw (le-ltb b 48 (omega arith), lt-ltb 57 b h) refl

low_capital : (b : ℕ) → b < 48 → is_capital b ≡ false
unfolding is_capital
low_capital b h = rw (lt-leb 65 b (omega arith)) refl

capital_least : (b : ℕ) → T (is_capital b) → 65 ≤ b
unfolding is_capital
capital_least b h = leb→le 65 b (and_yes (leb 65 b) (leb b 90) h).0

no_digit : (b : Bool) (d : ℕ) → d ≡ 10 → pick b (ltb d 10) false ≡ false
no_digit true d e = rw e refl
no_digit false d e = refl

module _ (s : List ℕ) where
  -- a label line begins within the text
  label_inside : (at : ℕ) → opens_label s at ≡ true → at < length s
  unfolding opens_label
  label_inside at = go (eqb (get_or s at 0) 76) refl
    where
      go : (b : Bool) → eqb (get_or s at 0) 76 ≡ b → pick b (ltb (digit_of (get_or s (at + 1) 0)) 10) false ≡ true → at < length s
      go true e h = inside s at (let q : get_or s at 0 ≡ 76 = eqb-true _ _ e in omega arith)
      go false e h = let z : ◌≡◌ {A = ℕ} 0 1 = cc in absurd (omega arith)

  letters_run : (w : List ℕ) (k at m : ℕ) → T (all is_capital w) → length w ≤ k → Span s at m w → is_capital (get_or s m 0) ≡ false → letters_from s k at ≡ m
  unfolding letters_from
  letters_run [] zero at m h l z e = omega (arith, z.long)
  letters_run [] (suc k) at m h l z e = let q : m ≡ at = omega (arith, z.long) in rw (← q, e) refl
  letters_run (b ∷ w) zero at m h l z e = absurd (omega arith)
  letters_run (b ∷ w) (suc k) at m h l z e =
      rw (span_head z, T→true (is_capital b) (all_head is_capital b w h)) (letters_run w k (at + 1) m (all_tail is_capital b w h) (omega arith) (span_tail z) e)

  module _ (vars : ℕ) where
    lettered_read : (at m x letter : ℕ) (w : List ℕ) (o : Operand) → IsNumber w x → lettered vars letter x ≡ some o → Span s at m (32 ∷ letter ∷ w) → get_or s m 0 ≡ 10
        → operand_from vars s at ≡ read m o
    unfolding operand_from bind given
    lettered_read at m x letter w o y f z e =
        let q : at + 2 ≡ at + 1 + 1 = omega arith in
        let t = span_tail z in
        let n : numeral_of s (at + 2) ≡ read m x = rw q (number_read s y (at + 1 + 1) m (span_tail t) (ap digit_of e ∙ low_digit 10 (omega arith))) in
        rw (span_head z, n, span_head t, f) refl

    no_operand_lem : (at m : ℕ) → Span s at m [] → get_or s m 0 ≡ 10 → operand_from vars s at ≡ read m no_operand
    unfolding operand_from
    no_operand_lem at m z e = let q : m ≡ at = omega (arith, z.long) in rw (← q, e) refl

    operand_read : {w : List ℕ} {o : Operand} → IsOperand vars w o → (at m : ℕ) → Span s at m w → get_or s m 0 ≡ 10 → operand_from vars s at ≡ read m o
    unfolding lettered
    operand_read (v_number {s = w} {x = x} y h) at m z e = lettered_read at m x 118 w (table_index x) y (rw (lt-ltb x vars h) refl) z e
    operand_read (t_number {s = w} {x = x} y h) at m z e = lettered_read at m x 116 w (table_index (vars + x)) y (rw (lt-ltb x scratch_bytes h) refl) z e
    operand_read (at_number {s = w} {j = j} y) at m z e = lettered_read at m j 64 w (instruction_index j) y refl z e
    operand_read (d_number {s = w} {n = n} y) at m z e = lettered_read at m n 100 w (timer_number n) y refl z e
    operand_read name_only at m z e = no_operand_lem at m z e

    -- what follows a name is a space or LF
    operand_low : {w : List ℕ} {o : Operand} → IsOperand vars w o → (at m : ℕ) → Span s at m w → get_or s m 0 ≡ 10 → get_or s at 0 < 48
    operand_low (v_number y h) at m z e = rw (span_head z) (omega arith)
    operand_low (t_number y h) at m z e = rw (span_head z) (omega arith)
    operand_low (at_number y) at m z e = rw (span_head z) (omega arith)
    operand_low (d_number y) at m z e = rw (span_head z) (omega arith)
    operand_low name_only at m z e = let q : m ≡ at = omega (arith, z.long) in rw (← q, e) (omega arith)

    -- no name is followed by a digit
    not_label : (name : List ℕ) (at m : ℕ) → 1 ≤ length name → T (all is_capital name) → Span s at m name → get_or s m 0 < 48 → opens_label s at ≡ false
    unfolding opens_label
    not_label [] at m l h z e = absurd (omega arith)
    not_label (b ∷ []) at m l h z e =
        let q : m ≡ at + 1 = z.long in
        no_digit (eqb (get_or s at 0) 76) (digit_of (get_or s (at + 1) 0)) (low_digit (get_or s (at + 1) 0) (rw q at e))
    not_label (b ∷ c ∷ name) at m l h z e =
        let k = capital_least c (all_head is_capital c name (all_tail is_capital b (c ∷ name) h)) in
        no_digit (eqb (get_or s at 0) 76) (digit_of (get_or s (at + 1) 0)) (ap digit_of (span_head (span_tail z)) ∙ high_digit c (omega arith))

    module _ (names : Names) (good : Good names) (few : vars ≤ 1024) where
      line_parts : (at n m : ℕ) (u : List ℕ) (o : Operand) (i : Instr) → letters_from s name_bytes at ≡ n → between s at n ≡ u → operand_from vars s n ≡ read m o
          → instr_named names u o ≡ some i → get_or s m 0 ≡ 10 → instruction_from names vars s at ≡ read (m + 1) i
      unfolding instruction_from bind given followed
      line_parts at n m u o i a b c d e = rw (a, c, b, d, e) refl

      record LineRead (at m : ℕ) (i : Instr) : Type 0 where
        line : instruction_from names vars s at ≡ read m i
        no_label : opens_label s at ≡ false
        further : at < m
        within : m ≤ length s

      instruction_read : {w : List ℕ} {i : Instr} → IsInstruction names vars w i → (at m : ℕ) → Span s at m w → LineRead at m i
      unfolding instr_fits
      instruction_read (instruction_line {s = u} {i = i} x) at m z =
          let name = name_of names (op_of i) in
          let n = at + length name in
          let p = span_cut name (u ++ 10 ∷ []) z in
          let j = n + length u in
          let q = span_cut u (10 ∷ []) p.1 in
          let e = span_head q.1 in
          let lo = operand_low x n j q.0 e in
          let y : m ≡ j + 1 = q.1.long in
          let some_letter = good.some_letter i in
          let here = past s j 10 e (omega arith) in
          record {
            line = line_parts at n j name (operand i) i
                (letters_run name name_bytes at n (good.capitals i) (good.few i) p.0 (low_capital (get_or s n 0) lo))
                (between_is s at n name p.0) (operand_read x n j q.0 e) (named_complete names i good (operand_small few x)) e
                ∙ ap (λ k. read k i) (sym y);
            no_label = not_label name at n some_letter (good.capitals i) p.0 lo;
            further = omega arith;
            within = omega arith;
          }

      label_parts : (at m l : ℕ) → get_or s at 0 ≡ 76 → numeral_of s (at + 1) ≡ read m l → get_or s m 0 ≡ 58 → get_or s (m + 1) 0 ≡ 10 → label_from s at ≡ read (m + 1 + 1) l
      unfolding label_from followed
      label_parts at m l a b c d = rw (a, b, c, d) refl

      record LabelRead (at m l : ℕ) : Type 0 where
        line : label_from s at ≡ read m l
        opens : opens_label s at ≡ true
        further : at < m
        within : m ≤ length s

      label_opens : (at d : ℕ) → get_or s at 0 ≡ 76 → get_or s (at + 1) 0 ≡ 48 + d → d ≤ 9 → opens_label s at ≡ true
      unfolding opens_label
      label_opens at d a b h = rw (a, b, digit_of_lem d h, lt-ltb d 10 (omega arith)) refl

      label_read : {w : List ℕ} {l : ℕ} → IsLabel w l → (at m : ℕ) → Span s at m w → LabelRead at m l
      label_read (label_line {s = u} {l = l} x) at m z =
          let t = span_tail z in
          let i = at + 1 + length u in
          let p = span_cut u (58 ∷ 10 ∷ []) t in
          let c = span_head p.1 in
          let v = span_tail p.1 in
          let e = span_head v in
          let o = number_opens x in
          let y : m ≡ i + 1 + 1 = v.long in
          let here = past s (i + 1) 10 e (omega arith) in
          record {
            line = label_parts at i l (span_head z) (number_read s x (at + 1) i p.0 (ap digit_of c ∙ high_digit 58 (omega arith))) c e ∙ ap (λ k. read k l) (sym y);
            opens = label_opens at o.digit (span_head z) (span_head (rw o.same at p.0)) o.small;
            further = omega arith;
            within = omega arith;
          }

      -- where instruction lines end
      data Stops (m : ℕ) : Type 0 where
        at_label : opens_label s m ≡ true → Stops m
        at_end : m ≡ length s → Stops m

      code_stops : (k at : ℕ) → Stops at → code_from names vars s (suc k) at ≡ read at []
      unfolding code_from
      code_stops k at (at_label e) = rw e refl
      code_stops k at (at_end e) = go (opens_label s at)
        where
          go : (b : Bool) → pick b (read at []) (pick (eqb at (length s)) (read at []) (bind (instruction_from names vars s at) (λ n i. map_p (λ is. i ∷ is) (code_from names vars s k n)))) ≡ read at []
          go true = refl
          go false = rw (eq-eqb at (length s) e) refl

      code_more : (k at n m : ℕ) (i : Instr) (is : List Instr) → LineRead at n i → code_from names vars s k n ≡ read m is → code_from names vars s (suc k) at ≡ read m (i ∷ is)
      unfolding code_from bind map_p
      code_more k at n m i is r e =
          let a = r.further in
          let b = r.within in
          rw (r.no_label, ne_eqb at (length s) (λ q. omega arith), r.line, e) refl

      code_read : {w : List ℕ} {is : List Instr} → IsCode names vars w is → (k at m : ℕ) → length s < at + k → at ≤ length s → Span s at m w → Stops m → code_from names vars s k at ≡ read m is
      code_read x zero at m l h z t = absurd (omega arith)
      code_read no_line (suc k) at m l h z t = let q : m ≡ at = omega (arith, z.long) in rw q (code_stops k at (rw q at t))
      code_read (more_line {s = u} {t = v} {i = i} {is = is} x y) (suc k) at m l h z t =
          let n = at + length u in
          let p = span_cut u v z in
          let r = instruction_read x at n p.0 in
          let a = r.further in
          code_more k at n m i is r (code_read y k n m (omega arith) r.within p.1 t)

      record RungRead (at m : ℕ) (g : ListRung) : Type 0 where
        rung : rung_from names vars s at ≡ read m g
        opens : opens_label s at ≡ true
        further : at < m

      rung_parts : (at n m l : ℕ) (is : List Instr) → label_from s at ≡ read n l → code_from names vars s (suc (length s)) n ≡ read m is → rung_from names vars s at ≡ read m (list_rung l is)
      unfolding rung_from bind map_p
      rung_parts at n m l is a b = rw (a, b) refl

      rung_read : {w : List ℕ} {g : ListRung} → IsRung names vars w g → (at m : ℕ) → Span s at m w → Stops m → RungRead at m g
      rung_read (rung_lines {s = u} {t = v} {l = l} {is = is} x y) at m z t =
          let n = at + length u in
          let p = span_cut u v z in
          let r = label_read x at n p.0 in
          let a = r.further in
          let b = p.1.long in
          record {
            rung = rung_parts at n m l is r.line (code_read y (suc (length s)) n m (omega arith) r.within p.1 t);
            opens = r.opens;
            further = omega arith;
          }

      rung_opens : {w : List ℕ} {g : ListRung} → IsRung names vars w g → (at m : ℕ) → Span s at m w → opens_label s at ≡ true
      rung_opens (rung_lines {s = u} {t = v} x y) at m z = (label_read x at (at + length u) (span_cut u v z).0).opens

      text_opens : {w : List ℕ} {gs : List ListRung} → IsListText names vars w gs → (at m : ℕ) → Span s at m w → opens_label s at ≡ true
      text_opens (one_rung x) at m z = rung_opens x at m z
      text_opens (more_rungs {s = u} {t = v} x y) at m z = rung_opens x at (at + length u) (span_cut u v z).0

      last_rung : (k at : ℕ) (g : ListRung) → rung_from names vars s at ≡ read (length s) g → rungs_from names vars s (suc k) at ≡ read (length s) (g ∷ [])
      unfolding rungs_from bind
      last_rung k at g e = rw (e, eq-eqb (length s) (length s) refl) refl

      one_rung_lem : (k at n m : ℕ) (g : ListRung) (gs : List ListRung) → n < length s → rung_from names vars s at ≡ read n g → rungs_from names vars s k n ≡ read m gs
          → rungs_from names vars s (suc k) at ≡ read m (g ∷ gs)
      unfolding rungs_from bind map_p
      one_rung_lem k at n m g gs h a b = rw (a, ne_eqb n (length s) (λ q. omega arith), b) refl

      rungs_read : {w : List ℕ} {gs : List ListRung} → IsListText names vars w gs → (k at : ℕ) → length s < at + k → at ≤ length s → Span s at (length s) w
          → rungs_from names vars s k at ≡ read (length s) gs
      rungs_read x zero at l h z = absurd (omega arith)
      rungs_read (one_rung {g = g} x) (suc k) at l h z = last_rung k at g (rung_read x at (length s) z (at_end refl)).rung
      rungs_read (more_rungs {s = u} {t = v} {g = g} {gs = gs} x y) (suc k) at l h z =
          let n = at + length u in
          let p = span_cut u v z in
          let o = text_opens y n (length s) p.1 in
          let r = rung_read x at n p.0 (at_label o) in
          let a = r.further in
          let i = label_inside n o in
          one_rung_lem k at n (length s) g gs i r.rung (rungs_read y k n (omega arith) (omega arith) p.1)

-- every text of the form is read, with its rungs
pub complete : {names : Names} {vars : ℕ} {s : List ℕ} {gs : List ListRung} → Good names → vars ≤ 1024 → IsListText names vars s gs → list_text_of names vars s ≡ read (length s) gs
unfolding list_text_of
complete {names} {vars} {s} good few x =
    rungs_read s vars names good few x (suc (length s)) 0 (omega arith) (omega arith) (record { cut = rw (drop-length, append-nil) refl; long = omega arith })
