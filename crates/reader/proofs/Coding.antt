-- Laws of instruction lines that are kept as words one after the other. Assumes nothing.
use Prim.Native.Nat.{ℕ, zero, suc, ◌+◌, ◌≤◌}
use native.Mathlib.Omega.{arith}
use mathlib.Core.Path.{◌≡◌, refl, sym, ap, ◌∙◌}
use mathlib.Core.Bool.{Bool, true, false}
use mathlib.Core.List.{List, [], ◌∷◌, ◌++◌, map, map-append, append-nil}
use borrow.Author.Tests.{eq-eqb, ne_eqb}
use lib.ListN.{length, set, length-append, length-map, length-set}
use lib.Seq.{sets}
use Rattle.questions.proofs.Laws.Stores.{sets_append}
use Rattle.text_grammar.specs.Reader.{Parse, read, stuck, map_p, bind}
use Rattle.text_grammar.proofs.Laws.Parses.{same_tree, not_both, map_none, map_more, bind_stuck, bind_read, map_stuck}
use Rattle.list_definitions.specs.Instruction.{Instr, instr_word}
use Rattle.list_definitions.specs.Names.{Names}
use Rattle.reader_definitions.specs.Reader.{instruction_from, opens_label, code_from}
use Rattle.std.specs.Prelude.{Some, None}
use Rattle.reader_lines.specs.Parts.{line_case, LineParsed}
use Rattle.reader_lines.specs.declared.LineAt.{LineAt}
use Rattle.reader.specs.Parts.{CodeParsed}

-- ---- what an answer tells of the reader

line_got : (p : Parse Instr) (l : LineAt) → Some l ≡ line_case p → (i : Instr) × (p ≡ read l.next i) × (instr_word i ≡ l.word)
line_got (read m i) l e = let q : l ≡ record { word = instr_word i; next = m } = cc in (i, rw q refl, rw q refl)
line_got (stuck m) l e = let z : ◌≡◌ {A = ℕ} 0 1 = cc in absurd (omega arith)

line_lost : (p : Parse Instr) → None ≡ line_case p → (m : ℕ) × (p ≡ stuck m)
line_lost (read m i) e = let z : ◌≡◌ {A = ℕ} 0 1 = cc in absurd (omega arith)
line_lost (stuck m) e = (m, refl)

-- one word more after those before
store_more : (e : List ℕ) (put : ℕ) (done : List Instr) (i : Instr) (x y : List ℕ) (count word : ℕ) → x ≡ sets e put (map instr_word done) → count ≡ length done → instr_word i ≡ word
    → y ≡ set x (put + count) word → y ≡ sets e put (map instr_word (done ++ i ∷ []))
store_more e put done i x y count word p c q stored =
    let long : count ≡ length (map instr_word done) = c ∙ sym (length-map done instr_word) in
    stored ∙ (rw (p, long, ← q) (sym (sets_append e put (map instr_word done) (instr_word i ∷ []))) ∙ ap (sets e put) (sym (map-append instr_word done (i ∷ []))))

-- ---- the loop over lines: the instructions before what the lines that follow give are the code, and they are kept

pub record Coding (names : Names) (vars : ℕ) (s : List ℕ) (at put : ℕ) (e x : List ℕ) (next count : ℕ) : Type 0 where
  pub left : ℕ
  pub done : List Instr
  pub same : map_p (λ is. done ++ is) (code_from names vars s (suc left) next) ≡ code_from names vars s (suc (length s)) at
  pub enough : length s ≤ next + left
  pub within : next ≤ length s
  pub counted : count ≡ length done
  pub ahead : at + count ≤ next
  pub out : x ≡ sets e put (map instr_word done)
  pub long : length x ≡ length e

pub coding_start : (names : Names) (vars : ℕ) (s : List ℕ) (at put : ℕ) (e : List ℕ) → at ≤ length s → Coding names vars s at put e e at 0
coding_start names vars s at put e h =
    record {
      left = length s;
      done = [];
      same = map_none (code_from names vars s (suc (length s)) at);
      enough = omega arith;
      within = h;
      counted = refl;
      ahead = omega arith;
      out = refl;
      long = refl;
    }

module _ (names : Names) (vars : ℕ) (s : List ℕ) (at put : ℕ) (e x : List ℕ) (next count : ℕ) (h : Coding names vars s at put e x next count) where
  ended : code_from names vars s (suc h.left) next ≡ read next [] → CodeParsed (code_from names vars s (suc (length s)) at) s at (Some (record { next = next; count = count })) put e x
  unfolding map_p
  ended q =
      let whole : code_from names vars s (suc (length s)) at ≡ read next h.done = sym h.same ∙ rw q (ap (read next) (append-nil h.done)) in
      record {
        same = rw (whole, h.counted) refl;
        within = (h.ahead, h.within);
        out = λ n is b. let k : h.done ≡ is = same_tree (sym whole ∙ b) in h.out ∙ ap (λ d. sets e put (map instr_word d)) k;
      }

  pub code_at_label : (o : Bool) → o ≡ opens_label s next → o ≡ true
      → CodeParsed (code_from names vars s (suc (length s)) at) s at (Some (record { next = next; count = count })) put e x
  unfolding code_from
  code_at_label o p q = ended (rw (← p, q) refl)

  pub code_at_end : (o : Bool) → o ≡ opens_label s next → o ≡ false → next ≡ length s
      → CodeParsed (code_from names vars s (suc (length s)) at) s at (Some (record { next = next; count = count })) put e x
  unfolding code_from
  code_at_end o p q z = ended (rw (← p, q, eq-eqb next (length s) z) refl)

  module _ (o : Bool) (p : o ≡ opens_label s next) (q : o ≡ false) (z : next ≡ length s → ⊥) where
    code_next : code_from names vars s (suc h.left) next ≡ bind (instruction_from names vars s next) (λ n i. map_p (λ is. i ∷ is) (code_from names vars s h.left n))
    unfolding code_from
    code_next = rw (← p, q, ne_eqb next (length s) z) refl

    pub code_stuck : LineParsed (instruction_from names vars s next) s next None → (last : List ℕ)
        → CodeParsed (code_from names vars s (suc (length s)) at) s at None put e last
    unfolding map_p bind
    code_stuck f last =
        let m = line_lost (instruction_from names vars s next) f.same in
        let a : code_from names vars s (suc h.left) next ≡ stuck m.0 = code_next ∙ bind_stuck (instruction_from names vars s next) _ m.0 m.1 in
        let whole : code_from names vars s (suc (length s)) at ≡ stuck m.0 = sym h.same ∙ map_stuck (λ is. h.done ++ is) _ m.0 a in
        record { same = rw whole refl; within = tt; out = λ n is b. absurd (not_both _ _ _ _ whole b) }

    pub code_more : (l : LineAt) → LineParsed (instruction_from names vars s next) s next (Some l) → (y : List ℕ) → y ≡ set x (put + count) l.word
        → Coding names vars s at put e y l.next (count + 1)
    unfolding bind map_p
    code_more l f y stored =
        let b0 = f.within.0 in
        let b1 = f.within.1 in
        let g = line_got (instruction_from names vars s next) l f.same in
        let i = g.0 in
        let done = h.done in
        let en = h.enough in
        let ah = h.ahead in
        let c = h.counted in
        let less = pred_left h.left (omega arith) in
        let step : code_from names vars s (suc h.left) next ≡ map_p (λ is. i ∷ is) (code_from names vars s h.left l.next) = code_next ∙ bind_read (instruction_from names vars s next) _ l.next i g.1 in
        let l1 = length-append done (i ∷ []) in
        record {
          left = less.0;
          done = done ++ i ∷ [];
          same = rw (← less.1) (sym (map_more done i (code_from names vars s h.left l.next)) ∙ (ap (map_p (λ is. done ++ is)) (sym step) ∙ h.same));
          enough = let u = less.1 in omega arith;
          within = b1;
          counted = omega arith;
          ahead = omega arith;
          out = store_more e put done i x y count l.word h.out c g.2 stored;
          long = ap length stored ∙ (length-set x (put + count) l.word ∙ h.long);
        }
      where
        pred_left : (k : ℕ) → 1 ≤ k → (j : ℕ) × (k ≡ suc j)
        pred_left zero h = absurd (omega arith)
        pred_left (suc j) h = (j, refl)
