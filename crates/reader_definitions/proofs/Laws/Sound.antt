-- What is read is in the form. Assumes nothing.
use Prim.Native.Nat.{ℕ, zero, suc, ◌+◌, ◌-◌, ◌≤◌, ◌<◌}
use native.Mathlib.Omega.{arith}
use Rattle.std.specs.Prelude.{◌≡◌, Bool, ◌&&◌, ltb, length, take, drop}
use Rattle.std.proofs.Math.Path.{refl}
use Rattle.std.proofs.Common.{sym, ap, subst, ◌∙◌, take_at}
use Rattle.std.proofs.Math.Bool.{true, false}
use Rattle.std.proofs.Math.Option.{Option, none, some}
use mathlib.Core.List.{List, [], ◌∷◌, ◌++◌, append_assoc, append-nil}
use borrow.Author.Tests.{eqb-true, ltb-true}
use Rattle.std.proofs.Math.Facts.{and_yes}
use Rattle.std.proofs.Math.Dec.{T, eqb, leb, leb→le}
use Rattle.std.proofs.Math.ListN.{get_or}
use Rattle.std.proofs.Math.Seq.{drop-length}
use Rattle.table.specs.State.{scratch_bytes}
use Rattle.text_grammar.specs.Grammar.{IsNumber}
use Rattle.text_grammar.specs.Reader.{pick, Parse, read, stuck, map_p, bind, followed, numeral_of}
use Rattle.text_grammar.proofs.Laws.Spans.{Span, span_none, span_byte, span_join, span_snoc}
use Rattle.text_grammar.proofs.Laws.Fits.{Fits, fits, begins, cases, number_fits}
use Rattle.list_definitions.specs.Instruction.{Instr, Operand, table_index, no_operand, instruction_index, timer_number}
use Rattle.list_definitions.specs.Names.{Names, name_bytes, is_capital}
use Rattle.reader_definitions.specs.Form.{ListRung, IsOperand, v_number, t_number, at_number, d_number, name_only, IsInstruction, instruction_line, IsLabel, label_line, IsCode, no_line, more_line, IsRung, rung_lines, IsListText, one_rung, more_rungs}
use Rattle.reader_definitions.specs.Reader.{letters_from, between, given, below, lettered, operand_from, instr_named, instruction_from, opens_label, label_from, code_from, list_rung, rung_from, rungs_from, list_text_of}
use Rattle.reader_definitions.proofs.Laws.Operands.{operand_small, named_sound}

-- what is read from a position on belongs to N
pub data Reads {A : Type 0} (N : List ℕ → A → Type 0) (s : List ℕ) (at : ℕ) : Parse A → Type 0 where
  reads : {m : ℕ} {a : A} (w : List ℕ) → Span s at m w → N w a → Reads N s at (read m a)
  halts : {p : ℕ} → Reads N s at (stuck p)

from_fits : {A : Type 0} {N : List ℕ → A → Type 0} {s : List ℕ} {at : ℕ} {p : Parse A} → Fits N s at p → Reads N s at p
from_fits (fits w z x) = reads w z x
from_fits (begins w rest a z x) = halts

reads_map : {A B : Type 0} {N : List ℕ → A → Type 0} (L : List ℕ → B → Type 0) {s : List ℕ} {at : ℕ} {p : Parse A} (f : A → B)
    → ((w : List ℕ) (a : A) → N w a → L w (f a)) → Reads N s at p → Reads L s at (map_p f p)
unfolding map_p
reads_map L f h (reads w z x) = reads w z (h w _ x)
reads_map L f h halts = halts

-- before a last byte
reads_followed : {A : Type 0} {N : List ℕ → A → Type 0} (L : List ℕ → A → Type 0) {s : List ℕ} {at : ℕ} {p : Parse A} (b : ℕ) → 0 < b
    → ((w : List ℕ) (a : A) → N w a → L (w ++ (b ∷ [])) a) → Reads N s at p → Reads L s at (followed s b p)
unfolding followed
reads_followed L {s} {at} b g h (reads {m} {a} w z x) = cases (Reads L s at) (eqb (get_or s m 0) b) (read (m + 1) a) (stuck m)
    (λ t. reads (w ++ (b ∷ [])) (span_snoc b g z (eqb-true _ _ t)) (h w a x))
    (λ t. halts)
reads_followed L b g h halts = halts

-- one part and then another
reads_bind : {A B : Type 0} {N : List ℕ → A → Type 0} (M : A → List ℕ → B → Type 0) (L : List ℕ → B → Type 0) {s : List ℕ} {at : ℕ} {p : Parse A} (rest : ℕ → A → Parse B)
    → ((w v : List ℕ) (a : A) (b : B) → N w a → M a v b → L (w ++ v) b) → Reads N s at p → ((m : ℕ) (a : A) → Reads (M a) s m (rest m a)) → Reads L s at (bind p rest)
unfolding bind
reads_bind M L {s} {at} rest join (reads {m} {a} w z x) h = go (rest m a) (h m a)
  where
    go : (y : Parse _) → Reads (M a) s m y → Reads L s at y
    go y (reads v z' x') = reads (w ++ v) (span_join z z') (join w v a _ x x')
    go y halts = halts
reads_bind M L rest join halts h = halts

-- the bytes that stand from at up to n
pub between_is : (s : List ℕ) (at n : ℕ) (w : List ℕ) → Span s at n w → between s at n ≡ w
between_is s at n w z = ap (take (n - at)) z.cut ∙ take_at w (drop n s) (n - at) (let l = z.long in omega arith)

module _ (s : List ℕ) where
  number_reads : (at : ℕ) → Reads IsNumber s at (numeral_of s at)
  number_reads at = from_fits (number_fits s at)

  letters_span : (k at : ℕ) → (w : List ℕ) × Span s at (letters_from s k at) w
  unfolding letters_from is_capital
  letters_span zero at = ([], span_none)
  letters_span (suc k) at = go (is_capital (get_or s at 0)) refl (letters_span k (at + 1))
    where
      go : (b : Bool) → is_capital (get_or s at 0) ≡ b → (w : List ℕ) × Span s (at + 1) (letters_from s k (at + 1)) w
          → (w : List ℕ) × Span s at (pick b (letters_from s k (at + 1)) at) w
      go true e ih =
          let c = get_or s at 0 in
          let t : T (leb 65 c && leb c 90) = rw e tt in
          let l = leb→le 65 c (and_yes (leb 65 c) (leb c 90) t).0 in
          (c ∷ ih.0, span_join (span_byte c (omega arith) refl) ih.1)
      go false e ih = ([], span_none)

  name_span : (at : ℕ) → Span s at (letters_from s name_bytes at) (between s at (letters_from s name_bytes at))
  name_span at = let x = letters_span name_bytes at in rw (between_is s at (letters_from s name_bytes at) x.0 x.1) x.1

  module _ (vars : ℕ) where
    lettered_reads : (at n x : ℕ) (w : List ℕ) → get_or s at 0 ≡ 32 → Span s (at + 1 + 1) n w → IsNumber w x
        → Reads (IsOperand vars) s at (given n (lettered vars (get_or s (at + 1) 0) x))
    unfolding lettered given
    lettered_reads at n x w e z y =
        let c = get_or s (at + 1) 0 in
        let P : Option Operand → Type 0 = λ o. Reads (IsOperand vars) s at (given n o) in
        let one : (b : ℕ) → 0 < b → eqb c b ≡ true → (o : Operand) → IsOperand vars (32 ∷ b ∷ w) o → P (some o) =
        λ b g t o i. reads (32 ∷ b ∷ w) (span_join (span_byte 32 (omega arith) e) (span_join (span_byte b g (eqb-true c b t)) z)) i in
        cases P (eqb c 118) (below x vars (table_index x)) _
        (λ t. cases P (ltb x vars) (some (table_index x)) none (λ u. one 118 (omega arith) t (table_index x) (v_number y (ltb-true x vars u))) (λ u. halts)) (λ t.
        cases P (eqb c 116) (below x scratch_bytes (table_index (vars + x))) _
        (λ t. cases P (ltb x scratch_bytes) (some (table_index (vars + x))) none (λ u. one 116 (omega arith) t (table_index (vars + x)) (t_number y (ltb-true x scratch_bytes u))) (λ u. halts)) (λ t.
        cases P (eqb c 64) (some (instruction_index x)) _ (λ t. one 64 (omega arith) t (instruction_index x) (at_number y)) (λ t.
        cases P (eqb c 100) (some (timer_number x)) none (λ t. one 100 (omega arith) t (timer_number x) (d_number y)) (λ t. halts))))

    numbered_reads : (at : ℕ) → get_or s at 0 ≡ 32 → (p : Parse ℕ) → Reads IsNumber s (at + 2) p
        → Reads (IsOperand vars) s at (bind p (λ n x. given n (lettered vars (get_or s (at + 1) 0) x)))
    unfolding bind
    numbered_reads at e p (reads {m = n} {a = x} w z y) = let q : at + 2 ≡ at + 1 + 1 = omega arith in lettered_reads at n x w e (rw q at z) y
    numbered_reads at e p halts = halts

    operand_reads : (at : ℕ) → Reads (IsOperand vars) s at (operand_from vars s at)
    unfolding operand_from
    operand_reads at =
        cases (Reads (IsOperand vars) s at) (eqb (get_or s at 0) 32) _ (read at no_operand)
        (λ t. numbered_reads at (eqb-true _ _ t) (numeral_of s (at + 2)) (number_reads (at + 2)))
        (λ t. reads [] span_none name_only)

    module _ (names : Names) (few : vars ≤ 1024) where
      -- a line but for its LF
      Line : List ℕ → Instr → Type 0
      Line w i = IsInstruction names vars (w ++ 10 ∷ []) i

      named_reads : (at n : ℕ) (u : List ℕ) → Span s at n u → (p : Parse Operand) → Reads (IsOperand vars) s n p → Reads Line s at (bind p (λ m o. given m (instr_named names u o)))
      unfolding bind given Line
      named_reads at n u v p (reads {m = m} {a = o} w z x) = go (instr_named names u o) refl
        where
          go : (y : Option Instr) → instr_named names u o ≡ y → Reads Line s at (given m y)
          go none e = halts
          go (some i) e =
              let d = named_sound names u o i (operand_small few x) e in
              let line : IsInstruction names vars (u ++ w ++ 10 ∷ []) i = rw (append_assoc u w (10 ∷ []), d.0) (instruction_line {s = w} {i = i} (rw d.1 x)) in
              reads (u ++ w) (span_join v z) line
      named_reads at n u v p halts = halts

      instruction_reads : (at : ℕ) → Reads (IsInstruction names vars) s at (instruction_from names vars s at)
      unfolding instruction_from Line
      instruction_reads at =
          let n = letters_from s name_bytes at in
          reads_followed (IsInstruction names vars) 10 (omega arith) (λ w i x. x) (named_reads at n (between s at n) (name_span at) (operand_from vars s n) (operand_reads n))

      code_reads : (k at : ℕ) → Reads (IsCode names vars) s at (code_from names vars s k at)
      unfolding code_from
      code_reads zero at = halts
      code_reads (suc k) at =
          let P = Reads (IsCode names vars) s at in
          let After : Instr → List ℕ → List Instr → Type 0 = λ i v is. (w : List ℕ) → IsInstruction names vars w i → IsCode names vars (w ++ v) is in
          cases P (opens_label s at) (read at []) _ (λ t. reads [] span_none no_line) (λ t.
          cases P (eqb at (length s)) (read at []) _ (λ t. reads [] span_none no_line) (λ t.
          reads_bind After (IsCode names vars) (λ n i. map_p (λ is. i ∷ is) (code_from names vars s k n)) (λ w v i is x y. y w x) (instruction_reads at)
          (λ n i. reads_map (After i) (λ is. i ∷ is) (λ v is y w x. more_line x y) (code_reads k n))))

      label_reads : (at : ℕ) → Reads IsLabel s at (label_from s at)
      unfolding label_from
      label_reads at =
          cases (Reads IsLabel s at) (eqb (get_or s at 0) 76) (followed s 10 (followed s 58 (numeral_of s (at + 1)))) (stuck at)
          (λ t. lined (eqb-true _ _ t) (reads_followed (λ w l. IsLabel (76 ∷ w) l) 10 (omega arith) (λ w l x. x)
          (reads_followed (λ w l. IsLabel (76 ∷ (w ++ 10 ∷ [])) l) 58 (omega arith) (λ w l x. rw append_assoc (label_line x)) (number_reads (at + 1)))))
          (λ t. halts)
        where
          lined : {p : Parse ℕ} → get_or s at 0 ≡ 76 → Reads (λ w l. IsLabel (76 ∷ w) l) s (at + 1) p → Reads IsLabel s at p
          lined e (reads w z x) = reads (76 ∷ w) (span_join (span_byte 76 (omega arith) e) z) x
          lined e halts = halts

      rung_reads : (at : ℕ) → Reads (IsRung names vars) s at (rung_from names vars s at)
      unfolding rung_from
      rung_reads at =
          let After : ℕ → List ℕ → ListRung → Type 0 = λ l v g. (w : List ℕ) → IsLabel w l → IsRung names vars (w ++ v) g in
          reads_bind After (IsRung names vars) (λ n l. map_p (list_rung l) (code_from names vars s (suc (length s)) n)) (λ w v l g x y. y w x) (label_reads at)
          (λ n l. reads_map (After l) (list_rung l) (λ v is y w x. rung_lines x y) (code_reads (suc (length s)) n))

      rungs_read : (k at : ℕ) → Reads (IsListText names vars) s at (rungs_from names vars s k at)
      unfolding rungs_from
      rungs_read zero at = halts
      rungs_read (suc k) at =
          let After : ListRung → List ℕ → List ListRung → Type 0 = λ g v gs. (w : List ℕ) → IsRung names vars w g → IsListText names vars (w ++ v) gs in
          let more : ℕ → ListRung → Parse (List ListRung) = λ n g. map_p (λ gs. g ∷ gs) (rungs_from names vars s k n) in
          reads_bind After (IsListText names vars) (λ n g. pick (eqb n (length s)) (read n (g ∷ [])) (more n g)) (λ w v g gs x y. y w x) (rung_reads at)
          (λ n g. cases (Reads (After g) s n) (eqb n (length s)) (read n (g ∷ [])) (more n g)
          (λ t. reads [] span_none (λ w x. rw append-nil (one_rung x)))
          (λ t. reads_map (After g) (λ gs. g ∷ gs) (λ v gs y w x. more_rungs x y) (rungs_read k n)))

    -- what is read is read whole
    abbrev Whole : {A : Type 0} → Parse A → Type 0
    Whole (read n a) = n ≡ length s
    Whole (stuck p) = Unit {0}

    whole_map : {A B : Type 0} (f : A → B) (p : Parse A) → Whole p → Whole (map_p f p)
    unfolding map_p
    whole_map f (read n a) h = h
    whole_map f (stuck p) h = tt

    rungs_end : (names : Names) (k at : ℕ) → Whole (rungs_from names vars s k at)
    unfolding rungs_from bind
    rungs_end names zero at = tt
    rungs_end names (suc k) at = go (rung_from names vars s at) (λ n. rungs_end names k n)
      where
        go : (p : Parse ListRung) → ((n : ℕ) → Whole (rungs_from names vars s k n))
            → Whole (bind p (λ n g. pick (eqb n (length s)) (read n (g ∷ [])) (map_p (λ gs. g ∷ gs) (rungs_from names vars s k n))))
        go (read n g) ih = cases Whole (eqb n (length s)) (read n (g ∷ [])) _ (λ t. eqb-true _ _ t) (λ t. whole_map (λ gs. g ∷ gs) (rungs_from names vars s k n) (ih n))
        go (stuck p) ih = tt

-- a text that is read is in the form, with those rungs, and it is read whole
pub sound : (names : Names) (vars : ℕ) (s : List ℕ) (n : ℕ) (gs : List ListRung) → vars ≤ 1024 → list_text_of names vars s ≡ read n gs → (n ≡ length s) × IsListText names vars s gs
unfolding list_text_of
sound names vars s n gs few e =
    let l : n ≡ length s = subst (Whole s vars) e (rungs_end s vars names (suc (length s)) 0) in
    (l, go l (subst (Reads (IsListText names vars) s 0) e (rungs_read s vars names few (suc (length s)) 0)))
  where
    go : n ≡ length s → Reads (IsListText names vars) s 0 (read n gs) → IsListText names vars s gs
    go l (reads w z x) =
        let y : s ≡ w = z.cut ∙ (ap (λ i. w ++ drop i s) l ∙ (ap (λ r. w ++ r) (drop-length s) ∙ append-nil w)) in
        subst (λ r. IsListText names vars r gs) (sym y) x
