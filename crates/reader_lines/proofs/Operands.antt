-- Laws of an operand by its letter and number. Assumes nothing.
use Prim.Native.Nat.{ℕ, ◌+◌, ◌≤◌, ◌<◌}
use native.Mathlib.Omega.{arith}
use mathlib.Core.Path.{◌≡◌, refl, sym, ap, ◌∙◌}
use mathlib.Core.Option.{none, some}
use mathlib.Core.List.{List}
use borrow.Author.Tests.{eq-eqb, ne_eqb, lt-ltb, le-ltb}
use lib.ListN.{length, get_or, get_or-eq_default}
use Rattle.std.specs.Prelude.{Option, Some, None}
use Rattle.questions.specs.Questions.{most_variables}
use Rattle.table.specs.State.{scratch_bytes}
use Rattle.text_grammar.specs.Grammar.{most_number}
use Rattle.text_grammar.specs.Reader.{Parse, read, stuck, bind, numeral_of}
use Rattle.text_grammar.specs.Numbers.{NumberRead, ByteRead}
use Rattle.text_grammar.specs.declared.Numeral.{Numeral}
use Rattle.list_definitions.specs.Instruction.{Operand, table_index, instruction_index, timer_number, operand_number}
use Rattle.list_ops.specs.declared.OperandSort.{OperandSort}
use Rattle.list_ops.specs.declared.OperandSort.TheVariants.{Table, Nothing, Instruction, Timer}
use Rattle.reader_definitions.specs.Reader.{given, lettered, operand_from}
use Rattle.reader_lines.specs.Parts.{sort_case, operand_case, LetterWithin, LetterParsed, OperandWithin, OperandParsed}
use Rattle.reader_lines.specs.declared.OperandAt.{OperandAt}

-- ---- a letter and a number

module _ (vars letter x n : ℕ) where
  got : (o : Operand) (k : OperandSort) (y : ℕ) → lettered vars letter x ≡ some o → k ≡ sort_case o → y ≡ operand_number o → y ≤ most_number
      → LetterParsed (lettered vars letter x) n (Some (record { sort = k; number = y; next = n }))
  unfolding given
  got o k y h i j m = record { same = rw (h, i, j) refl; within = (refl, m) }

  lost : lettered vars letter x ≡ none → LetterParsed (lettered vars letter x) n None
  unfolding given
  lost h = record { same = rw h refl; within = tt }

  pub v_number_lem : letter ≡ 118 → x < vars → vars ≤ most_variables → LetterParsed (lettered vars letter x) n (Some (record { sort = Table; number = x; next = n }))
  unfolding lettered operand_number
  v_number_lem z h few = got (table_index x) Table x (rw (z, lt-ltb x vars h) refl) refl refl (omega arith)

  pub v_large : letter ≡ 118 → vars ≤ x → LetterParsed (lettered vars letter x) n None
  unfolding lettered
  v_large z h = lost (rw (z, le-ltb x vars h) refl)

  pub t_number_lem : letter ≡ 116 → x < scratch_bytes → vars ≤ most_variables → LetterParsed (lettered vars letter x) n (Some (record { sort = Table; number = (vars + x); next = n }))
  unfolding lettered operand_number
  t_number_lem z h few = got (table_index (vars + x)) Table (vars + x) (rw (z, lt-ltb x scratch_bytes h) refl) refl refl (omega arith)

  pub t_large : letter ≡ 116 → scratch_bytes ≤ x → LetterParsed (lettered vars letter x) n None
  unfolding lettered
  t_large z h = lost (rw (z, le-ltb x scratch_bytes h) refl)

  pub at_number_lem : letter ≡ 64 → x ≤ most_number → LetterParsed (lettered vars letter x) n (Some (record { sort = Instruction; number = x; next = n }))
  unfolding lettered operand_number
  at_number_lem z m = got (instruction_index x) Instruction x (rw z refl) refl refl m

  pub d_number_lem : letter ≡ 100 → x ≤ most_number → LetterParsed (lettered vars letter x) n (Some (record { sort = Timer; number = x; next = n }))
  unfolding lettered operand_number
  d_number_lem z m = got (timer_number x) Timer x (rw z refl) refl refl m

  pub other_letter : (letter ≡ 118 → ⊥) → (letter ≡ 116 → ⊥) → (letter ≡ 64 → ⊥) → (letter ≡ 100 → ⊥) → LetterParsed (lettered vars letter x) n None
  unfolding lettered
  other_letter h i j k = lost (rw (ne_eqb letter 118 h, ne_eqb letter 116 i, ne_eqb letter 64 j, ne_eqb letter 100 k) refl)

-- ---- what stands after a name

module _ (vars : ℕ) (s : List ℕ) (at : ℕ) where
  pub no_space : ByteRead s at 32 None → OperandParsed (operand_from vars s at) s at (Some (record { sort = Nothing; number = 0; next = at }))
  unfolding operand_from operand_number
  no_space b = record { same = rw (ne_eqb (get_or s at 0) 32 b) refl; within = (omega arith, λ h. h, omega arith) }

  module _ (m : ℕ) (b : ByteRead s at 32 (Some m)) where
    after_space : operand_from vars s at ≡ bind (numeral_of s (m + 1)) (λ n x. given n (lettered vars (get_or s m 0) x))
    unfolding operand_from
    after_space =
        let z : at + 2 ≡ m + 1 = let e = b.0 in omega arith in
        rw (eq-eqb (get_or s at 0) 32 b.1, z, ← b.0) refl

    pub no_letter : length s ≤ m → OperandParsed (operand_from vars s at) s at None
    unfolding bind given lettered
    no_letter h = record { same = rw (after_space, get_or-eq_default s 0 {n = m} h) (go (numeral_of s (m + 1))); within = tt }
      where
        go : (r : Parse ℕ) → None ≡ operand_case (bind r (λ n x. given n (lettered vars 0 x)))
        go (read n x) = refl
        go (stuck m) = refl

    pub no_number : NumberRead s (m + 1) None → OperandParsed (operand_from vars s at) s at None
    unfolding bind
    no_number f = record { same = rw (after_space, ← f.same) refl; within = tt }

    pub numbered : (v : Numeral) → NumberRead s (m + 1) (Some v) → (c : ℕ) → c ≡ get_or s m 0 → (o : Option OperandAt)
        → LetterParsed (lettered vars c v.value) v.next o → OperandParsed (operand_from vars s at) s at o
    unfolding bind
    numbered v f c q o l = record { same = l.same ∙ ap operand_case (sym whole); within = go o l.within }
      where
        whole : operand_from vars s at ≡ given v.next (lettered vars c v.value)
        whole = rw (after_space, ← f.same, ← q) refl

        go : (o : Option OperandAt) → LetterWithin v.next o → OperandWithin s at o
        go (Some r) h =
            let b0 = b.0 in
            let f0 = f.within.0 in
            let f1 = f.within.1 in
            let h0 = h.0 in
            (omega arith, λ w. omega arith, h.1)
        go None h = tt
