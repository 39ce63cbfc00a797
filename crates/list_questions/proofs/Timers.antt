-- Laws of question 17: words compared with the last before those of a TON without a record. Assumes nothing.
use Prim.Native.Nat.{ℕ, ◌-◌, ◌≤◌, ◌<◌, min}
use Rattle.std.specs.List.{fold}
use Rattle.std.proofs.Math.Bool.{and_assoc}
use native.Mathlib.Omega.{arith}
use native.Mathlib.Decide.{dec_lt}
use mathlib.Core.Path.{◌≡◌, refl, sym, ap, ◌∙◌}
use mathlib.Core.Bool.{Bool, true, ◌&&◌, and-true}
use mathlib.Core.Option.{Option, none, some}
use mathlib.Core.List.{List, [], ◌∷◌}
use lib.Dec.{T, leb, ltb}
use borrow.Author.Tests.{le-leb, lt-leb, lt-ltb, le-ltb}
use Rattle.questions.specs.Tests.{all}
use Rattle.questions.proofs.Laws.Tests.{none_some}
use Rattle.rungs.specs.Words.{operands, word}
use Rattle.list_definitions.specs.Instruction.{Instr, LD, LDN, ST, STN, AND, ANDN, OR, ORN, XOR, XORN, NOT, JMP, JMPC, JMPCN, S, R, TON, operand, op_of, operand_number, instr_word, instr_fits, decode_instr, decode_code}
use Rattle.list_definitions.proofs.Laws.Decoding.{number_small, instr_decoded}
use Rattle.list_definitions.specs.Questions.{operand_timed, timers_known}
use Rattle.list_questions.specs.Parts.{last_known, TimersAsked}

-- ---- the last word

pub last_least_of : (records : ℕ) → word 17 (min records operands) - 1 ≡ last_known records
unfolding last_known instr_word op_of operand operand_number
last_least_of records = elim (dec_lt records operands) [
  | yes h ↦ rw (lt-ltb records operands h, min_few records h) refl
  | no h ↦ rw (le-ltb records operands (omega arith), min_many records (omega arith)) refl
]
  where
    min_few : (k : ℕ) → k < operands → min k operands ≡ k
    min_few k l = omega arith

    min_many : (k : ℕ) → operands ≤ k → min k operands ≡ operands
    min_many k l = omega arith

last_few : (records : ℕ) → records < operands → word 17 records - 1 ≡ last_known records
unfolding last_known instr_word op_of operand operand_number
last_few records h = rw (lt-ltb records operands h) refl

last_many : (records : ℕ) → operands ≤ records → word 17 operands - 1 ≡ last_known records
unfolding last_known instr_word op_of operand operand_number
last_many records h = rw (le-ltb records operands h) refl

-- ---- one word

module _ (records : ℕ) where
  last_least : word 17 0 - 1 ≤ last_known records
  last_least = elim (dec_lt records operands) [
    | yes h ↦ omega (arith, last_few records h)
    | no h ↦ omega (arith, last_many records (omega arith))
  ]

  -- a word of another op
  other_op : (w : ℕ) → w < word 17 0 → leb w (last_known records) ≡ true
  other_op w h = le-leb w (last_known records) (omega (arith, last_least))

  timer_op : (n : ℕ) → n < operands → leb (word 17 n) (last_known records) ≡ ltb n records
  timer_op n h = elim (dec_lt records operands) [
    | yes few ↦ let e = last_few records few in elim (dec_lt n records) [
      | yes l ↦ le-leb (word 17 n) (last_known records) (omega arith) ∙ sym (lt-ltb n records l)
      | no l ↦ lt-leb (word 17 n) (last_known records) (omega arith) ∙ sym (le-ltb n records (omega arith))
    ]
    | no many ↦ let e = last_many records (omega arith) in le-leb (word 17 n) (last_known records) (omega arith) ∙ sym (lt-ltb n records (omega arith))
  ]

  instr_timed : (i : Instr) → T (instr_fits i) → leb (instr_word i) (last_known records) ≡ operand_timed records (operand i)
  unfolding instr_word op_of operand operand_number operand_timed instr_fits
  instr_timed (LD x) h = other_op _ (let s = number_small _ h in omega arith)
  instr_timed (LDN x) h = other_op _ (let s = number_small _ h in omega arith)
  instr_timed (ST x) h = other_op _ (let s = number_small _ h in omega arith)
  instr_timed (STN x) h = other_op _ (let s = number_small _ h in omega arith)
  instr_timed (AND x) h = other_op _ (let s = number_small _ h in omega arith)
  instr_timed (ANDN x) h = other_op _ (let s = number_small _ h in omega arith)
  instr_timed (OR x) h = other_op _ (let s = number_small _ h in omega arith)
  instr_timed (ORN x) h = other_op _ (let s = number_small _ h in omega arith)
  instr_timed (XOR x) h = other_op _ (let s = number_small _ h in omega arith)
  instr_timed (XORN x) h = other_op _ (let s = number_small _ h in omega arith)
  instr_timed NOT h = other_op _ (omega arith)
  instr_timed (JMP j) h = other_op _ (let s = number_small _ h in omega arith)
  instr_timed (JMPC j) h = other_op _ (let s = number_small _ h in omega arith)
  instr_timed (JMPCN j) h = other_op _ (let s = number_small _ h in omega arith)
  instr_timed (S x) h = other_op _ (let s = number_small _ h in omega arith)
  instr_timed (R x) h = other_op _ (let s = number_small _ h in omega arith)
  instr_timed (TON n) h = timer_op n (number_small _ h)

  -- ---- all words

  words_timed : (ws : List ℕ) (is : List Instr) → decode_code ws ≡ some is → all (λ w. leb w (last_known records)) ws ≡ timers_known records is
  unfolding decode_code timers_known
  words_timed [] is e = let z : ◌≡◌ {A = List Instr} [] is = cc in rw (← z) refl
  words_timed (w ∷ ws) is e = go (decode_instr w) refl (decode_code ws) refl (λ js. words_timed ws js)
    where
      go : (x : Option Instr) → decode_instr w ≡ x → (y : Option (List Instr)) → decode_code ws ≡ y
          → ((js : List Instr) → decode_code ws ≡ some js → all (λ w. leb w (last_known records)) ws ≡ timers_known records js)
          → all (λ w. leb w (last_known records)) (w ∷ ws) ≡ timers_known records is
      go none p y q ih = let z : decode_code (w ∷ ws) ≡ none = rw (p, decode_code) in absurd (none_some (sym z ∙ e))
      go (some i) p none q ih = let z : decode_code (w ∷ ws) ≡ none = rw (p, decode_code) (rw q) in absurd (none_some (sym z ∙ e))
      go (some i) p (some js) q ih =
          let z : decode_code (w ∷ ws) ≡ some (i ∷ js) = rw (p, decode_code) (rw q) in
          let s : ◌≡◌ {A = List Instr} (i ∷ js) is = cc in
          let d = instr_decoded w i p in
          rw (← s, d.0, instr_timed i d.1, ih js q) refl

-- ---- the fold

fold_all : (test : ℕ → Bool) (a : Bool) (ws : List ℕ) → fold (λ known w. known && test w) a ws ≡ (a && all test ws)
fold_all test a [] = sym (and-true a)
fold_all test a (w ∷ ws) = fold_all test (a && test w) ws ∙ and_assoc a (test w) (all test ws)

pub asked : (ws : List ℕ) (records last : ℕ) → last ≡ last_known records → {r : Bool} → r ≡ fold (λ known w. known && leb w last) true ws → TimersAsked ws records r
asked ws records last e f = record { same = λ is d. f ∙ (fold_all (λ w. leb w last) true ws ∙ (ap (λ m. all (λ w. leb w m) ws) e ∙ words_timed records ws is d)) }
