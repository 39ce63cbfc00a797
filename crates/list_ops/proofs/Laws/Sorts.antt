-- Sorts of operands by tests of an op's number, and words in range by the sort of their op. Assumes nothing.
use Rattle.std.specs.Prelude.{Option as OptionCase, ℕ, zero, suc, ◌≤◌, ◌<◌, ◌≡◌, refl, Bool, true, false, eqb, leb, ltb, length, get_or}
use Rattle.std.proofs.Common.{arith, sym, ◌∙◌, true≢false, leb→le, le-leb}
use Rattle.std.proofs.Math.Decide.{ℕ_discrete, dec_le, dec_lt}
use Rattle.std.proofs.Math.Option.{Option, none, some}
use Rattle.std.proofs.Math.Dec.{eqb-suc-zero}
use Rattle.std.proofs.Math.ListN.{get_or-eq_default}
use Rattle.std.proofs.Math.Facts.{and_yes}
use Rattle.rungs.specs.Words.{number_of, operand_of}
use Rattle.rungs.proofs.Laws.Numbers.{Firsts, ◌then◌, past, every}
use Rattle.list_definitions.specs.Instruction.{Instr, operand, no_op, only_not, ops, decode_instr, OperandSort, table_sort, nothing_sort, instruction_sort, timer_sort, no_sort, sort_of, operand_sort}
use Rattle.list_definitions.specs.Questions.{operand_in_range, instr_in_range, word_in_range}
use Rattle.list_ops.specs.Sorts.{sort_in, within}
use Rattle.list_ops.specs.declared.OperandSort.{OperandSort as OperandSortCase}

table_sort_lem : (k : ℕ) → 1 ≤ k → k ≤ 10 → table_sort ≡ operand_sort k
unfolding operand_sort ops operand sort_of Firsts past
table_sort_lem = every 11 (λ k. 1 ≤ k → k ≤ 10 → table_sort ≡ operand_sort k)
    ((λ l h. absurd (omega arith)) then (λ l h. refl) then (λ l h. refl) then (λ l h. refl) then (λ l h. refl) then (λ l h. refl) then (λ l h. refl) then (λ l h. refl) then (λ l h. refl) then (λ l h. refl) then (λ l h. refl) then tt)
    (λ k l h. absurd (omega arith))

instruction_sort_lem : (k : ℕ) → 12 ≤ k → k ≤ 14 → instruction_sort ≡ operand_sort k
unfolding operand_sort ops operand sort_of
instruction_sort_lem k l h = go (ℕ_discrete k 12) (ℕ_discrete k 13)
  where
    go : Dec (k ≡ 12) → Dec (k ≡ 13) → instruction_sort ≡ operand_sort k
    go (yes e) d = rw e refl
    go (no e) (yes f) = rw f refl
    go (no e) (no f) = let g : k ≡ 14 = omega arith in rw g refl

latch_sort : (k : ℕ) → 15 ≤ k → k ≤ 16 → table_sort ≡ operand_sort k
unfolding operand_sort ops operand sort_of
latch_sort k l h = go (ℕ_discrete k 15)
  where
    go : Dec (k ≡ 15) → table_sort ≡ operand_sort k
    go (yes e) = rw e refl
    go (no e) = let g : k ≡ 16 = omega arith in rw g refl

-- before the first op and past the last there is no sort
no_sort_lem : (k : ℕ) → (1 ≤ k → k < length ops → ⊥) → no_sort ≡ operand_sort k
unfolding operand_sort ops
no_sort_lem zero h = refl
no_sort_lem (suc k) h = go (dec_lt (suc k) (length ops))
  where
    go : Dec (suc k < length ops) → no_sort ≡ operand_sort (suc k)
    go (yes l) = absurd (h (omega arith) l)
    go (no l) = rw (get_or-eq_default ops no_op {n = suc k} (omega arith), operand_sort)

-- ---- by a test of both bounds of a range

within_bounds : (a b k : ℕ) → within a b k ≡ true → (a ≤ k) × (k ≤ b)
unfolding within
within_bounds a b k e = let h = and_yes (leb a k) (leb k b) (rw e tt) in (leb→le a k h.0, leb→le k b h.1)

without : (a b k : ℕ) → within a b k ≡ false → a ≤ k → k ≤ b → ⊥
unfolding within
without a b k e l h = true≢false (sym (rw (le-leb a k l, le-leb k b h) refl) ∙ e)

pub table_tested : (k : ℕ) → within 1 10 k ≡ true → table_sort ≡ operand_sort k
table_tested k e = let h = within_bounds 1 10 k e in table_sort_lem k h.0 h.1

pub instruction_tested : (k : ℕ) → within 12 14 k ≡ true → instruction_sort ≡ operand_sort k
instruction_tested k e = let h = within_bounds 12 14 k e in instruction_sort_lem k h.0 h.1

pub latch_tested : (k : ℕ) → within 15 16 k ≡ true → table_sort ≡ operand_sort k
latch_tested k e = let h = within_bounds 15 16 k e in latch_sort k h.0 h.1

pub none_tested : (k : ℕ) → within 1 10 k ≡ false → (k ≡ 11 → ⊥) → within 12 14 k ≡ false → within 15 16 k ≡ false → (k ≡ 17 → ⊥) → no_sort ≡ operand_sort k
unfolding ops
none_tested k a n b c t = no_sort_lem k (λ l h. go l h (dec_le k 10) (dec_le k 14))
  where
    go : 1 ≤ k → k < length ops → Dec (k ≤ 10) → Dec (k ≤ 14) → ⊥
    go l h (yes p) d = without 1 10 k a l p
    go l h (no p) (yes q) = without 12 14 k b (omega (arith, n)) q
    go l h (no p) (no q) = without 15 16 k c (omega arith) (omega (arith, t))

-- an answer that is known to be one case
pub sort_told : {r x : OptionCase OperandSortCase} {s : OperandSort} → sort_in r ≡ s → r ≡ x → sort_in x ≡ s
sort_told e q = rw q at e

-- ---- words in range

-- a number that is an operand of a sort
unfoldable pub sort_in_range : ℕ → ℕ → OperandSort → ℕ → Bool
sort_in_range size n table_sort x = ltb x size
sort_in_range size n nothing_sort x = eqb x 0
sort_in_range size n instruction_sort x = leb x n
sort_in_range size n timer_sort x = true
sort_in_range size n no_sort x = false

range_by : ℕ → ℕ → Option Instr → Bool
range_by size n none = false
range_by size n (some i) = instr_in_range size n i

of_not : (size n x : ℕ) → range_by size n (only_not x) ≡ eqb x 0
unfolding range_by only_not operand operand_in_range
of_not size n zero = refl
of_not size n (suc x) = sym (eqb-suc-zero x)

of_op : (size n k x : ℕ) → range_by size n (get_or ops k no_op x) ≡ sort_in_range size n (operand_sort k) x
unfolding range_by sort_in_range operand_sort ops only_not operand sort_of operand_in_range Firsts past
of_op size n = every 18 (λ k. (x : ℕ) → range_by size n (get_or ops k no_op x) ≡ sort_in_range size n (operand_sort k) x)
    ((λ x. refl) then (λ x. refl) then (λ x. refl) then (λ x. refl) then (λ x. refl) then (λ x. refl) then (λ x. refl) then (λ x. refl) then (λ x. refl) then (λ x. refl) then (λ x. refl) then of_not size n then (λ x. refl) then (λ x. refl) then (λ x. refl) then (λ x. refl) then (λ x. refl) then (λ x. refl) then tt)
    (λ k x. refl)

pub word_by_sort : (size n w : ℕ) → word_in_range size n w ≡ sort_in_range size n (operand_sort (number_of w)) (operand_of w)
unfolding word_in_range decode_instr range_by
word_by_sort size n w = go (decode_instr w) refl ∙ of_op size n (number_of w) (operand_of w)
  where
    go : (o : Option Instr) → decode_instr w ≡ o → word_in_range size n w ≡ range_by size n (decode_instr w)
    go none e = rw (e, word_in_range)
    go (some i) e = rw (e, word_in_range)

pub word_told : (size n w : ℕ) {r x : OptionCase OperandSortCase} → sort_in r ≡ operand_sort (number_of w) → r ≡ x → sort_in_range size n (sort_in x) (operand_of w) ≡ word_in_range size n w
word_told size n w e q = rw (sort_told e q) (sym (word_by_sort size n w))
