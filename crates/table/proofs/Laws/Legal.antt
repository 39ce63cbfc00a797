-- A write leaves a legal table legal. Assumes nothing.
use Rattle.std.specs.Prelude.{ℕ, zero, suc, ◌≡◌, Bool, true, false, List, [], ◌∷◌, T, eqb, length, set}
use Rattle.std.proofs.Math.Option.{none}
use Rattle.std.proofs.Common.{length-set}
use Rattle.std.proofs.Math.Facts.{and_yes, yes_and}
use Rattle.questions.specs.Tests.{all, bit}
use Rattle.questions.proofs.Laws.Tests.{all_head, all_tail, all_cons}
use Rattle.questions.proofs.Laws.Answers.{ask_passed, passed_ask}
use Rattle.table.specs.State.{State, table_size, written_at}
use Rattle.table.specs.Questions.{is_bit, table_in_range, question11, Legal}

-- a table that question 11 takes
abbrev pub LegalTable : ℕ → List ℕ → Type 0
LegalTable vars table = question11 vars table ≡ none

pub legal_table : (s : State) → Legal s → LegalTable s.vars s.bytes
unfolding question11 table_in_range
legal_table s h = h.table

bit_fits : (b : Bool) → T (is_bit (bit b))
bit_fits true = tt
bit_fits false = tt

bits_written : (table : List ℕ) (i : ℕ) (b : Bool) → T (all is_bit table) → T (all is_bit (set table i (bit b)))
bits_written [] i b h = h
bits_written (x ∷ xs) zero b h = all_cons is_bit (bit b) xs (bit_fits b) (all_tail is_bit x xs h)
bits_written (x ∷ xs) (suc i) b h = all_cons is_bit x (set xs i (bit b)) (all_head is_bit x xs h) (bits_written xs i b (all_tail is_bit x xs h))

module _ (vars : ℕ) where
  pub written_legal : (table : List ℕ) (i : ℕ) (b : Bool) → LegalTable vars table → LegalTable vars (written_at table i b)
  unfolding question11 table_in_range written_at
  written_legal table i b h =
      let p = and_yes (eqb (length table) (table_size vars)) (all is_bit table) (ask_passed 11 _ h) in
      passed_ask 11 _ (yes_and (eqb (length (set table i (bit b))) (table_size vars)) (all is_bit (set table i (bit b)))
      (rw (length-set table i (bit b)) p.0) (bits_written table i b p.1))
