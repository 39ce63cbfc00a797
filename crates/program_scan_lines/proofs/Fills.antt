-- Laws of the variables line, taken byte by byte into a table. Assumes nothing.
use mathlib.Core.Path.{◌≡◌, refl, ap, sym, ◌∙◌}
use mathlib.Core.Bool.{Bool, true, false}
use mathlib.Core.List.{List, [], ◌∷◌}
use Prim.Native.Nat.{ℕ, suc, ◌+◌, ◌-◌, ◌≤◌, ◌<◌}
use native.Mathlib.Numerals.{add-one}
use native.Mathlib.Omega.{arith}
use lib.ListN.{length, length-set, get_or, drop, replicate, drop_of_length-le}
use lib.Seq.{drop-cons}
use Rattle.questions.specs.Bytes.{byte}
use Rattle.program_definitions.specs.Lines.{first_line, text_after}
use Rattle.program_definitions.specs.Lines.{table_of}
use Rattle.program_scan_lines.specs.Parts.{taken, no_variables, next_variable, next_table, TableTaken}
use Rattle.std.specs.Prelude.{Option, Some, None}
use Rattle.program_numbers.proofs.Lines.{at_break, rest_break, at_other, rest_other, line_none_left, rest_none_left}
use Rattle.program_scan_lines.proofs.Tables.{fill, fill_more, fill_end, shown, shown_bytes, filled_table}

next_long : (v : Option ℕ) (vars b : ℕ) (t : List ℕ) → length (next_table v vars b t) ≡ length t
unfolding next_table
next_long None vars b t = refl
next_long (Some c) vars b t = go (taken c vars b) refl
  where
    go : (x : Bool) → taken c vars b ≡ x → length (next_table (Some c) vars b t) ≡ length t
    go true e = rw (e, next_table) (length-set t c (b - byte "0"))
    go false e = rw (e, next_table) refl

pub record Filling (input : List ℕ) (from vars : ℕ) (t u : List ℕ) (v : Option ℕ) (i : ℕ) : Type 0 where
  pub within : from ≤ length input → i ≤ length input
  pub long : length u ≡ length t
  pub left : fill vars v u (first_line (drop i input)) ≡ fill vars no_variables t (first_line (drop from input))
  pub rest : text_after (drop i input) ≡ text_after (drop from input)

module _ {input : List ℕ} {from vars : ℕ} {t u : List ℕ} {v : Option ℕ} {i : ℕ} (h : Filling input from vars t u v i) where
  pub filling_more : (w : Option ℕ) (x : List ℕ) → i < length input → (get_or input i 0 ≡ 10 → ⊥)
      → (w ≡ next_variable v vars (get_or input i 0)) × (x ≡ next_table v vars (get_or input i 0) u) → Filling input from vars t x w (i + 1)
  filling_more w x k n e =
      let b = get_or input i 0 in
      let later = drop (suc i) input in
      let d : drop i input ≡ b ∷ later = drop-cons input i 0 k in
      let q : first_line (drop i input) ≡ b ∷ first_line later = ap first_line d ∙ at_other b later n in
      record {
        within = λ w. omega arith;
        long = ap length e.1 ∙ (next_long v vars b u ∙ h.long);
        left = rw add-one (
            ap (λ (y : Option ℕ). fill vars y x (first_line later)) e.0
            ∙ (ap (λ (y : List ℕ). fill vars (next_variable v vars b) y (first_line later)) e.1
            ∙ (sym (fill_more vars v u b (first_line later)) ∙ (ap (fill vars v u) (sym q) ∙ h.left))));
        rest = rw add-one (sym (ap text_after d ∙ rest_other b later n) ∙ h.rest);
      }

  -- what is left being nothing: the table
  filled : first_line (drop i input) ≡ [] → t ≡ replicate 1056 0 → shown vars (record { variables = v; table = u }) ≡ table_of vars (first_line (drop from input))
  filled q e =
      ap (shown vars) (sym (fill_end vars v u) ∙ (ap (fill vars v u) (sym q) ∙ h.left)) ∙ filled_table vars t (first_line (drop from input)) e

  pub filling_break : i < length input → get_or input i 0 ≡ 10 → TableTaken input from vars t (record { variables = v; at = i + 1 }) u
  filling_break k n =
      let b = get_or input i 0 in
      let later = drop (suc i) input in
      let d : drop i input ≡ b ∷ later = drop-cons input i 0 k in
      record {
        within = λ w. omega arith;
        rest = rw add-one (sym (ap text_after d ∙ rest_break b later n) ∙ h.rest);
        long = h.long;
        table = λ e. sym (shown_bytes vars v u) ∙ filled (ap first_line d ∙ at_break b later n) e;
      }

  pub filling_end : length input ≤ i → TableTaken input from vars t (record { variables = v; at = length input }) u
  filling_end k =
      let d : drop i input ≡ [] = drop_of_length-le input k in
      record {
        within = λ w. omega arith;
        rest = drop_of_length-le input (omega arith) ∙ (sym rest_none_left ∙ (ap text_after (sym d) ∙ h.rest));
        long = h.long;
        table = λ e. sym (shown_bytes vars v u) ∙ filled (ap first_line d ∙ line_none_left) e;
      }
