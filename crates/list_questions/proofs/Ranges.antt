-- Laws of question 10: records as two number slices, and its tests one after the other. Assumes nothing.
use Prim.Native.Nat.{ℕ, ◌+◌, ◌≤◌, ◌<◌}
use native.Mathlib.Omega.{arith}
use native.Mathlib.Decide.{ℕ_discrete}
use mathlib.Core.Path.{◌≡◌, refl, sym, ap, ◌∙◌}
use mathlib.Core.Bool.{Bool, true, false, ◌&&◌, and-false, and-true}
use mathlib.Core.List.{List, [], ◌∷◌}
use mathlib.Core.Logic.{◌⊎◌, inl, inr}
use lib.Dec.{eqb, leb, ltb}
use lib.ListN.{length}
use borrow.Author.Tests.{eq-eqb, ne_eqb, lt-ltb, le-ltb}
use Rattle.std.proofs.Math.Bool.{and_assoc}
use Rattle.questions.specs.Tests.{all}
use Rattle.table.specs.State.{table_size}
use Rattle.rungs.specs.Records.{RungRecord, laid, fields_of, most_records}
use Rattle.rungs.proofs.Laws.Rows.{Even, row_nil, row_cons, row_induction, row_length, row_uneven_first, row_uneven_second}
use Rattle.list_definitions.specs.Questions.{word_in_range, most_instructions, records_laid, list_in_range}
use Rattle.list_questions.specs.Parts.{sizes_in_range, laid_pairs}

-- ---- records as two number slices

-- the loop's invariant: what is left to lay from `start` on is laid just when all is
pub record Laying (all : Bool) (end start : ℕ) (os ns : List ℕ) : Type 0 where
  pub same : laid_pairs start end os ns ≡ all
  pub even : length os ≡ length ns
  pub small : start < 8589934592

pub laying_start : (end : ℕ) (os ns : List ℕ) → length os ≡ length ns → Laying (laid_pairs 0 end os ns) end 0 os ns
laying_start end os ns e = record { same = refl; even = e; small = omega arith }

module _ {all : Bool} {end start o n : ℕ} {os ns : List ℕ} (inv : Laying all end start (o ∷ os) (n ∷ ns)) where
  pub laid_off : (o ≡ start → ⊥) → false ≡ all
  unfolding laid_pairs
  laid_off differs = rw (ne_eqb _ _ differs) at inv.same

  pub laid_empty : n < 1 → false ≡ all
  unfolding laid_pairs
  laid_empty z = rw (le-ltb 0 n (omega arith), and-false (eqb o start)) at inv.same

  pub laid_more : o ≡ start → 1 ≤ n → start + n < 8589934592 → Laying all end (start + n) os ns
  unfolding laid_pairs
  laid_more e z b = record {
    same = rw (eq-eqb _ _ e, lt-ltb 0 n z) at inv.same;
    even = omega (arith, inv.even);
    small = b;
  }

pub laid_done : {all : Bool} {end start : ℕ} {os ns : List ℕ} → Laying all end start os ns → (os ≡ []) ⊎ (ns ≡ []) → eqb start end ≡ all
unfolding laid_pairs
laid_done {os = []} inv e = inv.same
laid_done {os = o ∷ os} inv (inl e) = absurd (cc)
laid_done {os = o ∷ os} inv (inr e) = absurd (omega (arith, inv.even, ap length e))

shuffle : (a b c d : Bool) → ((a && b) && (c && d)) ≡ (a && (c && (b && d)))
shuffle true b true d = refl
shuffle true b false d = and-false b
shuffle false b c d = refl

-- records of even slices are laid as the slices are
LaidAlike : ℕ → List ℕ → List ℕ → List ℕ → Type 0
LaidAlike end ls os ns = (start : ℕ) → (laid start end (fields_of ls os ns) && all (λ r. ltb 0 r.length) (fields_of ls os ns)) ≡ laid_pairs start end os ns

nil_laid : (end : ℕ) → LaidAlike end [] [] []
unfolding LaidAlike laid laid_pairs
nil_laid end start = rw row_nil (and-true (eqb start end))

cons_laid : (end l o n : ℕ) (ls os ns : List ℕ) → Even (l ∷ ls) (o ∷ os) (n ∷ ns) → Even ls os ns → LaidAlike end ls os ns → LaidAlike end (l ∷ ls) (o ∷ os) (n ∷ ns)
unfolding LaidAlike laid laid_pairs
cons_laid end l o n ls os ns e t ih start =
    let rest = all (λ (r : RungRecord). ltb 0 r.length) (fields_of ls os ns) in
    rw (row_cons l o n ls os ns e) (shuffle (eqb o start) (laid (start + n) end (fields_of ls os ns)) (ltb 0 n) rest
    ∙ ap (λ b. eqb o start && (ltb 0 n && b)) (ih (start + n)))

pub row_laid : (end : ℕ) (ls os ns : List ℕ) → Even ls os ns → records_laid end (fields_of ls os ns) ≡ laid_pairs 0 end os ns
unfolding records_laid LaidAlike
row_laid end ls os ns e = row_induction (LaidAlike end) (nil_laid end) (cons_laid end) ls os ns e 0

-- ---- question 10, of the slices

module _ (vars : ℕ) (ws ls os ns : List ℕ) where
  abbrev InParts : Type 0
  InParts =
      list_in_range vars ws (fields_of ls os ns)
      ≡ (sizes_in_range (length ws) (length ls) (length os) (length ns) && (laid_pairs 0 (length ws) os ns && all (word_in_range (table_size vars) (length ws)) ws))

  no_row : fields_of ls os ns ≡ [] → list_in_range vars ws (fields_of ls os ns) ≡ false
  unfolding list_in_range
  no_row e = rw e (and-false (leb 1 (length ws) && leb (length ws) most_instructions))

  uneven_first : (length ls ≡ length os → ⊥) → InParts
  uneven_first h =
      rw (ne_eqb _ _ h, and-false (leb 1 (length ws) && leb (length ws) most_instructions)) (no_row (row_uneven_first ls os ns h))

  uneven_second : (length os ≡ length ns → ⊥) → InParts
  uneven_second h =
      rw (ne_eqb _ _ h, and-false (eqb (length ls) (length os)), and-false (leb 1 (length ws) && leb (length ws) most_instructions))
      (no_row (row_uneven_second ls os ns h))

  even_rows : length ls ≡ length os → length os ≡ length ns → InParts
  unfolding list_in_range
  even_rows p q =
      let even : Even ls os ns = record { first = p; second = q } in
      rw (row_laid (length ws) ls os ns even, row_length ls os ns even, eq-eqb _ _ p, eq-eqb _ _ q)
      (sym (and_assoc (leb 1 (length ws) && leb (length ws) most_instructions) (leb 1 (length ls) && leb (length ls) most_records) _))

  pub in_parts : InParts
  in_parts = elim (ℕ_discrete (length ls) (length os)) [
    | no h ↦ uneven_first h
    | yes p ↦ elim (ℕ_discrete (length os) (length ns)) [
      | no h ↦ uneven_second h
      | yes q ↦ even_rows p q
    ]
  ]
