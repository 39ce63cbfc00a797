-- Laws of the search for a label: it ends at the first record that has it, and tells how many were looked at. Assumes nothing.
use Rattle.std.specs.Prelude.{◌≡◌, refl, ℕ, suc, ◌+◌, Bool, true, false, Option, Some, None, List, length, eqb, ltb}
use Rattle.std.proofs.Common.{arith, cond, sym, ltb-true, ltb-false}
use Rattle.std.specs.List.{position_or_len}
use Rattle.std.proofs.lemmas.List.Recursion.{is_position_or_len}
use Rattle.rungs.specs.Records.{labels, search, look_up, found, missing}
use Rattle.rungs.proofs.Laws.Search.{search_within, look_found, look_missing}
use Rattle.rows.specs.declared.Rung.{Rung}
use Rattle.rows.specs.Rows.{records_of}
use Rattle.rows.proofs.Laws.Records.{labels_length}

module _ (l : ℕ) where
  abbrev pub has : Rung → Bool
  has r = eqb r.label l

  abbrev end : List Rung → ℕ
  end row = search l (labels (records_of row))

  one_more : (t : Bool) (n : ℕ) → elim t [ true ↦ 0 | false ↦ suc n ] ≡ cond t 0 (1 + n)
  one_more true n = refl
  one_more false n = omega arith

  first_place : (row : List Rung) → end row ≡ position_or_len has row
  unfolding search
  first_place = is_position_or_len end has refl (λ r row. one_more (has r) (end row))

  -- what `position` answers
  abbrev pub answer : List Rung → Option ℕ
  answer row = cond (ltb (position_or_len has row) (length row)) (Some (position_or_len has row)) None

  pub looked_up : (row : List Rung) (place : ℕ) → Some place ≡ answer row → found place (place + 1) ≡ look_up l (labels (records_of row))
  looked_up row place e = go _ refl e
    where
      go : (t : Bool) → ltb (position_or_len has row) (length row) ≡ t → Some place ≡ cond t (Some (position_or_len has row)) None
          → found place (place + 1) ≡ look_up l (labels (records_of row))
      go true h e =
          let p : place ≡ end row = cc (first_place row) in
          let inside = ltb-true _ _ h in
          rw p (sym (look_found l (labels (records_of row)) (omega (arith, inside, first_place row, labels_length row))))
      go false h e = absurd (cc)

  pub not_looked_up : (row : List Rung) → None ≡ answer row → missing (length row) ≡ look_up l (labels (records_of row))
  not_looked_up row e = go _ refl e
    where
      go : (t : Bool) → ltb (position_or_len has row) (length row) ≡ t → None ≡ cond t (Some (position_or_len has row)) None
          → missing (length row) ≡ look_up l (labels (records_of row))
      go true h e = absurd (cc)
      go false h e =
          let past = ltb-false _ _ h in
          let n : length row ≡ length (labels (records_of row)) = sym (labels_length row) in
          rw n (sym (look_missing l (labels (records_of row)) (omega (arith, past, first_place row, labels_length row, search_within l (labels (records_of row))))))
