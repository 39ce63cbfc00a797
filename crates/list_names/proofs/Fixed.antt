-- Laws of the fixed table as it is written, name by name. Assumes nothing.
use Prim.Native.Nat.{ℕ, suc, ◌+◌, ◌-◌, ◌*◌, ◌≤◌, ◌<◌}
use native.Mathlib.Omega.{arith}
use mathlib.Core.Path.{◌≡◌, refl, ap, ◌∙◌}
use mathlib.Core.List.{List, [], ◌++◌, flat_map, append-nil}
use lib.Dec.{eqb, eqb→eq}
use lib.ListN.{length, get_or, drop, drop_of_length-le}
use lib.Seq.{drop-cons, sets-eq}
use Rattle.questions.specs.Bytes.{bytes}
use Rattle.questions.proofs.Laws.Tests.{all_get_d}
use Rattle.list_definitions.specs.Names.{fixed_names, most_op, name_bytes, fixed_table}
use Rattle.list_definitions.proofs.Laws.Names.{fixed_names_lem, fixed_accepted}
use Rattle.printing.specs.Put.{Put}
use Rattle.printing.proofs.Laws.Puts.{Left, all_left, left_none, left_more}
use Rattle.list_names.specs.Parts.{FixedNamesPut}

-- each fixed name has six bytes
pub fixed_long : (p : ℕ) → p < most_op → length (get_or fixed_names p []) ≡ 6
unfolding fixed_names bytes
fixed_long p h = eqb→eq (length (get_or fixed_names p [])) 6 (all_get_d (λ name. eqb (length name) 6) fixed_names p [] h tt)

table_long : length fixed_table ≡ name_bytes * most_op
unfolding fixed_table fixed_names bytes flat_map
table_long = refl

-- in a buffer of its size the table is all there is
put_all : {l x : List ℕ} {m : ℕ} → Put l 0 fixed_table m x → FixedNamesPut l x
put_all {l} {x} p =
    let long = table_long in
    let whole : length l ≡ name_bytes * most_op → x ≡ fixed_table =
    λ e. p.wrote ∙ (sets-eq fixed_table l 0 (omega arith) ∙ (ap (λ rest. fixed_table ++ rest) (drop_of_length-le l {i = 0 + length fixed_table} (omega arith)) ∙ append-nil fixed_table)) in
    record {
      wrote = p.wrote;
      whole = whole;
      accepted = λ e. rw (whole e) fixed_accepted;
      names = λ e. rw (whole e) fixed_names_lem;
    }

-- the names from place p on are still to be written
abbrev names_left : ℕ → List ℕ
names_left p = flat_map (λ name. name) (drop p fixed_names)

pub record Filling (l x : List ℕ) (m op : ℕ) : Type 0 where
  pub left : Left l 0 fixed_table x m (names_left (op - 1))
  pub place : m ≡ 6 * (op - 1)
  pub from : 1 ≤ op
  pub to : op ≤ most_op + 1

pub filling_start : (l : List ℕ) → Filling l l 0 1
unfolding fixed_table
filling_start l = record { left = all_left l 0 fixed_table; place = omega arith; from = omega arith; to = omega arith }

names_step : (p : ℕ) → p < most_op → names_left p ≡ get_or fixed_names p [] ++ names_left (suc p)
unfolding fixed_names bytes flat_map
names_step p h = rw (drop-cons fixed_names p [] h) refl

module _ {l x : List ℕ} {m op : ℕ} (h : Filling l x m op) where
  pub filling_more : {r : ℕ} {y : List ℕ} → op ≤ most_op → Put x m (get_or fixed_names (op - 1) []) r y → Filling l y r (op + 1)
  filling_more {r} {y} le p =
      let from = h.from in
      let place = h.place in
      let end = p.end in
      let six = fixed_long (op - 1) (omega arith) in
      let q : suc (op - 1) ≡ op + 1 - 1 = omega arith in
      record {
        left = rw (← q) (left_more h.left (names_step (op - 1) (omega arith)) p);
        place = omega arith;
        from = omega arith;
        to = omega arith;
      }

  filling_last : most_op < op → names_left (op - 1) ≡ []
  unfolding fixed_names bytes flat_map
  filling_last lt = let q : op - 1 ≡ most_op = omega (arith, h.from, h.to) in rw q refl

  pub filling_end : most_op < op → FixedNamesPut l x
  filling_end lt = put_all (left_none h.left (filling_last lt))
