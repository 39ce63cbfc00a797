-- The search for a name: what is found has that name, and each name of an accepted table is found. Assumes nothing.
use Rattle.std.specs.Prelude.{ℕ, zero, suc, ◌+◌, ◌-◌, ◌*◌, ◌≤◌, ◌<◌, ◌≡◌, refl, Bool, true, false, not, ◌&&◌, List, [], ◌∷◌, T, eqb, length, get_or}
use Rattle.std.proofs.Common.{arith, add-zero, sym, ap, ◌∙◌, T_not, eqb→eq}
use Rattle.std.proofs.Math.Option.{none, some}
use Rattle.std.proofs.Math.Facts.{and_yes}
use Rattle.questions.specs.Bytes.{same_bytes}
use Rattle.questions.specs.Tests.{all, different}
use Rattle.questions.proofs.Laws.Tests.{none_some, all_head, all_tail, all_get_d}
use Rattle.questions.proofs.Laws.Answers.{ask_passed}
use Rattle.questions.proofs.Laws.Bytes.{same_refl, same_equal}
use Rattle.list_definitions.specs.Instruction.{Instr, op_of}
use Rattle.list_definitions.specs.Names.{Names, trimmed, name_of, most_op, name_bytes, names_in, is_capital, is_name, is_name_table, question14}
use Rattle.list_definitions.proofs.Laws.Names.{true→T, IsNamed, named, trimmed_long, same_letters, names_many, name_long, op_in_table}
use Rattle.reader_definitions.specs.Reader.{op_named}

-- what is found has that name
pub found_name : (k : ℕ) (names : Names) (w : List ℕ) (m : ℕ) → op_named k names w ≡ some m → (k ≤ m) × (m < k + length names) × (trimmed (get_or names (m - k) []) ≡ w)
unfolding op_named
found_name k [] w m e = absurd (none_some e)
found_name k (name ∷ names) w m e = go (same_bytes (trimmed name) w) refl (found_name (suc k) names w m)
  where
    go : (b : Bool) → same_bytes (trimmed name) w ≡ b
        → (op_named (suc k) names w ≡ some m → (suc k ≤ m) × (m < suc k + length names) × (trimmed (get_or names (m - suc k) []) ≡ w))
        → (k ≤ m) × (m < k + suc (length names)) × (trimmed (get_or (name ∷ names) (m - k) []) ≡ w)
    go true b ih =
        let q : op_named k (name ∷ names) w ≡ some k = rw (b, op_named) in
        let z : k ≡ m = cc in
        let y : m - k ≡ 0 = omega arith in
        (omega arith, omega arith, rw y (same_equal (trimmed name) w (true→T _ b)))
    go false b ih =
        let q : op_named k (name ∷ names) w ≡ op_named (suc k) names w = rw (b, op_named) in
        let r = ih (sym q ∙ e) in
        let r0 = r.0 in
        let r1 = r.1 in
        let y : m - k ≡ suc (m - suc k) = omega arith in
        (omega arith, omega arith, rw y r.2)

-- each of some different names is found
find_name : (k : ℕ) (names : Names) (n : ℕ) → ((p : ℕ) → p < length names → length (get_or names p []) ≡ n) → T (all is_name names) → T (different same_bytes names)
    → (p : ℕ) → p < length names → op_named k names (trimmed (get_or names p [])) ≡ some (k + p)
unfolding op_named different
find_name k [] n long each diff p l = absurd (omega arith)
find_name k (name ∷ names) n long each diff zero l = rw (same_refl (trimmed name), op_named, add-zero) refl
find_name k (name ∷ names) n long each diff (suc p) l =
    let d = and_yes (all (λ other. not (same_bytes other name)) names) (different same_bytes names) diff in
    let i : p < length names = omega arith in
    let other = get_or names p [] in
    let apart : T (not (same_bytes other name)) = all_get_d (λ other. not (same_bytes other name)) names p [] i d.0 in
    let here = named name (all_head is_name name names each) in
    let there = named other (all_get_d is_name names p [] i (all_tail is_name name names each)) in
    let e : k + suc p ≡ suc k + p = omega arith in
    go (same_bytes (trimmed name) (trimmed other)) refl apart here there (long 0 (omega arith)) (long (suc p) l)
    (find_name (suc k) names n (λ q h. long (suc q) (omega arith)) (all_tail is_name name names each) d.1 p i ∙ ap (λ m. some m) (sym e))
  where
    go : (b : Bool) → same_bytes (trimmed name) (trimmed (get_or names p [])) ≡ b → T (not (same_bytes (get_or names p []) name)) → IsNamed name → IsNamed (get_or names p [])
        → length name ≡ n → length (get_or names p []) ≡ n
        → op_named (suc k) names (trimmed (get_or names p [])) ≡ some (k + suc p)
        → op_named k (name ∷ names) (trimmed (get_or names p [])) ≡ some (k + suc p)
    go true b apart here there x y ih =
        let e = same_letters (get_or names p []) name there here (y ∙ sym x) (sym (same_equal (trimmed name) (trimmed (get_or names p [])) (true→T _ b))) in
        absurd (T_not (same_bytes (get_or names p []) name) apart (rw e (true→T _ (same_refl name))))
    go false b apart here there x y ih = rw (b, op_named) ih

-- an instruction's name: 1 to 6 capital letters, by which its op is found
pub record Good (names : Names) : Type 0 where
  pub some_letter : (i : Instr) → 1 ≤ length (name_of names (op_of i))
  pub few : (i : Instr) → length (name_of names (op_of i)) ≤ name_bytes
  pub capitals : (i : Instr) → T (all is_capital (name_of names (op_of i)))
  pub found : (i : Instr) → op_named 1 names (name_of names (op_of i)) ≡ some (op_of i)

pub good_table : (table : List ℕ) → question14 table ≡ none → Good (names_in table)
unfolding question14 is_name_table name_of
good_table table e =
    let names = names_in table in
    let x = and_yes (eqb (length table) (name_bytes * most_op)) (all is_name names && different same_bytes names) (ask_passed 14 _ e) in
    let y = and_yes (all is_name names) (different same_bytes names) x.1 in
    let long = name_long most_op table (eqb→eq _ _ x.0) in
    let many = names_many most_op table in
    let place : (i : Instr) → op_of i - 1 < most_op = λ i. let r = op_in_table i in omega arith in
    let is : (i : Instr) → IsNamed (get_or names (op_of i - 1) []) = λ i. let h = place i in named _ (all_get_d is_name names (op_of i - 1) [] (rw many h) y.0) in
    record {
      some_letter = λ i. (is i).some_letter;
      few = λ i. omega (arith, trimmed_long (get_or names (op_of i - 1) []), long (op_of i - 1) (place i));
      capitals = λ i. (is i).capitals;
      found = λ i.
          let r = op_in_table i in
          let h = place i in
          let k : 1 + (op_of i - 1) ≡ op_of i = omega arith in
          find_name 1 names name_bytes (λ p l. long p (rw many at l)) y.0 y.1 (op_of i - 1) (rw many h) ∙ ap (λ m. some m) k;
    }
