-- What an accepted name table tells of its names, each by its place. Assumes nothing.
use Rattle.std.specs.Prelude.{ℕ, zero, suc, ◌+◌, ◌-◌, ◌*◌, ◌≤◌, ◌<◌, ◌≡◌, refl, Bool, true, false, not, ◌&&◌, T, eqb, leb, length, get_or, take, drop, replicate}
use Rattle.std.proofs.Common.{arith, sym, ap, ◌∙◌, eq-eqb, ne_eqb, T_not, leb→le, le→leb, eqb→eq, length-take, length-drop, length-append, drop-drop}
use Rattle.std.proofs.Math.Option.{none}
use mathlib.Core.List.{List, [], ◌∷◌, ◌++◌, flat_map}
use Rattle.std.proofs.Math.Facts.{and_yes, yes_and}
use Rattle.std.proofs.Math.Dec.{not_T}
use Rattle.std.proofs.Math.Seq.{drop-append_seam}
use Rattle.questions.specs.Bytes.{bytes, same_bytes}
use Rattle.questions.specs.Tests.{all, different}
use Rattle.questions.specs.Questions.{ask}
use Rattle.questions.proofs.Laws.Tests.{all_head, all_tail, all_get_d}
use Rattle.questions.proofs.Laws.Answers.{ask_passed, passed_ask}
use Rattle.questions.proofs.Laws.Bytes.{same_refl, same_equal}
use Rattle.list_definitions.specs.Instruction.{Instr, LD, LDN, ST, STN, AND, ANDN, OR, ORN, XOR, XORN, NOT, JMP, JMPC, JMPCN, S, R, TON, op_of}
use Rattle.list_definitions.specs.Names.{Names, trimmed, fixed_names, most_op, name_bytes, names_from, names_in, fixed_table, is_capital, is_name, is_name_table, question14, IsName, IsNameTable}

pub true→T : (b : Bool) → b ≡ true → T b
true→T true e = tt
true→T false e = let z : ◌≡◌ {A = ℕ} 0 1 = cc in absurd (omega arith)

-- ---- a name and its filling

-- a name's letters stand before its filling
pub trimmed_front : (name : List ℕ) → name ≡ trimmed name ++ drop (length (trimmed name)) name
unfolding trimmed
trimmed_front [] = refl
trimmed_front (b ∷ bs) = go (eqb b 0) refl (trimmed_front bs)
  where
    go : (t : Bool) → eqb b 0 ≡ t → bs ≡ trimmed bs ++ drop (length (trimmed bs)) bs → b ∷ bs ≡ trimmed (b ∷ bs) ++ drop (length (trimmed (b ∷ bs))) (b ∷ bs)
    go true e ih = rw (e, trimmed)
    go false e ih = rw (e, trimmed) (ap (λ l. b ∷ l) ih)

pub all_zero : (bs : List ℕ) → T (all (λ b. eqb b 0) bs) → bs ≡ replicate (length bs) 0
all_zero [] h = refl
all_zero (b ∷ bs) h = rw (eqb→eq b 0 (all_head (λ b. eqb b 0) b bs h)) (ap (λ l. 0 ∷ l) (all_zero bs (all_tail (λ b. eqb b 0) b bs h)))

pub record IsNamed (name : List ℕ) : Type 0 where
  pub some_letter : 1 ≤ length (trimmed name)
  pub capitals : T (all is_capital (trimmed name))
  pub filled : name ≡ trimmed name ++ replicate (length name - length (trimmed name)) 0

pub named : (name : List ℕ) → T (is_name name) → IsNamed name
unfolding is_name
named name h =
    let rest = drop (length (trimmed name)) name in
    let p = and_yes (leb 1 (length (trimmed name))) (all is_capital (trimmed name) && all (λ b. eqb b 0) rest) h in
    let q = and_yes (all is_capital (trimmed name)) (all (λ b. eqb b 0) rest) p.1 in
    record {
      some_letter = leb→le 1 _ p.0;
      capitals = q.0;
      filled = trimmed_front name ∙ ap (λ l. trimmed name ++ l) (all_zero rest q.1 ∙ ap (λ n. replicate n 0) (length-drop (length (trimmed name)) name));
    }

pub trimmed_long : (name : List ℕ) → length (trimmed name) ≤ length name
trimmed_long name = omega (arith, ap length (trimmed_front name), length-append (trimmed name) (drop (length (trimmed name)) name))

-- names of equal letters and equal length are equal
pub same_letters : (a b : List ℕ) → IsNamed a → IsNamed b → length a ≡ length b → trimmed a ≡ trimmed b → a ≡ b
same_letters a b p q l e = p.filled ∙ rw (e, l) (sym q.filled)

-- ---- names by place

pub names_many : (n : ℕ) (table : List ℕ) → length (names_from n table) ≡ n
unfolding names_from
names_many zero table = refl
names_many (suc n) table = ap suc (names_many n (drop name_bytes table))

pub name_long : (n : ℕ) (table : List ℕ) → length table ≡ name_bytes * n → (p : ℕ) → p < n → length (get_or (names_from n table) p []) ≡ name_bytes
unfolding names_from
name_long zero table h p l = absurd (omega arith)
name_long (suc n) table h zero l = length-take name_bytes table ∙ omega arith
name_long (suc n) table h (suc p) l = name_long n (drop name_bytes table) (length-drop name_bytes table ∙ omega arith) p (omega arith)

-- the name at a place
pub name_at_lem : (n : ℕ) (table : List ℕ) (p : ℕ) → p < n → get_or (names_from n table) p [] ≡ take name_bytes (drop (name_bytes * p) table)
unfolding names_from
name_at_lem zero table p l = absurd (omega arith)
name_at_lem (suc n) table zero l = refl
name_at_lem (suc n) table (suc p) l =
    let e : name_bytes + name_bytes * p ≡ name_bytes * suc p = omega arith in
    name_at_lem n (drop name_bytes table) p (omega arith) ∙ ap (take name_bytes) (drop-drop (name_bytes * p) name_bytes table ∙ ap (λ i. drop i table) e)

-- no name of a table, accepted or not, is longer than six bytes
pub name_short : (n : ℕ) (table : List ℕ) (p : ℕ) → length (get_or (names_from n table) p []) ≤ name_bytes
unfolding names_from
name_short zero table p = omega arith
name_short (suc n) table zero = let l = length-take name_bytes table in omega arith
name_short (suc n) table (suc p) = name_short n (drop name_bytes table) p

-- ---- ops

-- each instruction's op has a name
pub op_in_table : (i : Instr) → (1 ≤ op_of i) × (op_of i ≤ most_op)
unfolding op_of
op_in_table (LD x) = omega arith
op_in_table (LDN x) = omega arith
op_in_table (ST x) = omega arith
op_in_table (STN x) = omega arith
op_in_table (AND x) = omega arith
op_in_table (ANDN x) = omega arith
op_in_table (OR x) = omega arith
op_in_table (ORN x) = omega arith
op_in_table (XOR x) = omega arith
op_in_table (XORN x) = omega arith
op_in_table NOT = omega arith
op_in_table (JMP j) = omega arith
op_in_table (JMPC j) = omega arith
op_in_table (JMPCN j) = omega arith
op_in_table (S x) = omega arith
op_in_table (R x) = omega arith
op_in_table (TON n) = omega arith

-- ---- the question, in plain words

get_all : {A : Type 0} (test : A → Bool) (xs : List A) (d : A) → ((i : ℕ) → i < length xs → T (test (get_or xs i d))) → T (all test xs)
get_all test [] d h = tt
get_all test (x ∷ xs) d h = yes_and (test x) (all test xs) (h 0 (omega arith)) (get_all test xs d (λ i l. h (suc i) (omega arith)))

is_name_lem : (name : List ℕ) → T (is_name name) → IsName name
unfolding is_capital
is_name_lem name h =
    let n = named name h in
    record {
      letters = trimmed name;
      filling = length name - length (trimmed name);
      same = n.filled;
      some_letter = n.some_letter;
      capitals = λ i l.
          let c = get_or (trimmed name) i 0 in
          let y = and_yes (leb 65 c) (leb c 90) (all_get_d is_capital (trimmed name) i 0 l n.capitals) in
          (leb→le 65 c y.0, leb→le c 90 y.1);
    }

-- letters before zeros are what is left without the filling
trimmed_letters : (w : List ℕ) (n : ℕ) → ((i : ℕ) → i < length w → (65 ≤ get_or w i 0) × (get_or w i 0 ≤ 90)) → trimmed (w ++ replicate n 0) ≡ w
unfolding trimmed
trimmed_letters [] zero h = refl
trimmed_letters [] (suc n) h = refl
trimmed_letters (b ∷ w) n h =
    let l = (h 0 (omega arith)).0 in
    rw (ne_eqb b 0 (λ e. omega arith), trimmed) (ap (λ r. b ∷ r) (trimmed_letters w n (λ i k. h (suc i) (omega arith))))

zeros_filled : (n : ℕ) → T (all (λ b. eqb b 0) (replicate n 0))
zeros_filled zero = tt
zeros_filled (suc n) = zeros_filled n

name_is : (name : List ℕ) → IsName name → T (is_name name)
unfolding is_name is_capital
name_is name h =
    let w = h.letters in
    let e : trimmed name ≡ w = ap trimmed h.same ∙ trimmed_letters w h.filling h.capitals in
    let rest : drop (length w) name ≡ replicate h.filling 0 = ap (drop (length w)) h.same ∙ drop-append_seam w (replicate h.filling 0) in
    rw (e, rest) (yes_and (leb 1 (length w)) _ (le→leb 1 _ h.some_letter)
    (yes_and (all is_capital w) _ (get_all is_capital w 0 (λ i l. let c = h.capitals i l in yes_and (leb 65 (get_or w i 0)) (leb (get_or w i 0) 90) (le→leb 65 _ c.0) (le→leb _ 90 c.1))) (zeros_filled h.filling)))

different_apart : (names : Names) → T (different same_bytes names) → (p q : ℕ) → p < q → q < length names → get_or names p [] ≡ get_or names q [] → ⊥
unfolding different
different_apart [] h p q a l e = omega arith
different_apart (name ∷ names) h p zero a l e = omega arith
different_apart (name ∷ names) h zero (suc q) a l e =
    let d = and_yes (all (λ other. not (same_bytes other name)) names) (different same_bytes names) h in
    T_not (same_bytes (get_or names q []) name) (all_get_d (λ other. not (same_bytes other name)) names q [] (omega arith) d.0) (rw (← e) (true→T _ (same_refl name)))
different_apart (name ∷ names) h (suc p) (suc q) a l e =
    different_apart names (and_yes (all (λ other. not (same_bytes other name)) names) (different same_bytes names) h).1 p q (omega arith) (omega arith) e

apart_different : (names : Names) → ((p q : ℕ) → p < q → q < length names → get_or names p [] ≡ get_or names q [] → ⊥) → T (different same_bytes names)
unfolding different
apart_different [] h = tt
apart_different (name ∷ names) h =
    yes_and (all (λ other. not (same_bytes other name)) names) (different same_bytes names)
    (get_all (λ other. not (same_bytes other name)) names []
    (λ i l. not_T (same_bytes (get_or names i []) name) (λ t. h 0 (suc i) (omega arith) (omega arith) (sym (same_equal (get_or names i []) name t)))))
    (apart_different names (λ p q a l e. h (suc p) (suc q) (omega arith) (omega arith) e))

pub accepted_table : (table : List ℕ) → question14 table ≡ none → IsNameTable table
unfolding question14 is_name_table
accepted_table table e =
    let names = names_in table in
    let x = and_yes (eqb (length table) (name_bytes * most_op)) (all is_name names && different same_bytes names) (ask_passed 14 _ e) in
    let y = and_yes (all is_name names) (different same_bytes names) x.1 in
    let many = names_many most_op table in
    record {
      six_bytes_an_op = eqb→eq _ _ x.0;
      each_a_name = λ p l. rw (← (name_at_lem most_op table p l)) (is_name_lem _ (all_get_d is_name names p [] (rw many l) y.0));
      none_repeats = λ p q a l e. different_apart names y.1 p q a (rw many l) (name_at_lem most_op table p (omega arith) ∙ (e ∙ sym (name_at_lem most_op table q l)));
    }

pub table_accepted : (table : List ℕ) → IsNameTable table → question14 table ≡ none
unfolding question14 is_name_table
table_accepted table h =
    let names = names_in table in
    let many = names_many most_op table in
    passed_ask 14 _ (yes_and (eqb (length table) (name_bytes * most_op)) (all is_name names && different same_bytes names) (true→T _ (eq-eqb _ _ h.six_bytes_an_op))
    (yes_and (all is_name names) (different same_bytes names) (get_all is_name names [] (λ i l. let k : i < most_op = rw many at l in rw (name_at_lem most_op table i k) (name_is _ (h.each_a_name i k))))
    (apart_different names (λ p q a l e. let k : q < most_op = rw many at l in h.none_repeats p q a k (sym (name_at_lem most_op table p (omega arith)) ∙ (e ∙ name_at_lem most_op table q k))))))

-- ---- the fixed table

pub fixed_names_lem : names_in fixed_table ≡ fixed_names
unfolding fixed_table fixed_names flat_map names_from bytes
fixed_names_lem = refl

pub fixed_accepted : question14 fixed_table ≡ none
unfolding fixed_table bytes fixed_names trimmed flat_map ask names_from is_capital is_name same_bytes different is_name_table question14
fixed_accepted = refl
