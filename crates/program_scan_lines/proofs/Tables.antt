-- What a line of variables makes of a table of zeros, byte by byte. Assumes nothing.
use mathlib.Core.Path.{◌≡◌, refl, ap, sym, ◌∙◌}
use mathlib.Core.Bool.{Bool, true, false, ◌&&◌, and-true, and-false, true≢false}
use mathlib.Core.List.{List, [], ◌∷◌, ◌++◌, map, append_assoc}
use Prim.Native.Nat.{ℕ, suc, ◌+◌, ◌-◌, ◌≤◌, ◌<◌}
use native.Mathlib.Numerals.{add-one}
use native.Mathlib.Nat.{add-zero}
use native.Mathlib.Omega.{arith}
use borrow.Author.Tests.{eqb-true, leb-true, leb-false, ltb-true, ltb-false, lt-leb, le-leb, ne_eqb}
use lib.Dec.{eqb, leb, ltb}
use lib.ListN.{length, length-set, length-replicate, set, take, drop, replicate, replicate-append-replicate}
use lib.Seq.{take-add, take_at, drop_at, take-suc-set, drop-set-lt}
use Rattle.questions.specs.Bytes.{byte}
use Rattle.questions.specs.Tests.{all}
use Rattle.program_definitions.specs.Lines.{is_binary_digit, table_of}
use Rattle.program_scan_lines.specs.Parts.{taken, no_variables, next_variable, next_table, table_bytes}
use Rattle.std.specs.Prelude.{Option, Some, None}

pub record Filled : Type 0 where
  pub variables : Option ℕ
  pub table : List ℕ

-- what the bytes of a line lead to
unfoldable pub fill : ℕ → Option ℕ → List ℕ → List ℕ → Filled
fill vars v t [] = record { variables = v; table = t }
fill vars v t (b ∷ bs) = fill vars (next_variable v vars b) (next_table v vars b t) bs

pub fill_more : (vars : ℕ) (v : Option ℕ) (t : List ℕ) (b : ℕ) (bs : List ℕ) → fill vars v t (b ∷ bs) ≡ fill vars (next_variable v vars b) (next_table v vars b t) bs
unfolding fill
fill_more vars v t b bs = refl

pub fill_end : (vars : ℕ) (v : Option ℕ) (t : List ℕ) → fill vars v t [] ≡ record { variables = v; table = t }
unfolding fill
fill_end vars v t = refl

-- ---- a byte that is not taken: no table

unfoldable digit : ℕ → ℕ
digit b = b - byte "0"

-- the bytes that are shown of a table
unfoldable pub shown : ℕ → Filled → List ℕ
shown vars f = take (table_bytes f.variables vars) f.table

pub shown_bytes : (vars : ℕ) (v : Option ℕ) (t : List ℕ) → shown vars (record { variables = v; table = t }) ≡ take (table_bytes v vars) t
unfolding shown
shown_bytes vars v t = refl

wrong_shown : (vars : ℕ) (t bs : List ℕ) → shown vars (fill vars None t bs) ≡ []
unfolding shown table_bytes fill next_variable
wrong_shown vars t [] = refl
wrong_shown vars t (b ∷ bs) = wrong_shown vars (next_table None vars b t) bs

-- too many variables: no table
bytes_over : (v : Option ℕ) (vars : ℕ) → 1024 < vars → 0 ≡ table_bytes v vars
unfolding table_bytes
bytes_over None vars h = refl
bytes_over (Some c) vars h = rw (lt-leb _ _ h, table_bytes) refl

over_shown : (vars : ℕ) (f : Filled) → 1024 < vars → shown vars f ≡ []
unfolding shown
over_shown vars f h = ap (λ n. take n f.table) (sym (bytes_over f.variables vars h))

-- as many as there are variables: all of them and the scratch bytes
shown_whole : (vars c : ℕ) (t : List ℕ) → vars ≤ 1024 → eqb c vars ≡ true → shown vars (record { variables = Some c; table = t }) ≡ take (vars + 32) t
unfolding shown table_bytes
shown_whole vars c t h e = rw (le-leb vars 1024 h, e, table_bytes) refl

shown_nothing : (vars c : ℕ) (t : List ℕ) → vars ≤ 1024 → eqb c vars ≡ false → shown vars (record { variables = Some c; table = t }) ≡ []
unfolding shown table_bytes
shown_nothing vars c t h e = rw (le-leb vars 1024 h, e, table_bytes) refl

-- ---- the bytes that are left, c being taken

-- what they make of a table
unfoldable left_table : ℕ → ℕ → List ℕ → List ℕ → List ℕ
left_table vars c t bs = elim (eqb (c + length bs) vars && all is_binary_digit bs) [ true ↦ take c t ++ (map digit bs ++ take 32 (drop vars t)) | false ↦ [] ]

left_none : (vars c : ℕ) (t bs : List ℕ) → (eqb (c + length bs) vars && all is_binary_digit bs) ≡ false → left_table vars c t bs ≡ []
unfolding left_table
left_none vars c t bs e = rw (e, left_table) refl

left_some : (vars c : ℕ) (t bs : List ℕ) → (eqb (c + length bs) vars && all is_binary_digit bs) ≡ true
    → left_table vars c t bs ≡ take c t ++ (map digit bs ++ take 32 (drop vars t))
unfolding left_table
left_some vars c t bs e = rw (e, left_table) refl

all_more : (b : ℕ) (bs : List ℕ) → all is_binary_digit (b ∷ bs) ≡ (is_binary_digit b && all is_binary_digit bs)
all_more b bs = refl

-- one byte that is taken
left_taken : (vars c : ℕ) (t : List ℕ) (b : ℕ) (bs : List ℕ) → is_binary_digit b ≡ true → c < vars → vars ≤ length t
    → left_table vars (c + 1) (set t c (digit b)) bs ≡ left_table vars c t (b ∷ bs)
left_taken vars c t b bs e h k = go (eqb (c + suc (length bs)) vars && all is_binary_digit bs) refl
  where
    tests : (eqb (c + 1 + length bs) vars && all is_binary_digit bs) ≡ (eqb (c + suc (length bs)) vars && all is_binary_digit bs)
    tests = ap (λ (n : ℕ). eqb n vars && all is_binary_digit bs) (omega arith)

    more : (eqb (c + suc (length bs)) vars && all is_binary_digit (b ∷ bs)) ≡ (eqb (c + suc (length bs)) vars && all is_binary_digit bs)
    more = ap (λ (x : Bool). eqb (c + suc (length bs)) vars && x) (all_more b bs ∙ ap (λ (x : Bool). x && all is_binary_digit bs) e)

    go : (x : Bool) → (eqb (c + suc (length bs)) vars && all is_binary_digit bs) ≡ x → left_table vars (c + 1) (set t c (digit b)) bs ≡ left_table vars c t (b ∷ bs)
    go false q = left_none vars (c + 1) (set t c (digit b)) bs (tests ∙ q) ∙ sym (left_none vars c t (b ∷ bs) (more ∙ q))
    go true q =
        let z = map digit bs ++ take 32 (drop vars t) in
        left_some vars (c + 1) (set t c (digit b)) bs (tests ∙ q)
        ∙ (ap (λ (n : ℕ). take n (set t c (digit b)) ++ (map digit bs ++ take 32 (drop vars (set t c (digit b))))) (add-one c)
        ∙ (ap (λ (l : List ℕ). l ++ (map digit bs ++ take 32 (drop vars (set t c (digit b))))) (take-suc-set t c (digit b) (omega arith))
        ∙ (ap (λ (l : List ℕ). (take c t ++ (digit b ∷ [])) ++ (map digit bs ++ take 32 l)) (drop-set-lt vars t c (digit b) h)
        ∙ (append_assoc (take c t) (digit b ∷ []) z
        ∙ sym (left_some vars c t (b ∷ bs) (more ∙ q))))))

-- one byte that is not
left_not_taken : (vars c : ℕ) (t : List ℕ) (b : ℕ) (bs : List ℕ) → (ltb c vars && is_binary_digit b) ≡ false → left_table vars c t (b ∷ bs) ≡ []
left_not_taken vars c t b bs e = left_none vars c t (b ∷ bs) (go (ltb c vars) (is_binary_digit b) refl refl e)
  where
    go : (x y : Bool) → ltb c vars ≡ x → is_binary_digit b ≡ y → (x && y) ≡ false → (eqb (c + suc (length bs)) vars && all is_binary_digit (b ∷ bs)) ≡ false
    go true true p q r = absurd (true≢false r)
    go true false p q r =
        ap (λ (z : Bool). eqb (c + suc (length bs)) vars && z) (all_more b bs ∙ ap (λ (z : Bool). z && all is_binary_digit bs) q)
        ∙ and-false (eqb (c + suc (length bs)) vars)
    go false y p q r = ap (λ (z : Bool). z && all is_binary_digit (b ∷ bs)) (ne_eqb (c + suc (length bs)) vars (λ w. omega (arith, w, ltb-false c vars p)))

-- the first byte of what is left
next_taken : (vars c b : ℕ) (t : List ℕ) → (ltb c vars && is_binary_digit b) ≡ true
    → (next_variable (Some c) vars b ≡ Some (c + 1)) × (next_table (Some c) vars b t ≡ set t c (digit b))
unfolding next_variable next_table taken digit
next_taken vars c b t e = (rw (e, next_variable) refl, rw (e, next_table) refl)

next_not_taken : (vars c b : ℕ) → (ltb c vars && is_binary_digit b) ≡ false → next_variable (Some c) vars b ≡ None
unfolding next_variable taken
next_not_taken vars c b e = rw (e, next_variable) refl

-- nothing is left: the variables have to be as many
none_tests : (vars c : ℕ) (x : Bool) → eqb c vars ≡ x → (eqb (c + 0) vars && all is_binary_digit []) ≡ x
none_tests vars c x e = and-true (eqb (c + 0) vars) ∙ (ap (λ (n : ℕ). eqb n vars) (add-zero c) ∙ e)

none_left : (vars c : ℕ) (t : List ℕ) → vars ≤ 1024 → shown vars (record { variables = Some c; table = t }) ≡ left_table vars c t []
none_left vars c t h = go (eqb c vars) refl
  where
    go : (x : Bool) → eqb c vars ≡ x → shown vars (record { variables = Some c; table = t }) ≡ left_table vars c t []
    go true e = shown_whole vars c t h e ∙ (take-add vars 32 t ∙ (ap (λ (n : ℕ). take n t ++ take 32 (drop vars t)) (sym (eqb-true c vars e))
        ∙ sym (left_some vars c t [] (none_tests vars c true e))))
    go false e = shown_nothing vars c t h e ∙ sym (left_none vars c t [] (none_tests vars c false e))

both_true : (x y : Bool) → (x && y) ≡ true → (x ≡ true) × (y ≡ true)
both_true true true e = (refl, refl)
both_true true false e = absurd (true≢false (sym e))
both_true false y e = absurd (true≢false (sym e))

-- what one byte more shows, from what the bytes after it show
shown_more : (vars c : ℕ) (t : List ℕ) (b : ℕ) (bs : List ℕ) → vars ≤ length t
    → ((u : List ℕ) → vars ≤ length u → shown vars (fill vars (Some (c + 1)) u bs) ≡ left_table vars (c + 1) u bs)
    → shown vars (fill vars (next_variable (Some c) vars b) (next_table (Some c) vars b t) bs) ≡ left_table vars c t (b ∷ bs)
shown_more vars c t b bs k later = go (ltb c vars && is_binary_digit b) refl
  where
    go : (x : Bool) → (ltb c vars && is_binary_digit b) ≡ x
        → shown vars (fill vars (next_variable (Some c) vars b) (next_table (Some c) vars b t) bs) ≡ left_table vars c t (b ∷ bs)
    go true e =
        let w = next_taken vars c b t e in
        let p = both_true (ltb c vars) (is_binary_digit b) e in
        ap (λ (v : Option ℕ). shown vars (fill vars v (next_table (Some c) vars b t) bs)) w.0
        ∙ (ap (λ (u : List ℕ). shown vars (fill vars (Some (c + 1)) u bs)) w.1
        ∙ (later (set t c (digit b)) (omega (arith, length-set t c (digit b)))
        ∙ left_taken vars c t b bs p.1 (ltb-true c vars p.0) k))
    go false e =
        ap (λ (v : Option ℕ). shown vars (fill vars v (next_table (Some c) vars b t) bs)) (next_not_taken vars c b e)
        ∙ (wrong_shown vars (next_table (Some c) vars b t) bs ∙ sym (left_not_taken vars c t b bs e))

left_shown : (vars c : ℕ) (t bs : List ℕ) → vars ≤ 1024 → vars ≤ length t → shown vars (fill vars (Some c) t bs) ≡ left_table vars c t bs
left_shown vars c t [] h k = ap (shown vars) (fill_end vars (Some c) t) ∙ none_left vars c t h
left_shown vars c t (b ∷ bs) h k =
    ap (shown vars) (fill_more vars (Some c) t b bs) ∙ shown_more vars c t b bs k (λ u j. left_shown vars (c + 1) u bs h j)

-- ---- a table of zeros

zeros : (n m k : ℕ) → take m (drop n (replicate {A = ℕ} (n + (m + k)) 0)) ≡ replicate m 0
zeros n m k =
    ap (λ (l : List ℕ). take m (drop n l))
    (sym (replicate-append-replicate n (m + k) 0) ∙ ap (λ (l : List ℕ). replicate n 0 ++ l) (sym (replicate-append-replicate m k 0)))
    ∙ (ap (take m) (drop_at (replicate n 0) (replicate m 0 ++ replicate k 0) n (length-replicate n 0))
    ∙ take_at (replicate m 0) (replicate k 0) m (length-replicate m 0))

scratch_zeros : (vars : ℕ) → vars ≤ 1024 → (t : List ℕ) → t ≡ replicate 1056 0 → take 32 (drop vars t) ≡ replicate 32 0
scratch_zeros vars h t e =
    ap (λ (l : List ℕ). take 32 (drop vars l)) (e ∙ ap (λ (n : ℕ). replicate n 0) (long (1024 - vars) refl)) ∙ zeros vars 32 (1024 - vars)
  where
    long : (k : ℕ) → k ≡ 1024 - vars → 1056 ≡ vars + (32 + k)
    long k q = omega arith

table_over : (vars : ℕ) (line : List ℕ) → leb vars 1024 ≡ false → table_of vars line ≡ []
unfolding table_of
table_over vars line q = rw (q, table_of) refl

table_some : (vars : ℕ) (line : List ℕ) → leb vars 1024 ≡ true → (eqb (length line) vars && all is_binary_digit line) ≡ true
    → table_of vars line ≡ map digit line ++ replicate 32 0
unfolding table_of digit
table_some vars line q z = rw (q, z, table_of) refl

table_none : (vars : ℕ) (line : List ℕ) → leb vars 1024 ≡ true → (eqb (length line) vars && all is_binary_digit line) ≡ false → table_of vars line ≡ []
unfolding table_of
table_none vars line q z = rw (q, z, table_of) refl

zero_tests : (vars : ℕ) (line : List ℕ) → (eqb (0 + length line) vars && all is_binary_digit line) ≡ (eqb (length line) vars && all is_binary_digit line)
zero_tests vars line = ap (λ (n : ℕ). eqb n vars && all is_binary_digit line) (omega arith)

table_left : (vars : ℕ) (t line : List ℕ) → leb vars 1024 ≡ true → take 32 (drop vars t) ≡ replicate 32 0 → left_table vars 0 t line ≡ table_of vars line
table_left vars t line q e = go (eqb (length line) vars && all is_binary_digit line) refl
  where
    go : (x : Bool) → (eqb (length line) vars && all is_binary_digit line) ≡ x → left_table vars 0 t line ≡ table_of vars line
    go true z = left_some vars 0 t line (zero_tests vars line ∙ z) ∙ (ap (λ (l : List ℕ). map digit line ++ l) e ∙ sym (table_some vars line q z))
    go false z = left_none vars 0 t line (zero_tests vars line ∙ z) ∙ sym (table_none vars line q z)

-- what the whole line makes of it
pub filled_table : (vars : ℕ) (t line : List ℕ) → t ≡ replicate 1056 0 → shown vars (fill vars no_variables t line) ≡ table_of vars line
filled_table vars t line e = go (leb vars 1024) refl
  where
    go : (x : Bool) → leb vars 1024 ≡ x → shown vars (fill vars no_variables t line) ≡ table_of vars line
    go false q = over_shown vars (fill vars no_variables t line) (leb-false vars 1024 q) ∙ sym (table_over vars line q)
    go true q =
        left_shown vars 0 t line (leb-true vars 1024 q) (omega (arith, leb-true vars 1024 q, ap length e, length-replicate {A = ℕ} 1056 0))
        ∙ table_left vars t line q (scratch_zeros vars (leb-true vars 1024 q) t e)
