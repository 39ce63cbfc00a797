-- What is in the grammar is read. Assumes nothing.
use Rattle.std.specs.Prelude.{◌≡◌, true, false, List, [], ◌∷◌, ◌++◌, get_or}
use Rattle.std.proofs.Math.Path.{refl}
use Rattle.std.proofs.Common.{sym, ap, ◌∙◌, append-nil, length-append}
use Prim.Native.Nat.{ℕ, zero, suc, ◌+◌, ◌*◌, ◌≤◌, ◌<◌}
use native.Mathlib.Omega.{arith}
use borrow.Author.Tests.{eq-eqb, ne_eqb, lt-leb, lt-ltb, le-ltb}
use Rattle.std.proofs.Math.ListN.{length}
use Rattle.std.proofs.Math.Seq.{drop-length}
use Rattle.ladder_definitions.specs.Tree.{contact, contactn, Front, input, front_and, front_or, Output, Rear, output, rear_and, rear_or, Rung, Ladder}
use Rattle.text_grammar.specs.Grammar.{IsDigits, first, next, IsNumber, nought, digits, IsFront, one_term, more_term, IsTerm, one_factor, more_factor, IsFactor, c_number, n_number, in_round, IsRear, one_branch, more_branch, IsBranch, at_end, factor_and, IsEnd, output_number, in_square, IsLine, line, IsText, one_line, more_lines, most_number, most_brackets}
use Rattle.text_grammar.specs.Reader.{Parse, read, map_p, bind, followed, digit_of, digits_from, numeral_of, chain, term_by, front_by, factor_by, factor_of, term_of, front_of, opens_factor, branch_by, rear_by, output_at, end_by, end_of, rear_of, rung, line_of, lines_of, text_of}
use Rattle.text_grammar.proofs.Laws.Letters.{Letter, letter}
use Rattle.text_grammar.proofs.Laws.Spans.{Span, inside, span_cut, span_head, span_tail, digit_of_lem}

low : (b : ℕ) → b < 48 → digit_of b ≡ 10
unfolding digit_of
low b h = rw (lt-ltb b 48 h) refl

high : (b : ℕ) → 57 < b → digit_of b ≡ 10
unfolding digit_of
high b h = rw (le-ltb b 48 (omega arith), lt-ltb 57 b h) refl

-- the least value after which at most j digits more may come
abbrev Least : ℕ → ℕ
Least zero = 10000
Least (suc zero) = 1000
Least (suc (suc zero)) = 100
Least (suc (suc (suc zero))) = 10
Least (suc (suc (suc (suc j)))) = 1

least_down : (j v d : ℕ) → Least (suc j) ≤ v → Least j ≤ v * 10 + d
least_down zero v d h = omega arith
least_down (suc zero) v d h = omega arith
least_down (suc (suc zero)) v d h = omega arith
least_down (suc (suc (suc zero))) v d h = omega arith
least_down (suc (suc (suc (suc j)))) v d h = omega arith

module _ (s : List ℕ) where
  -- no digit stands at m
  abbrev Ends : ℕ → Type 0
  Ends m = digit_of (get_or s m 0) ≡ 10

  ends_low : (m b : ℕ) → get_or s m 0 ≡ b → b < 48 → Ends m
  ends_low m b e h = ap digit_of e ∙ low b h

  ends_high : (m b : ℕ) → get_or s m 0 ≡ b → 57 < b → Ends m
  ends_high m b e h = ap digit_of e ∙ high b h

  digits_more : (j v d m : ℕ) → Least j ≤ v → v * 10 + d ≤ most_number → d ≤ 9 → digit_of (get_or s m 0) ≡ d
      → (i : ℕ) × (Least i ≤ v * 10 + d) × (digits_from s j v m ≡ digits_from s i (v * 10 + d) (m + 1))
  unfolding digits_from
  digits_more zero v d m l h g e = absurd (omega arith)
  digits_more (suc i) v d m l h g e = (i, least_down i v d l, rw (e, lt-leb 10 d (omega arith), le-ltb most_number (v * 10 + d) h) refl)

  digits_end : (j v m : ℕ) → Ends m → digits_from s j v m ≡ read m v
  unfolding digits_from
  digits_end zero v m e = refl
  digits_end (suc j) v m e = rw e refl

  number_nought : (at : ℕ) → digit_of (get_or s at 0) ≡ 0 → numeral_of s at ≡ read (at + 1) 0
  unfolding numeral_of
  number_nought at e = rw e refl

  number_first : (at d : ℕ) → 1 ≤ d → d ≤ 9 → digit_of (get_or s at 0) ≡ d → numeral_of s at ≡ digits_from s 4 d (at + 1)
  unfolding numeral_of
  number_first at d l g e = rw (e, lt-leb 10 d (omega arith), ne_eqb d 0 (λ z. omega arith)) refl

  digits_run : {w : List ℕ} {v : ℕ} → IsDigits w v → (at m : ℕ) → v ≤ most_number → Span s at m w → (j : ℕ) × (Least j ≤ v) × (numeral_of s at ≡ digits_from s j v m)
  digits_run (first d l g) at m h z =
      (4, l, number_first at d l g (ap digit_of (span_head z) ∙ digit_of_lem d g) ∙ ap (λ i. digits_from s 4 d i) (sym z.long))
  digits_run (next {s = u} {v = v} x d g) at m h z =
      let y = span_cut u ((48 + d) ∷ []) z in
      let r = digits_run x at (at + length u) (omega arith) y.0 in
      let t = digits_more r.0 v d (at + length u) r.1 h g (ap digit_of (span_head y.1) ∙ digit_of_lem d g) in
      (t.0, t.1, r.2 ∙ (t.2 ∙ ap (λ i. digits_from s t.0 (v * 10 + d) i) (sym y.1.long)))

  pub number_read : {w : List ℕ} {v : ℕ} → IsNumber w v → (at m : ℕ) → Span s at m w → Ends m → numeral_of s at ≡ read m v
  number_read nought at m z e = number_nought at (ap digit_of (span_head z) ∙ digit_of_lem 0 (omega arith)) ∙ ap (λ i. read i 0) (sym z.long)
  number_read (digits x h) at m z e = let r = digits_run x at m h z in r.2 ∙ digits_end r.0 _ m e

  -- factors by their first byte
  c_read : (d at m v : ℕ) → get_or s at 0 ≡ 99 → numeral_of s (at + 1) ≡ read m v → factor_of d s at ≡ read m (input (contact v))
  unfolding factor_of factor_by map_p
  c_read zero at m v b e = rw (eq-eqb _ _ b, e) refl
  c_read (suc d) at m v b e = rw (eq-eqb _ _ b, e) refl

  n_read : (d at m v : ℕ) → get_or s at 0 ≡ 110 → numeral_of s (at + 1) ≡ read m v → factor_of d s at ≡ read m (input (contactn v))
  unfolding factor_of factor_by map_p
  n_read zero at m v b e = rw (b, e) refl
  n_read (suc d) at m v b e = rw (b, e) refl

  round_read : (d at m : ℕ) (f : Front) → get_or s at 0 ≡ 40 → front_of d s (at + 1) ≡ read m f → get_or s m 0 ≡ 41 → factor_of (suc d) s at ≡ read (m + 1) f
  unfolding factor_of factor_by followed front_of
  round_read d at m f b e x = rw (b, e, eq-eqb _ _ x) refl

  -- chains that group to the left: what is read up to m, with the parts that may follow
  module _ (item : ℕ → Parse Front) (sep : ℕ) (op : Front → Front → Front) where
    record Ran (at m : ℕ) (f : Front) : Type 0 where
      along : (k : ℕ) → length s ≤ at + k → (j : ℕ) × (length s ≤ m + j) × (chain item sep op s k (item at) ≡ chain item sep op s j (read m f))

    ran_start : (at m : ℕ) (f : Front) → at ≤ m → item at ≡ read m f → Ran at m f
    ran_start at m f h e = record { along = λ k l. (k, omega arith, ap (chain item sep op s k) e) }

    one_more : (m i : ℕ) (f g : Front) (k : ℕ) → length s ≤ m + k → m < length s → m < i → get_or s m 0 ≡ sep → item (m + 1) ≡ read i g
        → (j : ℕ) × (length s ≤ i + j) × (chain item sep op s k (read m f) ≡ chain item sep op s j (read i (op f g)))
    unfolding chain map_p
    one_more m i f g zero l h a b e = absurd (omega arith)
    one_more m i f g (suc k) l h a b e = (k, omega arith, rw (eq-eqb _ _ b, e) refl)

    ran_more : (at m i : ℕ) (f g : Front) → 0 < sep → Ran at m f → m < i → get_or s m 0 ≡ sep → item (m + 1) ≡ read i g → Ran at i (op f g)
    ran_more at m i f g p r a b e = record {
      along = λ k l.
          let x = r.along k l in
          let y = one_more m i f g x.0 x.1 (inside s m (omega arith)) a b e in
          (y.0, y.1, x.2 ∙ y.2);
    }

    pub no_more : (k m : ℕ) (f : Front) → (get_or s m 0 ≡ sep → ⊥) → chain item sep op s k (read m f) ≡ read m f
    unfolding chain
    no_more zero m f b = refl
    no_more (suc k) m f b = rw (ne_eqb _ _ b) refl

    ran_end : (at m : ℕ) (f : Front) → Ran at m f → (get_or s m 0 ≡ sep → ⊥) → chain item sep op s (length s) (item at) ≡ read m f
    ran_end at m f r b = let x = r.along (length s) (omega arith) in x.2 ∙ no_more x.0 m f b

  TermRan : ℕ → ℕ → ℕ → Front → Type 0
  TermRan d at m f = Ran (factor_of d s) 38 front_and at m f

  FrontRan : ℕ → ℕ → ℕ → Front → Type 0
  FrontRan d at m f = Ran (term_of d s) 124 front_or at m f

  term_ran : (d at m : ℕ) (f : Front) → TermRan d at m f → (get_or s m 0 ≡ 38 → ⊥) → term_of d s at ≡ read m f
  unfolding TermRan term_of term_by
  term_ran d at m f r b = ran_end (factor_of d s) 38 front_and at m f r b

  front_ran : (d at m : ℕ) (f : Front) → FrontRan d at m f → (get_or s m 0 ≡ 124 → ⊥) → front_of d s at ≡ read m f
  unfolding FrontRan front_of front_by term_of
  front_ran d at m f r b = ran_end (term_by (factor_of d s) s) 124 front_or at m f r b

  at_other : (m b c : ℕ) → get_or s m 0 ≡ b → (b ≡ c → ⊥) → get_or s m 0 ≡ c → ⊥
  at_other m b c e h g = h (sym e ∙ g)

  span_le : {at m : ℕ} {w : List ℕ} → Span s at m w → at ≤ m
  span_le z = omega (arith, z.long)

  -- terms and fronts, where factors with d brackets are read
  module _ (d : ℕ) (factors : (w : List ℕ) (f : Front) → IsFactor d w f → (at m : ℕ) → Span s at m w → Ends m → factor_of d s at ≡ read m f) where
    term_runs : {w : List ℕ} {f : Front} → IsTerm d w f → (at m : ℕ) → Span s at m w → Ends m → TermRan d at m f
    unfolding TermRan
    term_runs {w} {f} (one_factor x) at m z e = ran_start (factor_of d s) 38 front_and at m f (span_le z) (factors w f x at m z e)
    term_runs (more_factor {s = u} {t = v} {f = f} {g = g} x y) at m z e =
        let i = at + length u in
        let p = span_cut u (38 ∷ v) z in
        let b = span_head p.1 in
        let t = span_tail p.1 in
        ran_more (factor_of d s) 38 front_and at i m f g (omega arith)
        (term_runs x at i p.0 (ends_low i 38 b (omega arith)))
        (let l = span_le t in omega arith) b (factors v g y (i + 1) m t e)

    front_runs : {w : List ℕ} {f : Front} → IsFront d w f → (at m : ℕ) → Span s at m w → Ends m → (get_or s m 0 ≡ 38 → ⊥) → FrontRan d at m f
    unfolding FrontRan
    front_runs {w} {f} (one_term x) at m z e a = ran_start (term_of d s) 124 front_or at m f (span_le z) (term_ran d at m f (term_runs x at m z e) a)
    front_runs (more_term {s = u} {t = v} {f = f} {g = g} x y) at m z e a =
        let i = at + length u in
        let p = span_cut u (124 ∷ v) z in
        let b = span_head p.1 in
        let t = span_tail p.1 in
        ran_more (term_of d s) 124 front_or at i m f g (omega arith)
        (front_runs x at i p.0 (ends_high i 124 b (omega arith)) (at_other i 124 38 b (λ q. omega arith)))
        (let l = span_le t in omega arith) b (term_ran d (i + 1) m g (term_runs y (i + 1) m t e) a)

    -- before a byte that is no digit, no "&" and no "|"
    front_then : {w : List ℕ} {f : Front} → IsFront d w f → (at m : ℕ) → Span s at m w → Ends m → (get_or s m 0 ≡ 38 → ⊥) → (get_or s m 0 ≡ 124 → ⊥) → front_of d s at ≡ read m f
    front_then {w} {f} x at m z e a b = front_ran d at m f (front_runs x at m z e a) b

  factor_read : (d : ℕ) (w : List ℕ) (f : Front) → IsFactor d w f → (at m : ℕ) → Span s at m w → Ends m → factor_of d s at ≡ read m f
  factor_read zero w f (c_number {v = v} x) at m z e = c_read zero at m v (span_head z) (number_read x (at + 1) m (span_tail z) e)
  factor_read zero w f (n_number {v = v} x) at m z e = n_read zero at m v (span_head z) (number_read x (at + 1) m (span_tail z) e)
  factor_read (suc d) w f (c_number {v = v} x) at m z e = c_read (suc d) at m v (span_head z) (number_read x (at + 1) m (span_tail z) e)
  factor_read (suc d) w f (n_number {v = v} x) at m z e = n_read (suc d) at m v (span_head z) (number_read x (at + 1) m (span_tail z) e)
  factor_read (suc d) w f (in_round {s = u} x) at m z e =
      let i = at + 1 + length u in
      let p = span_cut u (41 ∷ []) (span_tail z) in
      let b = span_head p.1 in
      round_read d at i f (span_head z)
      (front_then d (factor_read d) x (at + 1) i p.0 (ends_low i 41 b (omega arith)) (at_other i 41 38 b (λ q. omega arith)) (at_other i 41 124 b (λ q. omega arith))) b
      ∙ ap (λ i. read i f) (sym p.1.long)

  -- what begins a factor, and what begins an end
  factor_opens : {d : ℕ} {w : List ℕ} {f : Front} → IsFactor d w f → (at m : ℕ) → Span s at m w → opens_factor (get_or s at 0) ≡ true
  unfolding opens_factor
  factor_opens (c_number x) at m z = rw (span_head z) refl
  factor_opens (n_number x) at m z = rw (span_head z) refl
  factor_opens (in_round x) at m z = rw (span_head z) refl

  end_opens : {d : ℕ} {w : List ℕ} {r : Rear} → IsEnd d w r → (at m : ℕ) → Span s at m w → opens_factor (get_or s at 0) ≡ false
  unfolding opens_factor
  end_opens (output_number x y) at m z = rw (span_head z) (letter x).no_factor
  end_opens (in_square x) at m z = rw (span_head z) refl

  module _ (d : ℕ) where
    branch_with : ℕ → ℕ → Parse Rear
    branch_with k at = branch_by (factor_of d s) (end_of d s) s k at

    rear_with : ℕ → ℕ → Parse Rear
    rear_with k at = rear_by (branch_by (factor_of d s) (end_of d s) s (suc (length s))) s k at

    -- with every fuel that is enough
    BranchRead : ℕ → ℕ → Rear → Type 0
    BranchRead at m r = (k : ℕ) → length s < at + k → branch_with k at ≡ read m r

    RearRead : ℕ → ℕ → Rear → Type 0
    RearRead at m r = (k : ℕ) → length s < at + k → rear_with k at ≡ read m r

    branch_end : (at m : ℕ) (r : Rear) → at ≤ length s → opens_factor (get_or s at 0) ≡ false → end_of d s at ≡ read m r → BranchRead at m r
    unfolding BranchRead branch_with branch_by
    branch_end at m r h b e zero l = absurd (omega arith)
    branch_end at m r h b e (suc k) l = rw b e

    branch_and : (at i m : ℕ) (f : Front) (r : Rear) → at ≤ length s → at ≤ i → opens_factor (get_or s at 0) ≡ true → factor_of d s at ≡ read i f → get_or s i 0 ≡ 38
        → BranchRead (i + 1) m r → BranchRead at m (rear_and f r)
    unfolding BranchRead branch_with branch_by followed bind map_p
    branch_and at i m f r h g b e x y zero l = absurd (omega arith)
    branch_and at i m f r h g b e x y (suc k) l = rw (b, e, eq-eqb _ _ x, y k (omega arith)) refl

    rear_end : (at m : ℕ) (r : Rear) → at ≤ length s → BranchRead at m r → (get_or s m 0 ≡ 124 → ⊥) → RearRead at m r
    unfolding BranchRead branch_with RearRead rear_with rear_by bind
    rear_end at m r h b x zero l = absurd (omega arith)
    rear_end at m r h b x (suc k) l = rw (b (suc (length s)) (omega arith), ne_eqb _ _ x) refl

    rear_more : (at i m : ℕ) (r q : Rear) → at ≤ length s → at ≤ i → BranchRead at i r → get_or s i 0 ≡ 124 → RearRead (i + 1) m q → RearRead at m (rear_or r q)
    unfolding BranchRead branch_with RearRead rear_with rear_by bind map_p
    rear_more at i m r q h g b x y zero l = absurd (omega arith)
    rear_more at i m r q h g b x y (suc k) l = rw (b (suc (length s)) (omega arith), eq-eqb _ _ x, y k (omega arith)) refl

    rear_whole : (at m : ℕ) (r : Rear) → at ≤ length s → RearRead at m r → rear_of d s at ≡ read m r
    unfolding RearRead rear_with rear_of
    rear_whole at m r h b = b (suc (length s)) (omega arith)

  -- ends by their first byte
  output_read : {b : ℕ} {make : ℕ → Output} (d at m v : ℕ) → Letter b make → get_or s at 0 ≡ b → numeral_of s (at + 1) ≡ read m v → end_of d s at ≡ read m (output (make v))
  unfolding end_of end_by map_p
  output_read zero at m v x b e = rw (b, x.known, e) refl
  output_read (suc d) at m v x b e = rw (b, x.known, e) refl

  square_read : (d at m : ℕ) (r : Rear) → get_or s at 0 ≡ 91 → rear_of d s (at + 1) ≡ read m r → get_or s m 0 ≡ 93 → end_of (suc d) s at ≡ read (m + 1) r
  unfolding end_of end_by output_at followed rear_of
  square_read d at m r b e x = rw (b, e, eq-eqb _ _ x) refl

  pub past : (m b : ℕ) → get_or s m 0 ≡ b → 0 < b → m + 1 ≤ length s
  past m b e h = let i = inside s m (omega arith) in omega arith

  -- branches and rears, where ends with d brackets are read
  module _ (d : ℕ) (ends : (w : List ℕ) (r : Rear) → IsEnd d w r → (at m : ℕ) → Span s at m w → Ends m → end_of d s at ≡ read m r) where
    branch_runs : {w : List ℕ} {r : Rear} → IsBranch d w r → (at m : ℕ) → at ≤ length s → Span s at m w → Ends m → BranchRead d at m r
    branch_runs {w} {r} (at_end x) at m h z e = branch_end d at m r h (end_opens x at m z) (ends w r x at m z e)
    branch_runs (factor_and {s = u} {t = v} {f = f} {r = r} x y) at m h z e =
        let i = at + length u in
        let p = span_cut u (38 ∷ v) z in
        let b = span_head p.1 in
        branch_and d at i m f r h (omega arith) (factor_opens x at i p.0) (factor_read d u f x at i p.0 (ends_low i 38 b (omega arith))) b
        (branch_runs y (i + 1) m (past i 38 b (omega arith)) (span_tail p.1) e)

    rear_runs : {w : List ℕ} {r : Rear} → IsRear d w r → (at m : ℕ) → at ≤ length s → Span s at m w → Ends m → (get_or s m 0 ≡ 124 → ⊥) → RearRead d at m r
    rear_runs {w} {r} (one_branch x) at m h z e a = rear_end d at m r h (branch_runs x at m h z e) a
    rear_runs (more_branch {s = u} {t = v} {r = r} {q = q} x y) at m h z e a =
        let i = at + length u in
        let p = span_cut u (124 ∷ v) z in
        let b = span_head p.1 in
        rear_more d at i m r q h (omega arith) (branch_runs x at i h p.0 (ends_high i 124 b (omega arith))) b
        (rear_runs y (i + 1) m (past i 124 b (omega arith)) (span_tail p.1) e a)

    -- before a byte that is no digit and no "|"
    rear_then : {w : List ℕ} {r : Rear} → IsRear d w r → (at m : ℕ) → at ≤ length s → Span s at m w → Ends m → (get_or s m 0 ≡ 124 → ⊥) → rear_of d s at ≡ read m r
    rear_then {w} {r} x at m h z e a = rear_whole d at m r h (rear_runs x at m h z e a)

  end_read : (d : ℕ) (w : List ℕ) (r : Rear) → IsEnd d w r → (at m : ℕ) → Span s at m w → Ends m → end_of d s at ≡ read m r
  end_read zero w r (output_number {v = v} x y) at m z e = output_read zero at m v (letter x) (span_head z) (number_read y (at + 1) m (span_tail z) e)
  end_read (suc d) w r (output_number {v = v} x y) at m z e = output_read (suc d) at m v (letter x) (span_head z) (number_read y (at + 1) m (span_tail z) e)
  end_read (suc d) w r (in_square {s = u} x) at m z e =
      let i = at + 1 + length u in
      let p = span_cut u (93 ∷ []) (span_tail z) in
      let b = span_head p.1 in
      let h = past at 91 (span_head z) (omega arith) in
      square_read d at i r (span_head z) (rear_then d (end_read d) x (at + 1) i h p.0 (ends_high i 93 b (omega arith)) (at_other i 93 124 b (λ q. omega arith))) b
      ∙ ap (λ i. read i r) (sym p.1.long)

  line_parts : (at i j m l : ℕ) (f : Front) (r : Rear) → numeral_of s at ≡ read i l → get_or s i 0 ≡ 58 → front_of most_brackets s (i + 1) ≡ read j f → get_or s j 0 ≡ 62
      → rear_of most_brackets s (j + 1) ≡ read m r → get_or s m 0 ≡ 10 → line_of s at ≡ read (m + 1) (rung l f r)
  unfolding line_of bind followed map_p
  line_parts at i j m l f r a b c d e g = rw (a, b, c, d, e, g) refl

  pub line_read : {w : List ℕ} {g : Rung} → IsLine w g → (at m : ℕ) → Span s at m w → line_of s at ≡ read m g
  line_read (line {s = u} {t = v} {u = x} {l = l} {f = f} {r = r} xl xf xr) at m z =
      let i = at + length u in
      let p = span_cut u (58 ∷ (v ++ 62 ∷ (x ++ 10 ∷ []))) z in
      let a = span_head p.1 in
      let j = i + 1 + length v in
      let q = span_cut v (62 ∷ (x ++ 10 ∷ [])) (span_tail p.1) in
      let b = span_head q.1 in
      let y = j + 1 + length x in
      let t = span_cut x (10 ∷ []) (span_tail q.1) in
      let c = span_head t.1 in
      let h = past j 62 b (omega arith) in
      line_parts at i j y l f r (number_read xl at i p.0 (ends_high i 58 a (omega arith))) a
      (front_then most_brackets (factor_read most_brackets) xf (i + 1) j q.0 (ends_high j 62 b (omega arith)) (at_other j 62 38 b (λ q. omega arith)) (at_other j 62 124 b (λ q. omega arith))) b
      (rear_then most_brackets (end_read most_brackets) xr (j + 1) y h t.0 (ends_low y 10 c (omega arith)) (at_other y 10 124 c (λ q. omega arith))) c
      ∙ ap (λ i. read i (rung l f r)) (sym t.1.long)

  pub line_some : {w : List ℕ} {g : Rung} → IsLine w g → 1 ≤ length w
  line_some (line {s = u} {t = v} {u = x} xl xf xr) = rw length-append (omega arith)

  text_some : {w : List ℕ} {gs : Ladder} → IsText w gs → 1 ≤ length w
  text_some (one_line x) = line_some x
  text_some (more_lines {s = u} {t = v} x y) = let h = line_some x in rw length-append (omega arith)

  last_line : (k at : ℕ) (g : Rung) → length s < at + k → at ≤ length s → line_of s at ≡ read (length s) g → lines_of s k at ≡ read (length s) (g ∷ [])
  unfolding lines_of bind
  last_line zero at g l h e = absurd (omega arith)
  last_line (suc k) at g l h e = rw (e, eq-eqb (length s) (length s) refl) refl

  one_line_lem : (k at m : ℕ) (g : Rung) (gs : Ladder) → length s < at + k → at < m → m < length s → line_of s at ≡ read m g
      → ((k : ℕ) → length s < m + k → lines_of s k m ≡ read (length s) gs) → lines_of s k at ≡ read (length s) (g ∷ gs)
  unfolding lines_of bind map_p
  one_line_lem zero at m g gs l h i e ih = absurd (omega arith)
  one_line_lem (suc k) at m g gs l h i e ih = rw (e, ne_eqb m (length s) (λ q. omega arith), ih k (omega arith)) refl

  lines_read : {w : List ℕ} {gs : Ladder} → IsText w gs → (k at : ℕ) → length s < at + k → at ≤ length s → Span s at (length s) w → lines_of s k at ≡ read (length s) gs
  lines_read (one_line {g = g} x) k at l h z = last_line k at g l h (line_read x at (length s) z)
  lines_read (more_lines {s = u} {t = v} {g = g} {gs = gs} x y) k at l h z =
      let i = at + length u in
      let p = span_cut u v z in
      let a = line_some x in
      let b = text_some y in
      let c = p.1.long in
      one_line_lem k at i g gs l (omega arith) (omega arith) (line_read x at i p.0) (λ k l. lines_read y k i l (omega arith) p.1)

-- every text of the grammar is read, with its ladder
pub complete : {s : List ℕ} {gs : Ladder} → IsText s gs → text_of s ≡ read (length s) gs
unfolding text_of
complete {s} x = lines_read s x (suc (length s)) 0 (omega arith) (omega arith) (record { cut = rw (drop-length, append-nil) refl; long = omega arith })

-- so it has one ladder
pub one_ladder : {s : List ℕ} {gs hs : Ladder} → IsText s gs → IsText s hs → gs ≡ hs
one_ladder x y = let a = complete x in let b = complete y in cc
