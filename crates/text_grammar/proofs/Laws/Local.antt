-- A reader's answer rests on the bytes up to where it ends or is stuck, and on none after. Assumes nothing.
use Rattle.std.proofs.Math.Path.{◌≡◌, refl, ap, subst}
use Rattle.std.proofs.Common.{sym, ◌∙◌, ne_eqb, eqb-true}
use Rattle.std.specs.Prelude.{Bool, leb, ltb, length, get_or}
use Rattle.std.proofs.Math.Bool.{true, false}
use Rattle.std.proofs.Math.Option.{Option, none, some}
use mathlib.Core.List.{List, [], ◌∷◌}
use Prim.Native.Nat.{ℕ, zero, suc, ◌+◌, ◌*◌, ◌≤◌, ◌<◌}
use native.Mathlib.Omega.{arith}
use Rattle.std.proofs.Math.Dec.{eqb}
use Rattle.std.proofs.Math.ListN.{get_or-eq_default}
use Rattle.ladder_definitions.specs.Tree.{contact, contactn, Front, input, front_and, front_or, Output, Rear, output, rear_and, rear_or, Rung, Ladder}
use Rattle.text_grammar.specs.Grammar.{IsLine, most_number, most_brackets}
use Rattle.text_grammar.specs.Reader.{pick, Parse, read, stuck, map_p, bind, followed, digit_of, digits_from, numeral_of, chain, term_by, front_by, factor_by, factor_of, front_of, opens_factor, branch_by, rear_by, output_at, output_or, end_by, end_of, rear_of, rung, line_of, lines_of, text_of}
use Rattle.text_grammar.proofs.Laws.Fits.{Fits, fits, begins, number_fits, term_by_fits, front_by_fits, factor_fits, front_fits_lem, branch_by_fits, rear_by_fits, rear_fits_lem, end_fits, line_fits, lines_fit}
use Rattle.text_grammar.proofs.Laws.Complete.{past, line_some}

abbrev pub reach : {A : Type 0} → Parse A → ℕ
reach (read m a) = m
reach (stuck m) = m

-- two texts have the same bytes up to k, and at k
pub record Alike (s t : List ℕ) (k : ℕ) : Type 0 where
  pub byte : (i : ℕ) → i ≤ k → get_or s i 0 ≡ get_or t i 0

alike_down : {s t : List ℕ} {k : ℕ} (i : ℕ) → i ≤ k → Alike s t k → Alike s t i
alike_down i h a = record { byte = λ j l. a.byte j (omega arith) }

fits_reach : {A : Type 0} {N : List ℕ → A → Type 0} {s : List ℕ} {at : ℕ} {p : Parse A} → Fits N s at p → at ≤ reach p
fits_reach (fits w z x) = omega (arith, z.long)
fits_reach (begins w rest a z x) = omega (arith, z.long)

pick_reach : {A : Type 0} (b : Bool) (x y : Parse A) (m : ℕ) → m ≤ reach x → m ≤ reach y → m ≤ reach (pick b x y)
pick_reach true x y m h g = h
pick_reach false x y m h g = g

map_reach : {A B : Type 0} (f : A → B) (p : Parse A) → reach (map_p f p) ≡ reach p
unfolding map_p
map_reach f (read m a) = refl
map_reach f (stuck m) = refl

followed_reach : {A : Type 0} (s : List ℕ) (b : ℕ) (p : Parse A) → reach p ≤ reach (followed s b p)
unfolding followed
followed_reach s b (read m a) = pick_reach (eqb (get_or s m 0) b) (read (m + 1) a) (stuck m) m (omega arith) (omega arith)
followed_reach s b (stuck m) = omega arith

bind_reach : {A B : Type 0} (p : Parse A) (rest : ℕ → A → Parse B) → ((m : ℕ) (a : A) → m ≤ reach (rest m a)) → reach p ≤ reach (bind p rest)
unfolding bind
bind_reach (read m a) rest h = h m a
bind_reach (stuck m) rest h = omega arith

-- what is followed by a byte, taken apart
pub followed_read : {A : Type 0} (s : List ℕ) (b : ℕ) (p : Parse A) (m : ℕ) (a : A) → followed s b p ≡ read m a → (i : ℕ) × (p ≡ read i a) × (m ≡ i + 1) × (get_or s i 0 ≡ b)
unfolding followed
followed_read {A} s b (read i a) m c e = go (eqb (get_or s i 0) b) refl e
  where
    go : (x : Bool) → eqb (get_or s i 0) b ≡ x → pick x (read (i + 1) a) (stuck i) ≡ read m c → (k : ℕ) × (◌≡◌ {A = Parse A} (read i a) (read k c)) × (m ≡ k + 1) × (get_or s k 0 ≡ b)
    go true q f = (i, cc, cc, eqb-true _ _ q)
    go false q f = let z : ◌≡◌ {A = ℕ} 0 1 = cc in absurd (omega arith)
followed_read s b (stuck i) m c e = let z : ◌≡◌ {A = ℕ} 0 1 = cc in absurd (omega arith)

map_stuck : {A B : Type 0} (f : A → B) (r : Parse A) (p : ℕ) → map_p f r ≡ stuck p → r ≡ stuck p
unfolding map_p
map_stuck f (read m a) p e = let z : ◌≡◌ {A = ℕ} 0 1 = cc in absurd (omega arith)
map_stuck f (stuck m) p e = cc

map_read : {A B : Type 0} (f : A → B) (r : Parse A) (m : ℕ) (b : B) → map_p f r ≡ read m b → (a : A) × (r ≡ read m a)
unfolding map_p
map_read f (read i a) m b e = (a, cc)
map_read f (stuck i) m b e = let z : ◌≡◌ {A = ℕ} 0 1 = cc in absurd (omega arith)

-- what comes after a line
abbrev onward : List ℕ → ℕ → ℕ → Rung → Parse Ladder
onward r k m g = pick (eqb m (length r)) (read m (g ∷ [])) (map_p (λ gs. g ∷ gs) (lines_of r k m))

module _ (s t : List ℕ) where
  -- p is an answer over s, q the same reader's over t
  abbrev Same : {A : Type 0} → Parse A → Parse A → Type 0
  Same p q = Alike s t (reach p) → q ≡ p

  same_map : {A B : Type 0} (f : A → B) (p q : Parse A) → Same p q → Same (map_p f p) (map_p f q)
  unfolding map_p
  same_map f (read m a) q h x = ap (map_p f) (h x)
  same_map f (stuck m) q h x = ap (map_p f) (h x)

  same_pick : {A : Type 0} (test : ℕ → Bool) (m : ℕ) (x x' y y' : Parse A) → m ≤ reach x → m ≤ reach y
      → (test (get_or s m 0) ≡ true → Alike s t m → Same x x') → (test (get_or s m 0) ≡ false → Alike s t m → Same y y')
      → Same (pick (test (get_or s m 0)) x y) (pick (test (get_or t m 0)) x' y')
  same_pick test m x x' y y' h g f k = go (test (get_or s m 0)) refl
    where
      go : (b : Bool) → test (get_or s m 0) ≡ b → Same (pick b x y) (pick (test (get_or t m 0)) x' y')
      go true e a = let l = alike_down m h a in rw (← (l.byte m (omega arith)), e) (f e l a)
      go false e a = let l = alike_down m g a in rw (← (l.byte m (omega arith)), e) (k e l a)

  -- what is a function of the byte at m
  same_at : {A : Type 0} (m : ℕ) (x y : ℕ → Parse A) → m ≤ reach (x (get_or s m 0)) → (Alike s t m → Same (x (get_or s m 0)) (y (get_or s m 0))) → Same (x (get_or s m 0)) (y (get_or t m 0))
  same_at m x y h f a = let l = alike_down m h a in ap y (sym (l.byte m (omega arith))) ∙ f l a

  same_choice : {A : Type 0} (b : Bool) (x x' y y' : Parse A) → Same x x' → Same y y' → Same (pick b x y) (pick b x' y')
  same_choice true x x' y y' f g = f
  same_choice false x x' y y' f g = g

  same_refl : {A : Type 0} (p : Parse A) → Same p p
  same_refl p a = refl

  same_followed : {A : Type 0} (b : ℕ) (p q : Parse A) → Same p q → Same (followed s b p) (followed t b q)
  unfolding followed
  same_followed b (read m a) q h x =
      let l = alike_down m (pick_reach (eqb (get_or s m 0) b) (read (m + 1) a) (stuck m) m (omega arith) (omega arith)) x in
      ap (followed t b) (h l) ∙ same_pick (λ c. eqb c b) m (read (m + 1) a) (read (m + 1) a) (stuck m) (stuck m) (omega arith) (omega arith) (λ e l a. refl) (λ e l a. refl) x
  same_followed b (stuck m) q h x = ap (followed t b) (h x)

  same_bind : {A B : Type 0} (p q : Parse A) (rest rest' : ℕ → A → Parse B) → Same p q → ((m : ℕ) (a : A) → m ≤ reach (rest m a))
      → ((m : ℕ) (a : A) → p ≡ read m a → Alike s t m → Same (rest m a) (rest' m a)) → Same (bind p rest) (bind q rest')
  unfolding bind
  same_bind (read m a) q rest rest' h g f x = let l = alike_down m (g m a) x in ap (λ r. bind r rest') (h l) ∙ f m a refl l x
  same_bind (stuck m) q rest rest' h g f x = ap (λ r. bind r rest') (h x)

  digits_reach : (k v m : ℕ) → m ≤ reach (digits_from s k v m)
  unfolding digits_from
  digits_reach zero v m = omega arith
  digits_reach (suc k) v m =
      let d = digit_of (get_or s m 0) in
      let h = digits_reach k (v * 10 + d) (m + 1) in
      pick_reach (leb 10 d) _ _ m (omega arith) (pick_reach (ltb most_number (v * 10 + d)) _ _ m (omega arith) (omega arith))

  digits_same : (k v m : ℕ) → Same (digits_from s k v m) (digits_from t k v m)
  unfolding digits_from
  digits_same zero v m = λ x. refl
  digits_same (suc k) v m =
      let d = digit_of (get_or s m 0) in
      let value : List ℕ → ℕ → Parse ℕ = λ r b. pick (leb 10 (digit_of b)) (read m v) (pick (ltb most_number (v * 10 + digit_of b)) (read m v) (digits_from r k (v * 10 + digit_of b) (m + 1))) in
      let h = digits_reach k (v * 10 + d) (m + 1) in
      same_at m (value s) (value t) (pick_reach (leb 10 d) _ _ m (omega arith) (pick_reach (ltb most_number (v * 10 + d)) _ _ m (omega arith) (omega arith)))
      (λ l. same_choice (leb 10 d) (read m v) (read m v) _ _ (same_refl (read m v))
      (same_choice (ltb most_number (v * 10 + d)) (read m v) (read m v) _ _ (same_refl (read m v)) (digits_same k (v * 10 + d) (m + 1))))

  number_same : (at : ℕ) → Same (numeral_of s at) (numeral_of t at)
  unfolding numeral_of
  number_same at =
      let d = digit_of (get_or s at 0) in
      let value : List ℕ → ℕ → Parse ℕ = λ r b. pick (leb 10 (digit_of b)) (stuck at) (pick (eqb (digit_of b) 0) (read (at + 1) 0) (digits_from r 4 (digit_of b) (at + 1))) in
      let h = digits_reach 4 d (at + 1) in
      same_at at (value s) (value t) (pick_reach (leb 10 d) _ _ at (omega arith) (pick_reach (eqb d 0) _ _ at (omega arith) (omega arith)))
      (λ l. same_choice (leb 10 d) (stuck at) (stuck at) _ _ (same_refl (stuck at))
      (same_choice (eqb d 0) (read (at + 1) 0) (read (at + 1) 0) _ _ (same_refl (read (at + 1) 0)) (digits_same 4 d (at + 1))))

  -- no byte stands past the end
  no_byte : (r : List ℕ) (m b : ℕ) → length r ≤ m → 0 < b → get_or r m 0 ≡ b → ⊥
  no_byte r m b h g e = let z = get_or-eq_default r 0 {n = m} h in omega arith

  -- chains, each with fuel enough for its text
  module _ (item item' : ℕ → Parse Front) (sep : ℕ) (op : Front → Front → Front) (pos : 0 < sep) (ahead : (m : ℕ) → m ≤ reach (item m)) (items : (m : ℕ) → Same (item m) (item' m)) where
    chain_reach : (k : ℕ) (p : Parse Front) → reach p ≤ reach (chain item sep op s k p)
    unfolding chain
    chain_reach zero p = omega arith
    chain_reach (suc k) (stuck m) = omega arith
    chain_reach (suc k) (read m f) =
        let h = chain_reach k (map_p (op f) (item (m + 1))) in
        let g = map_reach (op f) (item (m + 1)) in
        let a = ahead (m + 1) in
        pick_reach (eqb (get_or s m 0) sep) _ _ m (omega arith) (omega arith)

    chain_same : (k l : ℕ) (p : Parse Front) → length s ≤ reach p + k → length t ≤ reach p + l → Same (chain item sep op s k p) (chain item' sep op t l p)
    unfolding chain
    chain_same zero zero p h g = λ x. refl
    chain_same zero (suc l) (stuck m) h g = λ x. refl
    chain_same zero (suc l) (read m f) h g = λ x.
        rw (ne_eqb (get_or t m 0) sep (λ e. no_byte s m sep (omega arith) pos (x.byte m (omega arith) ∙ e))) refl
    chain_same (suc k) zero (stuck m) h g = λ x. refl
    chain_same (suc k) zero (read m f) h g = λ x.
        let y = alike_down m (chain_reach (suc k) (read m f)) x in
        rw (ne_eqb (get_or s m 0) sep (λ e. no_byte t m sep (omega arith) pos (sym (y.byte m (omega arith)) ∙ e))) refl
    chain_same (suc k) (suc l) (stuck m) h g = λ x. refl
    chain_same (suc k) (suc l) (read m f) h g =
        let p = map_p (op f) (item (m + 1)) in
        let a = ahead (m + 1) in
        let b = map_reach (op f) (item (m + 1)) in
        let c = chain_reach k p in
        same_pick (λ b. eqb b sep) m (chain item sep op s k p) (chain item' sep op t l (map_p (op f) (item' (m + 1)))) (read m f) (read m f) (omega arith) (omega arith)
        (λ q y x. ap (chain item' sep op t l) (same_map (op f) (item (m + 1)) (item' (m + 1)) (items (m + 1)) (alike_down (reach p) c x)) ∙ chain_same k l p (omega arith) (omega arith) x)
        (λ q y x. refl)

    chain_whole : (at : ℕ) → Same (chain item sep op s (length s) (item at)) (chain item' sep op t (length t) (item' at))
    chain_whole at x =
        ap (chain item' sep op t (length t)) (items at (alike_down (reach (item at)) (chain_reach (length s) (item at)) x))
        ∙ chain_same (length s) (length t) (item at) (omega arith) (omega arith) x

  term_same : (d at : ℕ) → ((m : ℕ) → Same (factor_of d s m) (factor_of d t m)) → Same (term_by (factor_of d s) s at) (term_by (factor_of d t) t at)
  unfolding term_by
  term_same d at h = chain_whole (factor_of d s) (factor_of d t) 38 front_and (omega arith) (λ m. fits_reach (factor_fits s d m)) h at

  front_by_same : (d at : ℕ) → ((m : ℕ) → Same (factor_of d s m) (factor_of d t m)) → Same (front_by (factor_of d s) s at) (front_by (factor_of d t) t at)
  unfolding front_by
  front_by_same d at h =
      chain_whole (term_by (factor_of d s) s) (term_by (factor_of d t) t) 124 front_or (omega arith) (λ m. fits_reach (term_by_fits s d (factor_of d s) (factor_fits s d) m)) (λ m. term_same d m h) at

  number_ahead : {A : Type 0} (at : ℕ) (f : ℕ → A) → at ≤ reach (map_p f (numeral_of s (at + 1)))
  number_ahead at f = let h = map_reach f (numeral_of s (at + 1)) in let g = fits_reach (number_fits s (at + 1)) in omega arith

  number_map : {A : Type 0} (at : ℕ) (f : ℕ → A) → Same (map_p f (numeral_of s (at + 1))) (map_p f (numeral_of t (at + 1)))
  number_map at f = same_map f (numeral_of s (at + 1)) (numeral_of t (at + 1)) (number_same (at + 1))

  factor_by_same : (at : ℕ) (p q : Parse Front) → at ≤ reach p → Same p q → Same (factor_by p s at) (factor_by q t at)
  unfolding factor_by
  factor_by_same at p q h x =
      same_pick (λ b. eqb b 99) at _ _ _ _ (number_ahead at (λ v. input (contact v))) (pick_reach (eqb (get_or s at 0) 110) _ _ at (number_ahead at (λ v. input (contactn v))) (pick_reach (eqb (get_or s at 0) 40) p (stuck at) at h (omega arith)))
      (λ e l. number_map at (λ v. input (contact v)))
      (λ e l. same_pick (λ b. eqb b 110) at _ _ _ _ (number_ahead at (λ v. input (contactn v))) (pick_reach (eqb (get_or s at 0) 40) p (stuck at) at h (omega arith))
      (λ e l. number_map at (λ v. input (contactn v)))
      (λ e l. same_pick (λ b. eqb b 40) at p q (stuck at) (stuck at) h (omega arith) (λ e l. x) (λ e l. same_refl (stuck at))))

  factor_same : (d at : ℕ) → Same (factor_of d s at) (factor_of d t at)
  unfolding factor_of
  factor_same zero at = factor_by_same at (stuck at) (stuck at) (omega arith) (same_refl (stuck at))
  factor_same (suc d) at =
      let p = front_by (factor_of d s) s (at + 1) in
      let h = fits_reach (front_by_fits s d (factor_of d s) (factor_fits s d) (at + 1)) in
      let g = followed_reach s 41 p in
      factor_by_same at (followed s 41 p) (followed t 41 (front_by (factor_of d t) t (at + 1))) (omega arith)
      (same_followed 41 p (front_by (factor_of d t) t (at + 1)) (front_by_same d (at + 1) (factor_same d)))

  pub front_same : (d at : ℕ) → Same (front_of d s at) (front_of d t at)
  unfolding front_of
  front_same d at = front_by_same d at (factor_same d)

  -- both texts go on after a byte that they share
  past_both : (m b : ℕ) → get_or s m 0 ≡ b → 0 < b → Alike s t m → (m + 1 ≤ length s) × (m + 1 ≤ length t)
  past_both m b e h l = (past s m b e h, past t m b (sym (l.byte m (omega arith)) ∙ e) h)

  module _ (d : ℕ) (ends : (m : ℕ) → Same (end_of d s m) (end_of d t m)) where
    branch_ahead : (k m : ℕ) → m ≤ reach (branch_by (factor_of d s) (end_of d s) s k m)
    branch_ahead k m = fits_reach (branch_by_fits s d (factor_of d s) (end_of d s) (factor_fits s d) (end_fits s d) k m)

    branch_same : (k l at : ℕ) → length s < at + k → length t < at + l → at ≤ length s → at ≤ length t
        → Same (branch_by (factor_of d s) (end_of d s) s k at) (branch_by (factor_of d t) (end_of d t) t l at)
    unfolding branch_by
    branch_same zero l at h g a b = absurd (omega arith)
    branch_same (suc k) zero at h g a b = absurd (omega arith)
    branch_same (suc k) (suc l) at h g a b =
        let more : ℕ → Front → Parse Rear = λ m f. map_p (rear_and f) (branch_by (factor_of d s) (end_of d s) s k m) in
        let more' : ℕ → Front → Parse Rear = λ m f. map_p (rear_and f) (branch_by (factor_of d t) (end_of d t) t l m) in
        let p = followed s 38 (factor_of d s at) in
        let q = followed t 38 (factor_of d t at) in
        let i = fits_reach (factor_fits s d at) in
        let j = followed_reach s 38 (factor_of d s at) in
        let ahead : (m : ℕ) (f : Front) → m ≤ reach (more m f) = λ m f. let y = branch_ahead k m in let z = map_reach (rear_and f) (branch_by (factor_of d s) (end_of d s) s k m) in omega arith in
        same_pick opens_factor at (bind p more) (bind q more') (end_of d s at) (end_of d t at) (let y = bind_reach p more ahead in omega arith) (fits_reach (end_fits s d at))
        (λ e y. same_bind p q more more' (same_followed 38 (factor_of d s at) (factor_of d t at) (factor_same d at)) ahead
        (λ m f e l'.
        let x = followed_read s 38 (factor_of d s at) m f e in
        let r : at ≤ x.0 = subst (λ w. at ≤ reach w) x.1 i in
        let u = past_both x.0 38 x.3 (omega arith) (alike_down x.0 (omega (arith, x.2)) l') in
        same_map (rear_and f) (branch_by (factor_of d s) (end_of d s) s k m) (branch_by (factor_of d t) (end_of d t) t l m)
        (branch_same k l m (omega (arith, x.2)) (omega (arith, x.2)) (omega (arith, x.2, u.0)) (omega (arith, x.2, u.1)))))
        (λ e y. ends at)

    rear_ahead : (k l m : ℕ) → m ≤ reach (rear_by (branch_by (factor_of d s) (end_of d s) s l) s k m)
    rear_ahead k l m = fits_reach (rear_by_fits s d (factor_of d s) (end_of d s) (factor_fits s d) (end_fits s d) k l m)

    rear_by_same : (k l at : ℕ) → length s < at + k → length t < at + l → at ≤ length s → at ≤ length t
        → Same (rear_by (branch_by (factor_of d s) (end_of d s) s (suc (length s))) s k at) (rear_by (branch_by (factor_of d t) (end_of d t) t (suc (length t))) t l at)
    unfolding rear_by
    rear_by_same zero l at h g a b = absurd (omega arith)
    rear_by_same (suc k) zero at h g a b = absurd (omega arith)
    rear_by_same (suc k) (suc l) at h g a b =
        let branch = branch_by (factor_of d s) (end_of d s) s (suc (length s)) in
        let branch' = branch_by (factor_of d t) (end_of d t) t (suc (length t)) in
        let more : ℕ → Rear → Parse Rear = λ m r. map_p (rear_or r) (rear_by branch s k (m + 1)) in
        let more' : ℕ → Rear → Parse Rear = λ m r. map_p (rear_or r) (rear_by branch' t l (m + 1)) in
        let ahead : (m : ℕ) (r : Rear) → m ≤ reach (more m r) = λ m r. let y = rear_ahead k (suc (length s)) (m + 1) in let z = map_reach (rear_or r) (rear_by branch s k (m + 1)) in omega arith in
        same_bind (branch at) (branch' at) (λ m r. pick (eqb (get_or s m 0) 124) (more m r) (read m r)) (λ m r. pick (eqb (get_or t m 0) 124) (more' m r) (read m r))
        (branch_same (suc (length s)) (suc (length t)) at (omega arith) (omega arith) a b)
        (λ m r. pick_reach (eqb (get_or s m 0) 124) (more m r) (read m r) m (ahead m r) (omega arith))
        (λ m r e l'. same_pick (λ x. eqb x 124) m (more m r) (more' m r) (read m r) (read m r) (ahead m r) (omega arith)
        (λ w y.
        let v : at ≤ m = subst (λ w. at ≤ reach w) e (branch_ahead (suc (length s)) at) in
        let u = past_both m 124 (eqb-true _ _ w) (omega arith) l' in
        same_map (rear_or r) (rear_by branch s k (m + 1)) (rear_by branch' t l (m + 1)) (rear_by_same k l (m + 1) (omega arith) (omega arith) u.0 u.1))
        (λ w y. same_refl (read m r)))

    rear_same : (at : ℕ) → at ≤ length s → at ≤ length t → Same (rear_of d s at) (rear_of d t at)
    unfolding rear_of
    rear_same at h g = rear_by_same (suc (length s)) (suc (length t)) at (omega arith) (omega arith) h g

  output_ahead : (at : ℕ) (o : Option (ℕ → Output)) (p : Parse Rear) → at ≤ reach p → at ≤ reach (output_or o s at p)
  output_ahead at (some make) p h = number_ahead at (λ v. output (make v))
  output_ahead at none p h = h

  output_same : (at : ℕ) (o : Option (ℕ → Output)) (p q : Parse Rear) → Same p q → Same (output_or o s at p) (output_or o t at q)
  output_same at (some make) p q x = number_map at (λ v. output (make v))
  output_same at none p q x = x

  end_by_same : (at : ℕ) (p q : Parse Rear) → at ≤ reach p → (get_or s at 0 ≡ 91 → Alike s t at → Same p q) → Same (end_by p s at) (end_by q t at)
  unfolding end_by
  end_by_same at p q h x =
      let other = pick (eqb (get_or s at 0) 91) p (stuck at) in
      let other' = pick (eqb (get_or t at 0) 91) q (stuck at) in
      same_at at (λ b. output_or (output_at b) s at other) (λ b. output_or (output_at b) t at other')
      (output_ahead at (output_at (get_or s at 0)) other (pick_reach (eqb (get_or s at 0) 91) p (stuck at) at h (omega arith)))
      (λ l. output_same at (output_at (get_or s at 0)) other other'
      (same_pick (λ b. eqb b 91) at p q (stuck at) (stuck at) h (omega arith) (λ e l. x (eqb-true _ _ e) l) (λ e l. same_refl (stuck at))))

  end_same : (d at : ℕ) → Same (end_of d s at) (end_of d t at)
  unfolding end_of
  end_same zero at = end_by_same at (stuck at) (stuck at) (omega arith) (λ e l. same_refl (stuck at))
  end_same (suc d) at =
      let p = rear_by (branch_by (factor_of d s) (end_of d s) s (suc (length s))) s (suc (length s)) (at + 1) in
      let q = rear_by (branch_by (factor_of d t) (end_of d t) t (suc (length t))) t (suc (length t)) (at + 1) in
      let h = fits_reach (rear_by_fits s d (factor_of d s) (end_of d s) (factor_fits s d) (end_fits s d) (suc (length s)) (suc (length s)) (at + 1)) in
      let g = followed_reach s 93 p in
      end_by_same at (followed s 93 p) (followed t 93 q) (omega arith) (λ e l.
      let u = past_both at 91 e (omega arith) l in
      same_followed 93 p q (rear_by_same d (end_same d) (suc (length s)) (suc (length t)) (at + 1) (omega arith) (omega arith) u.0 u.1))

  line_same : (at : ℕ) → Same (line_of s at) (line_of t at)
  unfolding line_of
  line_same at =
      let tail : List ℕ → ℕ → Front → ℕ → Parse Rung = λ r l f m. map_p (rung l f) (followed r 10 (rear_of most_brackets r m)) in
      let rest : List ℕ → ℕ → ℕ → Parse Rung = λ r m l. bind (followed r 62 (front_of most_brackets r m)) (λ m f. tail r l f m) in
      let tail-ahead : (l : ℕ) (f : Front) (m : ℕ) → m ≤ reach (tail s l f m) = λ l f m.
      let x = map_reach (rung l f) (followed s 10 (rear_of most_brackets s m)) in
      let y = followed_reach s 10 (rear_of most_brackets s m) in
      let z = fits_reach (rear_fits_lem s most_brackets m) in
      omega arith in
      let rest-ahead : (m l : ℕ) → m ≤ reach (rest s m l) = λ m l.
      let x = bind_reach (followed s 62 (front_of most_brackets s m)) (λ m f. tail s l f m) (λ m f. tail-ahead l f m) in
      let y = followed_reach s 62 (front_of most_brackets s m) in
      let z = fits_reach (front_fits_lem s most_brackets m) in
      omega arith in
      same_bind (followed s 58 (numeral_of s at)) (followed t 58 (numeral_of t at)) (rest s) (rest t) (same_followed 58 (numeral_of s at) (numeral_of t at) (number_same at)) rest-ahead
      (λ m l e a. same_bind (followed s 62 (front_of most_brackets s m)) (followed t 62 (front_of most_brackets t m)) (λ m f. tail s l f m) (λ m f. tail t l f m)
      (same_followed 62 (front_of most_brackets s m) (front_of most_brackets t m) (front_same most_brackets m)) (λ m f. tail-ahead l f m)
      (λ i f e a.
      let x = followed_read s 62 (front_of most_brackets s m) i f e in
      let u = past_both x.0 62 x.3 (omega arith) (alike_down x.0 (omega (arith, x.2)) a) in
      same_map (rung l f) (followed s 10 (rear_of most_brackets s i)) (followed t 10 (rear_of most_brackets t i))
      (same_followed 10 (rear_of most_brackets s i) (rear_of most_brackets t i) (rear_same most_brackets (end_same most_brackets) i (omega (arith, x.2, u.0)) (omega (arith, x.2, u.1))))))

  line_ahead : (at m : ℕ) (g : Rung) → line_of s at ≡ read m g → at < m
  line_ahead at m g e = go (subst (Fits IsLine s at) e (line_fits s at))
    where
      go : Fits IsLine s at (read m g) → at < m
      go (fits w z x) = let h = line_some s x in omega (arith, z.long)

  StuckToo : ℕ → ℕ → ℕ → ℕ → Type 0
  StuckToo k l p at = length t < at + l → lines_of s k at ≡ stuck p → at ≤ p → length s < at + k → lines_of t l at ≡ stuck p

  module _ (p : ℕ) (c : p < length s) (d : p < length t) (x : Alike s t p) where
    -- s goes on after a line that ends at m
    onward_stuck : (k l m : ℕ) (g : Rung) → StuckToo k l p m → length t < m + l → length s < m + k → onward s k m g ≡ stuck p → (m ≤ p) × (onward t l m g ≡ stuck p)
    unfolding StuckToo map_p
    onward_stuck k l m g ih h i e = go (eqb m (length s)) refl e
      where
        go : (b : Bool) → eqb m (length s) ≡ b → pick b (read m (g ∷ [])) (map_p (λ gs. g ∷ gs) (lines_of s k m)) ≡ stuck p → (m ≤ p) × (onward t l m g ≡ stuck p)
        go true q f = let z : ◌≡◌ {A = ℕ} 0 1 = cc in absurd (omega arith)
        go false q f =
            let y = map_stuck (λ gs. g ∷ gs) (lines_of s k m) p f in
            let w : m ≤ p = subst (λ r. m ≤ reach r) y (fits_reach (lines_fit s k m)) in
            (w, rw (ne_eqb m (length t) (λ q. omega arith), ih h y w i) refl)

    line_stuck : (k l at : ℕ) (r : Parse Rung) → line_of s at ≡ r → ((m : ℕ) → StuckToo k l p m) → length t < at + suc l → length s < at + suc k
        → bind r (onward s k) ≡ stuck p → bind (line_of t at) (onward t l) ≡ stuck p
    unfolding bind
    line_stuck k l at (read m g) q ih h i e =
        let a = line_ahead at m g q in
        let y = onward_stuck k l m g (ih m) (omega arith) (omega arith) e in
        let z = line_same at (subst (λ r. Alike s t (reach r)) (sym q) (alike_down m y.0 x)) in
        ap (λ r. bind r (onward t l)) (z ∙ q) ∙ y.1
    line_stuck k l at (stuck m) q ih h i e =
        let y : m ≡ p = cc in
        let z = line_same at (subst (λ r. Alike s t (reach r)) (sym q) (alike_down m (omega arith) x)) in
        ap (λ r. bind r (onward t l)) (z ∙ q) ∙ e

    -- where the reader is stuck over s before the end of both texts, it is stuck over t
    lines_stuck : (k l at : ℕ) → StuckToo k l p at
    unfolding StuckToo lines_of
    lines_stuck zero l at b e h a = absurd (omega arith)
    lines_stuck (suc k) zero at b e h a = absurd (omega arith)
    lines_stuck (suc k) (suc l) at b e h a = line_stuck k l at (line_of s at) refl (lines_stuck k l) b a e

    pub text_stuck : text_of s ≡ stuck p → text_of t ≡ stuck p
    unfolding text_of StuckToo
    text_stuck e = lines_stuck (suc (length s)) (suc (length t)) 0 (omega arith) e (omega arith) (omega arith)

-- a text is read to its end
ends_line : (s : List ℕ) (k m : ℕ) (gs : Ladder) → ((i : ℕ) (hs : Ladder) → lines_of s k i ≡ read m hs → m ≡ length s) → (r : Parse Rung) → bind r (onward s k) ≡ read m gs → m ≡ length s
unfolding bind
ends_line s k m gs ih (stuck i) e = let z : ◌≡◌ {A = ℕ} 0 1 = cc in absurd (omega arith)
ends_line s k m gs ih (read i g) e = go (eqb i (length s)) refl e
  where
    go : (b : Bool) → eqb i (length s) ≡ b → pick b (read i (g ∷ [])) (map_p (λ gs. g ∷ gs) (lines_of s k i)) ≡ read m gs → m ≡ length s
    go true q f = let y : i ≡ m = cc in let z = eqb-true i (length s) q in omega arith
    go false q f = let y = map_read (λ gs. g ∷ gs) (lines_of s k i) m gs f in ih i y.0 y.1

ends_lines : (s : List ℕ) (k at m : ℕ) (gs : Ladder) → lines_of s k at ≡ read m gs → m ≡ length s
unfolding lines_of
ends_lines s zero at m gs e = let z : ◌≡◌ {A = ℕ} 0 1 = cc in absurd (omega arith)
ends_lines s (suc k) at m gs e = ends_line s k m gs (λ i hs. ends_lines s k i m hs) (line_of s at) e

pub text_ends : (s : List ℕ) (m : ℕ) (gs : Ladder) → text_of s ≡ read m gs → m ≡ length s
unfolding text_of
text_ends s m gs e = ends_lines s (suc (length s)) 0 m gs e
