-- What is read is in the grammar, and what is read before the reader is stuck begins something of the grammar. Assumes nothing.
use Rattle.std.specs.Prelude.{◌≡◌, Bool, true, false, eqb, leb, ltb, length}
use Rattle.std.proofs.Math.Path.{refl}
use Rattle.std.proofs.Math.Option.{Option, none, some}
use mathlib.Core.List.{List, [], ◌∷◌, ◌++◌, append_assoc, append-nil}
use Prim.Native.Nat.{ℕ, zero, suc, ◌+◌, ◌*◌, ◌≤◌, ◌<◌}
use Rattle.std.proofs.Common.{arith}
use borrow.Author.Tests.{eqb-true, eqb-false, leb-false, ltb-false}
use Rattle.std.proofs.Math.ListN.{get_or}
use Rattle.ladder_definitions.specs.Tree.{contact, contactn, Front, input, front_and, front_or, Output, coil, Rear, output, rear_and, rear_or, Rung, Ladder}
use Rattle.text_grammar.specs.Grammar.{IsDigits, first, next, IsNumber, nought, digits, IsFront, one_term, more_term, IsTerm, one_factor, more_factor, IsFactor, c_number, n_number, in_round, IsRear, one_branch, more_branch, IsBranch, at_end, factor_and, o_letter, IsEnd, output_number, in_square, IsLine, line, IsText, one_line, more_lines, most_number, most_brackets}
use Rattle.text_grammar.specs.Reader.{pick, Parse, read, stuck, map_p, bind, followed, digit_of, digits_from, numeral_of, chain, term_by, front_by, factor_by, factor_of, front_of, opens_factor, branch_by, rear_by, output_at, output_or, end_by, end_of, rear_of, rung, line_of, lines_of, text_of}
use Rattle.text_grammar.proofs.Laws.Letters.{letter, known_letter}
use Rattle.text_grammar.proofs.Laws.Spans.{Span, span_none, span_byte, span_join, span_snoc, digit_is}

-- A reader's answer at a place, against what a nonterminal has: what is read belongs to it, and what stands before the place where the reader is stuck begins something that belongs to it.
pub data Fits {A : Type 0} (N : List ℕ → A → Type 0) (s : List ℕ) (at : ℕ) : Parse A → Type 0 where
  fits : {m : ℕ} {a : A} (w : List ℕ) → Span s at m w → N w a → Fits N s at (read m a)
  begins : {m : ℕ} (w rest : List ℕ) (a : A) → Span s at m w → N (w ++ rest) a → Fits N s at (stuck m)

pub cases : {A : Type 0} (P : A → Type 0) (t : Bool) (x y : A) → (t ≡ true → P x) → (t ≡ false → P y) → P (pick t x y)
cases P true x y f g = f refl
cases P false x y f g = g refl

pub fits_map : {A B : Type 0} {N : List ℕ → A → Type 0} (L : List ℕ → B → Type 0) {s : List ℕ} {at : ℕ} {p : Parse A} (f : A → B)
    → ((w : List ℕ) (a : A) → N w a → L w (f a)) → Fits N s at p → Fits L s at (map_p f p)
unfolding map_p
fits_map L f h (fits w z x) = fits w z (h w _ x)
fits_map L f h (begins w rest a z x) = begins w rest (f a) z (h _ _ x)

pub fits_same : {A : Type 0} {N : List ℕ → A → Type 0} (L : List ℕ → A → Type 0) {s : List ℕ} {at : ℕ} {p : Parse A}
    → ((w : List ℕ) (a : A) → N w a → L w a) → Fits N s at p → Fits L s at p
fits_same L h (fits w z x) = fits w z (h w _ x)
fits_same L h (begins w rest a z x) = begins w rest a z (h _ _ x)

-- after a first byte
pub fits_byte : {A : Type 0} {N : List ℕ → A → Type 0} (L : List ℕ → A → Type 0) {s : List ℕ} {at : ℕ} {p : Parse A} (b : ℕ) → 0 < b → get_or s at 0 ≡ b
    → ((w : List ℕ) (a : A) → N w a → L (b ∷ w) a) → Fits N s (at + 1) p → Fits L s at p
fits_byte L b g e h (fits w z x) = fits (b ∷ w) (span_join (span_byte b g e) z) (h w _ x)
fits_byte L b g e h (begins w rest a z x) = begins (b ∷ w) rest a (span_join (span_byte b g e) z) (h _ _ x)

-- before a last byte
pub fits_followed : {A : Type 0} {N : List ℕ → A → Type 0} (L : List ℕ → A → Type 0) {s : List ℕ} {at : ℕ} {p : Parse A} (b : ℕ) → 0 < b
    → ((w : List ℕ) (a : A) → N w a → L (w ++ (b ∷ [])) a) → Fits N s at p → Fits L s at (followed s b p)
unfolding followed
fits_followed L {s} {at} b g h (fits {m} {a} w z x) = cases (Fits L s at) (eqb (get_or s m 0) b) (read (m + 1) a) (stuck m)
    (λ t. fits (w ++ (b ∷ [])) (span_snoc b g z (eqb-true _ _ t)) (h w a x))
    (λ t. begins w (b ∷ []) a z (h w a x))
fits_followed L b g h (begins w rest a z x) = begins w (rest ++ (b ∷ [])) a z (rw append_assoc at (h (w ++ rest) a x))

-- one part and then another, which can follow it
pub fits_bind : {A B : Type 0} {N : List ℕ → A → Type 0} (M : A → List ℕ → B → Type 0) (L : List ℕ → B → Type 0) {s : List ℕ} {at : ℕ} {p : Parse A} (rest : ℕ → A → Parse B)
    → ((w v : List ℕ) (a : A) (b : B) → N w a → M a v b → L (w ++ v) b) → ((a : A) → (v : List ℕ) × (b : B) × M a v b)
    → Fits N s at p → ((m : ℕ) (a : A) → Fits (M a) s m (rest m a)) → Fits L s at (bind p rest)
unfolding bind
fits_bind M L {s} {at} rest join more (fits {m} {a} w z x) h = go (rest m a) (h m a)
  where
    go : (y : Parse _) → Fits (M a) s m y → Fits L s at y
    go y (fits v z' x') = fits (w ++ v) (span_join z z') (join w v a _ x x')
    go y (begins v c b z' x') = begins (w ++ v) c b (span_join z z') (rw append_assoc (join w (v ++ c) a b x x'))
fits_bind M L rest join more (begins w c a z x) h =
    let t = more a in
    begins w (c ++ t.0) t.1 z (rw append_assoc at (join (w ++ c) t.0 a t.1 x t.2))

-- a part read up to m, a separator, and one part more
pub fits_more : {A B : Type 0} {N : List ℕ → A → Type 0} {L : List ℕ → B → Type 0} {s : List ℕ} {at m : ℕ} {p : Parse A} (sep : ℕ) → 0 < sep → (f : A → B) {w : List ℕ}
    → ((v : List ℕ) (a : A) → N v a → L (w ++ sep ∷ v) (f a)) → Span s at m w → get_or s m 0 ≡ sep → Fits N s (m + 1) p → Fits L s at (map_p f p)
unfolding map_p
fits_more sep g f {w} h z e (fits v z' x) = fits (w ++ sep ∷ v) (span_join z (span_join (span_byte sep g e) z')) (h v _ x)
fits_more {L} sep g f {w} h z e (begins v rest a z' x) =
    begins (w ++ sep ∷ v) rest (f a) (span_join z (span_join (span_byte sep g e) z')) (rw append_assoc (h (v ++ rest) a x))

module _ (s : List ℕ) where
  digits_fit : (k v m at : ℕ) (w : List ℕ) → Span s at m w → IsDigits w v → v ≤ most_number → Fits IsNumber s at (digits_from s k v m)
  unfolding digits_from
  digits_fit zero v m at w z x h = fits w z (digits x h)
  digits_fit (suc k) v m at w z x h =
      let d = digit_of (get_or s m 0) in
      let more = digits_from s k (v * 10 + d) (m + 1) in
      cases (Fits IsNumber s at) (leb 10 d) (read m v) (pick (ltb most_number (v * 10 + d)) (read m v) more)
      (λ t. fits w z (digits x h))
      (λ t. cases (Fits IsNumber s at) (ltb most_number (v * 10 + d)) (read m v) more
      (λ u. fits w z (digits x h))
      (λ u.
      let l : d ≤ 9 = omega (arith, leb-false 10 d t) in
      digits_fit k (v * 10 + d) (m + 1) at (w ++ ((48 + d) ∷ [])) (span_snoc (48 + d) (omega arith) z (digit_is (get_or s m 0) l)) (next x d l)
      (ltb-false most_number (v * 10 + d) u)))

  pub number_fits : (at : ℕ) → Fits IsNumber s at (numeral_of s at)
  unfolding numeral_of
  number_fits at =
      let d = digit_of (get_or s at 0) in
      let more = digits_from s 4 d (at + 1) in
      cases (Fits IsNumber s at) (leb 10 d) (stuck at) (pick (eqb d 0) (read (at + 1) 0) more)
      (λ t. begins [] (48 ∷ []) 0 span_none nought)
      (λ t.
      let l : d ≤ 9 = omega (arith, leb-false 10 d t) in
      let e : get_or s at 0 ≡ 48 + d = digit_is (get_or s at 0) l in
      cases (Fits IsNumber s at) (eqb d 0) (read (at + 1) 0) more
      (λ u. let e₀ : get_or s at 0 ≡ 48 = omega (arith, eqb-true d 0 u) in fits (48 ∷ []) (span_byte 48 (omega arith) e₀) nought)
      (λ u. digits_fit 4 d (at + 1) at ((48 + d) ∷ []) (span_byte (48 + d) (omega arith) e) (first d (let z = eqb-false d 0 u in omega arith) l) (omega arith)))

  module _ (N L : List ℕ → Front → Type 0) (item : ℕ → Parse Front) (sep : ℕ) (op : Front → Front → Front) (g : 0 < sep)
      (h : (w v : List ℕ) (a b : Front) → L w a → N v b → L (w ++ sep ∷ v) (op a b)) (items : (m : ℕ) → Fits N s m (item m)) where
    chain_fits : (at k : ℕ) (p : Parse Front) → Fits L s at p → Fits L s at (chain item sep op s k p)
    unfolding chain
    chain_fits at zero p x = x
    chain_fits at (suc k) (stuck m) x = x
    chain_fits at (suc k) (read m a) x = go x (λ p y. chain_fits at k p y)
      where
        go : Fits L s at (read m a) → ((p : Parse Front) → Fits L s at p → Fits L s at (chain item sep op s k p))
            → Fits L s at (pick (eqb (get_or s m 0) sep) (chain item sep op s k (map_p (op a) (item (m + 1)))) (read m a))
        go (fits w z y) ih = cases (Fits L s at) (eqb (get_or s m 0) sep) (chain item sep op s k (map_p (op a) (item (m + 1)))) (read m a)
            (λ t. ih (map_p (op a) (item (m + 1))) (fits_more sep g (op a) (λ v b x. h w v a b y x) z (eqb-true _ _ t) (items (m + 1))))
            (λ t. fits w z y)

  module _ (d : ℕ) (factor : ℕ → Parse Front) (factors : (m : ℕ) → Fits (IsFactor d) s m (factor m)) where
    pub term_by_fits : (at : ℕ) → Fits (IsTerm d) s at (term_by factor s at)
    unfolding term_by
    term_by_fits at = chain_fits (IsFactor d) (IsTerm d) factor 38 front_and (omega arith) (λ w v a b x y. more_factor x y) factors at (length s) (factor at)
        (fits_same (IsTerm d) (λ w a x. one_factor x) (factors at))

    pub front_by_fits : (at : ℕ) → Fits (IsFront d) s at (front_by factor s at)
    unfolding front_by
    front_by_fits at = chain_fits (IsTerm d) (IsFront d) (term_by factor s) 124 front_or (omega arith) (λ w v a b x y. more_term x y) term_by_fits at (length s) (term_by factor s at)
        (fits_same (IsFront d) (λ w a x. one_term x) (term_by_fits at))

  factor_by_fits : (d at : ℕ) (inner : Parse Front) → (get_or s at 0 ≡ 40 → Fits (IsFactor d) s at inner) → Fits (IsFactor d) s at (factor_by inner s at)
  unfolding factor_by
  factor_by_fits d at inner h =
      let F = Fits (IsFactor d) s at in
      cases F (eqb (get_or s at 0) 99) _ _
      (λ t. fits_byte (IsFactor d) 99 (omega arith) (eqb-true _ _ t) (λ w a x. x) (fits_map (λ w a. IsFactor d (99 ∷ w) a) (λ v. input (contact v)) (λ w a x. c_number x) (number_fits (at + 1))))
      (λ t. cases F (eqb (get_or s at 0) 110) _ _
      (λ t. fits_byte (IsFactor d) 110 (omega arith) (eqb-true _ _ t) (λ w a x. x) (fits_map (λ w a. IsFactor d (110 ∷ w) a) (λ v. input (contactn v)) (λ w a x. n_number x) (number_fits (at + 1))))
      (λ t. cases F (eqb (get_or s at 0) 40) inner (stuck at)
      (λ t. h (eqb-true _ _ t))
      (λ t. begins [] (99 ∷ 48 ∷ []) (input (contact 0)) span_none (c_number nought))))

  pub factor_fits : (d at : ℕ) → Fits (IsFactor d) s at (factor_of d s at)
  unfolding factor_of
  factor_fits zero at = factor_by_fits zero at (stuck at) (λ e. begins [] (99 ∷ 48 ∷ []) (input (contact 0)) span_none (c_number nought))
  factor_fits (suc d) at =
      factor_by_fits (suc d) at (followed s 41 (front_by (factor_of d s) s (at + 1))) (λ e.
      fits_byte (IsFactor (suc d)) 40 (omega arith) e (λ w a x. x)
      (fits_followed (λ w a. IsFactor (suc d) (40 ∷ w) a) 41 (omega arith) (λ w a x. in_round x) (front_by_fits d (factor_of d s) (factor_fits d) (at + 1))))

  pub front_fits_lem : (d at : ℕ) → Fits (IsFront d) s at (front_of d s at)
  unfolding front_of
  front_fits_lem d at = front_by_fits d (factor_of d s) (factor_fits d) at

  abbrev coil0 : Rear
  coil0 = output (coil 0)

  module _ (d : ℕ) (factor : ℕ → Parse Front) (end : ℕ → Parse Rear) (factors : (m : ℕ) → Fits (IsFactor d) s m (factor m)) (ends : (m : ℕ) → Fits (IsEnd d) s m (end m)) where
    pub branch_by_fits : (k at : ℕ) → Fits (IsBranch d) s at (branch_by factor end s k at)
    unfolding branch_by
    branch_by_fits zero at = begins [] (111 ∷ 48 ∷ []) coil0 span_none (at_end (output_number o_letter nought))
    branch_by_fits (suc k) at =
        let And : List ℕ → Front → Type 0 = λ w f. (v : List ℕ) (r : Rear) → IsBranch d v r → IsBranch d (w ++ v) (rear_and f r) in
        let After : Front → List ℕ → Rear → Type 0 = λ f v b. (w : List ℕ) → And w f → IsBranch d (w ++ v) b in
        cases (Fits (IsBranch d) s at) (opens_factor (get_or s at 0)) (bind (followed s 38 (factor at)) (λ m f. map_p (rear_and f) (branch_by factor end s k m))) (end at)
        (λ t. fits_bind After (IsBranch d) (λ m f. map_p (rear_and f) (branch_by factor end s k m)) (λ w v a b x y. y w x)
        (λ f. (111 ∷ 48 ∷ [], rear_and f coil0, λ w x. x (111 ∷ 48 ∷ []) coil0 (at_end (output_number o_letter nought))))
        (fits_followed And 38 (omega arith) (λ w f x v r y. rw append_assoc (factor_and x y)) (factors at))
        (λ m f. fits_map (After f) (rear_and f) (λ v r x w y. y v r x) (branch_by_fits k m)))
        (λ t. fits_same (IsBranch d) (λ w a x. at_end x) (ends at))

    pub rear_by_fits : (k l at : ℕ) → Fits (IsRear d) s at (rear_by (branch_by factor end s l) s k at)
    unfolding rear_by
    rear_by_fits zero l at = begins [] (111 ∷ 48 ∷ []) coil0 span_none (one_branch (at_end (output_number o_letter nought)))
    rear_by_fits (suc k) l at =
        let After : Rear → List ℕ → Rear → Type 0 = λ r v b. (w : List ℕ) → IsBranch d w r → IsRear d (w ++ v) b in
        let more : ℕ → Rear → Parse Rear = λ m r. map_p (rear_or r) (rear_by (branch_by factor end s l) s k (m + 1)) in
        fits_bind After (IsRear d) (λ m r. pick (eqb (get_or s m 0) 124) (more m r) (read m r)) (λ w v a b x y. y w x)
        (λ r. ([], r, λ w x. rw append-nil (one_branch x)))
        (branch_by_fits l at)
        (λ m r. cases (Fits (After r) s m) (eqb (get_or s m 0) 124) (more m r) (read m r)
        (λ t. fits_byte (After r) 124 (omega arith) (eqb-true _ _ t) (λ w a x. x) (fits_map (λ v b. After r (124 ∷ v) b) (rear_or r) (λ v q x w y. more_branch y x) (rear_by_fits k l (m + 1))))
        (λ t. fits [] span_none (λ w x. rw append-nil (one_branch x))))

  output_fits_lem : (d at : ℕ) (other : Parse Rear) (o : Option (ℕ → Output)) → output_at (get_or s at 0) ≡ o → Fits (IsEnd d) s at other → Fits (IsEnd d) s at (output_or o s at other)
  output_fits_lem d at other (some make) e h =
      let b = get_or s at 0 in
      let x = known_letter b make e in
      fits_byte (IsEnd d) b (letter x).positive refl (λ w a y. y) (fits_map (λ w a. IsEnd d (b ∷ w) a) (λ v. output (make v)) (λ w v y. output_number x y) (number_fits (at + 1)))
  output_fits_lem d at other none e h = h

  end_by_fits : (d at : ℕ) (inner : Parse Rear) → (get_or s at 0 ≡ 91 → Fits (IsEnd d) s at inner) → Fits (IsEnd d) s at (end_by inner s at)
  unfolding end_by
  end_by_fits d at inner h =
      output_fits_lem d at (pick (eqb (get_or s at 0) 91) inner (stuck at)) (output_at (get_or s at 0)) refl
      (cases (Fits (IsEnd d) s at) (eqb (get_or s at 0) 91) inner (stuck at) (λ t. h (eqb-true _ _ t)) (λ t. begins [] (111 ∷ 48 ∷ []) coil0 span_none (output_number o_letter nought)))

  pub end_fits : (d at : ℕ) → Fits (IsEnd d) s at (end_of d s at)
  unfolding end_of
  end_fits zero at = end_by_fits zero at (stuck at) (λ e. begins [] (111 ∷ 48 ∷ []) coil0 span_none (output_number o_letter nought))
  end_fits (suc d) at =
      end_by_fits (suc d) at (followed s 93 (rear_by (branch_by (factor_of d s) (end_of d s) s (suc (length s))) s (suc (length s)) (at + 1))) (λ e.
      fits_byte (IsEnd (suc d)) 91 (omega arith) e (λ w a x. x)
      (fits_followed (λ w a. IsEnd (suc d) (91 ∷ w) a) 93 (omega arith) (λ w a x. in_square x)
      (rear_by_fits d (factor_of d s) (end_of d s) (factor_fits d) (end_fits d) (suc (length s)) (suc (length s)) (at + 1))))

  pub rear_fits_lem : (d at : ℕ) → Fits (IsRear d) s at (rear_of d s at)
  unfolding rear_of
  rear_fits_lem d at = rear_by_fits d (factor_of d s) (end_of d s) (factor_fits d) (end_fits d) (suc (length s)) (suc (length s)) at

  -- what may follow a label and its colon, and what may follow a front and its ">"
  AfterLabel : ℕ → List ℕ → Rung → Type 0
  AfterLabel l v g = (w : List ℕ) → IsNumber w l → IsLine (w ++ 58 ∷ v) g

  AfterFront : ℕ → Front → List ℕ → Rung → Type 0
  AfterFront l f v g = (w t : List ℕ) → IsNumber w l → IsFront most_brackets t f → IsLine (w ++ 58 ∷ (t ++ 62 ∷ v)) g

  rear_of_line : (l : ℕ) (f : Front) (at : ℕ) → Fits (AfterFront l f) s at (map_p (rung l f) (followed s 10 (rear_of most_brackets s at)))
  unfolding AfterFront
  rear_of_line l f at =
      fits_map (AfterFront l f) (rung l f) (λ w r x. x)
      (fits_followed (λ w r. AfterFront l f w (rung l f r)) 10 (omega arith) (λ u r x w t y z. line y z x) (rear_fits_lem most_brackets at))

  rest_of_line : (l at : ℕ) → Fits (AfterLabel l) s at (bind (followed s 62 (front_of most_brackets s at)) (λ m f. map_p (rung l f) (followed s 10 (rear_of most_brackets s m))))
  unfolding AfterLabel AfterFront
  rest_of_line l at =
      fits_bind (AfterFront l) (AfterLabel l) (λ m f. map_p (rung l f) (followed s 10 (rear_of most_brackets s m))) (λ w v a b x y. x v b y)
      (λ f. (111 ∷ 48 ∷ 10 ∷ [], rung l f coil0, λ w t y z. line {u = 111 ∷ 48 ∷ []} y z (one_branch (at_end (output_number o_letter nought)))))
      (fits_followed (λ w f. (v : List ℕ) (g : Rung) → AfterFront l f v g → AfterLabel l (w ++ v) g) 62 (omega arith)
      (λ t f x v g y w z. rw append_assoc (y w t z x)) (front_fits_lem most_brackets at))
      (λ m f. rear_of_line l f m)

  pub line_fits : (at : ℕ) → Fits IsLine s at (line_of s at)
  unfolding line_of AfterLabel
  line_fits at =
      fits_bind AfterLabel IsLine (λ m l. bind (followed s 62 (front_of most_brackets s m)) (λ m f. map_p (rung l f) (followed s 10 (rear_of most_brackets s m)))) (λ w v a b x y. x v b y)
      (λ l. (
        99 ∷ 48 ∷ 62 ∷ 111 ∷ 48 ∷ 10 ∷ [],
        rung l (input (contact 0)) coil0,
        λ w x. line {t = 99 ∷ 48 ∷ []} {u = 111 ∷ 48 ∷ []} x (one_term (one_factor (c_number nought))) (one_branch (at_end (output_number o_letter nought))),
      ))
      (fits_followed (λ w l. (v : List ℕ) (g : Rung) → AfterLabel l v g → IsLine (w ++ v) g) 58 (omega arith) (λ w l x v g y. rw append_assoc (y w x)) (number_fits at))
      (λ m l. rest_of_line l m)

  pub lines_fit : (k at : ℕ) → Fits IsText s at (lines_of s k at)
  unfolding lines_of
  lines_fit zero at =
      begins [] (48 ∷ 58 ∷ 99 ∷ 48 ∷ 62 ∷ 111 ∷ 48 ∷ 10 ∷ []) (rung 0 (input (contact 0)) coil0 ∷ []) span_none
      (one_line (line {s = 48 ∷ []} {t = 99 ∷ 48 ∷ []} {u = 111 ∷ 48 ∷ []} nought (one_term (one_factor (c_number nought))) (one_branch (at_end (output_number o_letter nought)))))
  lines_fit (suc k) at =
      let After : Rung → List ℕ → Ladder → Type 0 = λ g v gs. (w : List ℕ) → IsLine w g → IsText (w ++ v) gs in
      let more : ℕ → Rung → Parse Ladder = λ m g. map_p (λ gs. g ∷ gs) (lines_of s k m) in
      fits_bind After IsText (λ m g. pick (eqb m (length s)) (read m (g ∷ [])) (more m g)) (λ w v a b x y. y w x)
      (λ g. ([], g ∷ [], λ w x. rw append-nil (one_line x)))
      (line_fits at)
      (λ m g. cases (Fits (After g) s m) (eqb m (length s)) (read m (g ∷ [])) (more m g)
      (λ t. fits [] span_none (λ w x. rw append-nil (one_line x)))
      (λ t. fits_map (After g) (λ gs. g ∷ gs) (λ v gs x w y. more_lines y x) (lines_fit k m)))

  pub text_fits : Fits IsText s 0 (text_of s)
  unfolding text_of
  text_fits = lines_fit (suc (length s)) 0
