-- Laws of the loops of `branch` and `rear`: chains grouped to the right, whose parts so far make a prefix of the words. Assumes nothing.
use mathlib.Core.Path.{◌≡◌, refl, sym, ap, ◌∙◌}
use mathlib.Core.Bool.{Bool, true, false}
use mathlib.Core.List.{List, [], ◌∷◌, ◌++◌, append_assoc}
use Prim.Native.Nat.{ℕ, zero, suc, ◌+◌, ◌≤◌, ◌<◌, max}
use native.Mathlib.Omega.{arith}
use borrow.Author.Tests.{eq-eqb, ne_eqb}
use lib.Dec.{eqb}
use lib.ListN.{length, get_or, set, length-set, length-append}
use lib.Seq.{sets}
use Rattle.ladder_definitions.specs.Tree.{Front, Rear, rear_and, rear_or}
use Rattle.ladder_definitions.specs.Kept.{front_words, rear_words}
use Rattle.text_grammar.specs.Reader.{pick, Parse, read, stuck, map_p, bind, followed, opens_factor, branch_by, rear_by}
use Rattle.text_grammar.proofs.Laws.Spans.{inside}
use Rattle.text_fronts.specs.Parts.{PartRead, ByteRead, Inserted}
use Rattle.std.specs.Prelude.{Ok, Err}
use Rattle.text_fronts.specs.declared.part.Parsed.{Parsed}
use Rattle.text_fronts.specs.declared.part.Stuck.{Stuck}
use Rattle.questions.proofs.Laws.Stores.{sets_append}
use Rattle.text_fronts.proofs.Sets.{before}
use Rattle.text_fronts.proofs.Parts.{followed_read, followed_short, read_of, stuck_of, part_stuck, part_read}

map_none : (p : Parse Rear) → map_p (λ r. r) p ≡ p
unfolding map_p
map_none (read n r) = refl
map_none (stuck x) = refl

map_more : (f g : Rear → Rear) (p : Parse Rear) → map_p f (map_p g p) ≡ map_p (λ r. f (g r)) p
unfolding map_p
map_more f g (read n r) = refl
map_more f g (stuck x) = refl

-- the parts so far, around what is read from n on, are the whole; where their w words have room, they stand from `put` on
pub record Prefixed (by : ℕ → ℕ → Parse Rear) (s : List ℕ) (whole : Parse Rear) (at n w put : ℕ) (e x : List ℕ) : Type 0 where
  pub left : ℕ
  pub around : Rear → Rear
  pub words : List ℕ
  pub count : length words ≡ w
  pub split : (r : Rear) → rear_words (around r) ≡ words ++ rear_words r
  pub same : map_p around (by (suc left) n) ≡ whole
  pub enough : length s ≤ n + left
  pub past : at ≤ n
  pub few : w + at ≤ n
  pub near : n ≤ max at (length s)
  pub long : length x ≡ length e
  pub out : put + w ≤ length e → x ≡ sets e put words

pub prefix_none : (by : ℕ → ℕ → Parse Rear) (s : List ℕ) (whole : Parse Rear) (at put : ℕ) (e : List ℕ) → by (suc (length s)) at ≡ whole
    → Prefixed by s whole at at 0 put e e
prefix_none by s whole at put e q =
    record {
      left = length s;
      around = λ r. r;
      words = [];
      count = refl;
      split = λ r. refl;
      same = map_none (by (suc (length s)) at) ∙ q;
      enough = omega arith;
      past = omega arith;
      few = omega arith;
      near = omega arith;
      long = refl;
      out = λ h. refl;
    }

module _ (by : ℕ → ℕ → Parse Rear) (s : List ℕ) (whole : Parse Rear) (at n w put : ℕ) (e x : List ℕ) (h : Prefixed by s whole at n w put e x) where
  -- one part more, of the words vs
  turn : (m v : ℕ) (make : Rear → Rear) (vs y : List ℕ) → length vs ≡ v + 1 → ((r : Rear) → rear_words (make r) ≡ vs ++ rear_words r)
      → n < m → m < length s → v + n ≤ m → ((k : ℕ) → by (suc k) n ≡ map_p make (by k (m + 1)))
      → length y ≡ length x → (put + w + length vs ≤ length x → y ≡ sets x (put + w) vs) → Prefixed by s whole at (m + 1) (w + v + 1) put e y
  turn m v make vs y c sp lo hi fw q ly o = go h.left h.enough h.same
    where
      joined : put + (w + v + 1) ≤ length e → y ≡ sets e put (h.words ++ vs)
      joined r =
          let p : put + w ≡ put + length h.words = omega (arith, h.count) in
          o (omega (arith, h.long)) ∙ ap (λ (l : List ℕ). sets l (put + w) vs) (h.out (omega arith))
          ∙ ap (λ (i : ℕ). sets (sets e put h.words) i vs) p ∙ sym (sets_append e put h.words vs)

      go : (l : ℕ) → length s ≤ n + l → map_p h.around (by (suc l) n) ≡ whole → Prefixed by s whole at (m + 1) (w + v + 1) put e y
      go zero en z = absurd (omega arith)
      go (suc l) en z =
          record {
            left = l;
            around = λ r. h.around (make r);
            words = h.words ++ vs;
            count = length-append h.words vs ∙ omega (arith, h.count);
            split = λ r. h.split (make r) ∙ ap (λ (l : List ℕ). h.words ++ l) (sp r) ∙ sym (append_assoc h.words vs (rear_words r));
            same = sym (map_more h.around make (by (suc l) (m + 1))) ∙ ap (map_p h.around) (sym (q (suc l))) ∙ z;
            enough = omega arith;
            past = omega (arith, h.past);
            few = omega (arith, h.few);
            near = omega arith;
            long = ly ∙ h.long;
            out = joined;
          }

  stop_stuck : (p : Stuck) (y : List ℕ) → ((k : ℕ) → by (suc k) n ≡ stuck p.place) → PartRead rear_words whole s at (Err p) put e y
  unfolding map_p
  stop_stuck p y q = part_stuck rear_words whole s at p put e y (rw (← h.same, q h.left) refl)

  -- the last part
  stop_read : (p : Parse Rear) (v : Parsed) (y : List ℕ) → ((k : ℕ) (r : Rear) → p ≡ read v.next r → by (suc k) n ≡ read v.next r)
      → PartRead rear_words p s n (Ok v) (put + w) x y → PartRead rear_words whole s at (Ok (record { next = v.next; count = w + v.count })) put e y
  unfolding map_p
  stop_read p v y q g =
      let r = read_of rear_words p v g.same in
      let z : whole ≡ read v.next (h.around r.0) = rw (← h.same, q h.left r.0 r.1) refl in
      let c : length (rear_words (h.around r.0)) ≡ w + v.count =
      ap length (h.split r.0) ∙ length-append h.words (rear_words r.0) ∙ omega (arith, h.count, r.2) in
      part_read rear_words whole s at (record { next = v.next; count = w + v.count }) (h.around r.0) put e y z c (omega (arith, h.past, g.within.0)) g.within.1
      (omega (arith, h.few, g.within.2)) (λ o. joined r.0 r.1 r.2 (omega (arith, c)))
    where
      joined : (r : Rear) → p ≡ read v.next r → length (rear_words r) ≡ v.count → put + (w + v.count) ≤ length e → y ≡ sets e put (rear_words (h.around r))
      joined r z c o =
          let i : put + w ≡ put + length h.words = omega (arith, h.count) in
          g.out v.next r z (omega (arith, h.long, c)) ∙ ap (λ (l : List ℕ). sets l (put + w) (rear_words r)) (h.out (omega arith))
          ∙ ap (λ (i : ℕ). sets (sets e put h.words) i (rear_words r)) i ∙ sym (sets_append e put h.words (rear_words r))
          ∙ ap (sets e put) (sym (h.split r))

module _ (f : ℕ → Parse Front) (end : ℕ → Parse Rear) (s : List ℕ) (whole : Parse Rear) (at n w put : ℕ) (e x : List ℕ)
    (h : Prefixed (branch_by f end s) s whole at n w put e x) (b : ℕ) (eb : b ≡ get_or s n 0) (t : Bool) (et : t ≡ opens_factor b) where
  opened : t ≡ true → opens_factor (get_or s n 0) ≡ true
  opened o = ap opens_factor (sym eb) ∙ sym et ∙ o

  -- the root word, and then the factor's words
  rooted : (m : ℕ) (g : Front) (y z : List ℕ) → f n ≡ read m g → y ≡ set x (put + w) 589824
      → ((k : ℕ) (u : Front) → f n ≡ read k u → put + w + 1 + length (front_words u) ≤ length y → z ≡ sets y (put + w + 1) (front_words u))
      → put + w + suc (length (front_words g)) ≤ length x → z ≡ sets x (put + w) (589824 ∷ front_words g)
  rooted m g y z q p o r =
      let i : put + w + 1 ≡ suc (put + w) = omega arith in
      o m g q (omega (arith, ap length p, length-set x (put + w) 589824))
      ∙ ap (λ (l : List ℕ). sets l (put + w + 1) (front_words g)) p
      ∙ ap (λ (i : ℕ). sets (set x (put + w) 589824) i (front_words g)) i

  pub branch_more : t ≡ true → (v : Parsed) (m c : ℕ) (y z : List ℕ) → y ≡ set x (put + w) 589824 → length z ≡ length y
      → PartRead front_words (f n) s n (Ok v) (put + w + 1) y z → ByteRead s v.next 38 (Ok m) → c ≡ w + v.count + 1
      → Prefixed (branch_by f end s) s whole at m c put e z
  unfolding branch_by bind rear_words
  branch_more o v m c y z ey lz g b ec =
      let r = read_of front_words (f n) v g.same in
      rw (b.0, ec)
      (turn (branch_by f end s) s whole at n w put e x h v.next v.count (rear_and r.0) (589824 ∷ front_words r.0) z (omega (arith, r.2)) (λ q. refl)
      g.within.0 b.2 g.within.2 (λ k. step k (followed_read s 38 (f n) v.next m r.0 r.1 b ∙ ap (λ i. read i r.0) b.0))
      (lz ∙ ap length ey ∙ length-set x (put + w) 589824) (rooted v.next r.0 y z r.1 ey g.out))
    where
      step : (k : ℕ) {i : ℕ} {u : Front} → followed s 38 (f n) ≡ read i u
          → pick (opens_factor (get_or s n 0)) (bind (followed s 38 (f n)) (λ m f₁. map_p (rear_and f₁) (branch_by f end s k m))) (end n)
          ≡ map_p (rear_and u) (branch_by f end s k i)
      step k q = rw (opened o, q) refl

  pub branch_short : t ≡ true → (v : Parsed) (q : Stuck) (p : ℕ) (y z z' : List ℕ) → PartRead front_words (f n) s n (Ok v) p y z
      → ByteRead s v.next 38 (Err q) → PartRead rear_words whole s at (Err q) put e z'
  unfolding branch_by bind
  branch_short o v q p y z z' g b =
      let r = read_of front_words (f n) v g.same in
      stop_stuck (branch_by f end s) s whole at n w put e x h q z' (λ k. rw (opened o, followed_short s 38 (f n) v.next q r.0 r.1 b) refl)

  pub branch_stuck : t ≡ true → (q : Stuck) (p : ℕ) (y z z' : List ℕ) → PartRead front_words (f n) s n (Err q) p y z
      → PartRead rear_words whole s at (Err q) put e z'
  unfolding branch_by bind followed
  branch_stuck o q p y z z' g =
      let r = stuck_of front_words (f n) q g.same in
      stop_stuck (branch_by f end s) s whole at n w put e x h q z' (λ k. rw (opened o, r) refl)

  done : t ≡ false → (k : ℕ) → branch_by f end s (suc k) n ≡ end n
  unfolding branch_by bind followed
  done o k = let z : opens_factor (get_or s n 0) ≡ false = ap opens_factor (sym eb) ∙ sym et ∙ o in rw z refl

  pub branch_end : t ≡ false → (v : Parsed) (y : List ℕ) → PartRead rear_words (end n) s n (Ok v) (put + w) x y
      → PartRead rear_words whole s at (Ok (record { next = v.next; count = w + v.count })) put e y
  branch_end o v y g = stop_read (branch_by f end s) s whole at n w put e x h (end n) v y (λ k r q. done o k ∙ q) g

  pub branch_end_stuck : t ≡ false → (q : Stuck) (p : ℕ) (y z z' : List ℕ) → PartRead rear_words (end n) s n (Err q) p y z
      → PartRead rear_words whole s at (Err q) put e z'
  branch_end_stuck o q p y z z' g =
      stop_stuck (branch_by f end s) s whole at n w put e x h q z' (λ k. done o k ∙ stuck_of rear_words (end n) q g.same)

module _ (p : ℕ → Parse Rear) (s : List ℕ) (whole : Parse Rear) (at n w put : ℕ) (e x : List ℕ) (h : Prefixed (rear_by p s) s whole at n w put e x) where
  step : (k m : ℕ) (q : Parse Rear) (u : Rear) (c : ℕ) → q ≡ read m u → c ≡ get_or s m 0 → c ≡ 124
      → bind q (λ m r. pick (eqb (get_or s m 0) 124) (map_p (rear_or r) (rear_by p s k (m + 1))) (read m r)) ≡ map_p (rear_or u) (rear_by p s k (m + 1))
  unfolding bind
  step k m q u c r ec i = rw (r, ← ec, eq-eqb _ _ i) refl

  last : (k m : ℕ) (q : Parse Rear) (u : Rear) (c : ℕ) → q ≡ read m u → c ≡ get_or s m 0 → (c ≡ 124 → ⊥)
      → bind q (λ m r. pick (eqb (get_or s m 0) 124) (map_p (rear_or r) (rear_by p s k (m + 1))) (read m r)) ≡ read m u
  unfolding bind
  last k m q u c r ec i = rw (r, ← ec, ne_eqb _ _ i) refl

  pub rear_more : (v : Parsed) (c k : ℕ) (y z : List ℕ) → PartRead rear_words (p n) s n (Ok v) (put + w) x y → c ≡ get_or s v.next 0 → c ≡ 124
      → length z ≡ length x → Inserted y (put + w) v.count 655360 z → k ≡ w + v.count + 1 → Prefixed (rear_by p s) s whole at (v.next + 1) k put e z
  unfolding rear_by bind rear_words
  rear_more v c k y z g ec i lz ins ek =
      let r = read_of rear_words (p n) v g.same in
      rw ek
      (turn (rear_by p s) s whole at n w put e x h v.next v.count (rear_or r.0) (655360 ∷ rear_words r.0) z (omega (arith, r.2)) (λ q. refl)
      g.within.0 (inside s v.next (omega arith)) g.within.2 (λ k. step k v.next (p n) r.0 c r.1 ec i) lz
      (λ o. before x (put + w) (rear_words r.0) 655360 v.count y z (sym r.2) (omega (arith, r.2)) (g.out v.next r.0 r.1 (omega arith)) ins))

  pub rear_last : (v : Parsed) (c : ℕ) (y : List ℕ) → PartRead rear_words (p n) s n (Ok v) (put + w) x y → c ≡ get_or s v.next 0 → (c ≡ 124 → ⊥)
      → PartRead rear_words whole s at (Ok (record { next = v.next; count = w + v.count })) put e y
  unfolding rear_by bind
  rear_last v c y g ec i = stop_read (rear_by p s) s whole at n w put e x h (p n) v y (λ k u q. last k v.next (p n) u c q ec i) g

  pub rear_stuck : (q : Stuck) (i : ℕ) (y z z' : List ℕ) → PartRead rear_words (p n) s n (Err q) i y z → PartRead rear_words whole s at (Err q) put e z'
  unfolding rear_by bind
  rear_stuck q i y z z' g =
      let r = stuck_of rear_words (p n) q g.same in
      stop_stuck (rear_by p s) s whole at n w put e x h q z' (λ k. rw r refl)
