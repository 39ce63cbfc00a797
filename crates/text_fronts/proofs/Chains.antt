-- Laws of a chain of parts joined by a separator, over whatever reads a part: the loops of `term` and of `front`. Assumes nothing.
use mathlib.Core.Path.{◌≡◌, refl, sym, ap, ◌∙◌}
use mathlib.Core.List.{List, ◌∷◌, ◌++◌}
use Prim.Native.Nat.{ℕ, zero, suc, ◌+◌, ◌≤◌, ◌<◌}
use native.Mathlib.Omega.{arith}
use borrow.Author.Tests.{eq-eqb, ne_eqb}
use lib.ListN.{length, get_or, length-append}
use lib.Seq.{sets}
use Rattle.ladder_definitions.specs.Tree.{Front, front_and, front_or}
use Rattle.ladder_definitions.specs.Kept.{front_words}
use Rattle.text_grammar.specs.Reader.{Parse, read, stuck, map_p, chain}
use Rattle.text_grammar.proofs.Laws.Spans.{inside}
use Rattle.text_fronts.specs.Parts.{Inserted, PartRead}
use Rattle.std.specs.Prelude.{Ok, Err}
use Rattle.text_fronts.specs.declared.part.Parsed.{Parsed}
use Rattle.text_fronts.specs.declared.part.Stuck.{Stuck}
use Rattle.questions.proofs.Laws.Stores.{sets_append}
use Rattle.text_fronts.proofs.Sets.{sets_over, before}
use Rattle.text_fronts.proofs.Parts.{read_of, stuck_of, part_stuck, part_read}

-- the words of two fronts that are joined: the root word, then those of both
abbrev pub Rooted : (Front → Front → Front) → ℕ → Type 0
Rooted op root = (f g : Front) → front_words (op f g) ≡ root ∷ (front_words f ++ front_words g)

pub and_rooted : Rooted front_and 196608
unfolding front_words
and_rooted f g = refl

pub or_rooted : Rooted front_or 262144
unfolding front_words
or_rooted f g = refl

-- the loops' invariant: what is read so far, with the parts that may follow, is the whole chain, and where its words have room they stand from `put` on.
-- e is the row where the loop begins, with the w₀ words of the first part
pub record Writing (item : ℕ → Parse Front) (sep : ℕ) (op : Front → Front → Front) (s : List ℕ) (whole : Parse Front) (at put : ℕ) (e x : List ℕ)
    (w₀ n w : ℕ) : Type 0 where
  pub left : ℕ
  pub tree : Front
  pub count : length (front_words tree) ≡ w
  pub enough : length s ≤ n + left
  pub same : chain item sep op s left (read n tree) ≡ whole
  pub past : at < n
  pub within : n ≤ length s
  pub few : w + at ≤ n
  pub long : length x ≡ length e
  pub grown : w₀ ≤ w
  pub out : put + w ≤ length e → x ≡ sets e put (front_words tree)

-- words that were written once may be written again
again : (e x : List ℕ) (put : ℕ) (ws : List ℕ) → x ≡ sets e put ws → put + length ws ≤ length e → x ≡ sets x put ws
again e x put ws i h = i ∙ sym (ap (λ (l : List ℕ). sets l put ws) i ∙ sets_over e put ws ws (omega arith) h)

module _ (item : ℕ → Parse Front) (sep : ℕ) (op : Front → Front → Front) (s : List ℕ) where
  pub chain_start : (whole : Parse Front) (at put : ℕ) (e x : List ℕ) (v : Parsed) → whole ≡ chain item sep op s (length s) (item at) → length x ≡ length e
      → PartRead front_words (item at) s at (Ok v) put e x → Writing item sep op s whole at put x x v.count v.next v.count
  chain_start whole at put e x v q l h =
      let r = read_of front_words (item at) v h.same in
      record {
        left = length s;
        tree = r.0;
        count = r.2;
        enough = omega arith;
        same = ap (chain item sep op s (length s)) (sym r.1) ∙ sym q;
        past = h.within.0;
        within = h.within.1;
        few = h.within.2;
        long = refl;
        grown = omega arith;
        out = λ b.
            let i = h.out v.next r.0 r.1 (omega (arith, r.2)) in
            again e x put (front_words r.0) i (omega (arith, r.2));
      }

  stuck_all : (k p : ℕ) → chain item sep op s k (stuck p) ≡ stuck p
  unfolding chain
  stuck_all zero p = refl
  stuck_all (suc k) p = refl

  pub first_stuck : (whole : Parse Front) (at put : ℕ) (e x y : List ℕ) (p : Stuck) → whole ≡ chain item sep op s (length s) (item at)
      → PartRead front_words (item at) s at (Err p) put e x → PartRead front_words whole s at (Err p) put e y
  first_stuck whole at put e x y p q h =
      part_stuck front_words whole s at p put e y (rw (q, stuck_of front_words (item at) p h.same) (stuck_all (length s) p.place))

  -- at the byte b after what is read so far
  module _ (pos : 0 < sep) (whole : Parse Front) (at put : ℕ) (e x : List ℕ) (w₀ n w : ℕ)
      (h : Writing item sep op s whole at put e x w₀ n w) (b : ℕ) (eb : b ≡ get_or s n 0) where
    turned : (k : ℕ) → n < length s → length s ≤ n + k → b ≡ sep → (p : Parse Front) → item (n + 1) ≡ p
        → (j : ℕ) × (length s ≤ n + 1 + j) × (chain item sep op s k (read n h.tree) ≡ chain item sep op s j (map_p (op h.tree) p))
    unfolding chain
    turned zero i g c p q = absurd (omega arith)
    turned (suc k) i g c p q = (k, omega arith, rw (← eb, eq-eqb _ _ c, q) refl)

    pub chain_more : b ≡ sep → (put' : ℕ) → put' ≡ put + w → (v : Parsed) (y z : List ℕ)
        → PartRead front_words (item (n + 1)) s (n + 1) (Ok v) put' x y → length y ≡ length x
        → (root : ℕ) → Rooted op root → Inserted y put (w + v.count) root z → length z ≡ length y
        → (k : ℕ) → k ≡ w + v.count + 1 → Writing item sep op s whole at put e z w₀ v.next k
    unfolding map_p
    chain_more c put' ep v y z f ly root law i lz l ek =
        let r = read_of front_words (item (n + 1)) v f.same in
        let t = turned h.left (inside s n (omega arith)) h.enough c (read v.next r.0) r.1 in
        let k : length (front_words h.tree ++ front_words r.0) ≡ w + v.count = length-append (front_words h.tree) (front_words r.0) ∙ omega (arith, h.count, r.2) in
        record {
          left = t.0;
          tree = op h.tree r.0;
          count = ap length (law h.tree r.0) ∙ omega (arith, k);
          enough = omega (arith, t.1, f.within.0);
          same = sym t.2 ∙ h.same;
          past = omega (arith, h.past, f.within.0);
          within = f.within.1;
          few = omega (arith, h.few, f.within.2);
          long = lz ∙ ly ∙ h.long;
          grown = omega (arith, h.grown);
          out = λ g.
              before e put (front_words h.tree ++ front_words r.0) root (w + v.count) y z (sym k) (omega arith)
              (f.out v.next r.0 r.1 (omega (arith, h.long, r.2, ep))
              ∙ rw (h.out (omega arith), ep, ← h.count) (sym (sets_append e put (front_words h.tree) (front_words r.0))))
              i
              ∙ ap (sets e put) (sym (law h.tree r.0));
        }

    pub chain_stuck : b ≡ sep → (put' : ℕ) (y f₀ z : List ℕ) (p : Stuck) → PartRead front_words (item (n + 1)) s (n + 1) (Err p) put' x y
        → PartRead front_words whole s at (Err p) put f₀ z
    unfolding map_p
    chain_stuck c put' y f₀ z p f =
        let t = turned h.left (inside s n (omega arith)) h.enough c (stuck p.place) (stuck_of front_words (item (n + 1)) p f.same) in
        part_stuck front_words whole s at p put f₀ z (sym h.same ∙ t.2 ∙ stuck_all t.0 p.place)

    ended : (k : ℕ) → (b ≡ sep → ⊥) → chain item sep op s k (read n h.tree) ≡ read n h.tree
    unfolding chain
    ended zero c = refl
    ended (suc k) c = rw (← eb, ne_eqb _ _ c) refl

    -- f₀ is the row before the first part was written
    pub chain_end : (b ≡ sep → ⊥) → (f₀ : List ℕ) (v : Parsed) → length e ≡ length f₀ → v.count ≡ w₀ → PartRead front_words (item at) s at (Ok v) put f₀ e
        → PartRead front_words whole s at (Ok (record { next = n; count = w })) put f₀ x
    chain_end c f₀ v l q g =
        let r = read_of front_words (item at) v g.same in
        part_read front_words whole s at (record { next = n; count = w }) h.tree put f₀ x (sym h.same ∙ ended h.left c) h.count h.past h.within h.few
        (λ k.
        h.out (omega (arith, h.count, l))
        ∙ rw (g.out v.next r.0 r.1 (omega (arith, r.2, h.grown, h.count)))
        (sets_over f₀ put (front_words r.0) (front_words h.tree) (omega (arith, r.2, h.grown, h.count)) k))
