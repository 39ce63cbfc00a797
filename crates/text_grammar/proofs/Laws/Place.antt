-- The reader gives a text's ladder, or the place. Assumes nothing.
use Rattle.std.specs.Prelude.{◌≡◌, List, ◌++◌, ℕ, ◌+◌, ◌≤◌, ◌<◌, length, take, drop}
use Rattle.std.proofs.Common.{sym, ap, subst, ◌∙◌, append-nil, arith, length-append, take_at, length-take-le, get_or-take}
use Rattle.std.proofs.Math.Decide.{dec_lt}
use Rattle.std.proofs.Math.ListN.{get_or-append}
use Rattle.std.proofs.Math.Seq.{drop-length}
use Rattle.ladder_definitions.specs.Tree.{Ladder}
use Rattle.text_grammar.specs.Grammar.{IsText}
use Rattle.text_grammar.specs.Place.{Shared, IsPlace}
use Rattle.text_grammar.specs.Reader.{read, stuck, text_of}
use Rattle.text_grammar.proofs.Laws.Spans.{Span}
use Rattle.text_grammar.proofs.Laws.Fits.{Fits, fits, begins, text_fits}
use Rattle.text_grammar.proofs.Laws.Complete.{complete}
use Rattle.text_grammar.proofs.Laws.Local.{Alike, text_stuck, text_ends}

pub one_place : {s : List ℕ} {p q : ℕ} → IsPlace s p → IsPlace s q → p ≡ q
one_place {s} {p} {q} x y = let a = x.longest q y.shared in let b = y.longest p x.shared in omega arith

module _ (s : List ℕ) where
  -- what stands at the start of s
  start_is : (p : ℕ) (w : List ℕ) → Span s 0 p w → take p s ≡ w
  start_is p w z = ap (take p) z.cut ∙ take_at w (drop p s) p (omega (arith, z.long))

  start_within : (p : ℕ) (w : List ℕ) → Span s 0 p w → p ≤ length s
  start_within p w z = let e : length s ≡ length (w ++ drop p s) = ap length z.cut in let f = length-append w (drop p s) in omega (arith, z.long)

  -- what is read is in the grammar, with that ladder
  pub sound : (m : ℕ) (gs : Ladder) → text_of s ≡ read m gs → IsText s gs
  sound m gs e = go (subst (Fits IsText s 0) e (text_fits s))
    where
      go : Fits IsText s 0 (read m gs) → IsText s gs
      go (fits w z x) =
          let l = text_ends s m gs e in
          let y : s ≡ w = z.cut ∙ (ap (λ i. w ++ drop i s) l ∙ (ap (λ r. w ++ r) (drop-length s) ∙ append-nil w)) in
          subst (λ r. IsText r gs) (sym y) x

  alike : (p q : ℕ) (c : List ℕ) → p < q → q ≤ length s → Alike s (take q s ++ c) p
  alike p q c h g = record {
    byte = λ i l.
        let n = length-take-le q s g in
        sym (get_or-append (take q s) c 0 i (omega arith) ∙ get_or-take q s i 0 (omega arith));
  }

  -- where the reader is stuck is the place
  pub place : (p : ℕ) → text_of s ≡ stuck p → IsPlace s p
  place p e = record { shared = go (subst (Fits IsText s 0) e (text_fits s)); longest = most }
    where
      go : Fits IsText s 0 (stuck p) → Shared s p
      go (begins w c gs z x) = record { within = start_within p w z; rest = c; ladder = gs; text = subst (λ r. IsText (r ++ c) gs) (sym (start_is p w z)) x }

      most : (q : ℕ) → Shared s q → q ≤ p
      most q x = elim (dec_lt p q) [
        | no h ↦ omega arith
        | yes h ↦
            let t = take q s ++ x.rest in
            let g = x.within in
            let n = length-take-le q s g in
            let l : length t ≡ q + length x.rest = length-append (take q s) x.rest ∙ omega arith in
            let a = text_stuck s t p (omega arith) (omega arith) (alike p q x.rest h g) e in
            let b = complete x.text in
            let z : ◌≡◌ {A = ℕ} 0 1 = cc in
            absurd (omega arith)
      ]

  -- a text where the reader is stuck has no ladder
  pub none : (p : ℕ) (gs : Ladder) → text_of s ≡ stuck p → IsText s gs → ⊥
  none p gs e x = let b = complete x in let z : ◌≡◌ {A = ℕ} 0 1 = cc in omega arith
