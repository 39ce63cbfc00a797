-- Laws of a word that stands at the beginning of a line. Assumes nothing.
use mathlib.Core.Path.{◌≡◌, refl, ap, sym, ◌∙◌}
use mathlib.Core.Bool.{Bool, true, false, not, ◌&&◌}
use mathlib.Core.List.{List, [], ◌∷◌}
use Prim.Native.Nat.{ℕ, ◌≤◌}
use native.Mathlib.Omega.{arith}
use borrow.Author.Tests.{eqb-true, eqb-false, eq-eqb, ne_eqb}
use lib.Dec.{eqb}
use lib.ListN.{length, take, drop, drop_of_length-le}
use Rattle.questions.specs.Bytes.{same_bytes}
use Rattle.questions.specs.Tests.{all}
use Rattle.std.proofs.Common.{rules, Decides, min}
use Rattle.std.specs.Cmp.Lexicographic.{pointwise}
use Rattle.std.specs.List.{between}
use Rattle.std.proofs.lemmas.Slice.{between_to_end}
use Rattle.program_timer_lines.specs.Fields.{stands_at}
use Rattle.std.proofs.lemmas.Slice.Eq.{slice_eq-Decides, compares_Decides}
use Rattle.std.proofs.lemmas.Bool.Decides.{same_from_decides, Decides-eqb}
use native.Mathlib.Decide.{dec_le}
use Rattle.program_definitions.specs.Lines.{first_line, text_after}
use Rattle.program_numbers.proofs.Lines.{at_break, at_other, rest_other, line_none_left}

pub false_true : {A : Type 0} → ◌≡◌ {A = Bool} false true → A
false_true e = let z : ◌≡◌ {A = ℕ} 0 1 = cc in absurd (omega arith)

pub and_first : (p q : Bool) → (p && q) ≡ true → p ≡ true
and_first true q e = refl
and_first false q e = false_true e

pub and_second : (p q : Bool) → (p && q) ≡ true → q ≡ true
and_second true q e = e
and_second false q e = false_true e

same_cons : (x y : ℕ) (xs ys : List ℕ) → same_bytes (x ∷ xs) (y ∷ ys) ≡ (eqb x y && same_bytes xs ys)
unfolding same_bytes
same_cons x y xs ys = refl

none_there : (y : ℕ) (ys : List ℕ) → same_bytes [] (y ∷ ys) ≡ false
unfolding same_bytes
none_there y ys = refl

-- what `starts_with` says
decides_back : (r : Bool) (xs ys : List ℕ) → Decides r (xs ≡ ys) → Decides r (ys ≡ xs)
decides_back r xs ys d = (λ h. sym (d.0 h), λ e. d.1 (sym e))

same_decides : (xs ys : List ℕ) → Decides (same_bytes xs ys) (xs ≡ ys)
unfolding same_bytes
same_decides = compares_Decides same_bytes (search rules)

started : (word l : List ℕ) (r : Bool) → r ≡ pointwise eqb word (take (length word) l) → r ≡ same_bytes (take (length word) l) word
started word l r e =
    same_from_decides r (same_bytes (take (length word) l) word) (decides_back r word (take (length word) l) (slice_eq-Decides Decides-eqb _ _ _ e))
    (same_decides (take (length word) l) word)

from_least : (from : ℕ) (input : List ℕ) → drop (min from (length input)) input ≡ drop from input
from_least from input = go (dec_le from (length input))
  where
    go : Dec (from ≤ length input) → drop (min from (length input)) input ≡ drop from input
    go (yes h) = let e : min from (length input) ≡ from = omega arith in rw e refl
    go (no h) =
        let e : min from (length input) ≡ length input = omega arith in
        rw e (drop_of_length-le input (omega arith) ∙ sym (drop_of_length-le input (omega arith)))

pub begun : (input : List ℕ) (from : ℕ) (word : List ℕ) (n : ℕ) {r : Bool} → n ≡ min from (length input)
    → r ≡ pointwise eqb word (take (length word) (between n (length input) input)) → stands_at input from word ≡ r
begun input from word n {r} m e =
    let rest : between n (length input) input ≡ drop from input = between_to_end input n (length input) (omega arith) ∙ (ap (λ k. drop k input) m ∙ from_least from input) in
    sym (started word _ r e ∙ ap (λ l. same_bytes (take (length word) l) word) rest)

-- ---- a word in a line

-- no byte of a word ends a line
abbrev pub in_line : List ℕ → Bool
in_line word = all (λ b. not (eqb b 10)) word

not_ends : (b : ℕ) → not (eqb b 10) ≡ true → b ≡ 10 → ⊥
not_ends b h e = let q : not true ≡ true = ap not (sym (eq-eqb b 10 e)) ∙ h in false_true q

-- a word that stands at the beginning of the bytes stands at the beginning of their first line, and the same line end follows
pub record Leads (word bytes : List ℕ) : Type 0 where
  pub line : same_bytes (take (length word) (first_line bytes)) word ≡ same_bytes (take (length word) bytes) word
  pub later : same_bytes (take (length word) bytes) word ≡ true → drop (length word) (first_line bytes) ≡ first_line (drop (length word) bytes)
  pub rest : same_bytes (take (length word) bytes) word ≡ true → text_after (drop (length word) bytes) ≡ text_after bytes
  pub room : same_bytes (take (length word) bytes) word ≡ true → length word ≤ length bytes

leads_other : (w : ℕ) (ws : List ℕ) (b : ℕ) (bs : List ℕ) → not (eqb w 10) ≡ true → Leads ws bs → (b ≡ 10 → ⊥) → Leads (w ∷ ws) (b ∷ bs)
leads_other w ws b bs h l n =
    let q = at_other b bs n in
    let same : same_bytes (b ∷ take (length ws) bs) (w ∷ ws) ≡ true → same_bytes (take (length ws) bs) ws ≡ true =
    λ e. and_second (eqb b w) (same_bytes (take (length ws) bs) ws) (sym (same_cons b w (take (length ws) bs) ws) ∙ e) in
    record {
      line = ap (λ (x : List ℕ). same_bytes (take (length (w ∷ ws)) x) (w ∷ ws)) q
          ∙ (same_cons b w (take (length ws) (first_line bs)) ws ∙ (ap (λ (p : Bool). eqb b w && p) l.line ∙ sym (same_cons b w (take (length ws) bs) ws)));
      later = λ e. ap (drop (length (w ∷ ws))) q ∙ l.later (same e);
      rest = λ e. l.rest (same e) ∙ sym (rest_other b bs n);
      room = λ e. let k = l.room (same e) in omega arith;
    }

leads_break : (w : ℕ) (ws : List ℕ) (b : ℕ) (bs : List ℕ) → not (eqb w 10) ≡ true → b ≡ 10 → Leads (w ∷ ws) (b ∷ bs)
leads_break w ws b bs h n =
    let wrong : same_bytes (b ∷ take (length ws) bs) (w ∷ ws) ≡ false =
    same_cons b w (take (length ws) bs) ws ∙ rw (ne_eqb b w (λ e. not_ends w h (sym e ∙ n))) refl in
    record {
      line = ap (λ (x : List ℕ). same_bytes (take (length (w ∷ ws)) x) (w ∷ ws)) (at_break b bs n) ∙ (none_there w ws ∙ sym wrong);
      later = λ e. false_true (sym wrong ∙ e);
      rest = λ e. false_true (sym wrong ∙ e);
      room = λ e. false_true (sym wrong ∙ e);
    }

pub leads : (word bytes : List ℕ) → in_line word ≡ true → Leads word bytes
leads [] bytes h = record { line = refl; later = λ e. refl; rest = λ e. refl; room = λ e. omega arith }
leads (w ∷ ws) [] h = record {
  line = ap (λ (x : List ℕ). same_bytes (take (length (w ∷ ws)) x) (w ∷ ws)) line_none_left;
  later = λ e. false_true (sym (none_there w ws) ∙ e);
  rest = λ e. false_true (sym (none_there w ws) ∙ e);
  room = λ e. false_true (sym (none_there w ws) ∙ e);
}
leads (w ∷ ws) (b ∷ bs) h = go (eqb b 10) refl (leads ws bs (and_second (not (eqb w 10)) (in_line ws) h))
  where
    go : (t : Bool) → eqb b 10 ≡ t → Leads ws bs → Leads (w ∷ ws) (b ∷ bs)
    go true e l = leads_break w ws b bs (and_first (not (eqb w 10)) (in_line ws) h) (eqb-true b 10 e)
    go false e l = leads_other w ws b bs (and_first (not (eqb w 10)) (in_line ws) h) l (eqb-false b 10 e)
