-- What is proved of the reader, a theorem to a sentence; the proofs are in Laws. Assumes nothing.
use Rattle.std.specs.Prelude.{ℕ, ◌≤◌, ◌≡◌, refl, ◌↔◌, List, T, length}
use Rattle.std.proofs.Common.{arith, sym, ap, ◌∙◌}
use Rattle.std.proofs.Math.Option.{none, some}
use Rattle.questions.specs.Tests.{all}
use Rattle.questions.specs.Questions.{Answer, yes}
use Rattle.ladder_definitions.specs.Tree.{Ladder, rung_all}
use Rattle.ladder_definitions.specs.Kept.{encode, decode, input_fits, output_fits}
use Rattle.ladder_definitions.specs.Questions.{question4, question9}
use Rattle.text_grammar.specs.Grammar.{IsText}
use Rattle.text_grammar.specs.Place.{IsPlace}
use Rattle.text_grammar.specs.Reader.{Parse, read, stuck, text_of}
use Rattle.text_grammar.specs.Questions.{question3}
use Rattle.text_grammar.proofs.Laws.Complete as laws
use Rattle.text_grammar.proofs.Laws.Local.{text_ends}
use Rattle.text_grammar.proofs.Laws.Place as places
use Rattle.text_grammar.proofs.Laws.Accepted as accepted

-- A text is read, whole and with a ladder, exactly when it is a text of the grammar, with that ladder.
pub read_exactly : (s : List ℕ) (gs : Ladder) → (text_of s ≡ read (length s) gs) ↔ IsText s gs
read_exactly s gs = (λ e. places.sound s (length s) gs e, λ x. laws.complete x)

-- What is read is read whole.
pub read_whole : (s : List ℕ) (n : ℕ) (gs : Ladder) → text_of s ≡ read n gs → n ≡ length s
read_whole s n gs e = text_ends s n gs e

-- A text has one ladder at most.
pub one_ladder : {s : List ℕ} {gs hs : Ladder} → IsText s gs → IsText s hs → gs ≡ hs
one_ladder x y = laws.one_ladder x y

-- Where the reader is stuck is the place, and a text has one place at most.
pub stuck_at_place : (s : List ℕ) (p : ℕ) → text_of s ≡ stuck p → IsPlace s p
stuck_at_place s p e = places.place s p e

pub one_place : {s : List ℕ} {p q : ℕ} → IsPlace s p → IsPlace s q → p ≡ q
one_place x y = places.one_place x y

placed : Answer → ℕ
placed none = 0
placed (some refusal) = refusal.place

-- Question 3 gets a "yes" exactly when the text is in the grammar, with some ladder.
pub yes_exactly : (s : List ℕ) → (question3 s ≡ yes) ↔ ((gs : Ladder) × IsText s gs)
unfolding question3
yes_exactly s = (λ e. go (text_of s) refl e, λ x. rw (laws.complete x.1, question3))
  where
    go : (r : Parse Ladder) → text_of s ≡ r → question3 s ≡ yes → (gs : Ladder) × IsText s gs
    go (read n gs) q e = (gs, places.sound s n gs q)
    go (stuck p) q e = let f : question3 s ≡ some (record { number = 3; place = p }) = rw (q, question3) in let z : ◌≡◌ {A = ℕ} 0 1 = cc in absurd (omega arith)

-- It gets a "no", with number 3 and a place, exactly when the text is not in the grammar and that is its place.
pub no_exactly : (s : List ℕ) (p : ℕ) → (question3 s ≡ some (record { number = 3; place = p })) ↔ (((gs : Ladder) → IsText s gs → ⊥) × IsPlace s p)
unfolding question3 placed
no_exactly s p = (λ e. go (text_of s) refl e, λ x. back (text_of s) refl x)
  where
    stuck_no : (o : ℕ) → text_of s ≡ stuck o → question3 s ≡ some (record { number = 3; place = o })
    stuck_no o q = rw (q, question3)

    go : (r : Parse Ladder) → text_of s ≡ r → question3 s ≡ some (record { number = 3; place = p }) → ((gs : Ladder) → IsText s gs → ⊥) × IsPlace s p
    go (read n gs) q e = let f : question3 s ≡ yes = rw (q, question3) in let z : ◌≡◌ {A = ℕ} 0 1 = cc in absurd (omega arith)
    go (stuck o) q e =
        let same : o ≡ p = ap placed (sym (stuck_no o q) ∙ e) in
        (λ gs x. places.none s o gs q x, rw (← same) (places.place s o q))

    back : (r : Parse Ladder) → text_of s ≡ r → ((gs : Ladder) → IsText s gs → ⊥) × IsPlace s p → question3 s ≡ some (record { number = 3; place = p })
    back (read n gs) q x = absurd (x.0 gs (places.sound s n gs q))
    back (stuck o) q x = stuck_no o q ∙ ap (λ i. some (record { number = 3; place = i })) (places.one_place (places.place s o q) x.1)

-- "Translation within t0 to t31? (.. text always is)": the ladder of a text always gets a "yes" to question 9.
pub scratch_always : {s : List ℕ} {gs : Ladder} → IsText s gs → question9 gs ≡ yes
scratch_always x = accepted.scratch_always x

-- A text has at least one rung.
pub some_rung : {s : List ℕ} {gs : Ladder} → IsText s gs → 1 ≤ length gs
some_rung x = accepted.some_rung x

-- Every operand in its ladder has 16 bits.
pub operands_fit : {s : List ℕ} {gs : Ladder} → IsText s gs → T (all (rung_all input_fits output_fits) gs)
operands_fit x = accepted.operands_fit x

-- So the kept words and records of its ladder are decoded to that ladder, and get a "yes" to question 4.
pub decoded_always : {s : List ℕ} {gs : Ladder} → IsText s gs → decode (encode gs) ≡ some gs
decoded_always x = accepted.decoded_always x

pub kept_always : {s : List ℕ} {gs : Ladder} → IsText s gs → question4 (encode gs) ≡ yes
kept_always x = accepted.kept_always x
