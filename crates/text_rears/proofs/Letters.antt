-- Laws of the letters of outputs and their kinds. Assumes nothing.
use mathlib.Core.Path.{◌≡◌, refl, ◌∙◌}
use mathlib.Core.Option.{Option, none, some}
use mathlib.Core.List.{List}
use Prim.Native.Nat.{ℕ, ◌<◌}
use native.Mathlib.Omega.{arith}
use lib.ListN.{length, get_or}
use Rattle.std.specs.Prelude.{Some, None}
use Rattle.rungs.specs.Words.{operands, word}
use Rattle.ladder_definitions.specs.Tree.{Output, output}
use Rattle.ladder_definitions.specs.Kept.{output_kind, output_word, rear_words}
use Rattle.ladder_kinds.specs.Kinds.{kind_number}
use Rattle.ladder_kinds.specs.declared.Kind.{Kind}
use Rattle.ladder_kinds.specs.declared.Kind.TheVariants as the_kind
use Rattle.text_grammar.specs.Reader.{output_at}
use Rattle.text_grammar.proofs.Laws.Letters.{Letter, letter, known_letter}
use Rattle.text_grammar.proofs.Laws.Spans.{inside}
use Rattle.text_fronts.specs.Parts.{one_word}
use Rattle.text_rears.specs.Letters.{letter_kind}

-- a kind has 16 bits
pub kind_few : (kind : Kind) → kind_number kind < operands
unfolding kind_number
kind_few the_kind.Contact = omega arith
kind_few the_kind.NegatedContact = omega arith
kind_few the_kind.FrontAnd = omega arith
kind_few the_kind.FrontOr = omega arith
kind_few the_kind.Coil = omega arith
kind_few the_kind.NegatedCoil = omega arith
kind_few the_kind.Jump = omega arith
kind_few the_kind.NegatedJump = omega arith
kind_few the_kind.RearAnd = omega arith
kind_few the_kind.RearOr = omega arith
kind_few the_kind.SetCoil = omega arith
kind_few the_kind.ResetCoil = omega arith
kind_few the_kind.Timer = omega arith

-- the word of what a letter of kind k makes of a number
pub letter_words : {b k : ℕ} {make : ℕ → Output} → Letter b make → k ≡ output_kind (make 0) → (v : ℕ) → rear_words (output (make v)) ≡ one_word (word k v)
unfolding rear_words output_word
letter_words x e v = rw (x.kind v, x.names v, e) refl

-- a byte is the letter of an output exactly when it has a kind k
module _ (b : ℕ) where
  pub is_letter : (k : ℕ) → Some k ≡ letter_kind b → (make : ℕ → Output) × Letter b make × (k ≡ output_kind (make 0))
  unfolding letter_kind
  is_letter k e = go (output_at b) refl
    where
      go : (o : Option (ℕ → Output)) → output_at b ≡ o → (make : ℕ → Output) × Letter b make × (k ≡ output_kind (make 0))
      go (some make) q = let m : Some k ≡ Some (output_kind (make 0)) = e ∙ rw (q, letter_kind) in (make, letter (known_letter b make q), cc)
      go none q = let m : Some k ≡ None = e ∙ rw (q, letter_kind) in let z : ◌≡◌ {A = ℕ} 0 1 = cc in absurd (omega arith)

  pub no_letter : None ≡ letter_kind b → output_at b ≡ none
  unfolding letter_kind
  no_letter e = go (output_at b) refl
    where
      go : (o : Option (ℕ → Output)) → output_at b ≡ o → output_at b ≡ none
      go none q = q
      go (some make) q =
          let m : None ≡ Some (output_kind (make 0)) = e ∙ rw (q, letter_kind) in
          let z : ◌≡◌ {A = ℕ} 0 1 = cc in
          absurd (omega arith)

  -- a letter lies within the text
  pub letter_within : (k : ℕ) → Some k ≡ letter_kind b → (s : List ℕ) (at : ℕ) → b ≡ get_or s at 0 → at < length s
  letter_within k n s at e = let m = is_letter k n in inside s at (omega (arith, m.1.positive))
