-- The letters of outputs: the reader's are the grammar's, and what each makes of a number. A letter is a clause of each law. Assumes nothing.
use Rattle.std.specs.Prelude.{ℕ, ◌<◌, ◌≡◌, refl, Bool, true, false, eqb}
use Rattle.std.proofs.Common.{arith, eqb-true}
use Rattle.std.proofs.Math.Option.{Option, some}
use Rattle.ladder_definitions.specs.Tree.{Output, output_names, number}
use Rattle.ladder_definitions.specs.Kept.{output_kind}
use Rattle.text_grammar.specs.Grammar.{IsOutput, o_letter, q_letter, j_letter, k_letter, s_letter, r_letter, t_letter}
use Rattle.text_grammar.specs.Reader.{pick, opens_factor, output_at}

-- the reader knows the letter, which begins no factor; what it makes of a number names that number, and has one kind
pub record Letter (b : ℕ) (make : ℕ → Output) : Type 0 where
  pub known : output_at b ≡ some make
  pub positive : 0 < b
  pub no_factor : opens_factor b ≡ false
  pub names : (v : ℕ) → number (output_names (make v)) ≡ v
  pub kind : (v : ℕ) → output_kind (make v) ≡ output_kind (make 0)

pub letter : {b : ℕ} {make : ℕ → Output} → IsOutput b make → Letter b make
unfolding output_at opens_factor output_names number output_kind
letter o_letter = record { known = refl; positive = omega arith; no_factor = refl; names = λ v. refl; kind = λ v. refl }
letter q_letter = record { known = refl; positive = omega arith; no_factor = refl; names = λ v. refl; kind = λ v. refl }
letter j_letter = record { known = refl; positive = omega arith; no_factor = refl; names = λ v. refl; kind = λ v. refl }
letter k_letter = record { known = refl; positive = omega arith; no_factor = refl; names = λ v. refl; kind = λ v. refl }
letter s_letter = record { known = refl; positive = omega arith; no_factor = refl; names = λ v. refl; kind = λ v. refl }
letter r_letter = record { known = refl; positive = omega arith; no_factor = refl; names = λ v. refl; kind = λ v. refl }
letter t_letter = record { known = refl; positive = omega arith; no_factor = refl; names = λ v. refl; kind = λ v. refl }

-- and the reader knows no other
pub known_letter : (b : ℕ) (make : ℕ → Output) → output_at b ≡ some make → IsOutput b make
unfolding output_at
known_letter b make =
    either o_letter
    (either q_letter
    (either j_letter
    (either k_letter
    (either s_letter
    (either r_letter
    (either t_letter (λ e. let z : ◌≡◌ {A = ℕ} 0 1 = cc in absurd (omega arith))))))))
  where
    either : {c : ℕ} {found : ℕ → Output} {rest : Option (ℕ → Output)} → IsOutput c found → (rest ≡ some make → IsOutput b make)
        → pick (eqb b c) (some found) rest ≡ some make → IsOutput b make
    either {c} {found} {rest} x more = go (eqb b c) refl
      where
        go : (t : Bool) → eqb b c ≡ t → pick t (some found) rest ≡ some make → IsOutput b make
        go true q e = let l : b ≡ c = eqb-true b c q in let f : found ≡ make = cc in rw (l, ← f) x
        go false q e = more e
