-- Laws of an outcome put into a buffer, by its cases, and of its output; room in a blank buffer. Assumes nothing.
use Rattle.std.specs.Prelude.{ℕ, ◌≤◌, ◌≡◌, refl, List, length, replicate, Ok, Err}
use Rattle.std.proofs.Common.{arith, sym, ◌∙◌}
use Rattle.std.proofs.Math.Path.{ap, subst}
use Rattle.std.proofs.lemmas.List.{length-replicate}
use Rattle.questions.specs.Refusals.{refusal_of}
use Rattle.questions.specs.declared.Refusal.{Refusal as RefusalCase}
use Rattle.printing.specs.Put.{Put}
use Rattle.program_definitions.specs.Refusals.{refusal_line}
use Rattle.program_definitions.specs.Outcome.{Outcome, printed, refused, output_of, Printed, Done, Finished, PlacedWithin, FinishedWithin}

pub text_done : {o : Outcome} {text before after : List ℕ} {n : ℕ} → o ≡ printed text → Put before 0 text n after → Done o before (Ok n) after
unfolding Done
text_done {n = n} e p = rw (e, Done) (record { bytes = n; answer = refl; put = p })

pub refusal_done : {o : Outcome} (x : RefusalCase) (before : List ℕ) → o ≡ refused (refusal_of x) → Done o before (Err x) before
unfolding Done
refusal_done x before e = rw (e, Done) (record { case = x; answer = refl; same = refl; kept = refl })

pub same_done : {o o' : Outcome} (before : List ℕ) (r : Printed) (after : List ℕ) → o ≡ o' → Done o' before r after → Done o before r after
same_done before r after e d = rw e d

same_placed : {n m : ℕ} → ◌≡◌ {A = Printed} (Ok n) (Ok m) → n ≡ m
same_placed e = cc

same_case : {x y : RefusalCase} → ◌≡◌ {A = Printed} (Err x) (Err y) → x ≡ y
same_case e = cc

not_placed : {n : ℕ} {x : RefusalCase} → ◌≡◌ {A = Printed} (Ok n) (Err x) → ⊥
not_placed e = let z : ◌≡◌ {A = ℕ} 0 1 = cc in omega arith

-- what was placed, or the line of the refusal
module _ {p : Printed} {between : List ℕ} where
  pub finish_placed : (n : ℕ) → p ≡ Ok n → Finished p between n between × FinishedWithin p n
  unfolding Done output_of
  finish_placed n e = (go, λ most h short. short n e)
    where
      go : Finished p between n between
      go (printed text) before d = subst (λ k. Put before 0 text k between) (same_placed (sym d.answer ∙ e)) d.put
      go (refused refusal) before d = absurd (not_placed (sym e ∙ d.answer))

  pub finish_refused : (x : RefusalCase) → p ≡ Err x → {n : ℕ} {after : List ℕ} → Put between 0 (refusal_line (refusal_of x)) n after → n ≤ 60
      → Finished p between n after × FinishedWithin p n
  unfolding Done output_of
  finish_refused x e {n} {after} q few = (go, λ most h short. omega (arith, few, h))
    where
      go : Finished p between n after
      go (printed text) before d = absurd (not_placed (sym d.answer ∙ e))
      go (refused refusal) before d =
          let s : refusal_of x ≡ refusal = ap refusal_of (same_case (sym e ∙ d.answer)) ∙ d.same in
          rw (← s, ← d.kept) q

-- a text that fits is placed within the buffer
pub placed_within : (o : Outcome) (most : ℕ) → ((t : List ℕ) → o ≡ printed t → length t ≤ most) → (before : List ℕ) (r : Printed) (after : List ℕ)
    → Done o before r after → PlacedWithin most r
unfolding Done
placed_within (printed text) most short before r after d n e =
    let s : d.bytes ≡ n = same_placed (sym d.answer ∙ e) in
    omega (arith, short text refl, d.put.end, s)
placed_within (refused refusal) most short before r after d n e = absurd (not_placed (sym e ∙ d.answer))

-- what a call wrote into a blank buffer is no longer than the buffer
pub room_of : (n size x : ℕ) → n ≤ length (replicate size x) → n ≤ size
room_of n size x h = subst (λ k. n ≤ k) (length-replicate size x) h
