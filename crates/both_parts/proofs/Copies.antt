-- A copy as far as it reaches, two ways. Assumes nothing.
use Rattle.std.specs.Prelude.{ℕ, ◌≡◌, ◌≤◌, Bool, true, false, leb, List, ◌++◌, length, take, drop}
use Rattle.std.proofs.Common.{arith, refl, le_refl, sym, ap, ◌∙◌, drop_of_length-le, leb-true, leb-false}
use Rattle.std.proofs.lemmas.List.{take_all}
use lib.Seq.{sets}
use Rattle.rungs.proofs.Copies.{sets_start}
use Rattle.both_parts.specs.Parts.{copied}

pub sets_copied : (from lent : List ℕ) → sets lent 0 from ≡ copied from lent
unfolding copied
sets_copied from lent = go (leb (length from) (length lent)) refl
  where
    go : (b : Bool) → leb (length from) (length lent) ≡ b → sets lent 0 from ≡ copied from lent
    go true e =
        let h : length from ≤ length lent = leb-true _ _ e in
        let all : take (length lent) from ≡ from = take_all (length lent) from h in
        sym (sets_start from lent (take (length lent) from) (length from) (omega arith) (all ∙ sym (take_all (length from) from (le_refl (length from)))))
    go false e =
        let h : length lent ≤ length from = let l = leb-false _ _ e in omega arith in
        let none : drop (length from) lent ≡ drop (length lent) lent = drop_of_length-le lent h ∙ sym (drop_of_length-le lent (le_refl (length lent))) in
        sym (ap (λ l. take (length lent) from ++ l) none ∙ sets_start from lent (take (length lent) from) (length lent) (omega arith) refl)
