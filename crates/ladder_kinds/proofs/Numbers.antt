-- The number that the code gives each case of the enum Kind; no two cases have the same. Assumes nothing.
use Rattle.std.specs.Prelude.{◌+◌, ◌≡◌, refl, List, [], ◌∷◌, get_or}
use Rattle.std.proofs.Common.{sym, ap, ◌∙◌}
use denote.Enum.Declared.{tag_of}
use Rattle.ladder_kinds.specs.contracts.Kind.{the_type}
use Rattle.ladder_kinds.specs.declared.Kind.{Kind}
use Rattle.ladder_kinds.specs.declared.Kind.TheVariants.{Contact, NegatedContact, FrontAnd, FrontOr, Coil, NegatedCoil, Jump, NegatedJump, RearAnd, RearOr, SetCoil, ResetCoil, Timer}
use Rattle.ladder_kinds.specs.Kinds.{kind_number}

pub tag_lem : (kind : Kind) → tag_of the_type kind + 1 ≡ kind_number kind
unfolding kind_number
tag_lem Contact = refl
tag_lem NegatedContact = refl
tag_lem FrontAnd = refl
tag_lem FrontOr = refl
tag_lem Coil = refl
tag_lem NegatedCoil = refl
tag_lem Jump = refl
tag_lem NegatedJump = refl
tag_lem RearAnd = refl
tag_lem RearOr = refl
tag_lem SetCoil = refl
tag_lem ResetCoil = refl
tag_lem Timer = refl

-- by number, from 0
abbrev cases : List Kind
cases =
    Contact
    ∷ Contact ∷ NegatedContact ∷ FrontAnd ∷ FrontOr
    ∷ Coil ∷ NegatedCoil ∷ Jump ∷ NegatedJump ∷ RearAnd ∷ RearOr
    ∷ SetCoil ∷ ResetCoil ∷ Timer ∷ []

number_back : (kind : Kind) → get_or cases (kind_number kind) Contact ≡ kind
unfolding kind_number
number_back Contact = refl
number_back NegatedContact = refl
number_back FrontAnd = refl
number_back FrontOr = refl
number_back Coil = refl
number_back NegatedCoil = refl
number_back Jump = refl
number_back NegatedJump = refl
number_back RearAnd = refl
number_back RearOr = refl
number_back SetCoil = refl
number_back ResetCoil = refl
number_back Timer = refl

pub same_kind : (a b : Kind) → kind_number a ≡ kind_number b → a ≡ b
same_kind a b e = sym (number_back a) ∙ ap (λ n. get_or cases n Contact) e ∙ number_back b
