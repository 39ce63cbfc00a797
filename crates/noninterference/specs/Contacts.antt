-- The variables that the contacts of a ladder name, whatever a scan does, and those that none names. Document 02, Req 07. Assumes nothing.
use Rattle.std.specs.Prelude.{ℕ, zero, suc, Bool, true, false, ◌||◌, eqb}
use mathlib.Core.List.{List, [], ◌∷◌, ◌++◌, flat_map}
use Rattle.rungs.specs.Words.{number_of, operand_of}
use Rattle.ladder_definitions.specs.Kept.{contact_sort, joined_sort, output_sort, rear_and_sort, rear_or_sort, no_sort, kind_sort}
use Rattle.ladder_definitions.specs.Tree.{Front, input, front_and, front_or, Rear, output, rear_and, rear_or, Rung, Ladder, input_variable}

-- of a front: a contact and a negated contact name their variable
unfoldable pub front_contacts : Front → List ℕ
front_contacts (input i) = input_variable i ∷ []
front_contacts (front_and f g) = front_contacts f ++ front_contacts g
front_contacts (front_or f g) = front_contacts f ++ front_contacts g

-- of a rear: those of the fronts in it
unfoldable pub rear_contacts : Rear → List ℕ
rear_contacts (output o) = []
rear_contacts (rear_and f r) = front_contacts f ++ rear_contacts r
rear_contacts (rear_or a b) = rear_contacts a ++ rear_contacts b

unfoldable pub rung_contacts : Rung → List ℕ
rung_contacts g = front_contacts g.front ++ rear_contacts g.rear

-- of a ladder, in the order of its kept words
unfoldable pub ladder_contacts : Ladder → List ℕ
ladder_contacts gs = flat_map rung_contacts gs

-- the same as code finds them, in words: the operand of each that has a contact's kind; Theorems states that they are the ladder's
unfoldable pub is_contact : ℕ → Bool
is_contact kind = elim (kind_sort kind) [ contact_sort ↦ true | joined_sort ↦ false | output_sort ↦ false | rear_and_sort ↦ false | rear_or_sort ↦ false | no_sort ↦ false ]

unfoldable pub word_contact : ℕ → List ℕ
word_contact w = elim (is_contact (number_of w)) [ true ↦ operand_of w ∷ [] | false ↦ [] ]

unfoldable pub word_contacts : List ℕ → List ℕ
word_contacts ws = flat_map word_contact ws

-- whether v is one of some variables
unfoldable pub among : ℕ → List ℕ → Bool
among v [] = false
among v (x ∷ xs) = eqb x v || among v xs

-- "named by a contact": of this ladder
abbrev pub named : ℕ → Ladder → Bool
named v gs = among v (ladder_contacts gs)

-- of so many variables, from v on, those that are not among the ones read
unfoldable pub left_out : List ℕ → ℕ → ℕ → List ℕ
left_out read v zero = []
left_out read v (suc many) = elim (among v read) [ true ↦ [] | false ↦ v ∷ [] ] ++ left_out read (suc v) many

-- "Variables that no contact reads": those below V that no contact names, the lowest first
unfoldable pub unread : ℕ → Ladder → List ℕ
unread vars gs = left_out (ladder_contacts gs) 0 vars
