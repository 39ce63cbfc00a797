-- The kept ladder: a ladder in words and records, and back. Document 01, "The kept ladder". "Kept" is the document's word for encoded.
-- Theorems states that decoding undoes encoding and nothing else does. Assumes nothing.
use Rattle.std.specs.Prelude.{ℕ, zero, suc, ◌+◌, Bool, true, false, ◌&&◌, eqb, leb, length, take, drop, get_or}
use Rattle.std.proofs.Math.Option.{Option, none, some}
use mathlib.Core.List.{List, [], ◌∷◌, ◌++◌, flat_map}
use Rattle.rungs.specs.Words.{word, number_of, operand_of, is_operand}
use Rattle.rungs.specs.Records.{RungRecord, lay, row_of}
use Rattle.rungs.specs.declared.Slices.{Slices}
use Rattle.ladder_definitions.specs.Tree.{Input, contact, contactn, Front, input, front_and, front_or, Output, coil, coiln, jump, jumpn, set_coil, reset_coil, timer, Rear, output, rear_and, rear_or, Rung, Ladder, Named, a_variable, a_label, a_timer, input_variable, output_names, number}

pub record Kept : Type 0 where
  pub words : List ℕ
  pub records : List RungRecord

-- the kept ladder in words and four number slices; of the times any value is taken
abbrev pub kept_of : List ℕ → List ℕ → List ℕ → List ℕ → List ℕ → Kept
kept_of words labels offsets lengths times = record { words = words; records = row_of labels offsets lengths times }

-- the same, lent as one struct of slices
abbrev pub kept_in : Slices → List ℕ → Kept
kept_in s times = kept_of s.words.now s.labels.now s.offsets.now s.lengths.now times

-- "Kinds: 1 contact, 2 negated contact, 3 front-and, 4 front-or, 5 coil, 6 negated coil, 7 jump, 8 negated jump, 9 rear-and, 10 rear-or.
-- Operand: a variable for 1, 2, 5, 6; a label for 7, 8; 0 otherwise." 02, Req 01: "outputs s and r, kinds 11 and 12"; their operand is a variable.
-- Req 06: "an output t with a timer number, kind 13".
unfoldable pub input_kind : Input → ℕ
input_kind (contact v) = 1
input_kind (contactn v) = 2

unfoldable pub output_kind : Output → ℕ
output_kind (coil v) = 5
output_kind (coiln v) = 6
output_kind (jump l) = 7
output_kind (jumpn l) = 8
output_kind (set_coil v) = 11
output_kind (reset_coil v) = 12
output_kind (timer n) = 13

unfoldable pub input_word : Input → ℕ
input_word i = word (input_kind i) (input_variable i)

unfoldable pub output_word : Output → ℕ
output_word o = word (output_kind o) (number (output_names o))

-- the sort of a word, by its kind: "A front is built of 1 to 4. A rear is an output (5 to 8), or 9 with a front and a rear, or 10 with two rears.";
-- 02's set and reset coils and timers are outputs
pub data KindSort : Type 0 where
  contact_sort joined_sort output_sort rear_and_sort rear_or_sort no_sort : KindSort

-- by kind, from 0 to 13
unfoldable pub kind_sorts : List KindSort
kind_sorts =
    no_sort
    ∷ contact_sort ∷ contact_sort ∷ joined_sort ∷ joined_sort
    ∷ output_sort ∷ output_sort ∷ output_sort ∷ output_sort ∷ rear_and_sort ∷ rear_or_sort
    ∷ output_sort ∷ output_sort ∷ output_sort ∷ []

unfoldable pub kind_sort : ℕ → KindSort
kind_sort kind = get_or kind_sorts kind no_sort

-- what a word's operand names, by its kind
pub data NameSort : Type 0 where
  variable_name label_name timer_name no_name : NameSort

-- by kind, from 0 to 13
unfoldable pub name_sorts : List NameSort
name_sorts =
    no_name
    ∷ variable_name ∷ variable_name ∷ no_name ∷ no_name
    ∷ variable_name ∷ variable_name ∷ label_name ∷ label_name ∷ no_name ∷ no_name
    ∷ variable_name ∷ variable_name ∷ timer_name ∷ []

unfoldable pub name_sort : ℕ → NameSort
name_sort kind = get_or name_sorts kind no_name

-- what is named, by its sort
unfoldable pub named_sort : Named → NameSort
named_sort (a_variable v) = variable_name
named_sort (a_label l) = label_name
named_sort (a_timer n) = timer_name

-- "A tree is its root word, then its first part, then its second."
unfoldable pub front_words : Front → List ℕ
front_words (input i) = input_word i ∷ []
front_words (front_and f g) = word 3 0 ∷ front_words f ++ front_words g
front_words (front_or f g) = word 4 0 ∷ front_words f ++ front_words g

unfoldable pub rear_words : Rear → List ℕ
rear_words (output o) = output_word o ∷ []
rear_words (rear_and f r) = word 9 0 ∷ front_words f ++ rear_words r
rear_words (rear_or a b) = word 10 0 ∷ rear_words a ++ rear_words b

-- "A rung is a front followed by a rear."
unfoldable pub rung_words : Rung → List ℕ
rung_words g = front_words g.front ++ rear_words g.rear

unfoldable pub encode : Ladder → Kept
encode gs = record { words = flat_map rung_words gs; records = lay (λ g. g.label) (λ g. length (rung_words g)) 0 gs }

-- Decoding goes from the last word to the first: what follows a word is some fronts and then some rears, and the word is put before them.
pub data Trees : Type 0 where
  trees : List Front → List Rear → Trees

unfoldable pub put_input : (ℕ → Input) → ℕ → Trees → Option Trees
put_input make v (trees fs rs) = some (trees (input (make v) ∷ fs) rs)

unfoldable pub put_front : (Front → Front → Front) → ℕ → Trees → Option Trees
put_front make zero (trees (f ∷ g ∷ fs) rs) = some (trees (make f g ∷ fs) rs)
put_front make zero (trees (f ∷ []) rs) = none
put_front make zero (trees [] rs) = none
put_front make (suc o) ts = none

unfoldable pub put_output : (ℕ → Output) → ℕ → Trees → Option Trees
put_output make o (trees [] rs) = some (trees [] (output (make o) ∷ rs))
put_output make o (trees (f ∷ fs) rs) = none

unfoldable pub put_rear_and : ℕ → Trees → Option Trees
put_rear_and zero (trees (f ∷ []) (r ∷ rs)) = some (trees [] (rear_and f r ∷ rs))
put_rear_and zero (trees (f ∷ []) []) = none
put_rear_and zero (trees (f ∷ g ∷ fs) rs) = none
put_rear_and zero (trees [] rs) = none
put_rear_and (suc o) ts = none

unfoldable pub put_rear_or : ℕ → Trees → Option Trees
put_rear_or zero (trees [] (a ∷ b ∷ rs)) = some (trees [] (rear_or a b ∷ rs))
put_rear_or zero (trees [] (a ∷ [])) = none
put_rear_or zero (trees [] []) = none
put_rear_or zero (trees (f ∷ fs) rs) = none
put_rear_or (suc o) ts = none

abbrev pub no_kind : ℕ → Trees → Option Trees
no_kind o ts = none

-- by kind, from 0 to 13
unfoldable pub kinds : List (ℕ → Trees → Option Trees)
kinds =
    no_kind
    ∷ put_input contact ∷ put_input contactn ∷ put_front front_and ∷ put_front front_or
    ∷ put_output coil ∷ put_output coiln ∷ put_output jump ∷ put_output jumpn ∷ put_rear_and ∷ put_rear_or
    ∷ put_output set_coil ∷ put_output reset_coil ∷ put_output timer ∷ []

unfoldable pub decode_words : List ℕ → Option Trees
decode_words [] = some (trees [] [])
decode_words (w ∷ ws) = elim (decode_words ws) [ none ↦ none | some ts ↦ get_or kinds (number_of w) no_kind (operand_of w) ts ]

unfoldable pub one_rung : ℕ → Trees → Option Rung
one_rung l (trees (f ∷ []) (r ∷ [])) = some (record { label = l; front = f; rear = r })
one_rung l (trees (f ∷ []) []) = none
one_rung l (trees (f ∷ []) (r ∷ q ∷ rs)) = none
one_rung l (trees (f ∷ g ∷ fs) rs) = none
one_rung l (trees [] rs) = none

unfoldable pub decode_rung : ℕ → List ℕ → Option Rung
decode_rung l ws = elim (decode_words ws) [ none ↦ none | some ts ↦ one_rung l ts ]

-- "the first offset is 0, each next is the end of the one before, the last end is the number of words"
unfoldable pub decode_from : ℕ → List RungRecord → List ℕ → Option Ladder
decode_from start [] [] = some []
decode_from start [] (w ∷ ws) = none
decode_from start (r ∷ rs) ws = elim (eqb r.offset start && leb r.length (length ws)) [
  | true ↦ elim (decode_rung r.label (take r.length ws)) [
    | none ↦ none
    | some g ↦ elim (decode_from (start + r.length) rs (drop r.length ws)) [ none ↦ none | some gs ↦ some (g ∷ gs) ]
  ]
  | false ↦ none
]

unfoldable pub decode : Kept → Option Ladder
decode k = decode_from 0 k.records k.words

-- an operand has 16 bits
unfoldable pub input_fits : Input → Bool
input_fits i = is_operand (input_variable i)

unfoldable pub output_fits : Output → Bool
output_fits o = is_operand (number (output_names o))
