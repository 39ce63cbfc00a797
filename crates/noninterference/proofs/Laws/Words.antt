-- The contacts of a ladder stand in its kept words, in order. Assumes nothing.
use Rattle.std.specs.Prelude.{ℕ, ◌<◌, ◌≡◌, refl, true, false, T}
use Rattle.std.proofs.Common.{arith, ap, ◌∙◌, ltb→lt}
use Rattle.std.proofs.Math.Option.{none}
use mathlib.Core.List.{List, [], ◌∷◌, ◌++◌, flat_map}
use Rattle.std.proofs.Math.Facts.{and_yes}
use Rattle.questions.specs.Tests.{all}
use Rattle.questions.proofs.Laws.Tests.{all_head, all_tail}
use Rattle.questions.proofs.Laws.Maps.{flat_map_append}
use Rattle.rungs.specs.Words.{operands, word, number_of, operand_of}
use Rattle.ladder_definitions.specs.Tree.{Input, Front, input, front_and, front_or, Output, Rear, output, rear_and, rear_or, Ladder, input_variable, output_names, number, front_all, rear_all, rung_all}
use Rattle.ladder_definitions.specs.Kept.{Kept, input_kind, output_kind, input_word, output_word, kind_sorts, kind_sort, front_words, rear_words, rung_words, encode, input_fits, output_fits}
use Rattle.ladder_definitions.specs.Questions.{ladder_of, ladder_answer}
use Rattle.ladder_definitions.proofs.Theorems.{input_sorted, output_sorted}
use Rattle.ladder_definitions.proofs.Laws.Accepting.{encode_decode, accepted}
use Rattle.noninterference.specs.Contacts.{front_contacts, rear_contacts, rung_contacts, ladder_contacts, is_contact, word_contact, word_contacts}

words_append : (us ws : List ℕ) → word_contacts (us ++ ws) ≡ word_contacts us ++ word_contacts ws
unfolding word_contacts
words_append us ws = flat_map_append word_contact us ws

-- a word of a contact's kind, and one of another kind
pub contact_word : (w : ℕ) → is_contact (number_of w) ≡ true → word_contact w ≡ operand_of w ∷ []
unfolding word_contact
contact_word w e = rw (e, word_contact) refl

pub other_word : (w : ℕ) → is_contact (number_of w) ≡ false → word_contact w ≡ []
unfolding word_contact
other_word w e = rw (e, word_contact) refl

number_is : (kind operand : ℕ) → operand < operands → number_of (word kind operand) ≡ kind
number_is kind operand h = omega arith

operand_is : (kind operand : ℕ) → operand < operands → operand_of (word kind operand) ≡ operand
operand_is kind operand h = omega arith

input_contact : (i : Input) → T (input_fits i) → word_contact (input_word i) ≡ input_variable i ∷ []
unfolding input_fits input_word is_contact
input_contact i h =
    let below = ltb→lt (input_variable i) operands h in
    contact_word (input_word i) (rw (number_is (input_kind i) (input_variable i) below, (input_sorted i).0, is_contact) refl)
    ∙ ap (λ v. v ∷ []) (operand_is (input_kind i) (input_variable i) below)

output_none : (o : Output) → T (output_fits o) → word_contact (output_word o) ≡ []
unfolding output_fits output_word is_contact
output_none o h =
    other_word (output_word o) (rw (number_is (output_kind o) (number (output_names o)) (ltb→lt (number (output_names o)) operands h), (output_sorted o).0, is_contact) refl)

front_words_lem : (f : Front) → T (front_all input_fits f) → word_contacts (front_words f) ≡ front_contacts f
unfolding front_words front_all front_contacts word_contacts word_contact is_contact kind_sort kind_sorts flat_map
front_words_lem (input i) h = ap (λ l. l ++ []) (input_contact i h)
front_words_lem (front_and f g) h =
    let b = and_yes (front_all input_fits f) (front_all input_fits g) h in
    words_append (front_words f) (front_words g) ∙ rw (front_words_lem f b.0, front_words_lem g b.1) refl
front_words_lem (front_or f g) h =
    let b = and_yes (front_all input_fits f) (front_all input_fits g) h in
    words_append (front_words f) (front_words g) ∙ rw (front_words_lem f b.0, front_words_lem g b.1) refl

rear_words_lem : (r : Rear) → T (rear_all input_fits output_fits r) → word_contacts (rear_words r) ≡ rear_contacts r
unfolding rear_words rear_all rear_contacts word_contacts word_contact is_contact kind_sort kind_sorts flat_map
rear_words_lem (output o) h = ap (λ l. l ++ []) (output_none o h)
rear_words_lem (rear_and f r) h =
    let b = and_yes (front_all input_fits f) (rear_all input_fits output_fits r) h in
    words_append (front_words f) (rear_words r) ∙ rw (front_words_lem f b.0, rear_words_lem r b.1) refl
rear_words_lem (rear_or a c) h =
    let b = and_yes (rear_all input_fits output_fits a) (rear_all input_fits output_fits c) h in
    words_append (rear_words a) (rear_words c) ∙ rw (rear_words_lem a b.0, rear_words_lem c b.1) refl

rungs_words : (gs : Ladder) → T (all (rung_all input_fits output_fits) gs) → word_contacts (flat_map rung_words gs) ≡ ladder_contacts gs
unfolding flat_map rung_words rung_all ladder_contacts rung_contacts word_contacts
rungs_words [] h = refl
rungs_words (g ∷ gs) h =
    let b = and_yes (front_all input_fits g.front) (rear_all input_fits output_fits g.rear) (all_head (rung_all input_fits output_fits) g gs h) in
    words_append (rung_words g) (flat_map rung_words gs)
    ∙ rw (words_append (front_words g.front) (rear_words g.rear), front_words_lem g.front b.0, rear_words_lem g.rear b.1, rungs_words gs (all_tail (rung_all input_fits output_fits) g gs h)) refl

pub kept_contacts : (vars : ℕ) (k : Kept) → ladder_answer vars k ≡ none → word_contacts k.words ≡ ladder_contacts (ladder_of k)
unfolding encode
kept_contacts vars k e =
    let h = accepted vars k e in
    let is = encode_decode k (ladder_of k) h.0 in
    ap (λ (x : Kept). word_contacts x.words) is.0 ∙ rungs_words (ladder_of k) is.1
