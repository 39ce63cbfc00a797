-- Whole lists: what is printed is read back, and what is read is printed again. Assumes nothing.
use Rattle.std.specs.Prelude.{ℕ, ◌≤◌, ◌≡◌, refl, ◌&&◌, T, leb, length, drop}
use Rattle.std.proofs.Common.{arith, sym, ap, ◌∙◌, leb→le, le→leb, ltb→lt}
use Rattle.std.proofs.Math.Option.{Option, none, some}
use mathlib.Core.List.{List, [], ◌∷◌, map, flat_map}
use Rattle.std.proofs.Math.Facts.{and_yes, yes_and}
use Rattle.std.proofs.lemmas.List.{length-map}
use Rattle.questions.specs.Tests.{all}
use Rattle.questions.specs.Questions.{question1}
use Rattle.questions.proofs.Laws.Tests.{all_head, all_tail, all_append, all_take, all_drop, all_cons, all_weaker, all_mapped}
use Rattle.questions.proofs.Laws.Answers.{ask_passed, vars_in_range_lem}
use Rattle.table.specs.State.{table_size}
use Rattle.text_grammar.specs.Grammar.{most_number}
use Rattle.rungs.specs.Words.{operands, is_operand}
use Rattle.rungs.specs.Records.{RungRecord, laid, most_records}
use Rattle.list_definitions.specs.Instruction.{Instr, Operand, table_index, no_operand, instruction_index, timer_number, operand, instr_word, decode_instr, code_of, instr_fits}
use Rattle.list_definitions.specs.Machine.{InstructionList}
use Rattle.list_definitions.specs.ListScan.{list_of}
use Rattle.list_definitions.specs.Decoding.{instr_of}
use Rattle.list_definitions.specs.Questions.{operand_in_range, instr_in_range, word_in_range, most_instructions, records_laid, list_in_range, question10}
use Rattle.list_definitions.specs.Names.{Names}
use Rattle.list_definitions.specs.Listing.{listing_text}
use Rattle.list_definitions.proofs.Laws.Decoding.{decode_code_lem, code_decoded}
use Rattle.list_definitions.proofs.Laws.InRange.{list_in_range_lem}
use Rattle.reader_definitions.specs.Form.{ListRung, IsListText, instr_in_form, rung_in_form, list_of_rungs}
use Rattle.reader_definitions.proofs.Laws.Printed.{rung_text, text_prints, text_printed_lem}
use Rattle.reader_definitions.proofs.Laws.Lists.{rung_at, rungs_in, rungs_of_list, list_of_rungs_lem, listing_text_lem}

-- ---- ranges

range_more : (size n m : ℕ) → n ≤ m → (i : Instr) → T (instr_in_range size n i) → T (instr_in_range size m i)
unfolding operand_in_range
range_more size n m l i h = go (operand i) h
  where
    go : (o : Operand) → T (operand_in_range size n o) → T (operand_in_range size m o)
    go (table_index x) h = h
    go no_operand h = tt
    go (instruction_index j) h = le→leb j m (let k = leb→le j n h in omega arith)
    go (timer_number t) h = tt

-- instructions in range whose operands have 16 bits are in the form
all_in_form : (vars : ℕ) (is : List Instr) → T (all (instr_in_range (table_size vars) most_number) is) → T (all instr_fits is) → T (all (instr_in_form vars) is)
unfolding instr_in_form
all_in_form vars [] h f = tt
all_in_form vars (i ∷ is) h f =
    all_cons (instr_in_form vars) i is
    (yes_and (instr_in_range (table_size vars) most_number i) (instr_fits i) (all_head (instr_in_range (table_size vars) most_number) i is h) (all_head instr_fits i is f))
    (all_in_form vars is (all_tail (instr_in_range (table_size vars) most_number) i is h) (all_tail instr_fits i is f))

-- ---- what is read is printed again

pub prints_again : (names : Names) (vars : ℕ) (s : List ℕ) (gs : List ListRung) → IsListText names vars s gs → listing_text names vars (list_of_rungs gs) ≡ s
prints_again names vars s gs x = listing_text_lem names vars (list_of_rungs gs) ∙ (ap (flat_map (rung_text names vars)) (rungs_of_list gs) ∙ sym (text_prints x))

-- what is in range is in the form, as it is printed
pub in_range_form : (names : Names) (vars : ℕ) → vars ≤ 1024 → (gs : List ListRung) → 1 ≤ length gs → T (all (rung_in_form vars) gs) → IsListText names vars (listing_text names vars (list_of_rungs gs)) gs
in_range_form names vars few gs l h = rw (listing_text_lem names vars (list_of_rungs gs), rungs_of_list gs) (text_printed_lem names few gs l h)

-- the instructions of a text have 16 bits
pub code_fits : (vars : ℕ) (gs : List ListRung) → T (all (rung_in_form vars) gs) → T (all instr_fits (list_of_rungs gs).code)
unfolding list_of_rungs flat_map rung_in_form instr_in_form
code_fits vars [] h = tt
code_fits vars (g ∷ gs) h =
    let p = and_yes (leb g.label most_number) (all (instr_in_form vars) g.code) (all_head (rung_in_form vars) g gs h) in
    all_append instr_fits g.code (flat_map (λ g. g.code) gs) (all_weaker (instr_in_form vars) instr_fits (λ i k. (and_yes (instr_in_range (table_size vars) most_number i) (instr_fits i) k).1) g.code p.1)
    (code_fits vars gs (all_tail (rung_in_form vars) g gs h))

-- words and back
pub list_of_words : (l : InstructionList) → T (all instr_fits l.code) → list_of (map instr_word l.code) l.records ≡ l
unfolding list_of code_of
list_of_words l h = rw (decode_code_lem l.code h, code_of) refl

-- ---- what is printed is read back

rungs_in_form : (vars : ℕ) (code : List Instr) (rs : List RungRecord) → T (all (instr_in_form vars) code) → T (all (λ r. is_operand r.label) rs)
    → T (all (rung_in_form vars) (map (rung_at code) rs))
unfolding rung_in_form rung_at
rungs_in_form vars code rs h k = all_mapped (λ r. is_operand r.label) (rung_in_form vars) (rung_at code) (one vars code h) rs k
  where
    one : (vars : ℕ) (code : List Instr) → T (all (instr_in_form vars) code) → (r : RungRecord) → T (is_operand r.label) → T (rung_in_form vars (rung_at code r))
    one vars code h r l =
        yes_and (leb r.label most_number) _ (le→leb r.label most_number (let m = ltb→lt r.label operands l in omega arith))
        (all_take (instr_in_form vars) r.length (drop r.offset code) (all_drop (instr_in_form vars) r.offset code h))

word_ranged : (size n w : ℕ) → T (word_in_range size n w) → T (instr_in_range size n (instr_of w))
unfolding word_in_range instr_of
word_ranged size n w h = go (decode_instr w) refl
  where
    go : (x : Option Instr) → decode_instr w ≡ x → T (instr_in_range size n (instr_of w))
    go none e = absurd (rw (e, word_in_range) at h)
    go (some i) e = rw (e, instr_of) (rw (e, word_in_range) at h)

-- what a "yes" to question 10 tells of a list
record Printable (vars : ℕ) (words : List ℕ) (rs : List RungRecord) : Type 0 where
  same_words : words ≡ map instr_word (code_of words)
  some_record : 1 ≤ length rs
  lies : T (laid 0 (length (code_of words)) rs)
  ranged : T (all (instr_in_form vars) (code_of words))

words_ranged : (vars : ℕ) (words : List ℕ) (rs : List RungRecord) → T (list_in_range vars words rs) → T (all (word_in_range (table_size vars) (length words)) words)
unfolding list_in_range
words_ranged vars words rs h =
    let n = length words in
    let x = and_yes (leb 1 n && leb n most_instructions) _ h in
    let y = and_yes (leb 1 (length rs) && leb (length rs) most_records) _ x.1 in
    (and_yes (records_laid n rs) (all (word_in_range (table_size vars) n) words) y.1).1

printable : (vars : ℕ) (words : List ℕ) (rs : List RungRecord) → question10 vars words rs ≡ none → Printable vars words rs
unfolding question10
printable vars words rs e =
    let h = ask_passed 10 _ e in
    let r = list_in_range_lem vars words rs h in
    let d = code_decoded words (code_of words) r.held in
    let w : words ≡ map instr_word (code_of words) = d.0 in
    let n : length words ≡ length (code_of words) = ap length w ∙ length-map (code_of words) instr_word in
    let most = r.code_most in
    let within : T (all (instr_in_range (table_size vars) most_number) (code_of words)) =
    rw r.printed (all_weaker (instr_in_range (table_size vars) (length words)) (instr_in_range (table_size vars) most_number) (range_more (table_size vars) (length words) most_number (omega arith)) (map instr_of words)
    (all_mapped (word_in_range (table_size vars) (length words)) (instr_in_range (table_size vars) (length words)) instr_of (word_ranged (table_size vars) (length words)) words (words_ranged vars words rs h))) in
    record {
      same_words = w;
      some_record = r.some_record;
      lies = rw n at r.lies;
      ranged = all_in_form vars (code_of words) within d.1;
    }

-- the printed text of an accepted list is in the form, with the list's rungs
pub record ReadBack (names : Names) (vars : ℕ) (words : List ℕ) (rs : List RungRecord) : Type 0 where
  pub in_form : IsListText names vars (listing_text names vars (list_of words rs)) (rungs_in (list_of words rs))
  pub same_list : list_of_rungs (rungs_in (list_of words rs)) ≡ list_of words rs
  pub same_words : map instr_word (list_of words rs).code ≡ words

pub reads_back : (names : Names) (vars : ℕ) (words : List ℕ) (rs : List RungRecord) → question1 vars ≡ none → question10 vars words rs ≡ none → T (all (λ r. is_operand r.label) rs)
    → ReadBack names vars words rs
unfolding list_of rungs_in
reads_back names vars words rs e1 e10 labels =
    let p = printable vars words rs e10 in
    let few = (vars_in_range_lem vars e1).1 in
    let l = list_of words rs in
    let long : length (map (rung_at (code_of words)) rs) ≡ length rs = length-map rs (rung_at (code_of words)) in
    let some_rung = p.some_record in
    record {
      in_form = rw (listing_text_lem names vars l) (text_printed_lem names few (rungs_in l) (omega arith) (rungs_in_form vars (code_of words) rs p.ranged labels));
      same_list = list_of_rungs_lem l p.lies;
      same_words = sym p.same_words;
    }
