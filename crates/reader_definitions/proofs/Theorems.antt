-- What is proved of the line form and its reader, a theorem to a sentence; the proofs are in Laws. Of name tables see list_definitions, Theorems. Assumes nothing.
use Rattle.std.specs.Prelude.{ℕ, ◌≤◌, ◌≡◌, ◌↔◌, List, ◌++◌, T, length, take, drop}
use Rattle.std.proofs.Common.{sym}
use Rattle.std.proofs.Math.Option.{none}
use Rattle.questions.specs.Tests.{all}
use Rattle.questions.specs.Questions.{most_variables, question1, question13}
use Rattle.questions.proofs.Laws.Answers.{vars_in_range_lem}
use Rattle.rungs.specs.Words.{is_operand}
use Rattle.rungs.specs.Records.{RungRecord, longest}
use Rattle.rungs.specs.Buffers.{Buffers, new_buffers, needs, written_over, written_words, written_records}
use Rattle.text_grammar.specs.Reader.{read}
use Rattle.list_definitions.specs.Names.{names_in, question14}
use Rattle.list_definitions.specs.ListScan.{list_of}
use Rattle.list_definitions.specs.Questions.{question10}
use Rattle.list_definitions.specs.Listing.{listing_text, written, listing}
use Rattle.translation_definitions.specs.TranslateKept.{Counts, translated}
use Rattle.reader_definitions.specs.Form.{ListRung, IsListText, rung_in_form, list_of_rungs}
use Rattle.reader_definitions.specs.Reader.{list_text_of}
use Rattle.reader_definitions.specs.ReadList.{question15, words_of, read_list}
use Rattle.reader_definitions.proofs.Laws.Search.{good_table}
use Rattle.reader_definitions.proofs.Laws.Sound.{sound}
use Rattle.reader_definitions.proofs.Laws.Complete.{complete}
use Rattle.reader_definitions.proofs.Laws.Printed.{text_ranged}
use Rattle.reader_definitions.proofs.Laws.Whole.{reads_back, prints_again, in_range_form}
use Rattle.reader_definitions.proofs.Laws.Lists.{rungs_in}
use Rattle.reader_definitions.proofs.Laws.Calls as calls

-- In all that follows the name table is accepted, and V.
module _ (table : List ℕ) (vars : ℕ) (table-yes : question14 table ≡ none) (vars-yes : question1 vars ≡ none) where
  few : vars ≤ most_variables
  few = (vars_in_range_lem vars vars-yes).1

  -- A text is read, whole and with some rungs, exactly when it is a text of the form, with those rungs.
  pub read_exactly : (s : List ℕ) (gs : List ListRung) → (list_text_of (names_in table) vars s ≡ read (length s) gs) ↔ IsListText (names_in table) vars s gs
  read_exactly s gs = (λ e. (sound (names_in table) vars s (length s) gs few e).1, λ x. complete (good_table table table-yes) few x)

  -- What is read is read whole.
  pub read_whole : (s : List ℕ) (n : ℕ) (gs : List ListRung) → list_text_of (names_in table) vars s ≡ read n gs → n ≡ length s
  read_whole s n gs e = (sound (names_in table) vars s n gs few e).0

  -- A text has one reading at most.
  pub one_reading : {s : List ℕ} {gs hs : List ListRung} → IsListText (names_in table) vars s gs → IsListText (names_in table) vars s hs → gs ≡ hs
  one_reading x y =
      let a = complete (good_table table table-yes) few x in
      let b = complete (good_table table table-yes) few y in
      cc

  -- Question 15 gets a "yes" exactly when the text is in the form, with some rungs.
  pub yes_exactly : (s : List ℕ) → (question15 table vars s ≡ none) ↔ ((gs : List ListRung) × IsListText (names_in table) vars s gs)
  yes_exactly s = (
    λ e. (_, calls.read_form table vars s vars-yes e),
    λ x. (calls.form_read table vars s (length s) x.0 (complete (good_table table table-yes) few x.1)).0,
  )

  -- A text is in the form, with some rungs, exactly when it is what Listing prints of their list, there is a rung, and labels and operands are in the form's ranges.
  pub printed_exactly : (s : List ℕ) (gs : List ListRung)
      → IsListText (names_in table) vars s gs ↔ ((s ≡ listing_text (names_in table) vars (list_of_rungs gs)) × (1 ≤ length gs) × T (all (rung_in_form vars) gs))
  printed_exactly s gs = (
    λ x. (sym (prints_again (names_in table) vars s gs x), (text_ranged few x).0, (text_ranged few x).1),
    λ h. rw h.0 (in_range_form (names_in table) vars few gs h.1 h.2),
  )

  -- "Every list that Listing prints must come back with equal instructions, labels, offsets and lengths": the text of an accepted list, with labels of 16 bits, is read,
  -- and the list of its rungs is the list, in words too.
  pub comes_back : (words : List ℕ) (rs : List RungRecord) → question10 vars words rs ≡ none → T (all (λ r. is_operand r.label) rs)
      → (gs : List ListRung) × (list_text_of (names_in table) vars (listing_text (names_in table) vars (list_of words rs)) ≡ read (length (listing_text (names_in table) vars (list_of words rs))) gs)
      × (list_of_rungs gs ≡ list_of words rs) × (words_of (list_of words rs) ≡ words)
  comes_back words rs list-yes labels =
      let b = reads_back (names_in table) vars words rs vars-yes list-yes labels in
      (rungs_in (list_of words rs), complete (good_table table table-yes) few b.in_form, b.same_list, b.same_words)

  -- "every text read must print again byte for byte"
  pub prints_back : (s : List ℕ) (n : ℕ) (gs : List ListRung) → list_text_of (names_in table) vars s ≡ read n gs → listing_text (names_in table) vars (list_of_rungs gs) ≡ s
  prints_back s n gs e = prints_again (names_in table) vars s gs (sound (names_in table) vars s n gs few e).1

-- The same over the calls, for every name table. What Listing wrote, of a list whose labels have 16 bits, the reader reads with that table and V and buffers that are
-- long enough: it returns the list's counts and L, and writes its words and records, no rung entered.
pub read_back : (table : List ℕ) (vars : ℕ) (words : List ℕ) (rs : List RungRecord) (out : List ℕ) (n : ℕ) (lent : Buffers)
    → T (all (λ r. is_operand r.label) rs) → (listing table vars words rs out).answer ≡ written n → question13 (needs (new_buffers words rs) lent) ≡ none
    → read_list table vars (take n (listing table vars words rs out).buffer) lent
    ≡ record { answer = translated (record { instructions = length words; rungs = length rs; longest = longest rs }); buffers = written_over (new_buffers words rs) lent }
read_back = calls.read_back

-- What the reader wrote, by its counts, Listing prints with that table and V into any buffer that is long enough: the text, byte for byte.
pub print_again : (table : List ℕ) (vars : ℕ) (text : List ℕ) (lent : Buffers) (c : Counts) (out : List ℕ) → (read_list table vars text lent).answer ≡ translated c → length text ≤ length out
    → listing table vars (written_words (read_list table vars text lent).buffers c.instructions) (written_records (read_list table vars text lent).buffers c.rungs) out
    ≡ record { answer = written (length text); buffer = text ++ drop (length text) out }
print_again = calls.print_again

-- A text has one list at most: two lists that Listing prints alike have equal words, labels, offsets and lengths.
pub one_list : (table : List ℕ) (vars : ℕ) (words words' : List ℕ) (rs rs' : List RungRecord) (out out' : List ℕ) (n n' : ℕ)
    → T (all (λ r. is_operand r.label) rs) → T (all (λ r. is_operand r.label) rs')
    → (listing table vars words rs out).answer ≡ written n → (listing table vars words' rs' out').answer ≡ written n'
    → take n (listing table vars words rs out).buffer ≡ take n' (listing table vars words' rs' out').buffer
    → (words ≡ words') × (rs ≡ rs')
one_list = calls.one_list
