-- What the program ladder-list prints, from the whole input. Document 01, "Listing". Assumes nothing.
use Rattle.std.specs.Prelude.{ℕ, ◌+◌, List, ◌++◌, take, replicate}
use Rattle.questions.specs.Bytes.{bytes, decimal}
use Rattle.rungs.specs.Records.{RungRecord, most_records}
use Rattle.rungs.specs.Buffers.{Buffers, buffers, written_words, written_records}
use Rattle.ladder_definitions.specs.Kept.{Kept}
use Rattle.ladder_definitions.specs.Questions.{most_rungs, most_words}
use Rattle.text_definitions.specs.Read.{read_text, kept, written_kept, refused as read_refused}
use Rattle.list_definitions.specs.Questions.{most_instructions}
use Rattle.list_definitions.specs.Names.{fixed_table}
use Rattle.list_definitions.specs.Listing.{listing, written, refused as listing_refused}
use Rattle.translation_definitions.specs.TranslateKept.{Counts, translate_kept, translated, refused as translate_refused}
use Rattle.program_definitions.specs.Lines.{first_line, text_after, variables_of, most_kept}
use Rattle.program_definitions.specs.Outcome.{Outcome, printed, refused, output_of}

-- the count line, as case A shows it
unfoldable pub count_line : Counts → List ℕ
count_line c =
    bytes "rungs " ++ (decimal c.rungs ++ (bytes " instructions " ++ (decimal c.instructions ++ (bytes " longest " ++ (decimal c.longest ++ bytes "\n")))))

-- "Its other buffers have the largest size allowed."
abbrev pub blank : ℕ → ℕ → Buffers
blank words rungs = buffers (replicate words 0) (replicate rungs 0) (replicate rungs 0) (replicate rungs 0) (replicate rungs 0)

-- "lends Listing 65,536 bytes"
abbrev pub most_listing : ℕ
most_listing = 65536

-- a listing and a count line, of 64 bytes at most: the buffer that the program writes from
abbrev pub most_output : ℕ
most_output = most_listing + 64

-- "lends Listing 65,536 bytes; a longer listing is refused 13"; with the fixed table
unfoldable pub list_printed : ℕ → List ℕ → List RungRecord → Counts → Outcome
list_printed vars words records counts =
    let l = listing fixed_table vars words records (replicate most_listing 0) in
    elim l.answer [ listing_refused refusal ↦ refused refusal | written n ↦ printed (take n l.buffer ++ count_line counts) ]

unfoldable pub kept_printed : ℕ → Kept → Outcome
kept_printed vars k =
    let t = translate_kept vars k (blank most_instructions most_records) in
    elim t.answer [
      | translate_refused refusal ↦ refused refusal
      | translated counts ↦ list_printed vars (written_words t.buffers counts.instructions) (written_records t.buffers counts.rungs) counts
    ]

-- V and a text
unfoldable pub text_printed : ℕ → List ℕ → Outcome
text_printed vars text =
    let r = read_text vars text (blank most_words most_rungs) in
    elim r.answer [ read_refused refusal ↦ refused refusal | kept words rungs ↦ kept_printed vars (written_kept r.buffers words rungs) ]

-- "The program keeps up to 65,536 bytes of text, enough to see that it is too long"
unfoldable pub outcome : List ℕ → Outcome
outcome input = text_printed (variables_of (first_line input)) (take most_kept (text_after input))

-- "prints the listing and a count line, or "refused N place P""
unfoldable pub output : List ℕ → List ℕ
output input = output_of (outcome input)
