-- What the functions of this crate promise to each other. Nothing here is a sentence of document 01. Assumes nothing.
use Rattle.std.specs.Prelude.{ℕ, ◌+◌, ◌≤◌, ◌<◌, max, ◌≡◌, List, length, set, Result, Ok, Err}
use Rattle.std.proofs.lemmas.List.Edits.{sets}
use Rattle.questions.specs.Bytes.{byte}
use Rattle.rungs.specs.Records.{longest}
use Rattle.rungs.specs.Buffers.{Columns, columns_of}
use Rattle.rungs.specs.Parts.{put_all}
use Rattle.ladder_definitions.specs.Tree.{Rung, Ladder}
use Rattle.ladder_definitions.specs.Kept.{rung_words, encode}
use Rattle.ladder_definitions.specs.Questions.{most_rung_words}
use Rattle.text_grammar.specs.Reader.{Parse, read, stuck, map_p, bind, followed, front_of, rear_of, rung}
use Rattle.text_definitions.specs.Read.{kept_buffers}
use Rattle.text_lines.specs.declared.Sizes.{Sizes}
use Rattle.text_lines.specs.declared.LineParsed.{LineParsed}
use Rattle.text_lines.specs.declared.LineKept.{LineKept}
use Rattle.text_fronts.specs.declared.part.Stuck.{Stuck}
use Rattle.text_grammar.specs.Grammar.{most_brackets}

-- a line from after its label's ":" on
unfoldable pub rung_of : ℕ → List ℕ → ℕ → Parse Rung
rung_of label s at = bind (followed s (byte ">") (front_of most_brackets s at)) (λ n f. map_p (rung label f) (followed s (byte "\n") (rear_of most_brackets s n)))

abbrev pub line_parsed : Parse Rung → Result LineParsed Stuck
line_parsed (read n g) = Ok (record { label = g.label; next = n; count = length (rung_words g) })
line_parsed (stuck p) = Err (record { place = p })

abbrev pub LineWithin : List ℕ → ℕ → Result LineParsed Stuck → Type 0
LineWithin s at (Ok l) = (at < l.next) × (l.next ≤ length s) × (l.count + at < l.next)
LineWithin s at (Err e) = Unit {0}

pub record LineRead (p : Parse Rung) (s : List ℕ) (at : ℕ) (r : Result LineParsed Stuck) (e x : List ℕ) : Type 0 where
  pub same : r ≡ line_parsed p
  pub within : LineWithin s at r
  pub out : (n : ℕ) (g : Rung) → p ≡ read n g → length (rung_words g) ≤ length e → x ≡ sets e 0 (rung_words g)

-- what rungs take, with one rung of so many words more
unfoldable pub with_rung : Sizes → ℕ → Sizes
with_rung z count = record { words = z.words + count; rungs = z.rungs + 1; longest = max z.longest count }

-- a rung's words and record after those of z
unfoldable pub put_rung : Columns → Sizes → ℕ → ℕ → List ℕ → Columns
put_rung b z label count ws =
    record {
      words = sets b.words z.words ws;
      labels = set b.labels z.rungs label;
      offsets = set b.offsets z.rungs z.words;
      lengths = set b.lengths z.rungs count;
    }

abbrev pub line_kept : Sizes → Parse Rung → Result LineKept Stuck
line_kept z (read n g) = Ok (record { next = n; sizes = with_rung z (length (rung_words g)) })
line_kept z (stuck p) = Err (record { place = p })

abbrev pub KeptWithin : List ℕ → ℕ → Sizes → Result LineKept Stuck → Type 0
KeptWithin s at z (Ok k) = (at < k.next) × (k.next ≤ length s) × (k.sizes.words ≤ k.next) × (k.sizes.rungs ≤ k.next)
KeptWithin s at z (Err e) = Unit {0}

-- a line is read, and where its rung is not too long it is kept
pub record LineIsKept (p : Parse Rung) (s : List ℕ) (at : ℕ) (z : Sizes) (r : Result LineKept Stuck) (before after : Columns) : Type 0 where
  pub same : r ≡ line_kept z p
  pub within : KeptWithin s at z r
  pub out : (n : ℕ) (g : Rung) → p ≡ read n g → length (rung_words g) ≤ most_rung_words → after ≡ put_rung before z g.label (length (rung_words g)) (rung_words g)

unfoldable pub sizes_of : Ladder → Sizes
sizes_of gs = record { words = length (encode gs).words; rungs = length gs; longest = longest (encode gs).records }

abbrev pub lines_parsed : Parse Ladder → Result Sizes Stuck
lines_parsed (read n gs) = Ok (sizes_of gs)
lines_parsed (stuck p) = Err (record { place = p })

-- a ladder's words, and of its records labels, offsets and lengths
abbrev pub kept_columns : Ladder → Columns
kept_columns gs = columns_of (kept_buffers gs)

-- a text is read, and where no rung is too long all are kept, as far as there is room
pub record LinesAreKept (p : Parse Ladder) (r : Result Sizes Stuck) (before after : Columns) : Type 0 where
  pub same : r ≡ lines_parsed p
  pub out : (n : ℕ) (gs : Ladder) → p ≡ read n gs → (sizes_of gs).longest ≤ most_rung_words → after ≡ put_all before (kept_columns gs)
