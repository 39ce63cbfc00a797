-- What the functions of this crate promise to each other. Nothing here is a sentence of document 01. Assumes nothing.
use Rattle.std.specs.Prelude.{ℕ, ◌+◌, ◌≤◌, ◌<◌, ◌≡◌, List, [], ◌∷◌, length, take, drop, get_or, Result, Ok, Err}
use Rattle.std.proofs.lemmas.List.Edits.{sets}
use Rattle.rungs.specs.Words.{word}
use Rattle.text_grammar.specs.Reader.{Parse, read, stuck, map_p, numeral_of}
use Rattle.text_fronts.specs.declared.part.Parsed.{Parsed}
use Rattle.text_fronts.specs.declared.part.Stuck.{Stuck}

-- a word before the `count` words that stand from `from` on, where all have room
pub record Inserted (e : List ℕ) (from count w : ℕ) (x : List ℕ) : Type 0 where
  pub moved : from + count < length e → x ≡ sets e from (w ∷ take count (drop from e))

-- the byte b that has to stand at a position: the position after it, or this one
abbrev pub ByteRead : List ℕ → ℕ → ℕ → Result ℕ Stuck → Type 0
ByteRead s at b (Ok n) = (n ≡ at + 1) × (get_or s at 0 ≡ b) × (at < length s)
ByteRead s at b (Err e) = (e ≡ record { place = at }) × (get_or s at 0 ≡ b → ⊥)

-- the code's answer for what the reader gives, over the words that a part makes
abbrev pub parsed_of : {A : Type 0} → (A → List ℕ) → Parse A → Result Parsed Stuck
parsed_of words (read n t) = Ok (record { next = n; count = length (words t) })
parsed_of words (stuck p) = Err (record { place = p })

-- a part that was read has a byte or more, lies within the text, and makes no more words than it has bytes
abbrev pub Within : List ℕ → ℕ → Result Parsed Stuck → Type 0
Within s at (Ok r) = (at < r.next) × (r.next ≤ length s) × (r.count + at ≤ r.next)
Within s at (Err e) = Unit {0}

-- the answer is the reader's, and where the part's words have room they stand from `put` on, the rest as it was
pub record PartRead {A : Type 0} (words : A → List ℕ) (p : Parse A) (s : List ℕ) (at : ℕ) (r : Result Parsed Stuck) (put : ℕ) (e x : List ℕ) : Type 0 where
  pub same : r ≡ parsed_of words p
  pub within : Within s at r
  pub out : (n : ℕ) (t : A) → p ≡ read n t → put + length (words t) ≤ length e → x ≡ sets e put (words t)

-- the one word of a contact or an output, after its letter
abbrev pub one_word : ℕ → List ℕ
one_word w = w ∷ []

unfoldable pub leaf_of : ℕ → List ℕ → ℕ → Parse ℕ
leaf_of kind s at = map_p (word kind) (numeral_of s (at + 1))
