-- What a program comes to: a text that it prints, or a refusal. Assumes nothing.
use Rattle.std.specs.Prelude.{ℕ, ◌≤◌, ◌≡◌, List, Result, Ok, Err}
use Rattle.questions.specs.Questions.{Refusal}
use Rattle.questions.specs.Refusals.{refusal_of}
use Rattle.questions.specs.declared.Refusal.{Refusal as RefusalCase}
use Rattle.printing.specs.Put.{Put}
use Rattle.program_definitions.specs.Refusals.{refusal_line}

pub data Outcome : Type 0 where
  printed : List ℕ → Outcome
  refused : Refusal → Outcome

-- standard output: "the listing and a count line, or "refused N place P""
unfoldable pub output_of : Outcome → List ℕ
output_of (printed text) = text
output_of (refused r) = refusal_line r

-- what a function answers that puts an outcome into a buffer: how many bytes it put, or the refusal
abbrev pub Printed : Type 0
Printed = Result ℕ RefusalCase

-- the text stands at the start of the buffer, and its length is answered
pub record TextPlaced (text before : List ℕ) (r : Printed) (after : List ℕ) : Type 0 where
  pub bytes : ℕ
  pub answer : r ≡ Ok bytes
  pub put : Put before 0 text bytes after

-- the refusal is answered, and the buffer is as it was
pub record RefusalGiven (refusal : Refusal) (before : List ℕ) (r : Printed) (after : List ℕ) : Type 0 where
  pub case : RefusalCase
  pub answer : r ≡ Err case
  pub same : refusal_of case ≡ refusal
  pub kept : after ≡ before

-- what a function promises that puts an outcome into a buffer
unfoldable pub Done : Outcome → List ℕ → Printed → List ℕ → Type 0
Done (printed text) before r after = TextPlaced text before r after
Done (refused refusal) before r after = RefusalGiven refusal before r after

-- whatever outcome was put into a buffer, its output now stands at the buffer's start
abbrev pub Finished : Printed → List ℕ → ℕ → List ℕ → Type 0
Finished r between n after = (o : Outcome) (before : List ℕ) → Done o before r between → Put before 0 (output_of o) n after

-- a text that was placed has at most so many bytes; and then the output has, the line of a refusal too
abbrev pub PlacedWithin : ℕ → Printed → Type 0
PlacedWithin most r = (n : ℕ) → r ≡ Ok n → n ≤ most

abbrev pub FinishedWithin : Printed → ℕ → Type 0
FinishedWithin r n = (most : ℕ) → 60 ≤ most → PlacedWithin most r → n ≤ most
