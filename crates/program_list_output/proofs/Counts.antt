-- The count line's parts put one after the other. Assumes nothing.
use Prim.Native.Nat.{ℕ}
use mathlib.Core.List.{List}
use Rattle.questions.specs.Bytes.{bytes, decimal}
use Rattle.printing.specs.Put.{Put}
use Rattle.printing.proofs.Laws.Puts.{put_then}
use Rattle.translation_definitions.specs.TranslateKept.{Counts}
use Rattle.program_definitions.specs.Printout.{count_line}

module _ {l : List ℕ} {i m1 m2 m3 m4 m5 m6 r : ℕ} {x1 x2 x3 x4 x5 x6 y : List ℕ} where
  pub counts_put : (counts : Counts)
      → Put l i (bytes "rungs ") m1 x1 → Put x1 m1 (decimal counts.rungs) m2 x2 → Put x2 m2 (bytes " instructions ") m3 x3
      → Put x3 m3 (decimal counts.instructions) m4 x4 → Put x4 m4 (bytes " longest ") m5 x5 → Put x5 m5 (decimal counts.longest) m6 x6
      → Put x6 m6 (bytes "\n") r y → Put l i (count_line counts) r y
  unfolding count_line
  counts_put counts a b c d e f g = put_then a (put_then b (put_then c (put_then d (put_then e (put_then f g)))))
