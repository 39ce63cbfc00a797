-- What the functions of this crate promise to each other. Nothing here is a sentence of document 01. Assumes nothing.
use Rattle.std.specs.Prelude.{ℕ, ◌≡◌, List, length}
use Rattle.std.proofs.lemmas.List.Edits.{sets}
use Rattle.rungs.specs.Records.{offsets, longest}
use Rattle.rungs.specs.Buffers.{Columns, columns_of}
use Rattle.rungs.specs.Parts.{put_all}
use Rattle.ladder_definitions.specs.Tree.{Ladder}
use Rattle.ladder_definitions.specs.Held.{LadderHeld}
use Rattle.ladder_definitions.specs.Questions.{most_rungs, Accepted}
use Rattle.translation_definitions.specs.Translate.{list_records, translate}
use Rattle.translation_definitions.specs.TranslateKept.{list_buffers}
use Rattle.translation_layout.specs.declared.Layout.{Layout}
use Rattle.translation_code.specs.Parts.{start_in}

-- words, labels and offsets of an accepted ladder, and a start for each rung
pub record LadderReady (vars : ℕ) (ws ls os starts : List ℕ) : Type 0 where
  pub ladder : Ladder
  pub held : LadderHeld ws ls os ladder
  pub accepted : Accepted vars ladder
  pub enough : length starts ≡ most_rungs

pub record LaidOut (vars : ℕ) (ws ls os : List ℕ) (r : Layout) (e x : List ℕ) : Type 0 where
  pub instructions : (gs : Ladder) → LadderHeld ws ls os gs → r.instructions ≡ length (translate vars gs).code
  pub longest : (gs : Ladder) → LadderHeld ws ls os gs → r.longest ≡ longest (list_records vars gs)
  pub starts : (gs : Ladder) → LadderHeld ws ls os gs → x ≡ sets e 0 (offsets (list_records vars gs))

pub record ListPut (vars : ℕ) (ws ls os starts : List ℕ) (e x : Columns) : Type 0 where
  pub wrote : (gs : Ladder) → LadderHeld ws ls os gs → ((l : ℕ) → start_in ls starts l ≡ start_in ls (offsets (list_records vars gs)) l)
      → x ≡ put_all e (columns_of (list_buffers (translate vars gs)))
