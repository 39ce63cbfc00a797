-- Where the words of a ladder and of its parts stand. What functions inside promise of a tree they promise where it is held. Assumes nothing.
use Rattle.std.specs.Prelude.{ℕ, ◌≡◌, List, ◌++◌, T, drop}
use Rattle.questions.specs.Tests.{all}
use Rattle.rungs.specs.Records.{offsets}
use Rattle.ladder_definitions.specs.Tree.{Front, Rear, Rung, Ladder, labels, front_all, rear_all, rung_all}
use Rattle.ladder_definitions.specs.Kept.{front_words, rear_words, rung_words, encode, input_fits, output_fits}

-- a tree's words stand in ws from `at` on, and its operands have 16 bits
pub record FrontAt (ws : List ℕ) (at : ℕ) (f : Front) : Type 0 where
  pub fits : T (front_all input_fits f)
  pub rest : List ℕ
  pub words : drop at ws ≡ front_words f ++ rest

pub record RearAt (ws : List ℕ) (at : ℕ) (r : Rear) : Type 0 where
  pub fits : T (rear_all input_fits output_fits r)
  pub rest : List ℕ
  pub words : drop at ws ≡ rear_words r ++ rest

pub record RungAt (ws : List ℕ) (at : ℕ) (g : Rung) : Type 0 where
  pub fits : T (rung_all input_fits output_fits g)
  pub rest : List ℕ
  pub words : drop at ws ≡ rung_words g ++ rest

-- words, labels and offsets are those of the ladder gs
pub record LadderHeld (ws ls os : List ℕ) (gs : Ladder) : Type 0 where
  pub words : ws ≡ (encode gs).words
  pub same_labels : ls ≡ labels gs
  pub same_offsets : os ≡ offsets (encode gs).records
  pub fits : T (all (rung_all input_fits output_fits) gs)
