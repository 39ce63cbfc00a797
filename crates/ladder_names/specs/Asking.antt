-- Contracts of the functions behind questions 5 to 8 and 17: what they promise each other. Nothing here is a sentence of document 01 or 02. Assumes nothing.
use Rattle.std.specs.Prelude.{◌≡◌, ℕ, Bool, true, not, ◌||◌, T, List, [], map, length, nat_le, nat_lt, Option as Place, Some, None}
use Rattle.std.proofs.Math.Option.{Option, none, some}
use mathlib.Core.List.{flat_map}
use Rattle.questions.specs.Tests.{all, first_failed}
use Rattle.rungs.specs.Words.{number_of, operand_of}
use Rattle.rungs.specs.Records.{present}
use Rattle.ladder_definitions.specs.Tree.{Ladder, rung_all}
use Rattle.ladder_definitions.specs.Kept.{rung_words, input_fits, output_fits}
use Rattle.ladder_definitions.specs.Questions.{most_rung_words, sizes_in_range, rung_below, new_labels, rung_leads, timers_known}
use Rattle.ladder_kinds.specs.Kinds.{names_variable, names_label, names_timer}

-- words and lengths are those of the ladder gs
pub record LadderIn (ws ns : List ℕ) (gs : Ladder) : Type 0 where
  pub words : ws ≡ flat_map rung_words gs
  pub lengths : ns ≡ map (λ g. length (rung_words g)) gs
  pub fits : T (all (rung_all input_fits output_fits) gs)

unfoldable pub place_of : Place ℕ → Option ℕ
place_of (Some i) = some i
place_of None = none

abbrev pub length_in_range : ℕ → Bool
length_in_range n = nat_le n most_rung_words

-- whether the operand o of a word of kind k is a variable below vars, or no variable; whether it is a label of ls, or no label;
-- whether it is the number of a timer with a record, of so many, or no timer's
unfoldable pub operand_below : ℕ → ℕ → ℕ → Bool
operand_below vars k o = not (names_variable k) || nat_lt o vars

unfoldable pub operand_leads : List ℕ → ℕ → ℕ → Bool
operand_leads ls k o = not (names_label k) || present o ls

unfoldable pub operand_timed : ℕ → ℕ → ℕ → Bool
operand_timed records k o = not (names_timer k) || nat_lt o records

abbrev pub word_below : ℕ → ℕ → Bool
word_below vars w = operand_below vars (number_of w) (operand_of w)

-- whether a word names no label
abbrev pub word_stays : ℕ → Bool
word_stays w = not (names_label (number_of w))

abbrev pub word_leads : List ℕ → ℕ → Bool
word_leads ls w = operand_leads ls (number_of w) (operand_of w)

abbrev pub word_timed : ℕ → ℕ → Bool
word_timed records w = operand_timed records (number_of w) (operand_of w)

-- of a test that gives a word so much at each call
pub record WordsAsked (gives : ℕ × Unit {0} → Bool → Type 0) (ws : List ℕ) (r : Bool) : Type 0 where
  pub same : (test : ℕ → Bool) → ((w : ℕ) (b : Bool) → gives (w, tt) b → b ≡ test w) → r ≡ all test ws

-- and of one that gives the words of a rung so much
pub record RungsAsked (gives : List ℕ → Bool → Type 0) (ws ns : List ℕ) (r : Place ℕ) : Type 0 where
  pub same : (test : List ℕ → Bool) → ((own : List ℕ) (b : Bool) → gives own b → b ≡ test own)
      → (gs : Ladder) → LadderIn ws ns gs → place_of r ≡ first_failed (map (λ g. test (rung_words g)) gs)

pub record SizesAsked (ws ns : List ℕ) (r : Bool) : Type 0 where
  pub same : (gs : Ladder) → LadderIn ws ns gs → r ≡ sizes_in_range gs

pub record VariablesAsked (vars : ℕ) (ws ns : List ℕ) (r : Place ℕ) : Type 0 where
  pub same : (gs : Ladder) → LadderIn ws ns gs → place_of r ≡ first_failed (map (rung_below vars) gs)

-- labels that rise are all new
pub record RiseAsked (ls : List ℕ) (r : Bool) : Type 0 where
  pub new : r ≡ true → none ≡ first_failed (new_labels [] ls)

pub record LabelsAsked (ls : List ℕ) (r : Place ℕ) : Type 0 where
  pub same : place_of r ≡ first_failed (new_labels [] ls)

pub record JumpsAsked (ls ws ns : List ℕ) (r : Place ℕ) : Type 0 where
  pub same : (gs : Ladder) → LadderIn ws ns gs → place_of r ≡ first_failed (map (rung_leads ls) gs)

-- of any lengths: the question has no place
pub record TimersAsked (records : ℕ) (ws : List ℕ) (r : Bool) : Type 0 where
  pub same : {ns : List ℕ} (gs : Ladder) → LadderIn ws ns gs → r ≡ timers_known records gs
