-- A ladder scan's entries are as many as the rungs entered; and question 7's "yes", rung by rung. Assumes nothing.
use Rattle.std.specs.Prelude.{ℕ, zero, suc, ◌+◌, ◌≤◌, ◌<◌, ◌≡◌, refl, Bool, true, false, not, List, [], ◌∷◌, ◌++◌, map, T, length, get_or}
use Rattle.std.proofs.Common.{arith, sym, ap, ◌∙◌, map-id, append-nil, append_assoc, lt-ltb, length-append}
use Rattle.std.proofs.Math.Option.{none}
use Rattle.std.proofs.lemmas.List.{map-append}
use Rattle.questions.specs.Tests.{all}
use Rattle.questions.proofs.Laws.Tests.{all_head, all_tail}
use Rattle.questions.proofs.Laws.Answers.{each_passed}
use Rattle.table.specs.State.{State}
use Rattle.rungs.specs.Records.{search, present}
use Rattle.rungs.proofs.Laws.Search.{search_before}
use Rattle.ladder_definitions.specs.Tree.{Rung, Ladder, labels}
use Rattle.ladder_definitions.specs.Meaning.{left, run_rung, follow, scan_from, scan_ladder}
use Rattle.ladder_definitions.specs.Questions.{new_labels, question7}
use Rattle.ladder_definitions.specs.Entries.{entries_from, rungs_entered}

from_many : (all : Ladder) (n k : ℕ) (rest : Ladder) (s : State) → k + length (entries_from all n rest s) ≡ (scan_from all n k rest s).rungs
unfolding entries_from scan_from
from_many all zero k [] s = omega arith
from_many all zero k (g ∷ rest) s = omega arith
from_many all (suc n) k [] s = omega arith
from_many all (suc n) k (g ∷ rest) s = let h = from_many all n (k + 1) (follow all rest (run_rung g s)) (left (run_rung g s)) in omega arith

pub entries_many : (gs : Ladder) (n : ℕ) (s : State) → length (rungs_entered gs n s) ≡ (scan_ladder gs n s).rungs
unfolding rungs_entered scan_ladder
entries_many gs n s = let h = from_many gs n 0 gs s in omega arith

-- ---- labels that differ

not_yes : (b : Bool) → T (not b) → b ≡ false
not_yes true h = absurd h
not_yes false h = refl

-- a label is none of those before it
new_label : (earlier before : List ℕ) (l : ℕ) (after : List ℕ) → T (all (λ b. b) (new_labels earlier (before ++ l ∷ after))) → present l (earlier ++ before) ≡ false
unfolding new_labels
new_label earlier [] l after h = rw (append-nil earlier) (not_yes (present l earlier) (all_head (λ b. b) (not (present l earlier)) (new_labels (earlier ++ l ∷ []) after) h))
new_label earlier (b ∷ before) l after h =
    rw (append_assoc earlier (b ∷ []) before) at (new_label (earlier ++ b ∷ []) before l after (all_tail (λ b. b) (not (present b earlier)) (new_labels (earlier ++ b ∷ []) (before ++ l ∷ after)) h))

here : (xs ys : List ℕ) (l : ℕ) → get_or (xs ++ l ∷ ys) (length xs) 0 ≡ l
here [] ys l = refl
here (x ∷ xs) ys l = here xs ys l

present_here : (xs ys : List ℕ) (l : ℕ) → present l (xs ++ l ∷ ys) ≡ true
unfolding present
present_here xs ys l =
    let n = length-append xs (l ∷ ys) in
    let s = search_before l (xs ++ l ∷ ys) (length xs) (omega arith) (here xs ys l) in
    lt-ltb (search l (xs ++ l ∷ ys)) (length (xs ++ l ∷ ys)) (omega arith)

-- of two rungs of a ladder, the later has another label
pub labels_differ : (gs : Ladder) → question7 gs ≡ none → (pre : Ladder) (g : Rung) (between : Ladder) (h : Rung) (post : Ladder)
    → gs ≡ (pre ++ g ∷ between) ++ h ∷ post → g.label ≡ h.label → ⊥
unfolding question7
labels_differ gs q pre g between h post e same =
    let tests = new_labels [] (labels gs) in
    let passed : T (all (λ b. b) (new_labels [] (labels gs))) = each_passed 7 (λ b. b) tests (rw (map-id tests) q) in
    let apart : labels gs ≡ (labels pre ++ g.label ∷ labels between) ++ h.label ∷ labels post
    = ap labels e ∙ map-append (λ (k : Rung). k.label) (pre ++ g ∷ between) (h ∷ post) ∙ ap (λ ls. ls ++ h.label ∷ labels post) (map-append (λ (k : Rung). k.label) pre (g ∷ between)) in
    let absent = new_label [] (labels pre ++ g.label ∷ labels between) h.label (labels post) (rw apart at passed) in
    let there = present_here (labels pre) (labels between) g.label in
    let z : true ≡ false = sym there ∙ (rw (← same) at absent) in
    let n : ◌≡◌ {A = ℕ} 0 1 = cc in omega arith
