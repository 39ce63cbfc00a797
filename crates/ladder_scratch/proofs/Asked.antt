-- Laws of the loop behind question 9: what is said of the rungs that are left is said of all. Assumes nothing.
use Prim.Native.Nat.{ℕ, suc, min, ◌+◌, ◌<◌}
use native.Mathlib.Numerals.{add-one}
use native.Mathlib.Omega.{arith}
use mathlib.Core.Path.{◌≡◌, refl, sym, ap, ◌∙◌}
use mathlib.Core.Bool.{Bool, true, false}
use mathlib.Core.List.{List, [], ◌∷◌, map}
use lib.Dec.{leb}
use lib.ListN.{length, get_or, drop, drop_of_length-le, length-map}
use lib.Seq.{drop-cons}
use Rattle.questions.specs.Tests.{all}
use Rattle.table.specs.State.{scratch_bytes}
use Rattle.ladder_definitions.specs.Tree.{Rung, Ladder}
use Rattle.ladder_definitions.specs.Kept.{rung_words}
use Rattle.ladder_definitions.specs.Questions.{rung_scratch, scratch_in_range}
use Rattle.ladder_definitions.specs.Held.{LadderHeld}
use Rattle.ladder_scratch.specs.Measuring.{FewAsked, ScratchAsked}
use Rattle.ladder_definitions.proofs.Laws.Held.{Apart, apart, as_many, rung_at_lem}
use Rattle.ladder_names.proofs.Asked.{get_d_map}

abbrev few : Rung → Bool
few g = leb (rung_scratch g) scratch_bytes

abbrev counts : Ladder → List ℕ
counts gs = map (λ g. length (rung_words g)) gs

-- the loop's invariant: the rungs before place k take few scratch bytes
pub record Measuring (ws os ns : List ℕ) (k : ℕ) : Type 0 where
  pub same : (ls : List ℕ) (gs : Ladder) → LadderHeld ws ls os gs → ns ≡ counts gs → all few (drop k gs) ≡ scratch_in_range gs

pub measuring_first : (ws os ns : List ℕ) → Measuring ws os ns 0
unfolding scratch_in_range
measuring_first ws os ns = record { same = λ ls gs held sized. refl }

few_left : (g : Rung) (rest : Ladder) (b : Bool) → few g ≡ b → all few (g ∷ rest) ≡ elim b [ true ↦ all few rest | false ↦ false ]
few_left g rest true e = rw e
few_left g rest false e = rw e

-- the number of the words of the rung at place k
count_at : (ns : List ℕ) (gs : Ladder) → ns ≡ counts gs → (k : ℕ) → k < length gs → (a : Apart gs k) → get_or ns k 0 ≡ length (rung_words a.rung)
count_at ns gs sized k h a =
    let here : get_or gs k a.rung ≡ a.rung = ap (λ l. get_or l 0 a.rung) (sym (drop-cons gs k a.rung h) ∙ a.here) in
    ap (λ l. get_or l k 0) sized ∙ get_d_map (λ g. length (rung_words g)) gs k a.rung 0 h ∙ ap (λ g. length (rung_words g)) here

module _ (ws os ns : List ℕ) (k : ℕ) (m : Measuring ws os ns k) where
  pub measured_all : k ≡ min (length os) (length ns) → ScratchAsked ws os ns true
  measured_all h = record {
    same = λ ls gs held sized.
        let n = as_many ws ls os gs held in
        let s = ap length sized ∙ length-map gs (λ g. length (rung_words g)) in
        let none : drop k gs ≡ [] = drop_of_length-le gs (omega arith) in
        sym (ap (all few) none) ∙ m.same ls gs held sized;
  }

  module _ (h : k < length os) (start : ℕ) (at : start ≡ get_or os k 0) (count : ℕ) (many : count ≡ get_or ns k 0) (r : Bool) (asked : FewAsked ws start count r) where
    -- the test of the rung at place k, and the rungs after it
    next : (ls : List ℕ) (gs : Ladder) → LadderHeld ws ls os gs → ns ≡ counts gs → (b : Bool) → r ≡ b
        → elim b [ true ↦ all few (drop (suc k) gs) | false ↦ false ] ≡ scratch_in_range gs
    next ls gs held sized b e =
        let n = as_many ws ls os gs held in
        let a = apart gs k (omega arith) in
        let same = asked.same a.rung (rw at (rung_at_lem ws ls os gs held k (omega arith) a)) (many ∙ count_at ns gs sized k (omega arith) a) in
        sym (few_left a.rung (drop (suc k) gs) b (sym same ∙ e)) ∙ sym (ap (all few) a.here) ∙ m.same ls gs held sized

    pub measured_more : r ≡ false → ScratchAsked ws os ns false
    measured_more e = record { same = λ ls gs held sized. next ls gs held sized false e }

    pub measured_few : r ≡ true → Measuring ws os ns (k + 1)
    measured_few e = record { same = λ ls gs held sized. ap (λ j. all few (drop j gs)) (add-one k) ∙ next ls gs held sized true e }
