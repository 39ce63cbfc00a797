-- The times entered of a list with a piece of code for each rung, by the labels of the rungs entered (02, Req 04). Assumes nothing.
use Rattle.std.specs.Prelude.{ℕ, zero, suc, ◌+◌, ◌≤◌, ◌<◌, ◌≡◌, refl, ◌⊎◌, Bool, true, false, length, replicate}
use Rattle.std.proofs.Common.{add-zero, zero-add, add_assoc, arith, ◌∙◌, inl, inr}
use Rattle.std.proofs.Math.Path.{sym, ap}
use Rattle.std.proofs.Math.Option.{none}
use mathlib.Core.List.{List, [], ◌∷◌, ◌++◌, map, zip_with}
use borrow.Author.Tests.{eq-eqb, ne_eqb}
use Rattle.std.proofs.Math.Dec.{eqb}
use Rattle.questions.specs.Tests.{bit}
use Rattle.rungs.specs.Records.{lay, enter}
use Rattle.rungs.proofs.Laws.Layout.{sizes, sizes_append, lay_length, start_first, enter_by}
use Rattle.ladder_definitions.specs.Tree.{Rung, Ladder}
use Rattle.ladder_definitions.specs.Questions.{question7}
use Rattle.ladder_definitions.specs.Entries.{occurrences}
use Rattle.ladder_definitions.proofs.Laws.Entries.{labels_differ}
use Rattle.list_definitions.specs.Instruction.{Instr}
use Rattle.list_definitions.specs.Machine.{Counts}
use Rattle.translation_definitions.proofs.Laws.Exec.{counted, counted_times}
use Rattle.translation_definitions.proofs.Laws.Places.{label_of, size_by, list_of, entered_once}

-- two places in a ladder are the same, or the one is before the other
two_places : (pre a : Ladder) (g h : Rung) (post b : Ladder) → pre ++ g ∷ post ≡ a ++ h ∷ b
    → ((pre ≡ a) × (g ≡ h)) ⊎ (((m : Ladder) × (a ≡ pre ++ g ∷ m)) ⊎ ((m : Ladder) × (pre ≡ a ++ h ∷ m)))
two_places [] [] g h post b e = inl (refl, cc)
two_places [] (x ∷ a) g h post b e = inr (inl (a, cc))
two_places (y ∷ pre) [] g h post b e = inr (inr (pre, cc))
two_places (y ∷ pre) (x ∷ a) g h post b e =
    let first : y ≡ x = cc in
    let rest : pre ++ g ∷ post ≡ a ++ h ∷ b = cc in
    go first (two_places pre a g h post b rest)
  where
    go : y ≡ x → ((pre ≡ a) × (g ≡ h)) ⊎ (((m : Ladder) × (a ≡ pre ++ g ∷ m)) ⊎ ((m : Ladder) × (pre ≡ a ++ h ∷ m)))
        → ((y ∷ pre ≡ x ∷ a) × (g ≡ h)) ⊎ (((m : Ladder) × (x ∷ a ≡ y ∷ pre ++ g ∷ m)) ⊎ ((m : Ladder) × (y ∷ pre ≡ x ∷ a ++ h ∷ m)))
    go q (inl p) = inl ((λ i. q i ∷ p.0 i), p.1)
    go q (inr (inl p)) = inr (inl (p.0, (λ i. sym q i ∷ p.1 i)))
    go q (inr (inr p)) = inr (inr (p.0, (λ i. q i ∷ p.1 i)))

-- one more for the rung with label l
unfoldable pub entering : Ladder → ℕ → List ℕ → List ℕ
entering gs l times = zip_with (λ (g : Rung) (n : ℕ). n + bit (eqb l g.label)) gs times

-- so many more for each rung as its label is among some
unfoldable pub tallied : Ladder → List ℕ → List ℕ → List ℕ
tallied gs ls times = zip_with (λ (g : Rung) (n : ℕ). n + occurrences g.label ls) gs times

pub tallied_none : (gs : Ladder) (times : List ℕ) → length times ≡ length gs → tallied gs [] times ≡ times
unfolding tallied zip_with occurrences
tallied_none [] [] e = refl
tallied_none [] (n ∷ times) e = absurd (omega arith)
tallied_none (g ∷ gs) [] e = absurd (omega arith)
tallied_none (g ∷ gs) (n ∷ times) e = rw (add-zero, tallied_none gs times (omega arith)) refl

pub tallied_more : (gs : Ladder) (l : ℕ) (ls times : List ℕ) → tallied gs ls (entering gs l times) ≡ tallied gs (l ∷ ls) times
unfolding tallied entering zip_with occurrences
tallied_more [] l ls times = refl
tallied_more (g ∷ gs) l ls [] = refl
tallied_more (g ∷ gs) l ls (n ∷ times) = rw (add_assoc n (bit (eqb l g.label)) (occurrences g.label ls), tallied_more gs l ls times) refl

pub tallied_zeros : (gs : Ladder) (ls : List ℕ) → tallied gs ls (replicate (length gs) 0) ≡ map (λ (g : Rung). occurrences g.label ls) gs
unfolding tallied zip_with
tallied_zeros [] ls = refl
tallied_zeros (g ∷ gs) ls = rw (zero-add, tallied_zeros gs ls) refl

entering_length : (gs : Ladder) (l : ℕ) (times : List ℕ) → length times ≡ length gs → length (entering gs l times) ≡ length gs
unfolding entering zip_with
entering_length [] l times e = refl
entering_length (g ∷ gs) l [] e = e
entering_length (g ∷ gs) l (n ∷ times) e = let k = entering_length gs l times (omega arith) in omega arith

module _ (code : Rung → List Instr) (gs : Ladder) (differ : question7 gs ≡ none)
    (long : (pre : Ladder) (g : Rung) (post : Ladder) → gs ≡ pre ++ g ∷ post → 1 ≤ length (code g)) where
  abbrev place : Ladder → ℕ
  place = sizes (size_by code)

  module _ (pre : Ladder) (g : Rung) (post : Ladder) (e : gs ≡ pre ++ g ∷ post) where
    -- a rung begins where g does just when it has g's label
    begins : (a : Ladder) (h : Rung) (b : Ladder) → gs ≡ a ++ h ∷ b → eqb (0 + place a) (place pre) ≡ eqb g.label h.label
    unfolding sizes
    begins a h b f = go (two_places pre a g h post b (sym e ∙ f))
      where
        go : ((pre ≡ a) × (g ≡ h)) ⊎ (((m : Ladder) × (a ≡ pre ++ g ∷ m)) ⊎ ((m : Ladder) × (pre ≡ a ++ h ∷ m))) → eqb (0 + place a) (place pre) ≡ eqb g.label h.label
        go (inl p) =
            let q = ap place p.0 in
            eq-eqb (0 + place a) (place pre) (omega arith) ∙ sym (eq-eqb g.label h.label (ap label_of p.1))
        go (inr (inl p)) =
            let q = ap place p.1 ∙ sizes_append (size_by code) pre (g ∷ p.0) in
            let some = long pre g post e in
            ne_eqb (0 + place a) (place pre) (λ z. omega arith)
            ∙ sym (ne_eqb g.label h.label (labels_differ gs differ pre g p.0 h b (f ∙ ap (λ k. k ++ h ∷ b) p.1)))
        go (inr (inr p)) =
            let q = ap place p.1 ∙ sizes_append (size_by code) a (h ∷ p.0) in
            let some = long a h b f in
            ne_eqb (0 + place a) (place pre) (λ z. omega arith)
            ∙ sym (ne_eqb g.label h.label (λ z. labels_differ gs differ a h p.0 g post (e ∙ ap (λ k. k ++ g ∷ post) p.1) (sym z)))

    -- running n instructions of g's code from its first on enters g alone, once
    pub rung_entered : (n : ℕ) (c : Counts) → 1 ≤ n → n ≤ length (code g) → length c.times ≡ length gs
        → (counted (list_of code gs) (place pre) n c).times ≡ entering gs g.label c.times
    unfolding list_of entering
    rung_entered n c lo hi k =
        counted_times (list_of code gs) (place pre) n c lo (start_first label_of (size_by code) gs pre g post e) (entered_once code gs pre g post n e lo hi)
        (k ∙ sym (lay_length label_of (size_by code) 0 gs))
        ∙ enter_by label_of (size_by code) (λ (h : Rung). eqb g.label h.label) 0 (place pre) gs c.times begins

    pub rung_fields : (n : ℕ) (c : Counts) → 1 ≤ n → n ≤ length (code g) → length c.times ≡ length gs → length (counted (list_of code gs) (place pre) n c).times ≡ length gs
    rung_fields n c lo hi k = ap (λ ts. length ts) (rung_entered n c lo hi k) ∙ entering_length gs g.label c.times k
