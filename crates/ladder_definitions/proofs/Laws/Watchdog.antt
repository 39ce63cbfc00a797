-- Where a scan stands after k rungs, and that it halts there as document 01 says. Assumes nothing.
use Prim.Native.Nat.{ℕ, zero, suc, ◌+◌, ◌-◌, ◌≤◌}
use Rattle.std.proofs.Common.{zero-add, sym, ◌∙◌}
use native.Mathlib.Omega.{arith}
use Rattle.std.specs.Prelude.{◌≡◌, ◌⊎◌}
use Rattle.std.proofs.Math.Path.{refl, ap}
use Rattle.std.proofs.Math.Logic.{inl, inr}
use mathlib.Core.List.{[], ◌∷◌}
use Rattle.table.specs.State.{State}
use Rattle.table.specs.Halt.{Halt, Ended, Stopped}
use Rattle.ladder_definitions.specs.Tree.{Rung, Ladder}
use Rattle.ladder_definitions.specs.Meaning.{run_rung, follow, left, LadderResult, scan_from, scan_ladder}
use Rattle.ladder_definitions.specs.Standing.{Stands, at_first, after_rung}

-- with n more before the watchdog the scan goes on from where it stands
goes_on_lem : {gs : Ladder} {s : State} {k : ℕ} {rest : Ladder} {t : State} → Stands gs s k rest t → (n : ℕ) → scan_ladder gs (k + n) s ≡ scan_from gs n k rest t
unfolding scan_ladder scan_from
goes_on_lem at_first n = rw zero-add refl
goes_on_lem {gs} {s} (after_rung {k} d) n = let e : k + 1 + n ≡ k + suc n = omega arith in rw e (goes_on_lem d (suc n))

module _ (gs : Ladder) (s : State) where
  -- how the scan halts from where it stands
  Halts : ℕ → LadderResult → Type 0
  Halts most x = ((k : ℕ) × (t : State) × Stands gs s k [] t × (k ≤ most) × (x ≡ record { halt = Ended; rungs = k; state = t }))
      ⊎ ((g : Rung) × (rest : Ladder) × (t : State) × Stands gs s most (g ∷ rest) t × (x ≡ record { halt = Stopped; rungs = most; state = t }))

  halts : (n k : ℕ) (rest : Ladder) (t : State) (most : ℕ) → k + n ≡ most → Stands gs s k rest t → Halts most (scan_from gs n k rest t)
  unfolding Halts scan_from
  halts zero k [] t most e d = inl (k, t, d, omega arith, refl)
  halts zero k (g ∷ rest) t most e d = let q : k ≡ most = omega arith in inr (g, rest, t, rw q at d, rw q refl)
  halts (suc n) k [] t most e d = inl (k, t, d, omega arith, refl)
  halts (suc n) k (g ∷ rest) t most e d = halts n (k + 1) (follow gs rest (run_rung g t)) (left (run_rung g t)) most (omega arith) (after_rung d)

  scan_halts : (w : ℕ) → Halts w (scan_ladder gs w s)
  unfolding scan_ladder
  scan_halts w = halts w 0 gs s w (omega arith) at_first

  pub stands_stopped : (w : ℕ) (g : Rung) (rest : Ladder) (t : State) → Stands gs s w (g ∷ rest) t → scan_ladder gs w s ≡ record { halt = Stopped; rungs = w; state = t }
  unfolding scan_from
  stands_stopped w g rest t d = let e : w + 0 ≡ w = omega arith in rw e at (goes_on_lem d 0)

  pub stands_ended : (w k : ℕ) (t : State) → k ≤ w → Stands gs s k [] t → scan_ladder gs w s ≡ record { halt = Ended; rungs = k; state = t }
  unfolding scan_from
  stands_ended w k t h d = let e : k + (w - k) ≡ w = omega arith in (rw e at (goes_on_lem d (w - k))) ∙ over (w - k)
    where
      over : (n : ℕ) → scan_from gs n k [] t ≡ record { halt = Ended; rungs = k; state = t }
      over zero = refl
      over (suc n) = refl

  -- one answer is not both
  apart : {x : LadderResult} {k k' : ℕ} {t t' : State} → x ≡ record { halt = Ended; rungs = k; state = t } → x ≡ record { halt = Stopped; rungs = k'; state = t' } → ⊥
  apart p q =
      let z : Ended ≡ Stopped = ap (λ y. y.halt) (sym p ∙ q) in
      let n : ◌≡◌ {A = ℕ} 0 1 = cc in
      omega arith

  pub stopped_stands : (w k : ℕ) (t : State) → scan_ladder gs w s ≡ record { halt = Stopped; rungs = k; state = t }
      → (k ≡ w) × ((g : Rung) × (rest : Ladder) × Stands gs s k (g ∷ rest) t)
  unfolding Halts
  stopped_stands w k t e = go (scan_halts w)
    where
      go : Halts w (scan_ladder gs w s) → (k ≡ w) × ((g : Rung) × (rest : Ladder) × Stands gs s k (g ∷ rest) t)
      go (inl h) = absurd (apart h.4 e)
      go (inr h) =
          let n : w ≡ k = ap (λ y. y.rungs) (sym h.4 ∙ e) in
          let u : h.2 ≡ t = ap (λ y. y.state) (sym h.4 ∙ e) in
          (sym n, (h.0, h.1, rw (n, u) at h.3))

  pub ended_stands : (w k : ℕ) (t : State) → scan_ladder gs w s ≡ record { halt = Ended; rungs = k; state = t } → (k ≤ w) × Stands gs s k [] t
  unfolding Halts
  ended_stands w k t e = go (scan_halts w)
    where
      go : Halts w (scan_ladder gs w s) → (k ≤ w) × Stands gs s k [] t
      go (inl h) =
          let n : h.0 ≡ k = ap (λ y. y.rungs) (sym h.4 ∙ e) in
          let u : h.1 ≡ t = ap (λ y. y.state) (sym h.4 ∙ e) in
          (rw n at h.3, rw (n, u) at h.2)
      go (inr h) = absurd (apart e h.4)

-- the rungs entered are at most the watchdog, and equal it where the scan is Stopped
module _ (gs : Ladder) (n : ℕ) (s : State) where
  abbrev x : LadderResult
  x = scan_ladder gs n s

  pub stopped_rungs : x.halt ≡ Stopped → x.rungs ≡ n
  stopped_rungs e = (stopped_stands gs s n x.rungs x.state (λ i. record { halt = e i; rungs = x.rungs; state = x.state })).0

  pub few_rungs : x.rungs ≤ n
  few_rungs = go x.halt refl
    where
      go : (h : Halt) → x.halt ≡ h → x.rungs ≤ n
      go Ended e = (ended_stands gs s n x.rungs x.state (λ i. record { halt = e i; rungs = x.rungs; state = x.state })).0
      go Stopped e = let q = stopped_rungs e in omega arith
