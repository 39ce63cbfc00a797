-- Laws of the scan's loop: a scan from the rung that comes next is the scan from the start. Assumes nothing.
use Prim.Native.Nat.{ℕ, zero, suc, ◌+◌, ◌-◌, ◌*◌, ◌≤◌, ◌<◌}
use Rattle.std.proofs.Math.Nat.{sub-zero}
use Rattle.std.proofs.Common.{add-one, sym, ◌∙◌}
use native.Mathlib.Omega.{arith}
use Rattle.std.specs.Prelude.{◌≡◌, length, get_or}
use Rattle.std.proofs.Math.Path.{refl, ap}
use mathlib.Core.List.{List, [], ◌∷◌}
use Rattle.std.proofs.Math.ListN.{drop, drop_of_length-le}
use Rattle.table.specs.State.{State}
use Rattle.table.specs.Halt.{Ended, Stopped}
use Rattle.rungs.specs.Records.{search}
use Rattle.ladder_definitions.specs.Tree.{Rung, Ladder}
use Rattle.ladder_definitions.specs.Meaning.{Run, left, run_rung, from, follow, LadderResult, scan_from, scan_ladder}
use Rattle.ladder_definitions.specs.LadderScan.{scan_ends, ladder_scanned_answer}
use Rattle.ladder_definitions.specs.Questions.{most_words}
use Rattle.ladder_walk.specs.Walking.{RungRun, run_of}
use Rattle.ladder_definitions.specs.Held.{LadderHeld}
use Rattle.ladder_scanning.specs.Scanned.{Scanned}
use Rattle.ladder_definitions.proofs.Laws.Held.{apart, many, rung_at_lem}
use Rattle.std.specs.Prelude.{Ok}
use Rattle.table.specs.declared.Halt.TheVariants.{Ended as EndedCase, Stopped as StoppedCase}
use Rattle.ladder_walk.specs.declared.Ran.{Ran}
use Rattle.ladder_walk.specs.declared.Ran.TheVariants.{Onward, Jumped}

-- ---- one step of the scan

scan_step : (gs rest : Ladder) (n k : ℕ) (g : Rung) (s : State)
    → scan_from gs (suc n) k (g ∷ rest) s ≡ scan_from gs n (k + 1) (follow gs rest (run_rung g s)) (left (run_rung g s))
unfolding scan_from
scan_step gs rest n k g s = refl

scan_past : (gs rest : Ladder) (n k : ℕ) (g : Rung) (s : State) (x : Run) → run_rung g s ≡ x
    → scan_from gs (suc n) k (g ∷ rest) s ≡ scan_from gs n (k + 1) (follow gs rest x) (left x)
scan_past gs rest n k g s x e = scan_step gs rest n k g s ∙ ap (λ y. scan_from gs n (k + 1) (follow gs rest y) (left y)) e

-- ---- the loop's invariant

-- here is the state where the next rung begins
pub record Scanning (ws ls os : List ℕ) (s : State) (w : ℕ) (here : State) (entered rung : ℕ) : Type 0 where
  pub same : (gs : Ladder) → LadderHeld ws ls os gs → scan_from gs (w - entered) entered (drop rung gs) here ≡ scan_ladder gs w s
  pub within : entered ≤ w
  pub few : here.moved ≤ entered * most_words

pub scanning_first : (ws ls os : List ℕ) (s : State) (w : ℕ) → s.moved ≡ 0 → Scanning ws ls os s w s 0 0
unfolding scan_ladder
scanning_first ws ls os s w z = record { same = λ gs held. rw sub-zero refl; within = omega arith; few = omega arith }

module _ (ws ls os : List ℕ) (s : State) (w : ℕ) (here : State) (entered rung : ℕ) (inv : Scanning ws ls os s w here entered rung) where
  done : (gs : Ladder) → LadderHeld ws ls os gs → (x : LadderResult) → scan_from gs (w - entered) entered (drop rung gs) here ≡ x → x ≡ scan_ladder gs w s
  done gs held x e = sym e ∙ inv.same gs held

  pub scan_ended : length ls ≤ rung → Scanned ws ls os s w (Ok (EndedCase (record { rungs = entered; moved = here.moved }))) here.bytes here.timers
  unfolding scan_from scan_ends ladder_scanned_answer
  scan_ended h = record {
    same = λ gs held.
        let m = many ws ls os gs held in
        let none : drop rung gs ≡ [] = drop_of_length-le gs (omega arith) in
        let e = done gs held (record { halt = Ended; rungs = entered; state = here }) (rw none (over gs (w - entered))) in
        record { answer = ap (λ x. (scan_ends x).answer) e; same_table = ap (λ x. (scan_ends x).table) e; same_timers = ap (λ x. (scan_ends x).timers) e };
  }
    where
      over : (gs : Ladder) (n : ℕ) → scan_from gs n entered [] here ≡ record { halt = Ended; rungs = entered; state = here }
      over gs zero = refl
      over gs (suc n) = refl

  pub scan_stopped : rung < length ls → entered ≡ w → Scanned ws ls os s w (Ok (StoppedCase (record { rungs = entered; moved = here.moved }))) here.bytes here.timers
  unfolding scan_from scan_ends ladder_scanned_answer
  scan_stopped h z = record {
    same = λ gs held.
        let m = many ws ls os gs held in
        let a = apart gs rung (omega arith) in
        let n : w - entered ≡ 0 = omega arith in
        let e = done gs held (record { halt = Stopped; rungs = entered; state = here }) (rw (n, a.here) refl) in
        record { answer = ap (λ x. (scan_ends x).answer) e; same_table = ap (λ x. (scan_ends x).table) e; same_timers = ap (λ x. (scan_ends x).timers) e };
  }

  module _ (small : length ws ≤ most_words) (h : rung < length ls) (z : entered ≡ w → ⊥) (start : ℕ) (at : start ≡ get_or os rung 0) (r : Ran) (u : State)
      (run : RungRun ws start here r u) where
    -- the scan after the rung
    after : (gs : Ladder) → LadderHeld ws ls os gs
        → scan_from gs (w - (entered + 1)) (entered + 1) (follow gs (drop (suc rung) gs) (run_of u r)) (left (run_of u r)) ≡ scan_ladder gs w s
    after gs held =
        let m = many ws ls os gs held in
        let a = apart gs rung (omega arith) in
        let d = (run.done a.rung (rw at (rung_at_lem ws ls os gs held rung (omega arith) a))).same in
        let b = inv.within in
        let n : w - entered ≡ suc (w - (entered + 1)) = omega arith in
        sym (ap (λ n. scan_from gs n entered (drop rung gs) here) n
        ∙ ap (λ l. scan_from gs (suc (w - (entered + 1))) entered l here) a.here
        ∙ scan_past gs (drop (suc rung) gs) (w - (entered + 1)) entered a.rung here (run_of u r) d)
        ∙ inv.same gs held

    few_more : u.moved ≤ (entered + 1) * most_words
    few_more = let f = inv.few in let g = run.few in omega arith

    pub scan_onward : (n : ℕ) → r ≡ Onward n → Scanning ws ls os s w u (entered + 1) (rung + 1)
    unfolding run_of follow left
    scan_onward n q = let b = inv.within in record {
      same = λ gs held. ap (λ k. scan_from gs (w - (entered + 1)) (entered + 1) (drop k gs) u) (add-one rung) ∙ (rw q at (after gs held));
      within = omega arith;
      few = few_more;
    }

    pub scan_jumped : (l found : ℕ) → r ≡ Jumped l → found ≡ search l ls → Scanning ws ls os s w u (entered + 1) found
    unfolding run_of follow left from
    scan_jumped l found q f = let b = inv.within in record {
      same = λ gs held. rw (f, held.same_labels) (rw q at (after gs held));
      within = omega arith;
      few = few_more;
    }
