-- Ladder scan, as a call, neither reads nor writes scratch: past question 11 its questions do not depend on the table, and its scan on the variables alone.
-- Assumes nothing.
use Rattle.std.specs.Prelude.{ℕ, ◌≡◌, List, T}
use Rattle.std.proofs.Math.Path.{refl}
use Rattle.std.proofs.Common.{sym, ◌∙◌}
use Rattle.std.proofs.Math.Option.{none, some}
use Rattle.questions.specs.Tests.{all}
use Rattle.questions.specs.Questions.{Answer, Refusal}
use Rattle.questions.proofs.Laws.Answers.{each_passed}
use Rattle.table.specs.Timer.{Timer}
use Rattle.table.specs.State.{State, state_of, beyond_variables, SameButScratch}
use Rattle.table.specs.Questions.{question11, question16}
use Rattle.table.proofs.Laws.Timers.{timers_below}
use Rattle.table.proofs.Laws.Alike.{ScratchStays, alike_legal, alike_same, same_tables}
use Rattle.ladder_definitions.specs.Tree.{Ladder}
use Rattle.ladder_definitions.specs.Meaning.{LadderResult, scan_ladder}
use Rattle.ladder_definitions.specs.Kept.{Kept}
use Rattle.ladder_definitions.specs.Questions.{rung_below, question6, ladder_of}
use Rattle.ladder_definitions.specs.LadderScan.{LadderScanCall, scanned, refused, scan_ends, scan_questions, call_ladder_scan}
use Rattle.ladder_definitions.proofs.Laws.Scratch.{ScansAlike, scan_alike, scan_stays}
use Rattle.ladder_definitions.proofs.Laws.Accepting.{accepted, ScanPassed, scan_passed}

module _ (vars : ℕ) (k : Kept) (timers : List Timer) (now n : ℕ) where
  abbrev gs : Ladder
  gs = ladder_of k

  abbrev call : List ℕ → LadderScanCall
  call table = call_ladder_scan vars k table timers now n

  abbrev asked : List ℕ → Answer
  asked table = scan_questions vars k table timers n

  abbrev begun : List ℕ → State
  begun table = state_of vars table timers now

  abbrev scan : List ℕ → LadderResult
  scan table = scan_ladder gs n (begun table)

  call_refused : (table : List ℕ) (refusal : Refusal) → asked table ≡ some refusal → call table ≡ record { answer = refused refusal; table = table; timers = timers }
  unfolding call_ladder_scan
  call_refused table refusal e = rw (e, call_ladder_scan)

  call_scanned : (table : List ℕ) → asked table ≡ none → call table ≡ scan_ends (scan table)
  unfolding call_ladder_scan
  call_scanned table e = rw (e, call_ladder_scan)

  -- the other questions do not depend on the table
  same_asked : (t u : List ℕ) → question11 vars t ≡ none → question11 vars u ≡ none → asked t ≡ asked u
  unfolding scan_questions
  same_asked t u ht hu = rw (ht, hu)

  -- question 6 got a "yes"
  below : (table : List ℕ) → asked table ≡ none → T (all (rung_below vars) gs)
  unfolding question6
  below table e = each_passed 6 (rung_below vars) gs (accepted vars k (scan_passed vars k table timers n e).accepted).1.variables

  stays : (table : List ℕ) → asked table ≡ none → ScratchStays (begun table) (scan table).state
  stays table e = scan_stays gs n (begun table) (below table e) (timers_below vars timers (scan_passed vars k table timers n e).legal_timers)

  pub call_stays : (table : List ℕ) → beyond_variables (begun (call table).table) ≡ beyond_variables (begun table)
  unfolding scan_ends beyond_variables
  call_stays table = go (asked table) refl
    where
      go : (a : Answer) → asked table ≡ a → beyond_variables (begun (call table).table) ≡ beyond_variables (begun table)
      go (some refusal) e = rw (call_refused table refusal e)
      go none e = rw (call_scanned table e) (rw (stays table e).same_vars at (stays table e).same_beyond)

  module _ (t u : List ℕ) (ht : question11 vars t ≡ none) (hu : question11 vars u ≡ none) (same : SameButScratch (begun t) (begun u)) where
    scans : asked u ≡ none → ScansAlike vars (scan t) (scan u)
    scans e =
        let q16 = (scan_passed vars k u timers n e).legal_timers in
        scan_alike vars gs n (begun t) (begun u) (below u e)
        (alike_legal (begun t) (begun u) (record { table = ht; timers = q16 }) (record { table = hu; timers = q16 }) same refl refl)

    -- the states that the two calls leave
    abbrev SameLeft : Type 0
    SameLeft = SameButScratch (state_of vars (call t).table (call t).timers now) (state_of vars (call u).table (call u).timers now)

    pub call_alike : ((call t).answer ≡ (call u).answer) × SameLeft
    unfolding scan_ends
    call_alike = go (asked u) refl
      where
        go : (a : Answer) → asked u ≡ a → ((call t).answer ≡ (call u).answer) × SameLeft
        go (some refusal) e = rw (call_refused t refusal (same_asked t u ht hu ∙ e), call_refused u refusal e) (refl, same)
        go none e =
            let et = same_asked t u ht hu ∙ e in
            let x = scans e in
            rw (call_scanned t et, call_scanned u e) (
              λ i. scanned (x.halt i) (record { rungs = x.rungs i; moved = x.state.same_moved i }),
              same_tables vars now (stays t et).same_vars (stays u e).same_vars (alike_same x.state),
            )
