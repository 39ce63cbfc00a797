-- What two scans leave is again as Req 07 has it: accepted, legal, alike at every contact. Assumes nothing.
use Rattle.std.specs.Prelude.{ℕ, ◌≡◌, List, length}
use Rattle.std.proofs.Common.{sym, ap, ◌∙◌}
use Rattle.std.proofs.lemmas.List.{length-map}
use Rattle.questions.proofs.Laws.Answers.{each_passed}
use Rattle.questions.specs.Questions.{yes}
use Rattle.table.specs.Timer.{Timer}
use Rattle.table.specs.State.{State, state_of}
use Rattle.table.specs.Questions.{timer_variables, question11}
use Rattle.table.proofs.Laws.Timers.{timers_below}
use Rattle.ladder_definitions.specs.Meaning.{scan_ladder}
use Rattle.ladder_definitions.specs.Kept.{Kept}
use Rattle.ladder_definitions.specs.Questions.{ladder_of, rung_below, question6}
use Rattle.ladder_definitions.specs.LadderScan.{LadderScanCall, scan_ends, call_ladder_scan}
use Rattle.ladder_definitions.proofs.Theorems.{timers_still_legal}
use Rattle.ladder_definitions.proofs.Laws.Accepting.{accepted}
use Rattle.ladder_definitions.proofs.Laws.Scratch.{scan_stays}
use Rattle.ladder_definitions.proofs.Laws.Writes.{ladder_legal}
use Rattle.noninterference.specs.Noninterference.{CallsGiven}
use Rattle.noninterference.proofs.Laws.Uninfluenced.{call_is, calls_uninfluenced}
use Rattle.noninterference.proofs.Laws.Unread.{named_below_lem}

same_many : (ts us : List Timer) → timer_variables ts ≡ timer_variables us → length ts ≡ length us
same_many ts us e = sym (length-map ts (λ t. t.variable)) ∙ ap length e ∙ length-map us (λ t. t.variable)

module _ (vars : ℕ) (k : Kept) (s t : List ℕ) (timers : List Timer) (now n : ℕ) (given : CallsGiven vars k s t timers n) where
  abbrev call : List ℕ → LadderScanCall
  call table = call_ladder_scan vars k table timers now n

  abbrev begun : List ℕ → State
  begun table = state_of vars table timers now

  variables_below : question6 vars (ladder_of k) ≡ yes
  variables_below = (accepted vars k given.accepted).1.variables

  legal_again : (table : List ℕ) → question11 vars table ≡ yes → question11 vars (call table).table ≡ yes
  unfolding scan_ends
  legal_again table legal = rw (call_is vars k s t timers now n given table legal) (ladder_legal vars (ladder_of k) n (begun table) legal)

  as_many : length (scan_ladder (ladder_of k) n (begun s)).state.timers ≡ length timers
  unfolding question6
  as_many =
      let stays = scan_stays (ladder_of k) n (begun s) (each_passed 6 (rung_below vars) (ladder_of k) variables_below) (timers_below vars timers given.timers_legal) in
      same_many (scan_ladder (ladder_of k) n (begun s)).state.timers timers stays.same_timed

  pub still_given : CallsGiven vars k (call s).table (call t).table (call s).timers n
  unfolding scan_ends
  still_given =
      let p = call_is vars k s t timers now n given s given.first_legal in
      record {
        accepted = given.accepted;
        first_legal = legal_again s given.first_legal;
        second_legal = legal_again t given.second_legal;
        agree = λ v h. (calls_uninfluenced vars k s t timers now n given).variables.differ_only v (named_below_lem vars (ladder_of k) v variables_below h) (given.agree v h);
        timers_legal = rw p (timers_still_legal (ladder_of k) n (begun s) variables_below given.timers_legal);
        timers_known = rw (p, as_many) given.timers_known;
        watchdog_legal = given.watchdog_legal;
      }
