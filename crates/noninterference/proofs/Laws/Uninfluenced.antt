-- The two scans make the same writes, each in its own table; and so do the two calls. Assumes nothing.
use Rattle.std.specs.Prelude.{ℕ, ◌<◌, ◌≡◌, refl, List, length}
use Rattle.std.proofs.Common.{arith, sym, ap, ◌∙◌}
use Rattle.std.proofs.Math.Option.{none}
use Rattle.questions.specs.Tests.{truth}
use Rattle.questions.specs.Questions.{yes}
use Rattle.table.specs.Timer.{Timer}
use Rattle.table.specs.State.{State, state_of, value, value_at}
use Rattle.table.specs.Writes.{replay}
use Rattle.table.specs.Questions.{question11}
use Rattle.table.proofs.Laws.Alike.{table_room}
use Rattle.ladder_definitions.specs.Tree.{Ladder}
use Rattle.ladder_definitions.specs.Meaning.{LadderResult, scan_ladder}
use Rattle.ladder_definitions.specs.Writes.{ladder_writes}
use Rattle.ladder_definitions.specs.Kept.{Kept}
use Rattle.ladder_definitions.specs.Questions.{ladder_of}
use Rattle.ladder_definitions.specs.LadderScan.{counts_of, scan_ends, scan_questions, call_ladder_scan}
use Rattle.ladder_definitions.proofs.Theorems.{ladder_replayed}
use Rattle.ladder_definitions.proofs.Laws.Accepting.{accepted, passed_scan}
use Rattle.noninterference.specs.Contacts.{ladder_contacts, named}
use Rattle.noninterference.specs.Noninterference.{TreesGiven, TreesUninfluenced, CallsGiven, CallsUninfluenced}
use Rattle.noninterference.proofs.Laws.Contacts.{all_among, rungs_pass}
use Rattle.noninterference.proofs.Laws.Replaying.{replay_same, replay_written}
use Rattle.noninterference.proofs.Laws.Lockstep.{ScansAgree, scan_agree}

module _ (gs : Ladder) (n : ℕ) (s t : State) (given : TreesGiven gs s t) where
  room : length s.bytes ≡ length t.bytes
  room =
      let p = table_room s.vars s.bytes given.first_legal in
      let q = table_room t.vars t.bytes given.second_legal in
      let v = given.same_vars in
      omega arith

  below : (v : ℕ) → v < s.vars → v < length s.bytes
  below v h = let p = table_room s.vars s.bytes given.first_legal in omega arith

  step : ScansAgree (λ v. named v gs) (scan_ladder gs n s) (scan_ladder gs n t) (ladder_writes gs n s) (ladder_writes gs n t)
  unfolding value
  step =
      scan_agree (λ v. named v gs) gs n s t (rungs_pass (λ v. named v gs) gs (all_among (ladder_contacts gs)))
      (record { same_room = room; same_seen = given.agree; same_timers = given.same_timers; same_now = given.same_now })

  -- the second scan makes the first one's writes
  second : (scan_ladder gs n t).state.bytes ≡ replay (ladder_writes gs n s) t.bytes
  second = ladder_replayed gs n t ∙ ap (λ ws. replay ws t.bytes) (sym step.writes)

  pub trees_uninfluenced : TreesUninfluenced gs n s t
  unfolding value_at
  trees_uninfluenced = record {
    halt = step.halt;
    rungs = step.rungs;
    variables = record {
      differ_only = λ v h e. rw (ladder_replayed gs n s, second) (replay_same truth (ladder_writes gs n s) s.bytes t.bytes v room e);
      first_wrote = λ v h m. rw (ladder_replayed gs n s, second) (replay_written (ladder_writes gs n s) s.bytes t.bytes v room (below v h) m);
      second_wrote = λ v h m. rw (ladder_replayed gs n s, second) (replay_written (ladder_writes gs n s) s.bytes t.bytes v room (below v h) (rw step.writes m));
    };
    same_timers = step.state.same_timers;
  }

module _ (vars : ℕ) (k : Kept) (s t : List ℕ) (timers : List Timer) (now n : ℕ) (given : CallsGiven vars k s t timers n) where
  abbrev begun : List ℕ → State
  begun table = state_of vars table timers now

  abbrev scan : List ℕ → LadderResult
  scan table = scan_ladder (ladder_of k) n (begun table)

  pub call_is : (table : List ℕ) → question11 vars table ≡ yes → call_ladder_scan vars k table timers now n ≡ scan_ends (scan table)
  unfolding call_ladder_scan
  call_is table legal =
      let q : scan_questions vars k table timers n ≡ none = passed_scan vars k table timers n (record {
        accepted = given.accepted;
        legal_timers = given.timers_legal;
        known_timers = given.timers_known;
        legal_table = legal;
        watchdog = given.watchdog_legal;
      }) in
      rw (q, call_ladder_scan)

  pub calls_uninfluenced : CallsUninfluenced vars k s t timers now n
  unfolding scan_ends
  calls_uninfluenced =
      let x = trees_uninfluenced (ladder_of k) n (begun s) (begun t) (record {
        accepted = (accepted vars k given.accepted).1;
        same_vars = refl;
        first_legal = given.first_legal;
        second_legal = given.second_legal;
        agree = given.agree;
        same_timers = refl;
        timers_legal = given.timers_legal;
        timers_known = given.timers_known;
        same_now = refl;
      }) in
      let p = call_is s given.first_legal in
      let q = call_is t given.second_legal in
      record {
        halt = (scan t).halt;
        first_counts = counts_of (scan s);
        second_counts = counts_of (scan t);
        first_answer = rw (p, x.halt) refl;
        second_answer = rw q refl;
        rungs = x.rungs;
        variables = rw (p, q) x.variables;
        same_timers = rw (p, q) x.same_timers;
      }
