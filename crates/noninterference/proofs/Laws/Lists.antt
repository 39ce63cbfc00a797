-- Where a list agrees with the ladder as demand 3 says, it has Req 07 of the ladder. Assumes nothing.
use Rattle.std.specs.Prelude.{ℕ, ◌*◌, ◌≤◌, ◌<◌, ◌≡◌, List, get_or, take}
use Rattle.std.proofs.Math.Path.{sym}
use Rattle.std.proofs.Common.{ap, ◌∙◌, get_or-take}
use Rattle.questions.specs.Tests.{truth}
use Rattle.questions.specs.Questions.{yes, question12, most_instruction_watchdog}
use Rattle.table.specs.Timer.{Timer}
use Rattle.table.specs.State.{state_of, value_at, variables}
use Rattle.table.specs.Halt.{Halt, Ended}
use Rattle.table.specs.Writes.{Write}
use Rattle.rungs.specs.Records.{RungRecord}
use Rattle.ladder_definitions.specs.Kept.{Kept}
use Rattle.ladder_definitions.specs.LadderScan.{LadderCounts, LadderScanCall, call_ladder_scan, scanned}
use Rattle.list_definitions.specs.ListScan.{ListScanCall, call_list_scan}
use Rattle.translation_definitions.specs.Demand3.{EndedAlike}
use Rattle.translation_definitions.specs.Calls.{CallsAlike, ScansAgree}
use Rattle.noninterference.specs.Noninterference.{VariablesUninfluenced, CallsUninfluenced, ListsUninfluenced}

-- tables with the same V variables, in place of others
same_at : (vars v : ℕ) (s t : List ℕ) → take vars s ≡ take vars t → v < vars → get_or s v 0 ≡ get_or t v 0
same_at vars v s t e h = sym (get_or-take vars s v 0 h) ∙ ap (λ l. get_or l v 0) e ∙ get_or-take vars t v 0 h

variables_moved : (vars : ℕ) (first second : List Write) (s t s' t' s'' t'' : List ℕ) → take vars s' ≡ take vars s'' → take vars t' ≡ take vars t''
    → VariablesUninfluenced vars first second s t s' t' → VariablesUninfluenced vars first second s t s'' t''
unfolding value_at
variables_moved vars first second s t s' t' s'' t'' a b x = record {
  differ_only = λ v h e. sym (ap truth (same_at vars v s' s'' a h)) ∙ x.differ_only v h e ∙ ap truth (same_at vars v t' t'' b h);
  first_wrote = λ v h m. sym (same_at vars v s' s'' a h) ∙ x.first_wrote v h m ∙ same_at vars v t' t'' b h;
  second_wrote = λ v h m. sym (same_at vars v s' s'' a h) ∙ x.second_wrote v h m ∙ same_at vars v t' t'' b h;
}

same_halt : {h : Halt} {c d : LadderCounts} → scanned h c ≡ scanned Ended d → h ≡ Ended
same_halt e = cc

same_counts : {h : Halt} {c d : LadderCounts} → scanned h c ≡ scanned Ended d → c ≡ d
same_counts e = cc

module _ (vars : ℕ) (kept : Kept) (words : List ℕ) (records : List RungRecord) (longest : ℕ) (timers : List Timer) (now n w : ℕ) where
  abbrev ladder : List ℕ → LadderScanCall
  ladder table = call_ladder_scan vars kept table timers now n

  abbrev list : List ℕ → ListScanCall
  list table = call_list_scan vars words records table timers now w

  abbrev ListEnds : ℕ → List ℕ → Type 0
  ListEnds k table = EndedAlike 2 longest k (state_of vars (ladder table).table (ladder table).timers now) (list table).answer
      (state_of vars (list table).table (list table).timers now)

  list_ends_lem : (table : List ℕ) (c : LadderCounts) → ScansAgree vars kept words records longest table timers now n → (ladder table).answer ≡ scanned Ended c
      → question12 most_instruction_watchdog w ≡ yes → c.rungs * longest ≤ w → ListEnds c.rungs table
  unfolding CallsAlike
  list_ends_lem table c agree e legal enough = (agree.alike w).ended c e legal enough

  module _ (s t : List ℕ) (first : ScansAgree vars kept words records longest s timers now n) (second : ScansAgree vars kept words records longest t timers now n)
      (x : CallsUninfluenced vars kept s t timers now n) (c : LadderCounts) (ended : (ladder s).answer ≡ scanned Ended c)
      (legal : question12 most_instruction_watchdog w ≡ yes) (enough : c.rungs * longest ≤ w) where
    same : scanned x.halt x.first_counts ≡ scanned Ended c
    same = sym x.first_answer ∙ ended

    second_rungs : x.second_counts.rungs ≡ c.rungs
    second_rungs = sym x.rungs ∙ ap (λ (d : LadderCounts). d.rungs) (same_counts same)

    ends_first : ListEnds c.rungs s
    ends_first = list_ends_lem s c first ended legal enough

    ends_second : ListEnds x.second_counts.rungs t
    ends_second = list_ends_lem t x.second_counts second (x.second_answer ∙ ap (λ h. scanned h x.second_counts) (same_halt same)) legal (rw second_rungs enough)

    pub lists_uninfluenced : ListsUninfluenced vars kept words records s t timers now n w
    unfolding variables
    lists_uninfluenced = record {
      first_counts = ends_first.counts;
      second_counts = ends_second.counts;
      first_ended = ends_first.ended;
      second_ended = ends_second.ended;
      rungs = ends_first.rungs ∙ sym second_rungs ∙ sym ends_second.rungs;
      variables = variables_moved vars _ _ s t (ladder s).table (ladder t).table (list s).table (list t).table
          ends_first.same.same_variables ends_second.same.same_variables x.variables;
      same_timers = sym ends_first.same.same_timers ∙ x.same_timers ∙ ends_second.same.same_timers;
    }
