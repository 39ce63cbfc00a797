-- Agreement over any number of scans, from demand 3's record for one scan: a ladder scan does not read scratch, and a list scan leaves a legal table legal.
-- Assumes nothing.
use Rattle.std.specs.Prelude.{ℕ, zero, suc, ◌≡◌, length, set, take}
use Rattle.std.proofs.Math.Path.{refl, sym}
use Rattle.std.proofs.Common.{ap, ◌∙◌}
use Rattle.std.proofs.Math.Option.{none, some}
use mathlib.Core.List.{List, [], ◌∷◌, map}
use Rattle.questions.specs.Tests.{bit}
use Rattle.questions.specs.Questions.{Answer, question12, most_rung_watchdog}
use Rattle.table.specs.Timer.{Timer}
use Rattle.table.specs.State.{state_of, variables, written_at, SameButScratch}
use Rattle.table.specs.Halt.{Ended}
use Rattle.table.specs.Questions.{question11, question16}
use Rattle.table.proofs.Laws.Alike.{same_both}
use Rattle.table.proofs.Laws.Legal.{LegalTable, written_legal}
use Rattle.rungs.specs.Records.{RungRecord}
use Rattle.ladder_definitions.specs.Kept.{Kept}
use Rattle.ladder_definitions.specs.Questions.{ladder_of, question17}
use Rattle.ladder_definitions.proofs.Laws.Answers.{asked}
use Rattle.ladder_definitions.proofs.Theorems.{call_reads_no_scratch}
use Rattle.list_definitions.specs.Instruction.{instr_word}
use Rattle.list_definitions.specs.ListScan.{list_of, call_list_scan, scan_ends as list_ends, scan_questions}
use Rattle.list_definitions.proofs.Laws.Writes.{list_legal}
use Rattle.translation_definitions.specs.Calls.{CallsAlike, CallsSums, ScansAgree}
use Rattle.translation_definitions.specs.ManyScans.{InputValue, input_phase, Scan, list_for, longest_for, ladder_with, list_with, LadderEnds, LaddersEnd, ManyGiven, BothEnd, ManyAgree}

-- ---- the input phase and a list scan leave a legal table legal

module _ (vars : ℕ) where
  input_legal : (inputs : List InputValue) (table : List ℕ) → LegalTable vars table → LegalTable vars (input_phase inputs table)
  unfolding input_phase
  input_legal [] table h = h
  input_legal (x ∷ later) table h = input_legal later (written_at table x.variable x.value) (written_legal vars table x.variable x.value h)

  -- List scan leaves a legal table legal, refused or not
  call_legal : (words : List ℕ) (rs : List RungRecord) (table : List ℕ) (timers : List Timer) (now w : ℕ) → LegalTable vars table
      → LegalTable vars (call_list_scan vars words rs table timers now w).table
  unfolding call_list_scan list_ends
  call_legal words rs table timers now w h = go (scan_questions vars words rs table timers w) refl
    where
      go : (a : Answer) → scan_questions vars words rs table timers w ≡ a → LegalTable vars (call_list_scan vars words rs table timers now w).table
      go none q = rw (q, call_list_scan) (list_legal vars (list_of words rs) w (state_of vars table timers now) h)
      go (some refusal) q = rw (q, call_list_scan) h

-- ---- the input phase gives the same variables from the same variables

taken_set : (n : ℕ) (table : List ℕ) (i x : ℕ) → take n (set table i x) ≡ set (take n table) i x
taken_set zero table i x = refl
taken_set (suc n) [] i x = refl
taken_set (suc n) (y ∷ ys) zero x = refl
taken_set (suc n) (y ∷ ys) (suc i) x = ap (λ r. y ∷ r) (taken_set n ys i x)

input_taken : (vars : ℕ) (inputs : List InputValue) (t u : List ℕ) → take vars t ≡ take vars u → take vars (input_phase inputs t) ≡ take vars (input_phase inputs u)
unfolding input_phase written_at
input_taken vars [] t u e = e
input_taken vars (x ∷ later) t u e =
    let v = x.variable in
    let b = bit x.value in
    input_taken vars later (set t v b) (set u v b) (taken_set vars t v b ∙ ap (λ r. set r v b) e ∙ sym (taken_set vars u v b))

-- ---- scan by scan

module _ (vars : ℕ) (kept : Kept) where
  -- demand 3's record for one scan of this ladder, on every legal table and with all timer records that 16 and 17 take
  abbrev pub OneScan : Type 0
  OneScan = (table : List ℕ) (timers : List Timer) (now n : ℕ) → question11 vars table ≡ none → question16 vars timers ≡ none → question17 (length timers) (ladder_of kept) ≡ none
      → question12 most_rung_watchdog n ≡ none
      → ScansAgree vars kept (map instr_word (list_for vars kept).code) (list_for vars kept).records (longest_for vars kept) table timers now n

module _ (vars : ℕ) (kept : Kept) (demand3 : OneScan vars kept) where
  same_tables : (t u : List ℕ) (timers : List Timer) (now : ℕ) → take vars t ≡ take vars u → SameButScratch (state_of vars t timers now) (state_of vars u timers now)
  unfolding variables
  same_tables t u timers now e = record { same_vars = refl; same_variables = e; same_timers = refl }

  same_variables : (t u : List ℕ) (ts us : List Timer) (now : ℕ) → SameButScratch (state_of vars t ts now) (state_of vars u us now) → take vars t ≡ take vars u
  unfolding variables
  same_variables t u ts us now e = e.same_variables

  -- one scan, from tables with the same variables and equal timer records
  scan_alike : (scan : Scan) (t u : List ℕ) (timers : List Timer) → LegalTable vars u → take vars t ≡ take vars u → LadderEnds vars kept scan (ladder_with vars kept scan t timers)
      → BothEnd vars kept scan.tick (ladder_with vars kept scan t timers) (list_with vars kept scan u timers)
  unfolding ladder_with list_with CallsAlike CallsSums
  scan_alike scan t u timers legal same h =
      let n = scan.rung_watchdog in
      let now = scan.tick in
      let t' = input_phase scan.inputs t in
      let u' = input_phase scan.inputs u in
      let a = asked vars kept t' timers now n Ended h.counts h.ended in
      let p = a.passed in
      let legal' = input_legal vars scan.inputs u legal in
      let one = demand3 u' timers now n legal' p.legal_timers p.known_timers p.watchdog in
      let s = call_reads_no_scratch vars kept n timers now t' u' p.legal_table legal' (same_tables t' u' timers now (input_taken vars scan.inputs t u same)) in
      let w = scan.instruction_watchdog in
      let ended = sym s.answer ∙ h.ended in
      let x = (one.alike w).ended h.counts ended h.watchdog h.enough in
      record {
        counts = h.counts;
        ladder_ended = h.ended;
        list_ended = record {
          counts = x.counts;
          ended = x.ended;
          same = same_both s.same x.same;
          rungs = x.rungs;
          at_least = x.at_least;
          at_most = x.at_most;
        };
        same_sum = (one.sums w).ended h.counts ended h.watchdog h.enough;
      }

  scans_alike : (scans : List Scan) (t u : List ℕ) (ts us : List Timer) → LegalTable vars u → take vars t ≡ take vars u → ts ≡ us → LaddersEnd vars kept scans t ts
      → ManyAgree vars kept scans t ts u us
  unfolding LaddersEnd ManyAgree list_with
  scans_alike [] t u ts us legal same e h = tt
  scans_alike (scan ∷ later) t u ts us legal same e h =
      let b = rw e at (scan_alike scan t u ts legal same h.0) in
      let left = call_legal vars _ _ (input_phase scan.inputs u) us scan.tick scan.instruction_watchdog (input_legal vars scan.inputs u legal) in
      rw e (b, scans_alike later _ _ _ _ left (same_variables _ _ _ _ scan.tick b.list_ended.same) b.list_ended.same.same_timers (rw e at h.1))

pub many_alike : (vars : ℕ) (kept : Kept) → OneScan vars kept → (scans : List Scan) (t u : List ℕ) (timers : List Timer) → ManyGiven vars kept scans t u timers
    → ManyAgree vars kept scans t timers u timers
many_alike vars kept demand3 scans t u timers g = scans_alike vars kept demand3 scans t u timers timers g.list_legal g.same refl g.ladders_end
