-- Demand 3 over the code, from demand 3 over the calls' definitions. Assumes nothing.
use Rattle.std.specs.Prelude.{ℕ, ◌*◌, ◌≤◌, ◌≡◌, refl, length, take}
use Rattle.std.proofs.Common.{arith, ◌∙◌, eq-eqb, eqb→eq}
use Rattle.std.proofs.Math.Path.{sym, ap}
use Rattle.std.proofs.Math.Option.{none, some}
use mathlib.Core.List.{List, [], ◌∷◌, ◌++◌, map}
use Rattle.questions.specs.Questions.{Refusal, Answer, first_no, ask, question12, question13, most_rung_watchdog, most_instruction_watchdog}
use Rattle.questions.proofs.Laws.Answers.{ask_passed, first_yes, later_yes, watchdog_in_range, in_range_watchdog}
use Rattle.table.specs.Halt.{Halt, Ended, Stopped}
use Rattle.table.specs.Timer.{Timer}
use Rattle.table.specs.State.{State}
use Rattle.table.specs.TimerRecords.{timer_numbers, number_timers}
use Rattle.table.proofs.Laws.TimerRecords.{numbers_back}
use Rattle.rungs.specs.Records.{longest, sum}
use Rattle.rungs.specs.Buffers.{as_buffers, needs, written_over}
use Rattle.rungs.proofs.Laws.Filling.{first_written}
use Rattle.ladder_definitions.specs.Kept.{Kept}
use Rattle.ladder_definitions.specs.Meaning.{LadderResult, scan_ladder}
use Rattle.ladder_definitions.specs.Entries.{times_entered}
use Rattle.ladder_definitions.specs.Questions.{ladder_of, ladder_answer}
use Rattle.ladder_definitions.specs.LadderScan.{LadderCounts, counts_of as ladder_counts_of, scanned as ladder_scanned, scan_ends as ladder_ends}
use Rattle.ladder_definitions.proofs.Laws.Accepting.{accepted, ScanPassed, passed_scan, scan_passed}
use Rattle.ladder_definitions.proofs.Laws.Watchdog.{stopped_rungs, few_rungs}
use Rattle.list_definitions.specs.Instruction.{instr_word}
use Rattle.list_definitions.specs.Machine.{InstructionList, ListResult, scan_list}
use Rattle.list_definitions.specs.ListScan.{ListScanCall, call_list_scan, counts_of as list_counts_of, scan_ends as list_ends}
use Rattle.translation_definitions.specs.Translate.{translate}
use Rattle.translation_definitions.specs.TranslateKept.{counts_of, list_buffers}
use Rattle.translation_definitions.specs.Calls.{CallsAlike, CallsSums, CallsTimes}
use Rattle.translation_definitions.specs.BothScans.{Lent, lends, scanned_buffers, BothEnds, BothAnswer, both, refused, copy_question, both_questions, begun, both_scans, instruction_watchdog, paired_watchdog}
use Rattle.translation_definitions.specs.BothAgree.{BothGiven, BothRan, BothAgree, PairedAgree}
use Rattle.translation_definitions.proofs.Laws.Calls.{ladder_call_lem, list_call_lem, list_times, translate_call, given_passed, scans_alike}
use Rattle.translation_definitions.proofs.Laws.Legal.{watchdog_in_range as most_in_range}

-- ---- the questions

pub not_refused : {e : BothEnds} {r : Refusal} → ◌≡◌ {A = BothAnswer} (both e) (refused r) → ⊥
not_refused q = let z : ◌≡◌ {A = ℕ} 0 1 = cc in omega arith

pub copy_long : (number entries lent : ℕ) → copy_question number entries lent ≡ none → lent ≡ entries
unfolding copy_question
copy_long number entries lent e = eqb→eq lent entries (ask_passed number _ e)

pub long_copy : (number entries lent : ℕ) → lent ≡ entries → copy_question number entries lent ≡ none
unfolding copy_question ask
long_copy number entries lent e = rw (eq-eqb lent entries e)

module _ (vars : ℕ) (kept : Kept) (table timers : List ℕ) (now : ℕ) (lent : Lent) (n : ℕ) where
  abbrev asked : ℕ → Answer
  asked w = first_no (both_questions vars kept table timers lent n w)

  abbrev s : State
  s = begun vars table timers now

  -- what both scans do once every question got a "yes"
  unfoldable pub both_ends : ℕ → BothEnds
  both_ends w =
      let x = scan_ladder (ladder_of kept) n s in
      let y = scan_list (translate vars (ladder_of kept)) w s in
      record {
        counts = counts_of (translate vars (ladder_of kept));
        ladder_halt = x.halt;
        ladder = ladder_counts_of x;
        list_halt = y.halt;
        list = list_counts_of y;
      }

  unfoldable pub both_left : ℕ → Lent
  both_left w =
      let x = scan_ladder (ladder_of kept) n s in
      let y = scan_list (translate vars (ladder_of kept)) w s in
      lends x.state.bytes y.state.bytes (timer_numbers x.state.timers) (timer_numbers y.state.timers)
      (written_over (scanned_buffers (translate vars (ladder_of kept)) y.counts.times) lent.buffers)

  pub both_refused_lem : (w : ℕ) (r : Refusal) → asked w ≡ some r → both_scans vars kept table timers now lent n w ≡ record { answer = refused r; lent = lent }
  unfolding both_scans
  both_refused_lem w r e = rw (e, both_scans)

  pub both_scanned : (w : ℕ) → asked w ≡ none → both_scans vars kept table timers now lent n w ≡ record { answer = both (both_ends w); lent = both_left w }
  unfolding both_scans both_ends both_left
  both_scanned w e = rw (e, both_scans)

  -- every question got a "yes"
  pub both_passed : (w : ℕ) → asked w ≡ none → BothGiven vars kept table timers lent n × (question12 most_instruction_watchdog w ≡ none)
  unfolding both_questions
  both_passed w e =
      let p = scan_passed vars kept table (number_timers timers) n (first_yes _ _ e) in
      let e1 = later_yes _ _ e in
      let e2 = later_yes _ _ e1 in
      let e3 = later_yes _ _ e2 in
      let e4 = later_yes _ _ e3 in
      let e5 = later_yes _ _ e4 in
      let e6 = later_yes _ _ e5 in (
        record {
          given = record {
            accepted = p.accepted;
            room = first_yes _ _ e6;
            legal = p.legal_table;
            timers_legal = p.legal_timers;
            timers_known = p.known_timers;
            watchdog = p.watchdog;
          };
          ladder_copy = copy_long 11 _ _ (first_yes _ _ e3);
          list_copy = copy_long 11 _ _ (first_yes _ _ e4);
          ladder_timers_copy = copy_long 16 _ _ (first_yes _ _ e1);
          list_timers_copy = copy_long 16 _ _ (first_yes _ _ e2);
        },
        first_yes _ _ e5,
      )

  -- both scans ran: every question got a "yes"
  pub both_given : (w : ℕ) (e : BothEnds) → (both_scans vars kept table timers now lent n w).answer ≡ both e
      → BothGiven vars kept table timers lent n × (question12 most_instruction_watchdog w ≡ none)
  both_given w e q = go (asked w) refl
    where
      go : (a : Answer) → asked w ≡ a → BothGiven vars kept table timers lent n × (question12 most_instruction_watchdog w ≡ none)
      go (some r) a = absurd (not_refused (sym q ∙ ap (λ c. c.answer) (both_refused_lem w r a)))
      go none a = both_passed w a

  -- a refusal leaves all that was lent
  pub refusal_leaves : (w : ℕ) (r : Refusal) → (both_scans vars kept table timers now lent n w).answer ≡ refused r → (both_scans vars kept table timers now lent n w).lent ≡ lent
  refusal_leaves w r q = go (asked w) refl
    where
      go : (a : Answer) → asked w ≡ a → (both_scans vars kept table timers now lent n w).lent ≡ lent
      go (some y) a = ap (λ c. c.lent) (both_refused_lem w y a)
      go none a = absurd (not_refused (sym (ap (λ c. c.answer) (both_scanned w a)) ∙ q))

-- ---- k × L and 2 × n are legal

module _ (vars : ℕ) (kept : Kept) (table timers : List ℕ) (now n : ℕ) (ok : ladder_answer vars kept ≡ none) (watchdog : question12 most_rung_watchdog n ≡ none) where
  abbrev x : LadderResult
  x = scan_ladder (ladder_of kept) n (begun vars table timers now)

  abbrev most : ℕ
  most = longest (translate vars (ladder_of kept)).records

  halt_legal : (h : Halt) → question12 most_instruction_watchdog (instruction_watchdog h x.rungs most n) ≡ none
  unfolding instruction_watchdog
  halt_legal Ended =
      let few = few_rungs (ladder_of kept) n (begun vars table timers now) in
      let within = watchdog_in_range most_rung_watchdog n watchdog in
      most_in_range vars (ladder_of kept) (accepted vars kept ok).1 x.rungs (omega arith)
  halt_legal Stopped =
      let within = watchdog_in_range most_rung_watchdog n watchdog in
      in_range_watchdog most_instruction_watchdog (2 * n) (omega arith)

  pub paired_legal : question12 most_instruction_watchdog (paired_watchdog vars kept table timers now n) ≡ none
  unfolding paired_watchdog
  paired_legal = halt_legal x.halt

-- ---- demand 3

module _ (vars : ℕ) (kept : Kept) (table timers : List ℕ) (now : ℕ) (lent : Lent) (n : ℕ) (given : BothGiven vars kept table timers lent n) where
  abbrev records : List Timer
  records = number_timers timers

  abbrev begins : State
  begins = begun vars table timers now

  passed : ScanPassed vars kept table records n
  passed = given_passed vars kept lent.buffers table records n given.given

  pub asked_yes : (w : ℕ) → question12 most_instruction_watchdog w ≡ none → first_no (both_questions vars kept table timers lent n w) ≡ none
  unfolding both_questions first_no
  asked_yes w h =
      rw (
        passed_scan vars kept table records n passed,
        long_copy 16 _ _ given.ladder_timers_copy,
        long_copy 16 _ _ given.list_timers_copy,
        long_copy 11 _ _ given.ladder_copy,
        long_copy 11 _ _ given.list_copy,
        h,
        given.given.room,
      )

  module _ (w : ℕ) (h : question12 most_instruction_watchdog w ≡ none) where
    is : both_scans vars kept table timers now lent n w ≡ record { answer = both (both_ends vars kept table timers now lent n w); lent = both_left vars kept table timers now lent n w }
    is = both_scanned vars kept table timers now lent n w (asked_yes w h)

    abbrev list : InstructionList
    list = translate vars (ladder_of kept)

    abbrev scan : ListResult
    scan = scan_list list w begins

    called : call_list_scan vars (map instr_word list.code) list.records table records now w ≡ list_ends scan
    called = list_call_lem vars kept table records now n passed w h

    times_told : (length scan.counts.times ≡ length list.records) × (sum scan.counts.times ≡ scan.counts.rungs)
    times_told = list_times vars kept table records now n passed w h

    -- the times stand first in their buffer
    taken_times : take (length list.records) (both_left vars kept table timers now lent n w).buffers.times ≡ scan.counts.times
    unfolding both_left written_over as_buffers
    taken_times = first_written (length list.records) scan.counts.times lent.buffers.times times_told.0

    ran : BothRan vars kept lent.buffers n (both_scans vars kept table timers now lent n w).answer (both_scans vars kept table timers now lent n w).lent
    unfolding both_ends both_left written_over as_buffers counts_of
    ran =
        let t = translate_call vars kept lent.buffers given.given.accepted given.given.room in
        record {
          ends = both_ends vars kept table timers now lent n w;
          answered = ap (λ c. c.answer) is;
          translated = ap (λ c. c.answer) t;
          same_list = rw (is, t) refl;
          times_add_up = rw is (ap sum taken_times ∙ times_told.1);
          stopped_at = stopped_rungs (ladder_of kept) n begins;
        }

    times_are : (scan_ladder (ladder_of kept) n begins).halt ≡ Ended → (scan_ladder (ladder_of kept) n begins).rungs * longest list.records ≤ w
        → scan.counts.times ≡ times_entered (ladder_of kept) n begins
    unfolding CallsTimes ladder_ends list_ends
    times_are e room =
        let a = scans_alike vars kept table records now n passed in
        let c : LadderCounts = ladder_counts_of (scan_ladder (ladder_of kept) n begins) in
        let ladder = ladder_call_lem vars kept table records now n passed in
        let answer = ap (λ x. x.answer) ladder ∙ ap (λ g. ladder_scanned g c) e in
        sym (ap (λ (x : ListScanCall). x.times []) called) ∙ a.times w c answer h room []

    pub both_alike : BothAgree vars kept table timers now lent.buffers n w (both_scans vars kept table timers now lent n w).answer (both_scans vars kept table timers now lent n w).lent
    unfolding ran both_ends both_left CallsAlike CallsSums CallsTimes ladder_ends list_ends counts_of
    both_alike =
        let d = scans_alike vars kept table records now n passed in
        let ladder = ladder_call_lem vars kept table records now n passed in
        let list = list_call_lem vars kept table records now n passed w h in
        let a = rw (ladder, list) at (d.alike w) in
        let b = rw (ladder, list) at (d.sums w) in
        record {
          ran = ran;
          alike = rw (is, numbers_back (scan_ladder (ladder_of kept) n begins).state.timers, numbers_back scan.state.timers) a;
          sums = b;
          times = λ e room. rw is (taken_times ∙ times_are e room);
        }

  pub both_runs : (w : ℕ) → question12 most_instruction_watchdog w ≡ none → (e : BothEnds) × ((both_scans vars kept table timers now lent n w).answer ≡ both e)
  both_runs w h = (both_ends vars kept table timers now lent n w, ap (λ c. c.answer) (both_scanned vars kept table timers now lent n w (asked_yes w h)))

  abbrev w : ℕ
  w = paired_watchdog vars kept table timers now n

  pub paired_alike : PairedAgree vars kept table timers now lent.buffers n (both_scans vars kept table timers now lent n w).answer (both_scans vars kept table timers now lent n w).lent
  unfolding ran both_alike both_ends paired_watchdog instruction_watchdog
  paired_alike =
      let h = paired_legal vars kept table timers now n given.given.accepted given.given.watchdog in
      let a = both_alike w h in
      let c : LadderCounts = ladder_counts_of (scan_ladder (ladder_of kept) n begins) in
      record {
        ran = a.ran;
        ended = λ e. a.alike.ended c (ap (λ g. ladder_scanned g c) e) h (rw e (omega arith));
        same_sum = λ e. a.sums.ended c (ap (λ g. ladder_scanned g c) e) h (rw e (omega arith));
        times = λ e. a.times e (rw e (omega arith));
        stopped = λ e. a.alike.stopped c (ap (λ g. ladder_scanned g c) e) (rw e (omega arith));
      }
