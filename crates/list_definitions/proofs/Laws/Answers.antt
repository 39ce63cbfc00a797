-- What an answer of List scan tells: of the scan, of its writes, and of the times entered. Assumes nothing.
use Rattle.std.specs.Prelude.{ℕ, ◌≤◌, List}
use Rattle.std.proofs.Common.{arith, ◌∙◌}
use Rattle.std.proofs.Math.Path.{◌≡◌, refl, sym, ap}
use Rattle.std.proofs.Math.Option.{none, some}
use Rattle.std.proofs.Math.Facts.{yes_and}
use Rattle.std.proofs.Math.Dec.{T}
use Rattle.std.proofs.Math.ListN.{length, length-map}
use Rattle.questions.specs.Questions.{Refusal, Answer, first_no, question1, question12, most_instruction_watchdog}
use Rattle.questions.proofs.Laws.Answers.{ask_passed, first_yes, later_yes}
use Rattle.table.specs.Timer.{Timer}
use Rattle.table.specs.State.{State, state_of}
use Rattle.table.specs.Halt.{Halt}
use Rattle.table.specs.Questions.{question11, question16}
use Rattle.table.specs.Writes.{WritesTell}
use Rattle.table.proofs.Laws.Changes.{makes_tell}
use Rattle.rungs.specs.Records.{RungRecord, laid, sum}
use Rattle.list_definitions.specs.Instruction.{code_of}
use Rattle.list_definitions.specs.Machine.{ListResult, scan_list}
use Rattle.list_definitions.specs.Questions.{records_laid, list_in_range, question10, question17}
use Rattle.list_definitions.specs.ListScan.{ListCounts, ListScanCall, counts_of, scanned, refused, list_of, scan_ends, scan_questions, call_list_scan}
use Rattle.list_definitions.specs.Writes.{list_writes}
use Rattle.list_definitions.specs.Decoding.{instr_of}
use Rattle.list_definitions.proofs.Laws.InRange.{InRange, list_in_range_lem}
use Rattle.list_definitions.proofs.Laws.Times.{each_time, times_sum}
use Rattle.list_definitions.proofs.Laws.Watchdog.{list_within}
use Rattle.list_definitions.proofs.Laws.Writes.{list_makes, list_moved}

-- List scan's questions all got a "yes"
pub record ScanPassed (vars : ℕ) (words : List ℕ) (rs : List RungRecord) (table : List ℕ) (timers : List Timer) (w : ℕ) : Type 0 where
  pub range : question1 vars ≡ none
  pub legal_timers : question16 vars timers ≡ none
  pub list : question10 vars words rs ≡ none
  pub known_timers : question17 (length timers) (code_of words) ≡ none
  pub legal_table : question11 vars table ≡ none
  pub watchdog : question12 most_instruction_watchdog w ≡ none

module _ (vars : ℕ) (words : List ℕ) (rs : List RungRecord) (table : List ℕ) (timers : List Timer) (w : ℕ) where
  pub passed_scan : ScanPassed vars words rs table timers w → scan_questions vars words rs table timers w ≡ none
  unfolding scan_questions first_no
  passed_scan p = rw (p.range, p.legal_timers, p.list, p.known_timers, p.legal_table, p.watchdog)

  pub scan_passed : scan_questions vars words rs table timers w ≡ none → ScanPassed vars words rs table timers w
  unfolding scan_questions
  scan_passed e =
      let e16 = later_yes (question1 vars) _ e in
      let e10 = later_yes (question16 vars timers) _ e16 in
      let e17 = later_yes (question10 vars words rs) _ e10 in
      let e11 = later_yes (question17 (length timers) (code_of words)) _ e17 in
      let e12 = later_yes (question11 vars table) _ e11 in
      record {
        range = first_yes (question1 vars) _ e;
        legal_timers = first_yes (question16 vars timers) _ e16;
        list = first_yes (question10 vars words rs) _ e10;
        known_timers = first_yes (question17 (length timers) (code_of words)) _ e17;
        legal_table = first_yes (question11 vars table) _ e11;
        watchdog = first_yes (question12 most_instruction_watchdog w) _ e12;
      }

module _ (vars : ℕ) (words : List ℕ) (rs : List RungRecord) (table : List ℕ) (timers : List Timer) (now w : ℕ) where
  abbrev begun : State
  begun = state_of vars table timers now

  abbrev scan : ListResult
  scan = scan_list (list_of words rs) w begun

  abbrev made : ListScanCall
  made = call_list_scan vars words rs table timers now w

  -- every question got a "yes", and the list was scanned
  pub record Asked : Type 0 where
    pub passed : ScanPassed vars words rs table timers w
    pub in_range : InRange vars words rs
    pub call : made ≡ scan_ends scan

  module _ (h : Halt) (c : ListCounts) (e : made.answer ≡ scanned h c) where
    pub asked : Asked
    unfolding call_list_scan question10
    asked = go (scan_questions vars words rs table timers w) refl
      where
        go : (a : Answer) → scan_questions vars words rs table timers w ≡ a → Asked
        go none q =
            let p = scan_passed vars words rs table timers w q in
            record { passed = p; in_range = list_in_range_lem vars words rs (ask_passed 10 (list_in_range vars words rs) p.list); call = rw (q, call_list_scan) }
        go (some refusal) q =
            let r : refused refusal ≡ scanned h c = rw (q, call_list_scan) at e in
            let z : ◌≡◌ {A = ℕ} 0 1 = cc in
            absurd (omega arith)

    -- its counts are those of the scan
    pub counted : counts_of scan ≡ c
    unfolding scan_ends
    counted = let z : scanned scan.halt (counts_of scan) ≡ scanned h c = sym (ap (λ y. y.answer) asked.call) ∙ e in cc

    pub writes_tell : WritesTell vars (list_writes (list_of words rs) w begun) table c.moved made.table
    unfolding scan_ends
    writes_tell = rw (asked.call, ← counted) (makes_tell vars _ table timers now scan.state asked.passed.legal_table (list_makes (list_of words rs) w begun))

    pub sum_few : c.moved ≤ c.instructions
    sum_few = let few = list_moved (list_of words rs) w begun in rw (← counted) (omega arith)

    pub instructions_few : c.instructions ≤ w
    instructions_few = rw (← counted) (list_within (list_of words rs) w begun).instructions

    pub times_tell : (before : List ℕ) → (length (made.times before) ≡ length rs) × (sum (made.times before) ≡ c.rungs)
    unfolding scan_ends list_of records_laid
    times_tell before =
        let a = asked.in_range in
        let long = ap (λ is. length is) a.printed ∙ length-map words instr_of in
        let laid_all : T (records_laid (length (code_of words)) rs) = rw long (yes_and (laid 0 (length words) rs) _ a.lies a.some_length) in
        rw (asked.call, ← counted) (each_time (list_of words rs) laid_all w begun, times_sum (list_of words rs) laid_all w begun)

  pub times_left : (r : Refusal) → made.answer ≡ refused r → (before : List ℕ) → made.times before ≡ before
  unfolding call_list_scan scan_ends
  times_left r e before = go (scan_questions vars words rs table timers w) refl
    where
      go : (a : Answer) → scan_questions vars words rs table timers w ≡ a → made.times before ≡ before
      go (some refusal) q = rw (q, call_list_scan)
      go none q =
          let z : scanned scan.halt (counts_of scan) ≡ refused r = rw (q, call_list_scan) at e in
          let n : ◌≡◌ {A = ℕ} 0 1 = cc in
          absurd (omega arith)
