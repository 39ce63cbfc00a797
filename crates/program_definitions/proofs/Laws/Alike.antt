-- Every report of ladder-scan ends in `alike` or in `both stopped`, by demand 3 over the code's definition: case by case along the definitions of the output.
-- Assumes nothing.
use Rattle.std.specs.Prelude.{ℕ, ◌≡◌, take}
use Rattle.std.proofs.Math.Path.{refl, sym, ap}
use Rattle.std.proofs.Common.{◌∙◌}
use mathlib.Core.List.{List, [], ◌++◌, append_assoc}
use borrow.Author.Tests.{eq-eqb}
use Rattle.questions.proofs.Laws.Bytes.{same_refl}
use Rattle.questions.specs.Bytes.{bytes}
use Rattle.questions.specs.Questions.{Refusal}
use Rattle.table.specs.Halt.{Halt, Ended, Stopped}
use Rattle.table.specs.TimerRecords.{timer_numbers, timers_in}
use Rattle.table.proofs.Laws.TimerRecords.{numbers_back}
use Rattle.table.specs.State.{variables}
use Rattle.ladder_definitions.specs.Kept.{Kept}
use Rattle.ladder_definitions.specs.Questions.{most_rungs, most_words}
use Rattle.text_definitions.specs.Read.{ReadAnswer, read_text, kept, refused as read_refused}
use Rattle.list_definitions.specs.ListScan.{ListCounts, ListScanAnswer, scanned as list_scanned}
use Rattle.translation_definitions.specs.BothScans.{BothEnds, Lent, BothAnswer, BothCall, both, paired_scans, refused as scans_refused}
use Rattle.translation_definitions.specs.BothAgree.{PairedAgree}
use Rattle.translation_definitions.proofs.Laws.Boths.{both_left, both_given, asked_yes, both_scanned}
use Rattle.translation_definitions.proofs.Theorems.{paired_agree}
use Rattle.program_definitions.specs.Refusals.{refusal_line}
use Rattle.program_definitions.specs.Outcome.{output_of}
use Rattle.program_definitions.specs.Printout.{blank}
use Rattle.program_definitions.specs.Scanout.{end_word, scan_count_lines, end_lines, entered_lines, changed_lines, timer_lines, variable_names, unread_line, Verdict, alike, both_stopped, alike_if, verdict, verdict_line, report_of, report_lines, lent_for, kept_scanned, text_scanned, rest_scanned, outcome, output}

-- ---- the verdict

same_scan : {h g : Halt} {c d : ListCounts} → ◌≡◌ {A = ListScanAnswer} (list_scanned h c) (list_scanned g d) → (h ≡ g) × (c ≡ d)
same_scan e = (cc, cc)

-- how both halted, and the verdict
pub data Verdicts (e : BothEnds) (l t m u : List ℕ) : Type 0 where
  both_ended : e.ladder_halt ≡ Ended → e.list_halt ≡ Ended → verdict e l t m u ≡ alike → Verdicts e l t m u
  stopped_both : e.ladder_halt ≡ Stopped → e.list_halt ≡ Stopped → verdict e l t m u ≡ both_stopped → Verdicts e l t m u

module _ (vars : ℕ) (k : Kept) (table timers : List ℕ) (now n : ℕ) (e : BothEnds) (q : (paired_scans vars k table timers now (lent_for table timers) n).answer ≡ both e) where
  abbrev after : Lent
  after = (paired_scans vars k table timers now (lent_for table timers) n).lent

  agree : PairedAgree vars k table timers now (lent_for table timers).buffers n (paired_scans vars k table timers now (lent_for table timers) n).answer after
  agree = paired_agree vars k table timers now (lent_for table timers) n (both_given vars k table timers now (lent_for table timers) n _ e q).0

  same_ends : agree.ran.ends ≡ e
  same_ends = let z : both agree.ran.ends ≡ both e = sym agree.ran.answered ∙ q in cc

  -- the numbers that both scans left are those of the records that they left
  numbers_left : (after.ladder_timers ≡ timer_numbers (timers_in after.ladder_timers)) × (after.list_timers ≡ timer_numbers (timers_in after.list_timers))
  unfolding both_left
  numbers_left =
      let given = both_given vars k table timers now (lent_for table timers) n _ e q in
      let left = ap (λ (c : BothCall). c.lent) (both_scanned vars k table timers now (lent_for table timers) n _ (asked_yes vars k table timers now (lent_for table timers) n given.0 _ given.1)) in
      let ladder = ap (λ (x : Lent). x.ladder_timers) left in
      let list = ap (λ (x : Lent). x.list_timers) left in
      (ladder ∙ sym (ap timer_numbers (ap timers_in ladder ∙ numbers_back _)), list ∙ sym (ap timer_numbers (ap timers_in list ∙ numbers_back _)))

  abbrev l : List ℕ
  l = take vars after.ladder_table

  abbrev t : List ℕ
  t = take vars after.list_table

  pub verdicts : Verdicts e l t after.ladder_timers after.list_timers
  unfolding verdict alike_if variables
  verdicts = go e.ladder_halt refl
    where
      go : (h : Halt) → e.ladder_halt ≡ h → Verdicts e l t after.ladder_timers after.list_timers
      go Ended p =
          let x = agree.ended (ap (λ (d : BothEnds). d.ladder_halt) same_ends ∙ p) in
          let y = same_scan x.ended in
          let halt : e.list_halt ≡ Ended = sym (ap (λ (d : BothEnds). d.list_halt) same_ends) ∙ y.0 in
          let rungs : e.list.rungs ≡ e.ladder.rungs =
          sym (ap (λ (d : BothEnds). d.list.rungs) same_ends) ∙ ap (λ (c : ListCounts). c.rungs) y.1 ∙ x.rungs ∙ ap (λ (d : BothEnds). d.ladder.rungs) same_ends in
          let z = agree.same_sum (ap (λ (d : BothEnds). d.ladder_halt) same_ends ∙ p) in
          let moved : e.list.moved ≡ e.ladder.moved =
          sym (ap (λ (d : BothEnds). d.list.moved) same_ends) ∙ ap (λ (c : ListCounts). c.moved) (same_scan z.ended).1 ∙ z.same ∙ ap (λ (d : BothEnds). d.ladder.moved) same_ends in
          let records : after.ladder_timers ≡ after.list_timers = numbers_left.0 ∙ ap timer_numbers x.same.same_timers ∙ sym numbers_left.1 in
          both_ended p halt
          (rw (
            p,
            halt,
            eq-eqb e.ladder.rungs e.list.rungs (sym rungs),
            eq-eqb e.ladder.moved e.list.moved (sym moved),
            x.same.same_variables,
            same_refl t,
            records,
            same_refl after.list_timers,
          ) refl)
      go Stopped p =
          let x = agree.stopped (ap (λ (d : BothEnds). d.ladder_halt) same_ends ∙ p) in
          let halt : e.list_halt ≡ Stopped = sym (ap (λ (d : BothEnds). d.list_halt) same_ends) ∙ (same_scan x.stopped).0 in
          stopped_both p halt (rw (p, halt) refl)

-- ---- a line ends in LF

pub record EndsLine (xs : List ℕ) : Type 0 where
  pub before : List ℕ
  pub is : xs ≡ before ++ bytes "\n"

ends_self : EndsLine (bytes "\n")
ends_self = record { before = []; is = refl }

ends_after : (xs : List ℕ) {ys : List ℕ} → EndsLine ys → EndsLine (xs ++ ys)
ends_after xs e = record { before = xs ++ e.before; is = ap (λ z. xs ++ z) e.is ∙ sym (append_assoc xs e.before (bytes "\n")) }

-- ---- the report in literal bytes

unread_ends : (vs : List ℕ) → EndsLine (unread_line vs)
unfolding unread_line
unread_ends vs = ends_after (bytes "unread") (ends_after (variable_names vs) ends_self)

module _ (vars : ℕ) (no_contact table before : List ℕ) (e : BothEnds) (after : Lent) where
  abbrev ladder_left : List ℕ
  ladder_left = take vars after.ladder_table

  abbrev list_left : List ℕ
  list_left = take vars after.list_table

  abbrev counts : List ℕ
  counts = scan_count_lines e.ladder e.list

  abbrev entered : List ℕ
  entered = entered_lines (take e.counts.rungs after.buffers.labels) (take e.counts.rungs after.buffers.times)

  abbrev changed : List ℕ
  changed = changed_lines 0 (take vars table) ladder_left list_left

  abbrev worked : List ℕ
  worked = timer_lines 0 (timers_in before) (timers_in after.ladder_timers) (timers_in after.list_timers)

  abbrev names : List ℕ
  names = unread_line no_contact

  lines : EndsLine ((((counts ++ entered) ++ changed) ++ worked) ++ names)
  lines = ends_after (((counts ++ entered) ++ changed) ++ worked) (unread_ends no_contact)

  -- what stands between the line of ends and the verdict
  pub middle : List ℕ
  middle = lines.before

  joined : (head last : List ℕ) → head ++ (counts ++ (entered ++ (changed ++ (worked ++ (names ++ last))))) ≡ head ++ (middle ++ (bytes "\n" ++ last))
  unfolding middle
  joined head last =
      ap (λ z. head ++ z) (sym (append_assoc counts entered (changed ++ (worked ++ (names ++ last)))) ∙ sym (append_assoc (counts ++ entered) changed (worked ++ (names ++ last)))
      ∙ sym (append_assoc ((counts ++ entered) ++ changed) worked (names ++ last)) ∙ sym (append_assoc (((counts ++ entered) ++ changed) ++ worked) names last)
      ∙ ap (λ z. z ++ last) lines.is ∙ append_assoc lines.before (bytes "\n") last)

  ended_lines : e.ladder_halt ≡ Ended → e.list_halt ≡ Ended → end_lines e ≡ bytes "scan ladder list\nend Ended Ended\n" ++ counts
  unfolding end_lines end_word bytes
  ended_lines p q = rw (p, q) refl

  stopped_lines : e.ladder_halt ≡ Stopped → e.list_halt ≡ Stopped → end_lines e ≡ bytes "scan ladder list\nend Stopped Stopped\n" ++ counts
  unfolding end_lines end_word bytes
  stopped_lines p q = rw (p, q) refl

  report_is : (head : List ℕ) (x : Verdict) → end_lines e ≡ head ++ counts → verdict e ladder_left list_left after.ladder_timers after.list_timers ≡ x
      → report_lines vars no_contact table before e after ≡ head ++ (middle ++ (bytes "\n" ++ verdict_line x))
  unfolding report_lines report_of
  report_is head x p v =
      ap (λ z. z ++ (entered ++ (changed ++ (worked ++ (names ++ verdict_line (verdict e ladder_left list_left after.ladder_timers after.list_timers)))))) p
      ∙ ap (λ y. (head ++ counts) ++ (entered ++ (changed ++ (worked ++ (names ++ verdict_line y))))) v
      ∙ append_assoc head counts (entered ++ (changed ++ (worked ++ (names ++ verdict_line x)))) ∙ joined head (verdict_line x)

  pub ended_report : e.ladder_halt ≡ Ended → e.list_halt ≡ Ended → verdict e ladder_left list_left after.ladder_timers after.list_timers ≡ alike
      → report_lines vars no_contact table before e after ≡ bytes "scan ladder list\nend Ended Ended\n" ++ (middle ++ bytes "\nalike\n")
  unfolding verdict_line bytes
  ended_report p q v = report_is (bytes "scan ladder list\nend Ended Ended\n") alike (ended_lines p q) v

  pub stopped_report : e.ladder_halt ≡ Stopped → e.list_halt ≡ Stopped → verdict e ladder_left list_left after.ladder_timers after.list_timers ≡ both_stopped
      → report_lines vars no_contact table before e after ≡ bytes "scan ladder list\nend Stopped Stopped\n" ++ (middle ++ bytes "\nboth stopped\n")
  unfolding verdict_line bytes
  stopped_report p q v = report_is (bytes "scan ladder list\nend Stopped Stopped\n") both_stopped (stopped_lines p q) v

-- ---- the whole

module _ (P : List ℕ → Type 0) (refusals : (r : Refusal) → P (refusal_line r))
    (ends : (middle : List ℕ) → P (bytes "scan ladder list\nend Ended Ended\n" ++ (middle ++ bytes "\nalike\n")))
    (stops : (middle : List ℕ) → P (bytes "scan ladder list\nend Stopped Stopped\n" ++ (middle ++ bytes "\nboth stopped\n"))) where
  report_shown : (vars : ℕ) (no_contact table before : List ℕ) (e : BothEnds) (after : Lent)
      → Verdicts e (take vars after.ladder_table) (take vars after.list_table) after.ladder_timers after.list_timers → P (report_lines vars no_contact table before e after)
  report_shown vars no_contact table before e after (both_ended p q v) = rw (ended_report vars no_contact table before e after p q v) (ends (middle vars no_contact table before e after))
  report_shown vars no_contact table before e after (stopped_both p q v) = rw (stopped_report vars no_contact table before e after p q v) (stops (middle vars no_contact table before e after))

  kept_shown : (vars : ℕ) (k : Kept) (table timers : List ℕ) (now n : ℕ) → P (output_of (kept_scanned vars k table timers now n))
  unfolding kept_scanned output_of
  kept_shown vars k table timers now n = go (paired_scans vars k table timers now (lent_for table timers) n).answer refl
    where
      go : (a : BothAnswer) → (paired_scans vars k table timers now (lent_for table timers) n).answer ≡ a → P (output_of (kept_scanned vars k table timers now n))
      go (scans_refused refusal) e = rw (e, kept_scanned) (refusals refusal)
      go (both ends) e = rw (e, kept_scanned) (report_shown vars _ table timers ends _ (verdicts vars k table timers now n ends e))

  text_shown : (vars n : ℕ) (table timers : List ℕ) (now : ℕ) (text : List ℕ) → P (output_of (text_scanned vars n table timers now text))
  unfolding text_scanned output_of
  text_shown vars n table timers now text = go (read_text vars text (blank most_words most_rungs)).answer refl
    where
      go : (a : ReadAnswer) → (read_text vars text (blank most_words most_rungs)).answer ≡ a → P (output_of (text_scanned vars n table timers now text))
      go (read_refused refusal) e = rw (e, text_scanned) (refusals refusal)
      go (kept words rungs) e = rw (e, text_scanned) (kept_shown vars _ table timers now n)

  pub output_shown : (input : List ℕ) → P (output input)
  unfolding output outcome rest_scanned
  output_shown input = text_shown _ _ _ _ _ _
