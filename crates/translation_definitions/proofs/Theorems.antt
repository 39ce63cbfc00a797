-- What is promised of ladders and their lists, over trees and over the calls; the proofs are in Laws. Assumes nothing.
use Rattle.std.specs.Prelude.{ℕ, ◌*◌, ◌≤◌, ◌≡◌, refl, ◌↔◌, T, length, take}
use Rattle.std.proofs.Math.Option.{some}
use mathlib.Core.List.{List, [], ◌∷◌, map, flat_map}
use Rattle.questions.specs.Tests.{all}
use Rattle.questions.specs.Questions.{Refusal, yes, first_no, question12, most_rung_watchdog, most_instruction_watchdog}
use Rattle.questions.proofs.Laws.Answers.{ask_passed, passed_ask, each_passed}
use Rattle.table.specs.Timer.{Timer}
use Rattle.table.specs.State.{State, table_size}
use Rattle.table.specs.Questions.{question11, question16, Legal}
use Rattle.table.proofs.Laws.Alike.{alike_self}
use Rattle.rungs.specs.Records.{lay, start_of, longest, none_entered}
use Rattle.rungs.specs.Buffers.{Buffers, as_buffers}
use Rattle.rows.specs.declared.Rung.{Rung}
use Rattle.rows.specs.Rows.{records_of, times_of}
use Rattle.ladder_definitions.specs.Tree.{Ladder}
use Rattle.ladder_definitions.specs.Kept.{Kept, encode}
use Rattle.ladder_definitions.specs.Questions.{question6, scratch_in_range, question9, question17, rung_below, ladder_of, ladder_answer, Accepted}
use Rattle.list_definitions.specs.Instruction.{instr_word, decode_code}
use Rattle.list_definitions.specs.Machine.{InstructionList}
use Rattle.list_definitions.specs.Questions.{instr_in_range, question10, question17 as list_question17}
use Rattle.translation_definitions.specs.Translate.{rung_code, translate, code_bound}
use Rattle.translation_definitions.specs.TranslateKept.{Counts, translated, translate_kept, TranslateDone, Translated}
use Rattle.translation_definitions.specs.Agreement.{Agreement, SumsAgree, TimesAgree}
use Rattle.translation_definitions.specs.Calls.{Given, ScansAgree, CallsAgree, TimersRefused}
use Rattle.translation_definitions.specs.RowsAgree.{kept_in, RowsAgree}
use Rattle.translation_definitions.proofs.Laws.Answers.{no_times}
use Rattle.translation_definitions.proofs.Laws.Lists.{start, records_are, start_near, translated_agrees, translated_sums, translated_times}
use Rattle.translation_definitions.proofs.Laws.Legal.{list_in_range_lem, list_decodes, watchdog_in_range, codes_in_range, codes_short}
use Rattle.translation_definitions.proofs.Laws.Exact.{codes_within}
use Rattle.translation_definitions.proofs.Laws.Timed.{same_question17}
use Rattle.translation_definitions.specs.BothScans.{Lent, BothEnds, both, refused, both_scans, paired_scans}
use Rattle.translation_definitions.specs.BothAgree.{BothGiven, BothPromise, PairedPromise}
use Rattle.translation_definitions.proofs.Laws.Boths.{both_given, both_runs, refusal_leaves, both_alike, paired_alike}
use Rattle.translation_definitions.proofs.Laws.Calls.{scans_alike, calls_alike}
use Rattle.translation_definitions.proofs.Laws.Refused.{timers_refused}
use Rattle.translation_definitions.specs.ManyScans.{Scan, ManyGiven, ManyAgree}
use Rattle.translation_definitions.proofs.Laws.Many.{many_alike}
use Rattle.translation_definitions.proofs.Laws.Rows.{rows_alike}

-- Demand 3: for every accepted ladder of V variables, every legal table, every rung watchdog n and every instruction watchdog.
pub agreement : (gs : Ladder) (s : State) (n : ℕ) → Accepted s.vars gs → Legal s → Agreement 2 gs (translate s.vars gs) s n
agreement gs s n accepted legal = translated_agrees s.vars gs accepted s n (alike_self s legal)

-- 02, Req 02: for the same ladders, tables and watchdogs, "When a ladder scan ends, its list, scanned as in demand 3, reports the same sum."
pub same_sum : (gs : Ladder) (s : State) (n : ℕ) → Accepted s.vars gs → Legal s → SumsAgree gs (translate s.vars gs) s n
same_sum gs s n accepted legal = translated_sums s.vars gs accepted s n (alike_self s legal)

-- 02, Req 04, beyond the request, for the same ladders, tables and watchdogs: where the ladder scan ended, each rung's field is how often the ladder scan entered
-- that rung. That the fields add up to the rungs entered holds of every list: list_definitions.Theorems.
pub same_times : (gs : Ladder) (s : State) (n : ℕ) → Accepted s.vars gs → Legal s → TimesAgree gs (translate s.vars gs) s n
same_times gs s n accepted legal = translated_times s.vars gs accepted s n (alike_self s legal)

-- An accepted ladder's list gets a "yes" to question 10,
pub list_accepted : (vars : ℕ) (gs : Ladder) → Accepted vars gs → question10 vars (map instr_word (translate vars gs).code) (translate vars gs).records ≡ yes
list_accepted vars gs accepted = list_in_range_lem vars gs accepted

-- its words decode to its instructions,
pub list_decoded : (vars : ℕ) (gs : Ladder) → Accepted vars gs → decode_code (map instr_word (translate vars gs).code) ≡ some (translate vars gs).code
list_decoded vars gs accepted = list_decodes vars gs accepted

-- 02, Req 06: question 17 gets the same answer for it as for the ladder, whatever the number of records,
pub same_timed : (vars records : ℕ) (gs : Ladder) → Accepted vars gs → question17 records gs ≡ list_question17 records (translate vars gs).code
same_timed vars records gs accepted = same_question17 vars records gs accepted

-- and k × L is a legal instruction watchdog for every k up to 65,535.
pub watchdog_accepted : (vars : ℕ) (gs : Ladder) → Accepted vars gs → (k : ℕ) → k ≤ most_rung_watchdog
    → question12 most_instruction_watchdog (k * longest (translate vars gs).records) ≡ yes
watchdog_accepted vars gs accepted k h = watchdog_in_range vars gs accepted k h

-- How a ladder's list stands: its instructions are the code of its rungs, one after the other, with every jump "to the first instruction of the target rung",
-- where that rung's record begins; and the record of each rung has its label, and as its length the length of that code.
pub record ListStands (vars : ℕ) (gs : Ladder) (list : InstructionList) : Type 0 where
  pub code : list.code ≡ flat_map (rung_code vars (start_of list.records)) gs
  pub records : list.records ≡ lay (λ g. g.label) (λ g. length (rung_code vars (start_of list.records) g)) 0 gs

pub list_stands : (vars : ℕ) (gs : Ladder) → ListStands vars gs (translate vars gs)
unfolding translate
list_stands vars gs = record { code = refl; records = records_are vars gs }

-- A ladder's list has at most two instructions for a kept word.
pub few_instructions : (vars : ℕ) (gs : Ladder) → length (translate vars gs).code ≤ code_bound (length (encode gs).words)
unfolding translate encode
few_instructions vars gs = codes_short vars (start vars gs) gs

-- Question 9 is exact: it gets a "no" only if F and R pass t31. Whatever else stands in the list, variables and jumps, is in range.
pub scratch_exactly : (vars : ℕ) (gs : Ladder) → question6 vars gs ≡ yes
    → (question9 gs ≡ yes) ↔ T (all (instr_in_range (table_size vars) (length (translate vars gs).code)) (translate vars gs).code)
unfolding question6 question9 scratch_in_range translate
scratch_exactly vars gs variables = (
  (λ e. codes_in_range vars _ (start vars gs) (start_near vars gs) gs (each_passed 6 (rung_below vars) gs variables) (ask_passed 9 _ e)),
  (λ h. passed_ask 9 _ (codes_within vars _ (start vars gs) gs h)),
)

-- 02, Req 04: "calls that write records put 0": the fields of the records that Translate wrote.
pub written_times : (vars : ℕ) (kept : Kept) (lent : Buffers) (counts : Counts) → (translate_kept vars kept lent).answer ≡ translated counts
    → take counts.rungs (translate_kept vars kept lent).buffers.times ≡ none_entered counts.rungs
written_times vars kept lent counts e = no_times vars kept lent counts e

-- Demand 3 over the calls Ladder scan and List scan: for every kept ladder of V variables that is accepted, its list in words and records,
-- every legal table, every timer records that 16 and 17 take, every `now` and every rung watchdog n.
pub scans_agree : (vars : ℕ) (kept : Kept) (table : List ℕ) (timers : List Timer) (now n : ℕ)
    → ladder_answer vars kept ≡ yes → question11 vars table ≡ yes → question16 vars timers ≡ yes → question17 (length timers) (ladder_of kept) ≡ yes
    → question12 most_rung_watchdog n ≡ yes
    → ScansAgree vars kept (map instr_word (translate vars (ladder_of kept)).code) (translate vars (ladder_of kept)).records (longest (translate vars (ladder_of kept)).records)
    table timers now n
scans_agree vars kept table timers now n accepted legal timers_legal timers_known watchdog = scans_alike vars kept table timers now n
    (record { accepted = accepted; legal_timers = timers_legal; known_timers = timers_known; legal_table = legal; watchdog = watchdog })

-- 02, Req 06: where 16 says "no", and where 16 says "yes" and 17 "no", both scans refuse alike, whatever the table, the tick and the watchdogs.
pub timers_refused_alike : (vars : ℕ) (kept : Kept) (table : List ℕ) (timers : List Timer) (now n w : ℕ) (refusal : Refusal) → ladder_answer vars kept ≡ yes
    → first_no (question16 vars timers ∷ question17 (length timers) (ladder_of kept) ∷ []) ≡ some refusal
    → TimersRefused vars kept (map instr_word (translate vars (ladder_of kept)).code) (translate vars (ladder_of kept)).records table timers now n w refusal
timers_refused_alike vars kept table timers now n w refusal accepted e = timers_refused vars kept table timers now n w refusal accepted e

-- The same with the list that Translate writes into lent buffers with room enough, taken out of them again.
pub calls_agree : (vars : ℕ) (kept : Kept) (lent : Buffers) (table : List ℕ) (timers : List Timer) (now n : ℕ) → Given vars kept lent table timers n
    → CallsAgree vars kept lent table timers now n
calls_agree vars kept lent table timers now n given = calls_alike vars kept lent table timers now n given

-- Demand 3 over the code: what both_scans answers and leaves, by its definition, for all watchdogs n and w,
pub both_agree : (vars : ℕ) (kept : Kept) (table timers : List ℕ) (now : ℕ) (lent : Lent) (n w : ℕ)
    → BothPromise vars kept table timers now lent n w (both_scans vars kept table timers now lent n w).answer (both_scans vars kept table timers now lent n w).lent
both_agree vars kept table timers now lent n w given legal = both_alike vars kept table timers now lent n given w legal

-- and what paired_scans does, whose instruction watchdog is k × L or 2 × n.
pub paired_agree : (vars : ℕ) (kept : Kept) (table timers : List ℕ) (now : ℕ) (lent : Lent) (n : ℕ)
    → PairedPromise vars kept table timers now lent n (paired_scans vars kept table timers now lent n).answer (paired_scans vars kept table timers now lent n).lent
paired_agree vars kept table timers now lent n given = paired_alike vars kept table timers now lent n given

-- Both scans run exactly where ladder, table, timer records, copies, watchdogs and room are as demand 3 has them; else a question is refused, and all that was
-- lent stays.
pub both_exactly : (vars : ℕ) (kept : Kept) (table timers : List ℕ) (now : ℕ) (lent : Lent) (n w : ℕ)
    → ((e : BothEnds) × ((both_scans vars kept table timers now lent n w).answer ≡ both e))
    ↔ (BothGiven vars kept table timers lent n × (question12 most_instruction_watchdog w ≡ yes))
both_exactly vars kept table timers now lent n w =
    ((λ x. both_given vars kept table timers now lent n w x.0 x.1), (λ x. both_runs vars kept table timers now lent n x.0 w x.1))

pub both_refusal_leaves : (vars : ℕ) (kept : Kept) (table timers : List ℕ) (now : ℕ) (lent : Lent) (n w : ℕ) (r : Refusal)
    → (both_scans vars kept table timers now lent n w).answer ≡ refused r → (both_scans vars kept table timers now lent n w).lent ≡ lent
both_refusal_leaves vars kept table timers now lent n w r e = refusal_leaves vars kept table timers now lent n w r e

-- Beyond demand 3: over any number of scans, an input phase before each, a tick for each and the timer records handed on, a ladder and its list agree after
-- every one. Of Translate it takes scans-agree alone.
pub many_scans : (vars : ℕ) (kept : Kept) (scans : List Scan) (t u : List ℕ) (timers : List Timer) → ManyGiven vars kept scans t u timers
    → ManyAgree vars kept scans t timers u timers
many_scans vars kept scans t u timers given = many_alike vars kept (λ table ts now n. scans_agree vars kept table ts now n given.accepted) scans t u timers given

-- Demand 3 over rows of rung records: for every answer, and all code words and records, that Translate over rows may leave by its promise.
pub rows_agree : (vars : ℕ) (words : List ℕ) (row : List Rung) (code : List ℕ) (code_row : List Rung) (table : List ℕ) (timers : List Timer) (now n : ℕ)
    → Given vars (kept_in words row) (as_buffers code (records_of code_row) (times_of code_row)) table timers n
    → (answer : Translated) (code' : List ℕ) (code_row' : List Rung)
    → TranslateDone (translate_kept vars (kept_in words row) (as_buffers code (records_of code_row) (times_of code_row))) answer
    (as_buffers code' (records_of code_row') (times_of code_row'))
    → RowsAgree vars (kept_in words row) answer code' code_row' table timers now n
rows_agree vars words row code code_row table timers now n given answer code' code_row' done =
    rows_alike vars (kept_in words row) (as_buffers code (records_of code_row) (times_of code_row)) table timers now n given code' code_row' answer done
