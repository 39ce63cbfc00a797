-- What the program ladder-scan prints, from the whole input: both scans of a ladder and its list side by side. README, "ladder-scan". Assumes nothing.
use Rattle.std.specs.Prelude.{ℕ, suc, ◌+◌, ◌*◌, Bool, true, false, ◌&&◌, List, [], ◌∷◌, ◌++◌, eqb, take}
use Rattle.questions.specs.Bytes.{bytes, decimal, same_bytes}
use Rattle.questions.specs.Questions.{most_variables}
use Rattle.table.specs.Timer.{Timer}
use Rattle.table.specs.TimerRecords.{numbers_of, timer_numbers, timers_in}
use Rattle.table.specs.Halt.{Halt, Ended, Stopped}
use Rattle.rungs.specs.Records.{most_records}
use Rattle.ladder_definitions.specs.Kept.{Kept}
use Rattle.ladder_definitions.specs.Questions.{ladder_of, most_rungs, most_words}
use Rattle.ladder_definitions.specs.LadderScan.{LadderCounts}
use Rattle.text_definitions.specs.Read.{read_text, kept, written_kept, refused as read_refused}
use Rattle.list_definitions.specs.Questions.{most_instructions}
use Rattle.list_definitions.specs.ListScan.{ListCounts}
use Rattle.translation_definitions.specs.BothScans.{BothEnds, Lent, lends, both, paired_scans, refused as scans_refused}
use Rattle.noninterference.specs.Contacts.{unread}
use Rattle.program_definitions.specs.Lines.{first_line, text_after, variables_of, watchdog_of, table_of, most_kept}
use Rattle.program_definitions.specs.TimerLines.{now_taken, timers_taken, held_timers, most_rest}
use Rattle.program_definitions.specs.Outcome.{Outcome, printed, refused, output_of}
use Rattle.program_definitions.specs.Printout.{blank}

unfoldable pub end_word : Halt → List ℕ
end_word Ended = bytes "Ended"
end_word Stopped = bytes "Stopped"

-- for ladder and list side by side the rungs entered, the instructions carried out, and how many times a variable was turned over (02, Req 02)
unfoldable pub scan_count_lines : LadderCounts → ListCounts → List ℕ
scan_count_lines k c =
    bytes "rungs " ++ (decimal k.rungs ++ (bytes " " ++ (decimal c.rungs ++ (bytes "\ninstructions - " ++ (decimal c.instructions
    ++ (bytes "\nmoved " ++ (decimal k.moved ++ (bytes " " ++ (decimal c.moved ++ bytes "\n")))))))))

-- how each ended, and its counts
unfoldable pub end_lines : BothEnds → List ℕ
end_lines e =
    bytes "scan ladder list\nend " ++ (end_word e.ladder_halt ++ (bytes " " ++ (end_word e.list_halt ++ (bytes "\n" ++ scan_count_lines e.ladder e.list))))

-- 02, Req 04, "the times entered": a rung's label and how often the list scan entered it. The ladder scan counts no times; in its place stands "-".
unfoldable pub entered_line : ℕ → ℕ → List ℕ
entered_line label times = bytes "L" ++ (decimal label ++ (bytes " - " ++ (decimal times ++ bytes "\n")))

-- "which rungs a scan went through": a line for each rung that was entered, in the order of the row
unfoldable pub entered_lines : List ℕ → List ℕ → List ℕ
entered_lines [] ns = []
entered_lines (l ∷ ls) [] = []
entered_lines (l ∷ ls) (n ∷ ns) = elim (eqb n 0) [ true ↦ [] | false ↦ entered_line l n ] ++ entered_lines ls ns

-- a variable's value before and after in the ladder's table, and before and after in the list's
unfoldable pub changed_line : ℕ → ℕ → ℕ → ℕ → List ℕ
changed_line v b l t =
    bytes "v" ++ (decimal v ++ (bytes " " ++ (decimal b ++ (bytes ">" ++ (decimal l ++ (bytes " " ++ (decimal b ++ (bytes ">" ++ (decimal t ++ bytes "\n")))))))))

-- a line for each variable that changed in either
unfoldable pub changed_lines : ℕ → List ℕ → List ℕ → List ℕ → List ℕ
changed_lines v [] ls ts = []
changed_lines v (b ∷ bs) [] ts = []
changed_lines v (b ∷ bs) (l ∷ ls) [] = []
changed_lines v (b ∷ bs) (l ∷ ls) (t ∷ ts) = elim (eqb l b && eqb t b) [ true ↦ [] | false ↦ changed_line v b l t ] ++ changed_lines (suc v) bs ls ts

-- 02, Req 06: a timer's start tick and its flags running and done
unfoldable pub timer_text : Timer → List ℕ
timer_text t = decimal t.start ++ (bytes "," ++ (decimal t.running ++ (bytes "," ++ decimal t.done)))

-- a timer before and after the ladder scan, and before and after the list scan
unfoldable pub timer_line : ℕ → Timer → Timer → Timer → List ℕ
timer_line n b l t =
    bytes "d" ++ (decimal n ++ (bytes " " ++ (timer_text b ++ (bytes ">" ++ (timer_text l ++ (bytes " " ++ (timer_text b ++ (bytes ">" ++ (timer_text t ++ bytes "\n")))))))))

unfoldable pub same_timer : Timer → Timer → Bool
same_timer t u = same_bytes (numbers_of t) (numbers_of u)

-- a line for each timer that changed in either
unfoldable pub timer_lines : ℕ → List Timer → List Timer → List Timer → List ℕ
timer_lines n [] ls ts = []
timer_lines n (b ∷ bs) [] ts = []
timer_lines n (b ∷ bs) (l ∷ ls) [] = []
timer_lines n (b ∷ bs) (l ∷ ls) (t ∷ ts) = elim (same_timer l b && same_timer t b) [ true ↦ [] | false ↦ timer_line n b l t ] ++ timer_lines (suc n) bs ls ts

-- 02, Req 07: a line with the variables that no contact reads
unfoldable pub variable_names : List ℕ → List ℕ
variable_names [] = []
variable_names (v ∷ vs) = bytes " v" ++ (decimal v ++ variable_names vs)

unfoldable pub unread_line : List ℕ → List ℕ
unread_line vs = bytes "unread" ++ (variable_names vs ++ bytes "\n")

-- what the two scans came to
pub data Verdict : Type 0 where
  alike both_stopped not_alike : Verdict

unfoldable pub alike_if : Bool → Verdict
alike_if true = alike
alike_if false = not_alike

-- Demand 3 with 02, Req 02 and 06, of these two scans: both Ended with the same rungs entered, the same sum, the same variables l and t and the same numbers of
-- timer records m and u, or both Stopped, when sums, variables and records may differ.
unfoldable pub verdict : BothEnds → List ℕ → List ℕ → List ℕ → List ℕ → Verdict
verdict e l t m u = elim e.ladder_halt [
  | Ended ↦ elim e.list_halt [
    | Ended ↦ alike_if (eqb e.ladder.rungs e.list.rungs && (eqb e.ladder.moved e.list.moved && (same_bytes l t && same_bytes m u)))
    | Stopped ↦ not_alike
  ]
  | Stopped ↦ elim e.list_halt [ Ended ↦ not_alike | Stopped ↦ both_stopped ]
]

unfoldable pub verdict_line : Verdict → List ℕ
verdict_line alike = bytes "alike\n"
verdict_line both_stopped = bytes "both stopped\n"
verdict_line not_alike = bytes "not alike\n"

-- the report, from the variables that no contact reads, the table and the timer records' numbers before, the labels and times entered of the list's rungs, and
-- the two tables and the numbers after
unfoldable pub report_of : ℕ → List ℕ → List ℕ → List ℕ → BothEnds → List ℕ → List ℕ → List ℕ → List ℕ → List ℕ → List ℕ → List ℕ
report_of vars no_contact table timers e labels times ladder_table list_table ladder_timers list_timers =
    let l = take vars ladder_table in
    let t = take vars list_table in
    end_lines e ++ (entered_lines labels times
    ++ (changed_lines 0 (take vars table) l t
    ++ (timer_lines 0 (timers_in timers) (timers_in ladder_timers) (timers_in list_timers)
    ++ (unread_line no_contact
    ++ verdict_line (verdict e l t ladder_timers list_timers)))))

-- the same, from all that both scans left
unfoldable pub report_lines : ℕ → List ℕ → List ℕ → List ℕ → BothEnds → Lent → List ℕ
report_lines vars no_contact table timers e after =
    report_of vars no_contact table timers e (take e.counts.rungs after.buffers.labels) (take e.counts.rungs after.buffers.times) after.ladder_table after.list_table
    after.ladder_timers after.list_timers

-- 64 bytes for each variable, its name in the line of those that no contact reads included, and for 512 lines besides, of which 256 for rungs and 128 for timers:
-- the buffer that the program writes from
abbrev pub most_report : ℕ
most_report = 64 * (most_variables + 512)

-- two tables, two rows of timer records, and buffers for the list that "have the largest size allowed"
abbrev pub lent_for : List ℕ → List ℕ → Lent
lent_for table timers = lends table table timers timers (blank most_instructions most_records)

-- a kept ladder is translated, and it and its list are scanned with the timer records of these numbers at the tick `now`, under demand 3's watchdogs
unfoldable pub kept_scanned : ℕ → Kept → List ℕ → List ℕ → ℕ → ℕ → Outcome
kept_scanned vars k table timers now n =
    let c = paired_scans vars k table timers now (lent_for table timers) n in
    elim c.answer [ scans_refused refusal ↦ refused refusal | both e ↦ printed (report_lines vars (unread vars (ladder_of k)) table timers e c.lent) ]

-- V, a rung watchdog, a table, timer records, a tick and a text
unfoldable pub text_scanned : ℕ → ℕ → List ℕ → List ℕ → ℕ → List ℕ → Outcome
text_scanned vars n table timers now text =
    let r = read_text vars text (blank most_words most_rungs) in
    elim r.answer [ read_refused refusal ↦ refused refusal | kept words rungs ↦ kept_scanned vars (written_kept r.buffers words rungs) table timers now n ]

-- the bytes after the variables line: the tick, the timer records, and the text
unfoldable pub rest_scanned : ℕ → ℕ → List ℕ → List ℕ → Outcome
rest_scanned vars n table rest =
    let clock = now_taken rest in
    let records = timers_taken clock.rest in
    text_scanned vars n table (timer_numbers (take held_timers records.timers)) clock.now (take most_kept records.text)

-- the whole input
unfoldable pub outcome : List ℕ → Outcome
outcome input =
    let second = text_after input in
    let third = text_after second in
    let vars = variables_of (first_line input) in
    rest_scanned vars (watchdog_of (first_line second)) (table_of vars (first_line third)) (take most_rest (text_after third))

unfoldable pub output : List ℕ → List ℕ
output input = output_of (outcome input)
