-- Worked lines of the programs: numbers, tables, refusals, verdicts, and document 01's case A through ladder-list's and ladder-scan's own definitions.
-- Assumes nothing.
use Rattle.std.specs.Prelude.{◌≡◌, refl, true, false, [], ◌∷◌, replicate, ℕ}
use Rattle.std.proofs.Math.Option.{none, some}
use Rattle.questions.specs.Bytes.{bytes, decimal, digits, same_bytes}
use Rattle.questions.specs.Tests.{all}
use Rattle.table.specs.Timer.{Timer}
use Rattle.table.specs.TimerRecords.{numbers_of, timers_in}
use Rattle.table.specs.Halt.{Halt, Ended, Stopped}
use Rattle.text_grammar.specs.Reader.{digit_of, digits_from, numeral_of}
use Rattle.rungs.specs.Buffers.{buffers}
use Rattle.translation_definitions.specs.BothScans.{BothEnds, lends}
use Rattle.program_definitions.specs.Lines.{line_number, watchdog_of, is_binary_digit, table_of}
use Rattle.program_definitions.specs.Lines.{first_line, text_after}
use Rattle.program_definitions.specs.TimerLines.{before_space, after_space, is_digit, digits_after, is_number, now_of, timer_of, now_taken, timers_from, timers_taken}
use Rattle.program_definitions.specs.Refusals.{refusal_line, explanations, explanation, line_ends_text, error_lines}
use Rattle.program_definitions.specs.Scanout.{end_word, scan_count_lines, end_lines, entered_line, entered_lines, changed_line, changed_lines, timer_text, timer_line, same_timer, timer_lines, variable_names, unread_line, alike, both_stopped, not_alike, alike_if, verdict, verdict_line, report_of, report_lines}

pub watchdogs_worked :
    (watchdog_of (bytes "2") ≡ 2) × (watchdog_of (bytes "65535") ≡ 65535) × (watchdog_of (bytes "65536") ≡ 65536) × (watchdog_of (bytes "02") ≡ 65536) × (watchdog_of [] ≡ 65536)
unfolding line_number numeral_of digits_from digit_of bytes
watchdogs_worked = (refl, refl, refl, refl, refl)

pub tables_worked :
    (table_of 5 (bytes "10010") ≡ 1 ∷ 0 ∷ 0 ∷ 1 ∷ 0 ∷ replicate 32 0) × (table_of 5 (bytes "1001") ≡ []) × (table_of 5 (bytes "100100") ≡ []) × (table_of 5 (bytes "10012") ≡ [])
unfolding table_of is_binary_digit bytes
tables_worked = (refl, refl, refl, refl)

pub refusals_worked :
    (refusal_line (record { number = 6; place = 3 }) ≡ bytes "refused 6 place 3\n")
    × (error_lines (bytes "ladder-list") false (record { number = 6; place = 3 }) ≡ bytes "ladder-list: rung 3, counting from 0, names a variable that is not below V\n")
    × (error_lines (bytes "ladder-scan") true (record { number = 1; place = 0 })
    ≡ bytes "ladder-scan: V is not a number from 1 to 1,024\nladder-scan: the input has CR LF line ends: a line ends with LF alone\n")
unfolding refusal_line error_lines explanation explanations line_ends_text decimal digits bytes
refusals_worked = (refl, refl, refl)

-- how each ended, the rungs that it entered, and how many times it turned a variable over
pub ends : Halt → ℕ → ℕ → Halt → ℕ → ℕ → BothEnds
ends h k m g n o =
    record {
      counts = record { instructions = 12; rungs = 2; longest = 10 };
      ladder_halt = h;
      ladder = record { rungs = k; moved = m };
      list_halt = g;
      list = record { instructions = 12; rungs = n; moved = o };
    }

-- other variables, other rungs, another sum, other timer records, or another end are not alike; two scans that stopped are both stopped, whatever their sums and variables are
pub verdicts_worked :
    (verdict (ends Ended 2 1 Ended 2 1) (1 ∷ 0 ∷ []) (1 ∷ 0 ∷ []) [] [] ≡ alike) × (verdict (ends Ended 2 1 Ended 2 1) (1 ∷ 0 ∷ []) (1 ∷ 1 ∷ []) [] [] ≡ not_alike)
    × (verdict (ends Ended 2 1 Ended 3 1) (1 ∷ []) (1 ∷ []) [] [] ≡ not_alike) × (verdict (ends Ended 2 1 Ended 2 3) (1 ∷ []) (1 ∷ []) [] [] ≡ not_alike)
    × (verdict (ends Ended 2 1 Stopped 2 1) (1 ∷ []) (1 ∷ []) [] [] ≡ not_alike) × (verdict (ends Stopped 1 1 Stopped 1 0) (1 ∷ []) (0 ∷ []) [] [] ≡ both_stopped)
    × (verdict (ends Ended 2 1 Ended 2 1) [] [] (3 ∷ 10 ∷ 1 ∷ 1 ∷ 0 ∷ []) (3 ∷ 10 ∷ 1 ∷ 1 ∷ 1 ∷ []) ≡ not_alike)
unfolding ends verdict alike_if same_bytes
verdicts_worked = (refl, refl, refl, refl, refl, refl, refl)

-- README's report
pub report_worked : report_lines 5 (4 ∷ []) (1 ∷ 0 ∷ 0 ∷ 0 ∷ 0 ∷ []) [] (ends Ended 2 2 Ended 2 2)
    (lends (1 ∷ 1 ∷ 0 ∷ 0 ∷ 1 ∷ []) (1 ∷ 1 ∷ 0 ∷ 0 ∷ 1 ∷ []) [] [] (buffers [] (10 ∷ 20 ∷ 0 ∷ []) [] [] (1 ∷ 1 ∷ 0 ∷ [])))
    ≡ bytes "scan ladder list\nend Ended Ended\nrungs 2 2\ninstructions - 12\nmoved 2 2\nL10 - 1\nL20 - 1\nv1 0>1 0>1\nv4 0>1 0>1\nunread v4\nalike\n"
unfolding ends report_lines report_of end_lines scan_count_lines end_word entered_lines entered_line changed_lines changed_line timers_in timer_lines unread_line variable_names verdict alike_if same_bytes verdict_line decimal digits bytes
report_worked = refl

-- two scans that stopped, with other sums and variables, a rung that was not entered, and no variable that contacts leave unread
pub stopped_worked : report_lines 2 [] (1 ∷ 0 ∷ []) [] (ends Stopped 1 1 Stopped 1 0) (lends (1 ∷ 1 ∷ []) (1 ∷ 0 ∷ []) [] [] (buffers [] (10 ∷ 20 ∷ []) [] [] (0 ∷ 1 ∷ [])))
    ≡ bytes "scan ladder list\nend Stopped Stopped\nrungs 1 1\ninstructions - 12\nmoved 1 0\nL20 - 1\nv1 0>1 0>0\nunread\nboth stopped\n"
unfolding ends report_lines report_of end_lines scan_count_lines end_word entered_lines entered_line changed_lines changed_line timers_in timer_lines unread_line variable_names verdict verdict_line decimal digits bytes
stopped_worked = refl

-- 02, Req 07
pub unread_worked : unread_line (0 ∷ 2 ∷ 1023 ∷ []) ≡ bytes "unread v0 v2 v1023\n"
unfolding unread_line variable_names decimal digits bytes
unread_worked = refl

-- 02, Req 06: the lines of ticks and timers, and lines that are none
abbrev pub timer : ℕ → ℕ → ℕ → ℕ → ℕ → Timer
timer preset start variable running done = record { preset = preset; start = start; variable = variable; running = running; done = done }

pub now_lines : (now_of (bytes "now 0") ≡ some 0) × (now_of (bytes "now 4294967295") ≡ some 4294967295) × (now_of (bytes "now 4294967296") ≡ none) × (now_of (bytes "now 05") ≡ none)
    × (now_of (bytes "now") ≡ none) × (now_of (bytes "now 5 ") ≡ none) × (now_of (bytes "Now 5") ≡ none)
unfolding now_of is_number is_digit digits_after same_bytes bytes
now_lines = (refl, refl, refl, refl, refl, refl, refl)

pub timer_lines_lem : (timer_of (bytes "timer 3 0 1 0 0") ≡ some (timer 3 0 1 0 0)) × (timer_of (bytes "timer 4294967295 4294967295 65535 1 1") ≡ some (timer 4294967295 4294967295 65535 1 1))
    × (timer_of (bytes "timer 3 0 65536 0 0") ≡ none) × (timer_of (bytes "timer 3 0 1 2 0") ≡ none) × (timer_of (bytes "timer 3 0 1 0") ≡ none) × (timer_of (bytes "timer 3 0 1 0 0 0") ≡ none)
    × (timer_of (bytes "timer 3  0 1 0 0") ≡ none) × (timer_of (bytes "timer 03 0 1 0 0") ≡ none)
unfolding timer_of before_space after_space is_number is_digit digits_after same_bytes bytes
timer_lines_lem = (refl, refl, refl, refl, refl, refl, refl, refl)

-- the tick, two timers, and the text; and a text that follows the variables at once
pub clock_lines :
    (now_taken (bytes "now 10\ntimer 3 0 1 0 0\ntimer 5 6 0 1 1\n0:c0>t0\n") ≡ record { now = 10; rest = bytes "timer 3 0 1 0 0\ntimer 5 6 0 1 1\n0:c0>t0\n" })
    × (timers_taken (bytes "timer 3 0 1 0 0\ntimer 5 6 0 1 1\n0:c0>t0\n") ≡ record { timers = timer 3 0 1 0 0 ∷ timer 5 6 0 1 1 ∷ []; text = bytes "0:c0>t0\n" })
    × (now_taken (bytes "0:c0>o0\n") ≡ record { now = 0; rest = bytes "0:c0>o0\n" }) × (timers_taken (bytes "now 4\n") ≡ record { timers = []; text = bytes "now 4\n" })
unfolding now_taken timers_taken timers_from now_of timer_of first_line text_after before_space after_space is_number is_digit digits_after same_bytes bytes
clock_lines = (refl, refl, refl, refl)

-- README's report with a timer that came to be done, beside one that stayed as it was
pub timer_report : report_lines 3 (2 ∷ []) (1 ∷ 0 ∷ 0 ∷ []) (3 ∷ 10 ∷ 1 ∷ 1 ∷ 0 ∷ 7 ∷ 0 ∷ 2 ∷ 0 ∷ 0 ∷ []) (ends Ended 2 1 Ended 2 1)
    (lends (1 ∷ 1 ∷ 0 ∷ []) (1 ∷ 1 ∷ 0 ∷ []) (3 ∷ 10 ∷ 1 ∷ 1 ∷ 1 ∷ 7 ∷ 0 ∷ 2 ∷ 0 ∷ 0 ∷ []) (3 ∷ 10 ∷ 1 ∷ 1 ∷ 1 ∷ 7 ∷ 0 ∷ 2 ∷ 0 ∷ 0 ∷ []) (buffers [] (10 ∷ 20 ∷ []) [] [] (1 ∷ 1 ∷ [])))
    ≡ bytes "scan ladder list\nend Ended Ended\nrungs 2 2\ninstructions - 12\nmoved 1 1\nL10 - 1\nL20 - 1\nv1 0>1 0>1\nd0 10,1,0>10,1,1 10,1,0>10,1,1\nunread v2\nalike\n"
unfolding ends report_lines report_of end_lines scan_count_lines end_word entered_lines entered_line changed_lines changed_line timers_in timer_lines timer_line timer_text same_timer numbers_of
    unread_line variable_names verdict alike_if same_bytes verdict_line
    decimal digits bytes
timer_report = refl
