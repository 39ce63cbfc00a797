-- Laws of the whole run: the three lines, the lines of ticks and timers, and the text. Assumes nothing.
use mathlib.Core.Path.{◌≡◌, sym, ap, ◌∙◌}
use mathlib.Core.List.{List}
use Prim.Native.Nat.{ℕ, ◌+◌, ◌-◌, min}
use lib.ListN.{length, take, drop, replicate, length-replicate}
use Rattle.table.specs.TimerRecords.{timer_numbers}
use Rattle.program_definitions.specs.Lines.{first_line, text_after, variables_of, watchdog_of, table_of}
use Rattle.program_definitions.specs.TimerLines.{now_taken, timers_taken}
use Rattle.program_definitions.specs.Scanout.{text_scanned, rest_scanned, outcome}
use Rattle.program_numbers.specs.Parts.{number_by, NumberTaken}
use Rattle.program_numbers.specs.declared.Lined.{Lined}
use Rattle.program_numbers.proofs.Lines.{line_value, kept_text}
use Rattle.program_scan_lines.specs.Parts.{table_bytes, TableTaken}
use Rattle.program_timer_lines.specs.Timers.{NowRead, TimersRead}
use Rattle.program_scan_lines.specs.declared.VariablesTaken.{VariablesTaken}
use Rattle.program_timer_lines.specs.declared.NowTaken.{NowTaken}
use Rattle.program_timer_lines.specs.declared.TimersTaken.{TimersTaken}

-- ---- the bytes after the variables line

module _ (rest : List ℕ) (clock : NowTaken) (records : TimersTaken) (to : ℕ) (t u : List ℕ)
    (read : NowRead rest 0 clock) (taken : TimersRead rest clock.at t records u) (zeros : t ≡ replicate 165 0)
    (end : to ≡ records.at + min (length rest - records.at) 65536) where
  their_numbers : take records.count u ≡ timer_numbers (take 33 (timers_taken (now_taken rest).rest).timers)
  their_numbers =
      taken.held (ap length zeros ∙ length-replicate {A = ℕ} 165 0)
      ∙ ap (λ (l : List ℕ). timer_numbers (take 33 (timers_taken l).timers)) read.rest

  their_text : take (to - records.at) (drop records.at rest) ≡ take 65536 (timers_taken (now_taken rest).rest).text
  their_text =
      kept_text 65536 rest (timers_taken (now_taken rest).rest).text records.at to (taken.text ∙ ap (λ (l : List ℕ). (timers_taken l).text) read.rest) end

  pub rest_same : (vars n : ℕ) (table : List ℕ) → rest_scanned vars n table rest
      ≡ text_scanned vars n table (take records.count u) clock.tick (take (to - records.at) (drop records.at rest))
  unfolding rest_scanned
  rest_same vars n table = λ i. text_scanned vars n table (sym their_numbers i) (sym read.tick i) (sym their_text i)

-- ---- the whole input

module _ (input : List ℕ) (first second : Lined) (third : VariablesTaken) (v w bytes to : ℕ) (t u : List ℕ)
    (taken : NumberTaken input 0 first) (variables : v ≡ number_by 0 first.line)
    (taken-2 : NumberTaken input first.at second) (watchdog : w ≡ number_by 65536 second.line)
    (filled : TableTaken input second.at v t third u) (zeros : t ≡ replicate 1056 0) (long : bytes ≡ table_bytes third.variables v)
    (end : to ≡ third.at + min (length input - third.at) 131072) where
  rest_2 : drop second.at input ≡ text_after (text_after input)
  rest_2 = taken-2.rest ∙ ap text_after taken.rest

  their_variables : v ≡ variables_of (first_line input)
  their_variables = variables ∙ (ap (number_by 0) taken.line ∙ line_value 0 (first_line input))

  their_watchdog : w ≡ watchdog_of (first_line (text_after input))
  their_watchdog =
      watchdog ∙ ap (number_by 65536) taken-2.line ∙ line_value 65536 (first_line (drop first.at input))
      ∙ ap (λ (l : List ℕ). watchdog_of (first_line l)) taken.rest

  their_table : take bytes u ≡ table_of v (first_line (text_after (text_after input)))
  their_table = ap (λ (n : ℕ). take n u) long ∙ (filled.table zeros ∙ ap (λ (l : List ℕ). table_of v (first_line l)) rest_2)

  abbrev rest : List ℕ
  rest = take (to - third.at) (drop third.at input)

  their_rest : rest ≡ take 131072 (text_after (text_after (text_after input)))
  their_rest = kept_text 131072 input (text_after (text_after (text_after input))) third.at to (filled.rest ∙ ap text_after rest_2) end

  pub run_same : outcome input ≡ rest_scanned v w (take bytes u) rest
  unfolding outcome
  run_same =
      let n = watchdog_of (first_line (text_after input)) in
      let last = take 131072 (text_after (text_after (text_after input))) in
      sym (ap (λ (x : ℕ). rest_scanned v x (take bytes u) rest) their_watchdog
      ∙ ap (λ (x : List ℕ). rest_scanned v n x rest) their_table
      ∙ ap (rest_scanned v n (table_of v (first_line (text_after (text_after input))))) their_rest
      ∙ ap (λ (x : ℕ). rest_scanned x n (table_of x (first_line (text_after (text_after input)))) last) their_variables)
