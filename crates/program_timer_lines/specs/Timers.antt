-- What the functions over ladder-scan's lines of ticks and timers promise. Assumes nothing.
use Rattle.std.specs.Prelude.{ℕ, ◌+◌, ◌*◌, ◌≤◌, ◌<◌, ◌≡◌, List, length, take, drop, Option, MatchOption}
use Rattle.std.proofs.Math.Option.{none, some}
use Rattle.std.proofs.lemmas.List.Edits.{sets}
use Rattle.table.specs.Timer.{Timer}
use Rattle.table.specs.TimerRecords.{numbers_of, timer_numbers}
use Rattle.program_definitions.specs.Lines.{first_line, text_after}
use Rattle.program_definitions.specs.TimerLines.{timer_of, now_taken, timers_taken, held_timers}
use Rattle.program_timer_lines.specs.declared.NowTaken.{NowTaken}
use Rattle.program_timer_lines.specs.declared.TimerLine.{TimerLine}
use Rattle.program_timer_lines.specs.declared.TimersTaken.{TimersTaken}

-- the tick, and where what follows its line begins
pub record NowRead (input : List ℕ) (from : ℕ) (r : NowTaken) : Type 0 where
  pub tick : r.tick ≡ (now_taken (drop from input)).now
  pub rest : drop r.at input ≡ (now_taken (drop from input)).rest
  pub within : from ≤ length input → r.at ≤ length input

-- the record of a line
abbrev pub timer_in : TimerLine → Timer
timer_in l = record { preset = l.preset; start = l.start; variable = l.variable; running = l.running; done = l.done }

pub record TimerRead (input : List ℕ) (from : ℕ) (r : TimerLine) : Type 0 where
  pub is_timer : timer_of (first_line (drop from input)) ≡ some (timer_in r)
  pub rest : drop r.at input ≡ text_after (drop from input)
  pub within : r.at ≤ length input
  pub onward : from < r.at

abbrev pub LineRead : List ℕ → ℕ → Option TimerLine → Type 0
LineRead input from r = MatchOption r (timer_of (first_line (drop from input)) ≡ none) (TimerRead input from)

-- numbers t, count of them held, become u, r of them held
pub record Held (t : List ℕ) (count : ℕ) (line : TimerLine) (r : ℕ) (u : List ℕ) : Type 0 where
  pub room : count + 5 ≤ length t → (r ≡ count + 5) × (u ≡ sets t count (numbers_of (timer_in line)))
  pub full : length t < count + 5 → (r ≡ count) × (u ≡ t)

-- the records that are held, r of their numbers being written from the start of t, and where the text begins
pub record TimersRead (input : List ℕ) (from : ℕ) (t : List ℕ) (r : TimersTaken) (u : List ℕ) : Type 0 where
  pub held : length t ≡ 5 * held_timers → take r.count u ≡ timer_numbers (take held_timers (timers_taken (drop from input)).timers)
  pub text : drop r.at input ≡ (timers_taken (drop from input)).text
  pub within : from ≤ length input → r.at ≤ length input
  pub room : r.count ≤ length t
  pub long : length u ≡ length t
