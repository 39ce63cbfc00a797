-- ladder-scan's lines between the variables and the text: the tick and the timer records. README, "ladder-scan"; 02, Req 06. Assumes nothing.
use Rattle.std.specs.Prelude.{ℕ, zero, suc, ◌+◌, ◌-◌, ◌*◌, Bool, true, false, not, ◌&&◌, ◌||◌, List, [], ◌∷◌, eqb, leb, length, get_or, take, drop}
use Rattle.std.proofs.Math.Option.{Option, none, some}
use Rattle.questions.specs.Bytes.{byte, bytes, same_bytes}
use Rattle.questions.specs.Tests.{all}
use Rattle.table.specs.Timer.{Timer, ticks}
use Rattle.table.specs.Questions.{most_timers}
use Rattle.text_grammar.specs.Grammar.{most_number}
use Rattle.program_definitions.specs.Lines.{first_line, text_after}

-- what stands before the first space, or all where none is; and what follows it
unfoldable pub before_space : List ℕ → List ℕ
before_space [] = []
before_space (b ∷ bs) = elim (eqb b (byte " ")) [ true ↦ [] | false ↦ b ∷ before_space bs ]

unfoldable pub after_space : List ℕ → List ℕ
after_space [] = []
after_space (b ∷ bs) = elim (eqb b (byte " ")) [ true ↦ bs | false ↦ after_space bs ]

unfoldable pub is_digit : ℕ → Bool
is_digit b = leb (byte "0") b && leb b (byte "9")

-- the number that digits are, after one that the digits before them are
unfoldable pub digits_after : ℕ → List ℕ → ℕ
digits_after n [] = n
digits_after n (d ∷ ds) = digits_after (n * 10 + (d - byte "0")) ds

abbrev pub number_in : List ℕ → ℕ
number_in ds = digits_after 0 ds

-- "numbers as in a ladder's text", digits without a leading zero, up to `most`
unfoldable pub is_number : ℕ → List ℕ → Bool
is_number most ds = leb 1 (length ds) && (all is_digit ds && ((eqb (length ds) 1 || not (eqb (get_or ds 0 0) (byte "0"))) && leb (number_in ds) most))

-- a tick is 0 to 4,294,967,295
abbrev pub most_tick : ℕ
most_tick = ticks - 1

-- a line `now N`
unfoldable pub now_of : List ℕ → Option ℕ
now_of line = elim (same_bytes (take 4 line) (bytes "now ") && is_number most_tick (drop 4 line)) [ true ↦ some (number_in (drop 4 line)) | false ↦ none ]

-- a line `timer PRESET START VARIABLE RUNNING DONE`: preset and start are ticks, the variable has 16 bits, the flags are 0 or 1
unfoldable pub timer_of : List ℕ → Option Timer
timer_of line =
    let preset = drop 6 line in
    let start = after_space preset in
    let variable = after_space start in
    let running = after_space variable in
    let done = after_space running in
    elim (same_bytes (take 6 line) (bytes "timer ")
    && (is_number most_tick (before_space preset)
    && (is_number most_tick (before_space start)
    && (is_number most_number (before_space variable)
    && (is_number 1 (before_space running)
    && is_number 1 done))))) [
      | true ↦ some (record {
        preset = number_in (before_space preset);
        start = number_in (before_space start);
        variable = number_in (before_space variable);
        running = number_in (before_space running);
        done = number_in done;
      })
      | false ↦ none
    ]

-- the tick, and what follows its line; "Without `now` the tick is 0"
pub record NowTaken : Type 0 where
  pub now : ℕ
  pub rest : List ℕ

unfoldable pub now_taken : List ℕ → NowTaken
now_taken input = elim (now_of (first_line input)) [ none ↦ record { now = 0; rest = input } | some n ↦ record { now = n; rest = text_after input } ]

-- the timer records, "one a timer, in order", and the text: "a line that is not exactly of such a form begins the text". Each line takes a byte or more.
pub record TimersTaken : Type 0 where
  pub timers : List Timer
  pub text : List ℕ

unfoldable pub timers_from : ℕ → List ℕ → TimersTaken
timers_from zero input = record { timers = []; text = input }
timers_from (suc most) input = elim (timer_of (first_line input)) [
  | none ↦ record { timers = []; text = input }
  | some t ↦ let later = timers_from most (text_after input) in record { timers = t ∷ later.timers; text = later.text }
]

unfoldable pub timers_taken : List ℕ → TimersTaken
timers_taken input = timers_from (length input) input

-- Of more records than question 16 takes, one too many is held: it says "no" to them as it does to all.
abbrev pub held_timers : ℕ
held_timers = most_timers + 1

-- as many bytes are kept after the variables line
abbrev pub most_rest : ℕ
most_rest = 131072
