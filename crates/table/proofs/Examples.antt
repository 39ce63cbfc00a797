-- Worked timers: document 02, Req 06. Assumes nothing.
use Rattle.std.specs.Prelude.{◌≡◌, refl, true, false, List, [], ◌∷◌, ℕ}
use Rattle.std.proofs.Math.Bool.{xor}
use Rattle.std.proofs.Math.Option.{some}
use Rattle.questions.specs.Tests.{different}
use Rattle.questions.specs.Questions.{Answer, yes, ask}
use Rattle.table.specs.Timer.{Timer, elapsed, started, tested, powered}
use Rattle.table.specs.State.{State, state_of, value_at, written_at, turns, write, set_timer, run_timer}
use Rattle.table.specs.Questions.{timers_in_range, question16}

timer : ℕ → ℕ → ℕ → ℕ → Timer
timer preset start running done = record { preset = preset; start = start; variable = 1; running = running; done = done }

worked : List Timer
worked =
    -- power comes at tick 100: the start is taken and done is cleared before the test; a preset of 0 is reached at once
    powered 100 true (timer 5 3 0 1)
    ∷ powered 100 true (timer 0 3 0 0)
    -- started at 100: one tick too early, and just in time
    ∷ powered 104 true (timer 5 100 1 0)
    ∷ powered 105 true (timer 5 100 1 0)
    -- across the wrap at 2^32: started three ticks before it, one tick too early and just in time
    ∷ powered 1 true (timer 5 4294967293 1 0)
    ∷ powered 2 true (timer 5 4294967293 1 0)
    -- the longest time, and a `now` just before the start
    ∷ powered 99 true (timer 4294967295 100 1 0)
    ∷ powered 98 true (timer 4294967295 100 1 0)
    -- comes in done: it remains so while powered, whatever the time
    ∷ powered 101 true (timer 5 100 1 1)
    -- power off clears both flags and leaves the start
    ∷ powered 200 false (timer 5 100 1 1)
    -- a flag is true where its byte is not 0, and is written as 1
    ∷ powered 101 true (timer 5 100 255 2)
    ∷ []

timers_worked : worked
    ≡ timer 5 100 1 0
    ∷ timer 0 100 1 1
    ∷ timer 5 100 1 0
    ∷ timer 5 100 1 1
    ∷ timer 5 4294967293 1 0
    ∷ timer 5 4294967293 1 1
    ∷ timer 4294967295 100 1 1
    ∷ timer 4294967295 100 1 0
    ∷ timer 5 100 1 1
    ∷ timer 5 100 0 0
    ∷ timer 5 100 1 1
    ∷ []
unfolding worked timer powered tested started elapsed
timers_worked = refl

-- power lost and back: started at 10, lost at 12 and back at 13, it is done at 16 and not at 15
lost_and_back : powered 15 true (powered 13 true (powered 12 false (powered 10 true (timer 3 0 0 0)))) ≡ timer 3 13 1 0
unfolding timer powered tested started elapsed
lost_and_back = refl

done_later : powered 16 true (powered 13 true (powered 12 false (powered 10 true (timer 3 0 0 0)))) ≡ timer 3 13 1 1
unfolding timer powered tested started elapsed
done_later = refl

-- what a scan's step leaves: the variable gets done, and that is counted; a number without a record does nothing
state : List ℕ → List Timer → State
state bytes timers = state_of 2 bytes timers 105

timer_run : (run_timer (state (0 ∷ 0 ∷ []) (timer 5 100 1 0 ∷ [])) 0 true ≡ record { vars = 2; bytes = 0 ∷ 1 ∷ []; timers = timer 5 100 1 1 ∷ []; now = 105; moved = 1 })
    × (run_timer (state (0 ∷ 1 ∷ []) (timer 5 100 1 1 ∷ [])) 0 false ≡ record { vars = 2; bytes = 0 ∷ 0 ∷ []; timers = timer 5 100 0 0 ∷ []; now = 105; moved = 1 })
    × (run_timer (state (0 ∷ 0 ∷ []) (timer 5 100 1 0 ∷ [])) 1 true ≡ state (0 ∷ 0 ∷ []) (timer 5 100 1 0 ∷ []))
unfolding state timer run_timer set_timer powered tested started elapsed write written_at turns value_at xor
timer_run = (refl, refl, refl)

-- question 16: of one record, of none; a variable that is not below V, and one that two records share
no_timers : Answer
no_timers = some (record { number = 16; place = 0 })

on : ℕ → Timer
on v = record { preset = 1; start = 0; variable = v; running = 0; done = 0 }

timers_asked : question16 2 (on 1 ∷ []) ∷ question16 2 [] ∷ question16 2 (on 2 ∷ []) ∷ question16 2 (on 1 ∷ on 0 ∷ []) ∷ question16 2 (on 1 ∷ on 0 ∷ on 1 ∷ []) ∷ []
    ≡ yes ∷ yes ∷ no_timers ∷ yes ∷ no_timers ∷ []
unfolding question16 timers_in_range ask different on no_timers
timers_asked = refl
