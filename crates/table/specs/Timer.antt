-- On-delay timers. Document 02, Req 06; document 004 shows what goes wrong when timers are taken for switches. Assumes nothing.
use Rattle.std.specs.Prelude.{ℕ, ◌+◌, ◌-◌, ◌%◌, Bool, true, false, cond, ◌||◌, leb}
use Rattle.questions.specs.Tests.{bit, truth}

-- "A timer record has a preset in ticks and a start tick (32 bits each), a variable (16 bits), and two flags, running and done." A flag is a byte, true where
-- it is not 0.
pub record Timer : Type 0 where
  pub preset : ℕ
  pub start : ℕ
  pub variable : ℕ
  pub running : ℕ
  pub done : ℕ

-- a timer with another start tick and other flags, which are written as 0 or 1
abbrev pub with : Timer → ℕ → Bool → Bool → Timer
with t start running done = record { preset = t.preset; start = start; variable = t.variable; running = bit running; done = bit done }

-- ticks have 32 bits
abbrev pub ticks : ℕ
ticks = 4294967296

-- "(now − start) modulo 4,294,967,296"
unfoldable pub elapsed : ℕ → ℕ → ℕ
elapsed now start = (now + ticks - start) % ticks

-- "a timer not running takes `now` as its start, clears done and runs"
unfoldable pub started : ℕ → Timer → Timer
started now t = cond (truth t.running) t (with t now true false)

-- "it is done when (now − start) modulo 4,294,967,296 is at least the preset, and once done it remains so while powered"
unfoldable pub tested : ℕ → Timer → Timer
tested now t = with t t.start true (truth t.done || leb t.preset (elapsed now t.start))

-- "With power on, .. With power off both flags clear."
unfoldable pub powered : ℕ → Bool → Timer → Timer
powered now true t = tested now (started now t)
powered now false t = with t t.start false false
