-- Questions 11 and 16. Document 01, "Questions before work"; document 02, Req 06. Assumes nothing.
use Rattle.std.specs.Prelude.{ℕ, ◌≡◌, Bool, ◌&&◌, List, map, eqb, leb, ltb, length}
use Rattle.questions.specs.Tests.{all, different}
use Rattle.questions.specs.Questions.{Answer, yes, ask}
use Rattle.table.specs.Timer.{Timer}
use Rattle.table.specs.State.{State, table_size}

abbrev pub is_bit : ℕ → Bool
is_bit b = leb b 1

-- 11. "Table of V + 32 bytes, all 0 or 1?"
unfoldable pub table_in_range : ℕ → List ℕ → Bool
table_in_range vars bytes = eqb (length bytes) (table_size vars) && all is_bit bytes

unfoldable pub question11 : ℕ → List ℕ → Answer
question11 vars bytes = ask 11 (table_in_range vars bytes)

abbrev pub most_timers : ℕ
most_timers = 32

-- "a variable isn't below V"
abbrev pub timer_below : ℕ → Timer → Bool
timer_below vars t = ltb t.variable vars

abbrev pub timer_variables : List Timer → List ℕ
timer_variables ts = map (λ t. t.variable) ts

-- 16. 02, Req 06: "16 when there are more than 32 records, a variable isn't below V or two records share one"
unfoldable pub timers_in_range : ℕ → List Timer → Bool
timers_in_range vars ts = leb (length ts) most_timers && (all (timer_below vars) ts && different eqb (timer_variables ts))

unfoldable pub question16 : ℕ → List Timer → Answer
question16 vars ts = ask 16 (timers_in_range vars ts)

-- "A table is legal when question 11 gets a yes"; timer records are when question 16 does.
pub record Legal (s : State) : Type 0 where
  pub table : question11 s.vars s.bytes ≡ yes
  pub timers : question16 s.vars s.timers ≡ yes
