-- Questions 4 to 9 and 17. Document 01, "Questions before work"; document 02, Req 06. Assumes nothing.
use Rattle.std.specs.Prelude.{ℕ, ◌+◌, ◌≤◌, max, ◌≡◌, Bool, true, not, ◌&&◌, List, [], ◌∷◌, ◌++◌, map, T, leb, ltb, length}
use Rattle.std.proofs.Math.Option.{none, some}
use Rattle.questions.specs.Tests.{all}
use Rattle.questions.specs.Questions.{Answer, yes, ask, ask_each, first_no, question1}
use Rattle.table.specs.State.{scratch_bytes}
use Rattle.rungs.specs.Records.{most_records, present}
use Rattle.ladder_definitions.specs.Tree.{Input, contact, contactn, Front, input, front_and, front_or, Output, Rear, output, rear_and, rear_or, Rung, Ladder, labels, rung_all, Named, a_variable, a_label, a_timer, input_variable, output_names}
use Rattle.ladder_definitions.specs.Kept.{Kept, rung_words, encode, decode, input_fits, output_fits}

-- the ladder that words and records hold; no rung where they hold none
unfoldable pub ladder_of : Kept → Ladder
ladder_of k = elim (decode k) [ none ↦ [] | some gs ↦ gs ]

-- 4. "Words and records as above, at least one rung?"
unfoldable pub holds_ladder : Kept → Bool
holds_ladder k = leb 1 (length (ladder_of k))

unfoldable pub question4 : Kept → Answer
question4 k = ask 4 (holds_ladder k)

abbrev pub most_rungs : ℕ
most_rungs = most_records

abbrev pub most_rung_words : ℕ
most_rung_words = 128

abbrev pub most_words : ℕ
most_words = 8192

-- 5. "At most 256 rungs, 128 words a rung, 8,192 words?"
unfoldable pub sizes_in_range : Ladder → Bool
sizes_in_range gs = leb (length gs) most_rungs && (all (λ g. leb (length (rung_words g)) most_rung_words) gs && leb (length (encode gs).words) most_words)

unfoldable pub question5 : Ladder → Answer
question5 gs = ask 5 (sizes_in_range gs)

-- 6. "Every variable below V?"
unfoldable pub input_below : ℕ → Input → Bool
input_below vars i = ltb (input_variable i) vars

unfoldable pub named_below : ℕ → Named → Bool
named_below vars (a_variable v) = ltb v vars
named_below vars (a_label l) = true
named_below vars (a_timer n) = true

unfoldable pub output_below : ℕ → Output → Bool
output_below vars o = named_below vars (output_names o)

abbrev pub rung_below : ℕ → Rung → Bool
rung_below vars = rung_all (input_below vars) (output_below vars)

unfoldable pub question6 : ℕ → Ladder → Answer
question6 vars gs = ask_each 6 (map (rung_below vars) gs)

-- 7. "All labels different? The search ends at the first rung whose label an earlier one has."
unfoldable pub new_labels : List ℕ → List ℕ → List Bool
new_labels earlier [] = []
new_labels earlier (l ∷ later) = not (present l earlier) ∷ new_labels (earlier ++ l ∷ []) later

unfoldable pub question7 : Ladder → Answer
question7 gs = ask_each 7 (new_labels [] (labels gs))

-- 8. "Every jump's label present?"
unfoldable pub named_leads : List ℕ → Named → Bool
named_leads ls (a_variable v) = true
named_leads ls (a_label l) = present l ls
named_leads ls (a_timer n) = true

unfoldable pub output_leads : List ℕ → Output → Bool
output_leads ls o = named_leads ls (output_names o)

abbrev pub rung_leads : List ℕ → Rung → Bool
rung_leads ls = rung_all (λ i. true) (output_leads ls)

unfoldable pub question8 : Ladder → Answer
question8 gs = ask_each 8 (map (rung_leads (labels gs)) gs)

-- 17. 02, Req 06: "17 when a timer number has no record", of so many records
unfoldable pub named_timed : ℕ → Named → Bool
named_timed records (a_variable v) = true
named_timed records (a_label l) = true
named_timed records (a_timer n) = ltb n records

unfoldable pub output_timed : ℕ → Output → Bool
output_timed records o = named_timed records (output_names o)

unfoldable pub timers_known : ℕ → Ladder → Bool
timers_known records gs = all (rung_all (λ i. true) (output_timed records)) gs

unfoldable pub question17 : ℕ → Ladder → Answer
question17 records gs = ask 17 (timers_known records gs)

-- How many scratch bytes from td on the code of a part takes, as document 01, "Translation", writes it.
-- A front is joined in short if it is a contact, and else through td, with its own n bytes from t(d+1) on.
unfoldable pub join_scratch : Front → ℕ → ℕ
join_scratch (input (contact v)) n = 0
join_scratch (input (contactn v)) n = 0
join_scratch (front_and f g) n = n + 1
join_scratch (front_or f g) n = n + 1

unfoldable pub front_scratch : Front → ℕ
front_scratch (input i) = 0
front_scratch (front_and f g) = max (front_scratch f) (join_scratch g (front_scratch g))
front_scratch (front_or f g) = max (front_scratch f) (join_scratch g (front_scratch g))

unfoldable pub rear_scratch : Rear → ℕ
rear_scratch (output o) = 0
rear_scratch (rear_and f r) = max (join_scratch f (front_scratch f)) (rear_scratch r)
rear_scratch (rear_or a b) = max (rear_scratch a + 1) (rear_scratch b)

unfoldable pub rung_scratch : Rung → ℕ
rung_scratch g = max (front_scratch g.front) (rear_scratch g.rear)

-- 9. "Translation within t0 to t31?"
unfoldable pub scratch_in_range : Ladder → Bool
scratch_in_range gs = all (λ g. leb (rung_scratch g) scratch_bytes) gs

unfoldable pub question9 : Ladder → Answer
question9 gs = ask 9 (scratch_in_range gs)

-- questions 4 to 8, in order
unfoldable pub form_questions : ℕ → Kept → List Answer
form_questions vars k =
    let gs = ladder_of k in
    question4 k ∷ question5 gs ∷ question6 vars gs ∷ question7 gs ∷ question8 gs ∷ []

-- questions 4 to 9, in order
unfoldable pub ladder_questions : ℕ → Kept → List Answer
ladder_questions vars k = form_questions vars k ++ question9 (ladder_of k) ∷ []

-- the questions that Translate puts first, in order
unfoldable pub ladder_answer : ℕ → Kept → Answer
ladder_answer vars k = first_no (question1 vars ∷ ladder_questions vars k)

-- "A ladder is accepted when no question that Translate puts, 13 apart, gets a "no"." Of question 4 a tree leaves "at least one rung" and
-- operands of 16 bits.
pub record Accepted (vars : ℕ) (gs : Ladder) : Type 0 where
  pub range : question1 vars ≡ yes
  pub some_rung : 1 ≤ length gs
  pub fits : T (all (rung_all input_fits output_fits) gs)
  pub sizes : question5 gs ≡ yes
  pub variables : question6 vars gs ≡ yes
  pub differ : question7 gs ≡ yes
  pub jumps : question8 gs ≡ yes
  pub scratch : question9 gs ≡ yes
