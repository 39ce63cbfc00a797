-- Laws of the timer records that are held, line after line. Assumes nothing.
use mathlib.Core.Path.{◌≡◌, refl, ap, sym, ◌∙◌}
use mathlib.Core.Bool.{Bool, true, false}
use mathlib.Core.Option.{Option, none, some}
use mathlib.Core.List.{List, [], ◌∷◌, ◌++◌, append_assoc, append-nil, flat_map}
use Prim.Native.Nat.{ℕ, zero, suc, ◌+◌, ◌-◌, ◌*◌, ◌≤◌, ◌<◌}
use native.Mathlib.Omega.{arith}
use native.Mathlib.Decide.{dec_le}
use borrow.Author.Tests.{eqb-true, eqb-false}
use lib.Dec.{eqb}
use lib.ListN.{length, take, drop, length-append}
use lib.Seq.{sets, sets-eq, length-sets, take_at, length-take-le}
use Rattle.questions.specs.Bytes.{bytes, same_bytes}
use Rattle.table.specs.Timer.{Timer}
use Rattle.table.specs.TimerRecords.{numbers_of, timer_numbers}
use Rattle.program_definitions.specs.Lines.{first_line, text_after}
use Rattle.program_definitions.specs.TimerLines.{timer_of, TimersTaken as Taken, timers_from, timers_taken}
use Rattle.program_numbers.proofs.Lines.{rest_break, rest_other}
use Rattle.program_timer_lines.specs.Timers.{timer_in, TimerRead, Held, TimersRead}
use Rattle.program_timer_lines.specs.declared.TimerLine.{TimerLine}

-- ---- one record more

written : (t : List ℕ) (at : ℕ) (vs : List ℕ) → at + length vs ≤ length t → take (at + length vs) (sets t at vs) ≡ take at t ++ vs
written t at vs h =
    ap (take (at + length vs)) (sets-eq vs t at h)
    ∙ take_at (take at t ++ vs) (drop (at + length vs) t) (at + length vs) (omega (arith, length-append (take at t) vs, length-take-le at t (omega arith)))

-- ---- lines of timers

after_most : (l : List ℕ) → length (text_after l) ≤ length l
unfolding text_after
after_most [] = omega arith
after_most (b ∷ bs) = go (eqb b 10) refl (after_most bs)
  where
    go : (t : Bool) → eqb b 10 ≡ t → length (text_after bs) ≤ length bs → length (text_after (b ∷ bs)) ≤ length (b ∷ bs)
    go true e h = rw (rest_break b bs (eqb-true b 10 e)) (omega arith)
    go false e h = rw (rest_other b bs (eqb-false b 10 e)) (omega arith)

after_shorter : (b : ℕ) (bs : List ℕ) → length (text_after (b ∷ bs)) ≤ length bs
after_shorter b bs = go (eqb b 10) refl
  where
    go : (t : Bool) → eqb b 10 ≡ t → length (text_after (b ∷ bs)) ≤ length bs
    go true e = rw (rest_break b bs (eqb-true b 10 e)) (omega arith)
    go false e = rw (rest_other b bs (eqb-false b 10 e)) (after_most bs)

-- a line more, or none
abbrev with_line : List ℕ → Option Timer → Taken → Taken
with_line input none later = record { timers = []; text = input }
with_line input (some t) later = record { timers = t ∷ later.timers; text = later.text }

from_more : (most : ℕ) (input : List ℕ) → timers_from (suc most) input ≡ with_line input (timer_of (first_line input)) (timers_from most (text_after input))
unfolding timers_from
from_more most input = go (timer_of (first_line input))
  where
    go : (o : Option Timer) → (elim o [
      | none ↦ record { timers = []; text = input }
      | some t ↦ let later = timers_from most (text_after input) in record { timers = t ∷ later.timers; text = later.text }
    ]) ≡ with_line input o (timers_from most (text_after input))
    go none = refl
    go (some t) = refl

no_line_lem : timer_of (first_line []) ≡ none
unfolding timer_of first_line same_bytes bytes
no_line_lem = refl

from_none : (n : ℕ) → timers_from n [] ≡ record { timers = []; text = [] }
unfolding timers_from
from_none zero = refl
from_none (suc n) = from_more n [] ∙ ap (λ (o : Option Timer). with_line [] o (timers_from n (text_after []))) no_line_lem

-- as many turns as there are bytes are enough
enough : (n : ℕ) (input : List ℕ) (m : ℕ) → length input ≤ n → length input ≤ m → timers_from n input ≡ timers_from m input
enough zero [] m h k = from_none 0 ∙ sym (from_none m)
enough zero (b ∷ bs) m h k = absurd (omega arith)
enough (suc n) [] m h k = from_none (suc n) ∙ sym (from_none m)
enough (suc n) (b ∷ bs) m h k = go m k (enough n (text_after (b ∷ bs)))
  where
    go : (m : ℕ) → length (b ∷ bs) ≤ m → ((m : ℕ) → length (text_after (b ∷ bs)) ≤ n → length (text_after (b ∷ bs)) ≤ m
        → timers_from n (text_after (b ∷ bs)) ≡ timers_from m (text_after (b ∷ bs))) → timers_from (suc n) (b ∷ bs) ≡ timers_from m (b ∷ bs)
    go zero k later = absurd (omega arith)
    go (suc m) k later =
        let s = after_shorter b bs in
        from_more n (b ∷ bs) ∙ (ap (with_line (b ∷ bs) (timer_of (first_line (b ∷ bs)))) (later m (omega arith) (omega arith)) ∙ sym (from_more m (b ∷ bs)))

taken_line : (input : List ℕ) → timers_taken input ≡ with_line input (timer_of (first_line input)) (timers_taken (text_after input))
unfolding timers_taken
taken_line [] = from_none 0 ∙ sym (ap (λ (o : Option Timer). with_line [] o (timers_taken (text_after []))) no_line_lem)
taken_line (b ∷ bs) =
    from_more (length bs) (b ∷ bs)
    ∙ ap (with_line (b ∷ bs) (timer_of (first_line (b ∷ bs)))) (enough (length bs) (text_after (b ∷ bs)) (length (text_after (b ∷ bs))) (after_shorter b bs) (omega arith))

taken_some : (input : List ℕ) (t : Timer) → timer_of (first_line input) ≡ some t
    → timers_taken input ≡ record { timers = t ∷ (timers_taken (text_after input)).timers; text = (timers_taken (text_after input)).text }
taken_some input t e = taken_line input ∙ ap (λ (o : Option Timer). with_line input o (timers_taken (text_after input))) e

taken_none : (input : List ℕ) → timer_of (first_line input) ≡ none → timers_taken input ≡ record { timers = []; text = input }
taken_none input e = taken_line input ∙ ap (λ (o : Option Timer). with_line input o (timers_taken (text_after input))) e

-- ---- the loop's invariant: the records that are held, with those that are left, are the records of all lines

pub record Holding (input : List ℕ) (from : ℕ) (t u : List ℕ) (count i : ℕ) : Type 0 where
  pub records : ℕ
  pub counted : count ≡ 5 * records
  pub within : from ≤ length input → i ≤ length input
  pub room : count ≤ length t
  pub long : length u ≡ length t
  pub text : (timers_taken (drop i input)).text ≡ (timers_taken (drop from input)).text
  pub held : length t ≡ 165 → take count u ++ timer_numbers (take (33 - records) (timers_taken (drop i input)).timers)
      ≡ timer_numbers (take 33 (timers_taken (drop from input)).timers)

pub holding_first : (input : List ℕ) (from : ℕ) (t : List ℕ) → Holding input from t t 0 from
holding_first input from t =
    record { records = 0; counted = refl; within = λ w. w; room = omega arith; long = refl; text = refl; held = λ e. refl }

numbers_cons : (t : Timer) (ts : List Timer) → timer_numbers (t ∷ ts) ≡ numbers_of t ++ timer_numbers ts
unfolding timer_numbers flat_map
numbers_cons t ts = refl

numbers_none : timer_numbers [] ≡ []
unfolding timer_numbers flat_map
numbers_none = refl

numbers_five : (t : Timer) → length (numbers_of t) ≡ 5
unfolding numbers_of
numbers_five t = refl

module _ {input : List ℕ} {from : ℕ} {t u : List ℕ} {count i : ℕ} (h : Holding input from t u count i) where
  module _ {line : TimerLine} (r : TimerRead input i line) where
    line_taken : timers_taken (drop i input)
        ≡ record { timers = timer_in line ∷ (timers_taken (drop line.at input)).timers; text = (timers_taken (drop line.at input)).text }
    line_taken =
        taken_some (drop i input) (timer_in line) r.is_timer
        ∙ ap (λ (l : List ℕ). record { timers = timer_in line ∷ (timers_taken l).timers; text = (timers_taken l).text }) (sym r.rest)

    text_same : (timers_taken (drop line.at input)).text ≡ (timers_taken (drop from input)).text
    text_same = sym (ap (λ (k : Taken). k.text) line_taken) ∙ h.text

    timers_same : (timers_taken (drop i input)).timers ≡ timer_in line ∷ (timers_taken (drop line.at input)).timers
    timers_same = ap (λ (k : Taken). k.timers) line_taken

    holding_room : {n : ℕ} {v : List ℕ} → count + 5 ≤ length u → (n ≡ count + 5) × (v ≡ sets u count (numbers_of (timer_in line)))
        → Holding input from t v n line.at
    holding_room {n} {v} w e =
        let rec = timer_in line in
        let later = (timers_taken (drop line.at input)).timers in
        let five = numbers_five rec in
        let c = h.counted in
        let long = h.long in
        let end : n ≡ count + length (numbers_of rec) = omega (arith, e.0) in
        let wrote : take n v ≡ take count u ++ numbers_of rec = (λ j. take (end j) (e.1 j)) ∙ written u count (numbers_of rec) (omega arith) in
        record {
          records = suc h.records;
          counted = omega (arith, e.0);
          within = λ w. r.within;
          room = omega (arith, e.0);
          long = ap length e.1 ∙ (length-sets u count (numbers_of rec) ∙ h.long);
          text = text_same;
          held = λ q.
              let less : 33 - h.records ≡ suc (33 - suc h.records) = omega arith in
              let split : timer_numbers (take (33 - h.records) (timers_taken (drop i input)).timers) ≡ numbers_of rec ++ timer_numbers (take (33 - suc h.records) later) =
              (λ j. timer_numbers (take (less j) (timers_same j))) ∙ numbers_cons rec (take (33 - suc h.records) later) in
              ap (λ (l : List ℕ). l ++ timer_numbers (take (33 - suc h.records) later)) wrote
              ∙ (append_assoc (take count u) (numbers_of rec) (timer_numbers (take (33 - suc h.records) later))
              ∙ (ap (λ (l : List ℕ). take count u ++ l) (sym split) ∙ h.held q));
        }

    holding_full : {n : ℕ} {v : List ℕ} → length u < count + 5 → (n ≡ count) × (v ≡ u) → Holding input from t v n line.at
    holding_full {n} {v} w e =
        let later = (timers_taken (drop line.at input)).timers in
        let c = h.counted in
        let long = h.long in
        let room = h.room in
        record {
          records = h.records;
          counted = omega (arith, e.0);
          within = λ w. r.within;
          room = omega (arith, e.0);
          long = ap length e.1 ∙ h.long;
          text = text_same;
          held = λ q.
              let none_left : 33 - h.records ≡ 0 = omega arith in
              let same : timer_numbers (take (33 - h.records) later) ≡ timer_numbers (take (33 - h.records) (timers_taken (drop i input)).timers) =
              ap (λ (m : ℕ). timer_numbers (take m later)) none_left
              ∙ ap (λ (m : ℕ). timer_numbers (take m (timers_taken (drop i input)).timers)) (sym none_left) in
              (λ j. take (e.0 j) (e.1 j) ++ same j) ∙ h.held q;
        }

    pub holding_more : (n : ℕ) (v : List ℕ) → Held u count line n v → Holding input from t v n line.at
    holding_more n v held = go (dec_le (count + 5) (length u))
      where
        go : Dec (count + 5 ≤ length u) → Holding input from t v n line.at
        go (yes w) = holding_room w (held.room w)
        go (no w) = holding_full (omega arith) (held.full (omega arith))

  -- what is left being no line of a timer
  ended : timers_taken (drop i input) ≡ record { timers = []; text = drop i input } → TimersRead input from t (record { count = count; at = i }) u
  ended e = record {
    held = λ q.
        sym (append-nil (take count u))
        ∙ (ap (λ (l : List ℕ). take count u ++ l)
        (sym (ap (λ (k : Taken). timer_numbers (take (33 - h.records) k.timers)) e ∙ none_numbers (33 - h.records))) ∙ h.held q);
    text = sym (ap (λ (k : Taken). k.text) e) ∙ h.text;
    within = h.within;
    room = h.room;
    long = h.long;
  }
    where
      none_numbers : (n : ℕ) → timer_numbers (take n []) ≡ []
      none_numbers zero = numbers_none
      none_numbers (suc n) = numbers_none

  pub holding_stop : timer_of (first_line (drop i input)) ≡ none → TimersRead input from t (record { count = count; at = i }) u
  holding_stop e = ended (taken_none (drop i input) e)
