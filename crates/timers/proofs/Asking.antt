-- Laws of question 16, record by record. Assumes nothing.
use Rattle.std.proofs.Common.{◌≡◌, ℕ, ◌+◌, ◌*◌, ◌/◌, ◌%◌, ◌<◌, ◌≤◌, Bool, true, false, not, ◌&&◌, eqb, List, [], ◌∷◌, length, get_or, drop, sym, refl, ap, ◌∙◌, arith, drop_of_length-le, eq-eqb, ne_eqb, eqb-true, le-leb}
use Rattle.std.specs.Prelude.{◌↔◌}
use Rattle.std.specs.Bool.{IsTrue}
use Rattle.questions.specs.Tests.{all, different}
use Rattle.table.specs.Timer.{Timer}
use Rattle.table.specs.Questions.{most_timers, timer_below, timer_variables, timers_in_range}
use Rattle.table.specs.TimerRecords.{too_many, timers_in, whole, number_timers}
use Rattle.timers.specs.Parts.{timer_at, other_variable}
use Rattle.table.proofs.Laws.TimerRecords.{whole_timers}
use Rattle.timers.proofs.Laws.Numbers.{false_true, whole_count, whole_length, timers_more}
use Rattle.timers.proofs.Laws.Columns.{too_many_lem}

-- ---- the records from a number on

abbrev from : List ℕ → ℕ → List Timer
from ns n = timers_in (drop (n * 5) ns)

module _ (ns : List ℕ) (n : ℕ) where
  from_more : n < length ns / 5 → from ns n ≡ timer_at ns (n * 5) ∷ from ns (n + 1)
  from_more h =
      let z : n * 5 + 5 ≡ (n + 1) * 5 = omega arith in
      timers_more ns (n * 5) (omega arith) ∙ ap (λ k. timer_at ns (n * 5) ∷ timers_in (drop k ns)) z

  from_end : whole ns ≡ true → length ns / 5 ≤ n → from ns n ≡ []
  unfolding timers_in
  from_end w h =
      let fifths = eqb-true (length ns % 5) 0 (sym (whole_count ns) ∙ w) in
      rw (drop_of_length-le ns {i = n * 5} (omega arith)) refl

-- ---- one test of all records

pub record Testing (test : Timer → Bool) (ns : List ℕ) (answer : Bool) (n : ℕ) : Type 0 where
  pub same : all test (from ns n) ≡ answer

module _ (test : Timer → Bool) (ns : List ℕ) (answer : Bool) (n : ℕ) (i : Testing test ns answer n) where
  pub testing_more : n < length ns / 5 → test (timer_at ns (n * 5)) ≡ true → Testing test ns answer (n + 1)
  testing_more h e = record { same = rw (from_more ns n h, e) at i.same }

  pub testing_fails : n < length ns / 5 → test (timer_at ns (n * 5)) ≡ false → false ≡ answer
  testing_fails h e = rw (from_more ns n h, e) at i.same

  pub testing_ends : whole ns ≡ true → length ns / 5 ≤ n → true ≡ answer
  testing_ends w h = rw (from_end ns n w h) at i.same

pub testing_later : (test : Timer → Bool) (ns : List ℕ) (n : ℕ) → Testing test ns (all test (timers_in (drop (n * 5 + 5) ns))) (n + 1)
testing_later test ns n = let z : (n + 1) * 5 ≡ n * 5 + 5 = omega arith in record { same = rw z refl }

-- ---- variables that differ

others : (v : ℕ) (ts : List Timer) → all (λ other. not (eqb other v)) (timer_variables ts) ≡ all (other_variable v) ts
others v [] = refl
others v (t ∷ ts) = ap (λ b. other_variable v t && b) (others v ts)

pub record Differing (ns : List ℕ) (n : ℕ) : Type 0 where
  pub same : different eqb (timer_variables (from ns n)) ≡ different eqb (timer_variables (timers_in ns))

module _ (ns : List ℕ) (n : ℕ) (i : Differing ns n) where
  module _ (h : n < length ns / 5) (r : Bool) (e : r ≡ all (other_variable (get_or ns (n * 5 + 2) 0)) (timers_in (drop (n * 5 + 5) ns))) where
    abbrev rest : Bool
    rest = different eqb (timer_variables (from ns (n + 1)))

    split : different eqb (timer_variables (from ns n)) ≡ (r && rest)
    unfolding different
    split =
        let z : n * 5 + 5 ≡ (n + 1) * 5 = omega arith in
        let later = e ∙ ap (λ k. all (other_variable (get_or ns (n * 5 + 2) 0)) (timers_in (drop k ns))) z in
        rw (from_more ns n h, others (get_or ns (n * 5 + 2) 0) (from ns (n + 1)), later) refl

    pub differing_more : r ≡ true → Differing ns (n + 1)
    differing_more t = record { same = sym (split ∙ ap (λ b. b && rest) t) ∙ i.same }

    pub differing_fails : r ≡ false → false ≡ different eqb (timer_variables (timers_in ns))
    differing_fails t = sym (split ∙ ap (λ b. b && rest) t) ∙ i.same

  pub differing_ends : whole ns ≡ true → length ns / 5 ≤ n → true ≡ different eqb (timer_variables (timers_in ns))
  unfolding different
  differing_ends w h = rw (from_end ns n w h) at i.same

-- ---- the question

module _ (vars : ℕ) (ns : List ℕ) where
  pub left_over : (length ns % 5 ≡ 0 → ⊥) → false ≡ timers_in_range vars (number_timers ns)
  unfolding number_timers
  left_over h = rw (whole_count ns, ne_eqb _ _ h) (sym (too_many_lem vars too_many (omega arith)))

  -- what the test of the length says
  module _ (r : Bool) (e : ◌↔◌ (IsTrue r) (length ns % 5 ≡ 0)) where
    pub fifths : r ≡ true → length ns % 5 ≡ 0
    fifths t = e.0 t

    pub no_fifths : r ≡ false → length ns % 5 ≡ 0 → ⊥
    no_fifths t h = let z = e.1 h in false_true (sym t ∙ z)

  module _ (h : length ns % 5 ≡ 0) where
    pub is_whole : whole ns ≡ true
    is_whole = whole_count ns ∙ eq-eqb _ _ h

    pub over_most : 160 < length ns → false ≡ timers_in_range vars (number_timers ns)
    over_most k = let l = whole_length ns is_whole in rw (whole_timers ns is_whole) (sym (too_many_lem vars (timers_in ns) (omega arith)))

    module _ (k : length ns ≤ 160) (b : Bool) (e : b ≡ all (timer_below vars) (timers_in ns)) where
      in_range : timers_in_range vars (number_timers ns) ≡ (b && different eqb (timer_variables (timers_in ns)))
      unfolding timers_in_range
      in_range = let l = whole_length ns is_whole in rw (whole_timers ns is_whole, le-leb (length (timers_in ns)) most_timers (omega arith), e) refl

      pub not_below : b ≡ false → false ≡ timers_in_range vars (number_timers ns)
      not_below t = sym (in_range ∙ ap (λ x. x && different eqb (timer_variables (timers_in ns))) t)

      pub below : (r : Bool) → b ≡ true → r ≡ different eqb (timer_variables (timers_in ns)) → r ≡ timers_in_range vars (number_timers ns)
      below r t f = f ∙ sym (in_range ∙ ap (λ x. x && different eqb (timer_variables (timers_in ns))) t)
