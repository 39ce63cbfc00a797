-- Laws of the questions in order. Assumes nothing.
use Prim.Native.Nat.{ℕ}
use mathlib.Core.Path.{◌≡◌, refl}
use mathlib.Core.Bool.{true, false}
use mathlib.Core.Option.{none, some}
use mathlib.Core.List.{List}
use lib.Dec.{leb}
use lib.ListN.{length}
use borrow.Author.Tests.{eq-eqb, ne_eqb}
use Rattle.questions.specs.Questions.{ask, first_no, question12, most_instruction_watchdog}
use Rattle.questions.specs.Refusals.{refusal_of, verdict_answer}
use Rattle.questions.specs.declared.Refusal.{Refusal as RefusalCase}
use Rattle.questions.specs.declared.Refusal.TheVariants.{Table, Watchdog, Timers}
use Rattle.std.specs.Prelude.{Ok, Err}
use Rattle.table.specs.TimerRecords.{number_timers}
use Rattle.ladder_definitions.specs.Kept.{Kept}
use Rattle.ladder_definitions.specs.LadderScan.{scan_questions}
use Rattle.translation_definitions.specs.BothScans.{copy_question}
use Rattle.both_parts.specs.Parts.{Lengths, both_asked}

module _ (vars : ℕ) (k : Kept) (table timers : List ℕ) (m : Lengths) (n w : ℕ) where
  pub asked_refused : (x : RefusalCase) → scan_questions vars k table (number_timers timers) n ≡ some (refusal_of x) → verdict_answer (Err x) ≡ both_asked vars k table timers m n w
  unfolding both_asked first_no verdict_answer
  asked_refused x e = rw e refl

  module _ (ok : scan_questions vars k table (number_timers timers) n ≡ none) where
    pub asked_ladder_timers : (m.ladder_numbers ≡ length timers → ⊥) → verdict_answer (Err Timers) ≡ both_asked vars k table timers m n w
    unfolding both_asked first_no verdict_answer copy_question ask refusal_of
    asked_ladder_timers h = rw (ok, ne_eqb m.ladder_numbers (length timers) h) refl

    module _ (first : m.ladder_numbers ≡ length timers) where
      pub asked_list_timers : (m.list_numbers ≡ length timers → ⊥) → verdict_answer (Err Timers) ≡ both_asked vars k table timers m n w
      unfolding both_asked first_no verdict_answer copy_question ask refusal_of
      asked_list_timers h = rw (ok, eq-eqb m.ladder_numbers (length timers) first, ne_eqb m.list_numbers (length timers) h) refl

      module _ (second : m.list_numbers ≡ length timers) where
        pub asked_ladder_copy : (m.ladder_bytes ≡ length table → ⊥) → verdict_answer (Err Table) ≡ both_asked vars k table timers m n w
        unfolding both_asked first_no verdict_answer copy_question ask refusal_of
        asked_ladder_copy h =
            rw (ok, eq-eqb m.ladder_numbers (length timers) first, eq-eqb m.list_numbers (length timers) second, ne_eqb m.ladder_bytes (length table) h) refl

        module _ (third : m.ladder_bytes ≡ length table) where
          pub asked_list_copy : (m.list_bytes ≡ length table → ⊥) → verdict_answer (Err Table) ≡ both_asked vars k table timers m n w
          unfolding both_asked first_no verdict_answer copy_question ask refusal_of
          asked_list_copy h =
              rw (
                ok,
                eq-eqb m.ladder_numbers (length timers) first,
                eq-eqb m.list_numbers (length timers) second,
                eq-eqb m.ladder_bytes (length table) third,
                ne_eqb m.list_bytes (length table) h,
              ) refl

          module _ (fourth : m.list_bytes ≡ length table) where
            pub asked_instructions : leb w most_instruction_watchdog ≡ false → verdict_answer (Err Watchdog) ≡ both_asked vars k table timers m n w
            unfolding both_asked first_no verdict_answer copy_question question12 ask refusal_of
            asked_instructions g =
                rw (
                  ok,
                  eq-eqb m.ladder_numbers (length timers) first,
                  eq-eqb m.list_numbers (length timers) second,
                  eq-eqb m.ladder_bytes (length table) third,
                  eq-eqb m.list_bytes (length table) fourth,
                  g,
                ) refl

            pub asked_accepted : leb w most_instruction_watchdog ≡ true → verdict_answer (Ok tt) ≡ both_asked vars k table timers m n w
            unfolding both_asked first_no verdict_answer copy_question question12 ask
            asked_accepted g =
                rw (
                  ok,
                  eq-eqb m.ladder_numbers (length timers) first,
                  eq-eqb m.list_numbers (length timers) second,
                  eq-eqb m.ladder_bytes (length table) third,
                  eq-eqb m.list_bytes (length table) fourth,
                  g,
                ) refl
