-- Laws of every question in order, 13 last, and of the watchdog that they are put to. Assumes nothing.
use Prim.Native.Nat.{ℕ}
use native.Mathlib.Omega.{arith}
use mathlib.Core.Path.{◌≡◌, refl, sym, ap, ◌∙◌}
use mathlib.Core.Option.{none, some}
use mathlib.Core.List.{List, [], ◌∷◌, ◌++◌}
use lib.ListN.{length}
use Rattle.questions.specs.Questions.{Answer, first_no, question12, question13, most_instruction_watchdog}
use Rattle.questions.proofs.Laws.Answers.{first_yes, first_append, in_range_watchdog}
use Rattle.table.specs.TimerRecords.{number_timers}
use Rattle.rungs.specs.Buffers.{needs}
use Rattle.ladder_definitions.specs.Kept.{Kept}
use Rattle.ladder_definitions.specs.Questions.{ladder_of}
use Rattle.ladder_definitions.specs.LadderScan.{scan_questions}
use Rattle.ladder_definitions.proofs.Laws.Accepting.{scan_passed}
use Rattle.translation_definitions.specs.Translate.{translate}
use Rattle.translation_definitions.specs.TranslateKept.{list_buffers}
use Rattle.translation_definitions.specs.BothScans.{Lent, copy_questions, both_questions, paired_watchdog}
use Rattle.translation_definitions.proofs.Laws.Boths.{paired_legal}
use Rattle.both_parts.specs.Parts.{Lengths, copy_lengths, both_asked, asked_watchdog}
use Rattle.both_scans.specs.Parts.{chosen_watchdog}
use Rattle.std.specs.Prelude.{Option, Some, None, unwrap_or}

-- the watchdog that is given, or 0
pub asked_is : (w : Option ℕ) → unwrap_or w 0 ≡ asked_watchdog w
unfolding asked_watchdog
asked_is (Some n) = refl
asked_is None = refl

-- a later question may be another, if both get a "yes" once those before did
exchanged : (before : Answer) (a b : Answer) (later : List Answer) → a ≡ none → (before ≡ none → b ≡ none) → first_no (before ∷ b ∷ later) ≡ first_no (before ∷ a ∷ later)
unfolding first_no
exchanged none a b later e f = rw (e, f refl) refl
exchanged (some r) a b later e f = refl

-- how many numbers and bytes the copies were lent
abbrev pub lent_lengths : Lent → Lengths
lent_lengths lent = copy_lengths (length lent.ladder_timers) (length lent.list_timers) (length lent.ladder_table) (length lent.list_table)

module _ (vars : ℕ) (k : Kept) (table timers : List ℕ) (now : ℕ) (lent : Lent) (n : ℕ) where
  abbrev early : List Answer
  early =
      scan_questions vars k table (number_timers timers) n
      ∷ copy_questions table timers (length lent.ladder_timers) (length lent.list_timers) (length lent.ladder_table) (length lent.list_table)

  abbrev pub room : Answer
  room = question13 (needs (list_buffers (translate vars (ladder_of k))) lent.buffers)

  by_asked : (w : ℕ) → first_no (both_questions vars k table timers lent n w) ≡ first_no (both_asked vars k table timers (lent_lengths lent) n w ∷ room ∷ [])
  unfolding both_questions both_asked
  by_asked w = first_append (early ++ question12 most_instruction_watchdog w ∷ []) (room ∷ [])

  early_legal : first_no early ≡ none → question12 most_instruction_watchdog (paired_watchdog vars k table timers now n) ≡ none
  early_legal e = let p = scan_passed vars k table (number_timers timers) n (first_yes _ _ e) in paired_legal vars k table timers now n p.accepted p.watchdog

  paired_asked : both_asked vars k table timers (lent_lengths lent) n (paired_watchdog vars k table timers now n) ≡ both_asked vars k table timers (lent_lengths lent) n 0
  unfolding both_asked
  paired_asked =
      first_append early (question12 most_instruction_watchdog (paired_watchdog vars k table timers now n) ∷ [])
      ∙ exchanged (first_no early) (question12 most_instruction_watchdog 0) (question12 most_instruction_watchdog (paired_watchdog vars k table timers now n)) []
      (in_range_watchdog most_instruction_watchdog 0 (omega arith)) early_legal
      ∙ sym (first_append early (question12 most_instruction_watchdog 0 ∷ []))

  pub asked_all : (watchdog : Option ℕ) → first_no (both_questions vars k table timers lent n (chosen_watchdog watchdog vars k table timers now n))
      ≡ first_no (both_asked vars k table timers (lent_lengths lent) n (asked_watchdog watchdog) ∷ room ∷ [])
  unfolding chosen_watchdog asked_watchdog
  asked_all (Some w) = by_asked w
  asked_all None = by_asked (paired_watchdog vars k table timers now n) ∙ ap (λ a. first_no (a ∷ room ∷ [])) paired_asked
