-- Where question 16 or 17 says "no", both scans of an accepted ladder and of its list refuse alike. Assumes nothing.
use Rattle.std.specs.Prelude.{ℕ, ◌≡◌, List, [], ◌∷◌, map, length}
use Rattle.std.proofs.Math.Path.{refl}
use Rattle.std.proofs.Math.Option.{none, some}
use Rattle.questions.specs.Questions.{Refusal, Answer, first_no, question12, most_rung_watchdog, most_instruction_watchdog}
use Rattle.table.specs.Timer.{Timer}
use Rattle.table.specs.Questions.{question11, question16}
use Rattle.ladder_definitions.specs.Tree.{Ladder}
use Rattle.ladder_definitions.specs.Kept.{Kept}
use Rattle.ladder_definitions.specs.Questions.{ladder_of, question9, question17, form_questions, ladder_answer, Accepted}
use Rattle.ladder_definitions.specs.LadderScan.{call_ladder_scan, scan_questions as ladder_scan_questions}
use Rattle.ladder_definitions.proofs.Laws.Accepting.{accepted, some_question4}
use Rattle.list_definitions.specs.Instruction.{instr_word, code_of}
use Rattle.list_definitions.specs.Machine.{InstructionList}
use Rattle.list_definitions.specs.ListScan.{call_list_scan, scan_questions as list_scan_questions}
use Rattle.translation_definitions.specs.Translate.{translate}
use Rattle.translation_definitions.specs.Calls.{TimersRefused}
use Rattle.translation_definitions.proofs.Laws.Legal.{list_in_range_lem, list_decodes}
use Rattle.translation_definitions.proofs.Laws.Timed.{same_question17}

-- the first "no" is that of 16 or of 17, whatever is asked after it
first_of : (a b : Answer) (later : List Answer) (r : Refusal) → first_no (a ∷ b ∷ []) ≡ some r → first_no (a ∷ b ∷ later) ≡ some r
unfolding first_no
first_of (some x) b later r e = e
first_of none (some x) later r e = e
first_of none none later r e = cc

module _ (vars : ℕ) (kept : Kept) (table : List ℕ) (timers : List Timer) (now n w : ℕ) (r : Refusal) (ok : ladder_answer vars kept ≡ none) where
  abbrev gs : Ladder
  gs = ladder_of kept

  abbrev list : InstructionList
  list = translate vars gs

  accepts : Accepted vars gs
  accepts = (accepted vars kept ok).1

  ladder_no : first_no (question16 vars timers ∷ question17 (length timers) gs ∷ []) ≡ some r → ladder_scan_questions vars kept table timers n ≡ some r
  unfolding ladder_scan_questions form_questions first_no
  ladder_no e = go (question16 vars timers) refl e
    where
      go : (a : Answer) → question16 vars timers ≡ a → first_no (a ∷ question17 (length timers) gs ∷ []) ≡ some r → ladder_scan_questions vars kept table timers n ≡ some r
      go (some x) q h = rw (accepts.range, q) h
      go none q h =
          rw (accepts.range, q, some_question4 kept accepts.some_rung, accepts.sizes, accepts.variables, accepts.differ, accepts.jumps)
          (first_of none (question17 (length timers) gs) (question9 gs ∷ question11 vars table ∷ question12 most_rung_watchdog n ∷ []) r h)

  list_no : first_no (question16 vars timers ∷ question17 (length timers) gs ∷ []) ≡ some r
      → list_scan_questions vars (map instr_word list.code) list.records table timers w ≡ some r
  unfolding list_scan_questions first_no code_of
  list_no e = go (question16 vars timers) refl e
    where
      held : code_of (map instr_word list.code) ≡ list.code
      held = rw (list_decodes vars gs accepts, code_of)

      go : (a : Answer) → question16 vars timers ≡ a → first_no (a ∷ question17 (length timers) gs ∷ []) ≡ some r
          → list_scan_questions vars (map instr_word list.code) list.records table timers w ≡ some r
      go (some x) q h = rw (accepts.range, q) h
      go none q h =
          rw (accepts.range, q, list_in_range_lem vars gs accepts, held, ← (same_question17 vars (length timers) gs accepts))
          (first_of none (question17 (length timers) gs) (question11 vars table ∷ question12 most_instruction_watchdog w ∷ []) r h)

  pub timers_refused : first_no (question16 vars timers ∷ question17 (length timers) gs ∷ []) ≡ some r
      → TimersRefused vars kept (map instr_word list.code) list.records table timers now n w r
  unfolding call_ladder_scan call_list_scan
  timers_refused e = record {
    ladder = rw (ladder_no e, call_ladder_scan);
    list = rw (list_no e, call_list_scan);
    ladder_timers = rw (ladder_no e, call_ladder_scan);
    list_timers = rw (list_no e, call_list_scan);
  }
