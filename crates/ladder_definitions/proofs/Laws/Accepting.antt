-- What question 4 and the questions after it tell of words and records. Assumes nothing.
use Rattle.std.specs.Prelude.{ℕ, ◌≤◌, ◌≡◌, refl, ◌&&◌, T, leb, length}
use Rattle.std.proofs.Common.{arith, leb→le, le→leb}
use Rattle.std.proofs.Math.Option.{Option, none, some}
use mathlib.Core.List.{List, [], ◌∷◌, ◌++◌, flat_map}
use Rattle.std.proofs.Math.Facts.{and_yes}
use Rattle.questions.specs.Tests.{all}
use Rattle.questions.specs.Questions.{Answer, first_no, question1, question12, most_rung_watchdog}
use Rattle.questions.proofs.Laws.Answers.{ask_passed, passed_ask, first_yes, later_yes, first_append}
use Rattle.table.specs.Timer.{Timer}
use Rattle.table.specs.Questions.{question11, question16}
use Rattle.ladder_definitions.specs.Tree.{Ladder}
use Rattle.ladder_definitions.specs.Kept.{Kept, rung_words, encode, decode}
use Rattle.ladder_definitions.specs.Questions.{ladder_of, holds_ladder, question4, most_rungs, most_rung_words, most_words, sizes_in_range, question5, question6, question7, question8, question9, question17, form_questions, ladder_questions, ladder_answer, Accepted}
use Rattle.ladder_definitions.specs.LadderScan.{scan_questions}
use Rattle.ladder_definitions.proofs.Laws.Decoding.{rung_fits, ladder_back, ladder_held}

pub decode_encode : (gs : Ladder) → T (all rung_fits gs) → decode (encode gs) ≡ some gs
unfolding decode encode
decode_encode gs h = ladder_back 0 gs h

pub encode_decode : (k : Kept) (gs : Ladder) → decode k ≡ some gs → (k ≡ encode gs) × T (all rung_fits gs)
unfolding decode encode
encode_decode k gs e =
    let h = ladder_held 0 k.records k.words gs e in
    (λ i. record { words = h.words i; records = h.records i }, h.fit)

pub ladder_is : (k : Kept) (gs : Ladder) → decode k ≡ some gs → ladder_of k ≡ gs
unfolding ladder_of
ladder_is k gs e = rw (e, ladder_of)

-- question 4 got a yes: the words and records hold a ladder
pub holds : (k : Kept) → question4 k ≡ none → (decode k ≡ some (ladder_of k)) × (1 ≤ length (ladder_of k))
unfolding question4 holds_ladder ladder_of
holds k e = go (decode k) refl
  where
    some_rung : 1 ≤ length (ladder_of k)
    some_rung = leb→le 1 (length (ladder_of k)) (ask_passed 4 _ e)

    go : (x : Option Ladder) → decode k ≡ x → (decode k ≡ some (ladder_of k)) × (1 ≤ length (ladder_of k))
    go none q = let z : ladder_of k ≡ [] = rw (q, ladder_of) in let n = rw z at some_rung in absurd (omega arith)
    go (some gs) q = (rw (ladder_is k gs q) q, some_rung)

pub some_question4 : (k : Kept) → 1 ≤ length (ladder_of k) → question4 k ≡ none
unfolding question4 holds_ladder
some_question4 k h = passed_ask 4 _ (le→leb 1 (length (ladder_of k)) h)

-- question 5 got a yes
pub record Sized (gs : Ladder) : Type 0 where
  pub rungs : length gs ≤ most_rungs
  pub words_a_rung : T (all (λ g. leb (length (rung_words g)) most_rung_words) gs)
  pub words : length (flat_map rung_words gs) ≤ most_words

pub sized : (gs : Ladder) → question5 gs ≡ none → Sized gs
unfolding question5 sizes_in_range encode
sized gs e =
    let small = all (λ g. leb (length (rung_words g)) most_rung_words) gs in
    let h = and_yes (leb (length gs) most_rungs) (small && leb (length (flat_map rung_words gs)) most_words) (ask_passed 5 _ e) in
    let k = and_yes small (leb (length (flat_map rung_words gs)) most_words) h.1 in
    record { rungs = leb→le (length gs) most_rungs h.0; words_a_rung = k.0; words = leb→le (length (flat_map rung_words gs)) most_words k.1 }

-- the questions that got a yes, one by one
pub accepted : (vars : ℕ) (k : Kept) → ladder_answer vars k ≡ none → (decode k ≡ some (ladder_of k)) × Accepted vars (ladder_of k)
unfolding ladder_answer ladder_questions form_questions
accepted vars k e =
    let gs = ladder_of k in
    let e4 = later_yes (question1 vars) _ e in
    let e5 = later_yes (question4 k) _ e4 in
    let e6 = later_yes (question5 gs) _ e5 in
    let e7 = later_yes (question6 vars gs) _ e6 in
    let e8 = later_yes (question7 gs) _ e7 in
    let e9 = later_yes (question8 gs) _ e8 in
    let h = holds k (first_yes (question4 k) _ e4) in (
      h.0,
      record {
        range = first_yes (question1 vars) _ e;
        some_rung = h.1;
        fits = (encode_decode k gs h.0).1;
        sizes = first_yes (question5 gs) _ e5;
        variables = first_yes (question6 vars gs) _ e6;
        differ = first_yes (question7 gs) _ e7;
        jumps = first_yes (question8 gs) _ e8;
        scratch = first_yes (question9 gs) _ e9;
      },
    )

all_yes : (vars : ℕ) (k : Kept) → let gs = ladder_of k in question1 vars ≡ none → question4 k ≡ none → question5 gs ≡ none → question6 vars gs ≡ none → question7 gs ≡ none
    → question8 gs ≡ none → question9 gs ≡ none → ladder_answer vars k ≡ none
unfolding ladder_answer ladder_questions form_questions first_no
all_yes vars k q1 q4 q5 q6 q7 q8 q9 = rw (q1, q4, q5, q6, q7, q8, q9)

pub accepting : (vars : ℕ) (k : Kept) → Accepted vars (ladder_of k) → ladder_answer vars k ≡ none
accepting vars k a = all_yes vars k a.range (some_question4 k a.some_rung) a.sizes a.variables a.differ a.jumps a.scratch

-- questions 1 and 4 to 9 before others: their answer first
pub ladder_first : (vars : ℕ) (k : Kept) (later : List Answer) → first_no (question1 vars ∷ ladder_questions vars k ++ later) ≡ first_no (ladder_answer vars k ∷ later)
unfolding ladder_answer
ladder_first vars k later = first_append (question1 vars ∷ ladder_questions vars k) later

-- ---- Ladder scan's questions

-- all got a "yes"
pub record ScanPassed (vars : ℕ) (k : Kept) (table : List ℕ) (timers : List Timer) (n : ℕ) : Type 0 where
  pub accepted : ladder_answer vars k ≡ none
  pub legal_timers : question16 vars timers ≡ none
  pub known_timers : question17 (length timers) (ladder_of k) ≡ none
  pub legal_table : question11 vars table ≡ none
  pub watchdog : question12 most_rung_watchdog n ≡ none

module _ (vars : ℕ) (k : Kept) (table : List ℕ) (timers : List Timer) (n : ℕ) where
  pub passed_scan : ScanPassed vars k table timers n → scan_questions vars k table timers n ≡ none
  unfolding scan_questions form_questions first_no
  passed_scan p =
      let a = (accepted vars k p.accepted).1 in
      rw (a.range, p.legal_timers, some_question4 k a.some_rung, a.sizes, a.variables, a.differ, a.jumps, p.known_timers, a.scratch, p.legal_table, p.watchdog)

  pub scan_passed : scan_questions vars k table timers n ≡ none → ScanPassed vars k table timers n
  unfolding scan_questions form_questions
  scan_passed e =
      let gs = ladder_of k in
      let e16 = later_yes (question1 vars) _ e in
      let e4 = later_yes (question16 vars timers) _ e16 in
      let e5 = later_yes (question4 k) _ e4 in
      let e6 = later_yes (question5 gs) _ e5 in
      let e7 = later_yes (question6 vars gs) _ e6 in
      let e8 = later_yes (question7 gs) _ e7 in
      let e17 = later_yes (question8 gs) _ e8 in
      let e9 = later_yes (question17 (length timers) gs) _ e17 in
      let e11 = later_yes (question9 gs) _ e9 in
      let e12 = later_yes (question11 vars table) _ e11 in
      record {
        accepted = all_yes vars k (first_yes (question1 vars) _ e) (first_yes (question4 k) _ e4) (first_yes (question5 gs) _ e5) (first_yes (question6 vars gs) _ e6)
            (first_yes (question7 gs) _ e7) (first_yes (question8 gs) _ e8) (first_yes (question9 gs) _ e9);
        legal_timers = first_yes (question16 vars timers) _ e16;
        known_timers = first_yes (question17 (length timers) gs) _ e17;
        legal_table = first_yes (question11 vars table) _ e11;
        watchdog = first_yes (question12 most_rung_watchdog n) _ e12;
      }
