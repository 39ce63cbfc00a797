-- Laws of question 4 put to a row one record after the other, and of the first "no" to a row of more than 256 records. Assumes nothing.
use Prim.Native.Nat.{ℕ, suc, ◌+◌, ◌-◌, ◌≤◌, ◌<◌}
use native.Mathlib.Numerals.{add-one}
use native.Mathlib.Omega.{arith}
use mathlib.Core.Path.{◌≡◌, refl, sym, ◌∙◌}
use mathlib.Core.Bool.{Bool, true, false, true≢false, ◌&&◌, and-false}
use mathlib.Core.Option.{some}
use mathlib.Core.List.{List, [], ◌++◌}
use lib.Dec.{eqb, leb}
use lib.ListN.{length, take, drop, drop_of_length-le, length-drop}
use lib.Seq.{drop-cons}
use borrow.Author.Tests.{eq-eqb, ne_eqb, lt-ltb, le-ltb, le-leb, lt-leb}
use Rattle.questions.specs.Questions.{Refusal, Answer, ask, first_no, vars_in_range, question1}
use Rattle.questions.specs.Refusals.{refusal_of}
use Rattle.questions.proofs.Laws.Answers.{first_append}
use Rattle.questions.specs.declared.Refusal.{Refusal as RefusalCase}
use Rattle.questions.specs.declared.Refusal.TheVariants.{Variables, Kept as KeptCase, Sizes, Timers}
use Rattle.table.specs.Questions.{timers_in_range, question16}
use Rattle.table.specs.TimerRecords.{number_timers}
use Rattle.rungs.specs.Records.{RungRecord, most_records}
use Rattle.rows.specs.Rows.{records_of, no_record, rung_at}
use Rattle.rows.specs.declared.Rung.{Rung}
use Rattle.rows.proofs.Laws.Records.{records_at, records_length}
use Rattle.ladder_definitions.specs.Tree.{Ladder}
use Rattle.ladder_definitions.specs.Questions.{ladder_of, holds_ladder, question4, sizes_in_range, question5, form_questions, ladder_questions, ladder_answer}
use Rattle.ladder_definitions.specs.LadderScan.{scan_questions}
use Rattle.ladder_kept.specs.Pending.{completes, holds_from}
use Rattle.ladder_definitions.proofs.Laws.Accepting.{holds}
use Rattle.ladder_definitions.proofs.Laws.Held.{kept_many}
use Rattle.ladder_kept.proofs.Laws.Pending.{holds_counted}
use Rattle.ladder_kept.proofs.Holding.{Walking}
use Rattle.ladder_rows.specs.Parts.{long_holds, LongRefused, LongScanRefused}

-- ---- the walk

pub few_hold : (ws : List ℕ) (row : List Rung) → length row ≤ most_records → false ≡ long_holds ws (records_of row)
unfolding long_holds
few_hold ws row h = let n = records_length row in rw (le-ltb most_records (length (records_of row)) (omega arith))

module _ (ws : List ℕ) (row : List Rung) (many : most_records < length row) where
  abbrev rs : List RungRecord
  rs = records_of row

  module _ {rest : List ℕ} {i : ℕ} (inv : Walking ws rs rest i) where
    whole : holds_from (length ws - length rest) (drop i rs) rest ≡ long_holds ws rs
    unfolding long_holds
    whole = let n = records_length row in rw (lt-ltb most_records (length rs) (omega arith)) (inv.same ∙ sym (holds_counted rs ws (omega arith)))

    pub walk_end : length row ≤ i → eqb (length rest) 0 ≡ long_holds ws rs
    unfolding holds_from
    walk_end h =
        let n = records_length row in
        let d : drop i rs ≡ [] = drop_of_length-le rs (omega arith) in
        rw d at whole

    module _ (h : i < length row) (r : Rung) (here : r ≡ rung_at row i) where
      heads : holds_from (length ws - length rest) (drop i rs) rest
          ≡ ((eqb r.offset (length ws - length rest) && leb r.length (length rest))
          && (completes 1 1 (take r.length rest) && holds_from (length ws - length rest + r.length) (drop (suc i) rs) (drop r.length rest)))
      unfolding holds_from
      heads =
          let n = records_length row in
          rw (drop-cons rs i no_record (omega arith), records_at row i, here) refl

      pub record_long : length rest < r.length → false ≡ long_holds ws rs
      record_long l = sym (sym whole ∙ heads ∙ rw (lt-leb r.length (length rest) l, and-false (eqb r.offset (length ws - length rest))) refl)

      pub record_off : (r.offset ≡ length ws - length rest → ⊥) → false ≡ long_holds ws rs
      record_off n = sym (sym whole ∙ heads ∙ rw (ne_eqb _ _ n) refl)

      pub rung_wrong : completes 1 1 (take r.length rest) ≡ false → false ≡ long_holds ws rs
      rung_wrong b = sym (sym whole ∙ heads ∙ rw (b, and-false (eqb r.offset (length ws - length rest) && leb r.length (length rest))) refl)

      pub rung_right : r.offset ≡ length ws - length rest → r.length ≤ length rest → completes 1 1 (take r.length rest) ≡ true → Walking ws rs (drop r.length rest) (i + 1)
      rung_right e l b =
          let w = inv.within in
          let m = length-drop r.length rest in
          let s : length ws - length (drop r.length rest) ≡ length ws - length rest + r.length = omega arith in
          record { same = rw (s, add-one) (sym (rw (eq-eqb _ _ e, le-leb r.length (length rest) l, b) at heads) ∙ inv.same); within = omega arith }

-- ---- a row of more than 256 records

-- a "no" among the first of them
first_no_lem : (answers later : List Answer) (r : Refusal) → first_no answers ≡ some r → first_no (answers ++ later) ≡ some r
unfolding first_no
first_no_lem answers later r e = first_append answers later ∙ rw e refl

module _ (vars : ℕ) (asked : Bool) where
  -- the answer to question 4 of such a row
  told : (ws : List ℕ) (rs : List RungRecord) → most_records < length rs → asked ≡ long_holds ws rs → holds_ladder (record { words = ws; records = rs }) ≡ asked
  unfolding long_holds
  told ws rs h e = sym (e ∙ rw (lt-ltb most_records (length rs) h))

  pub long_variables : vars_in_range vars ≡ false → LongRefused vars asked Variables
  unfolding refusal_of ladder_answer first_no question1 ask
  long_variables n = record { same = λ ws rs h e. rw n; form = λ y. absurd (true≢false (sym y ∙ n)) }

  module _ (y : vars_in_range vars ≡ true) where
    pub long_kept : asked ≡ false → LongRefused vars asked KeptCase
    unfolding refusal_of ladder_answer ladder_questions form_questions first_no question1 question4 ask
    long_kept n = record { same = λ ws rs h e. let z = told ws rs h e ∙ n in rw (y, z); form = λ y ws rs h e. let z = told ws rs h e ∙ n in rw z }

    pub long_sizes : asked ≡ true → LongRefused vars asked Sizes
    unfolding refusal_of ladder_answer ladder_questions form_questions first_no question1 question4 question5 ask sizes_in_range
    long_sizes a = record {
      same = λ ws rs h e. let z = told ws rs h e ∙ a in rw (y, z, sizes ws rs h z);
      form = λ y ws rs h e. let z = told ws rs h e ∙ a in rw (z, sizes ws rs h z);
    }
      where
        many : (ws : List ℕ) (rs : List RungRecord) → holds_ladder (record { words = ws; records = rs }) ≡ true → length rs ≡ length (ladder_of (record { words = ws; records = rs }))
        many ws rs z = kept_many (record { words = ws; records = rs }) (ladder_of (record { words = ws; records = rs })) (holds (record { words = ws; records = rs }) (rw z)).0

        too_many_lem : (gs : Ladder) → most_records < length gs → sizes_in_range gs ≡ false
        too_many_lem gs h = rw (lt-leb (length gs) most_records h)

        sizes : (ws : List ℕ) (rs : List RungRecord) → most_records < length rs → holds_ladder (record { words = ws; records = rs }) ≡ true
            → sizes_in_range (ladder_of (record { words = ws; records = rs })) ≡ false
        sizes ws rs h z = let n = many ws rs z in too_many_lem (ladder_of (record { words = ws; records = rs })) (omega arith)

-- what Ladder scan's first question says "no" to
module _ (vars : ℕ) (ns : List ℕ) (asked : Bool) where
  pub long_vars : vars_in_range vars ≡ false → LongScanRefused vars ns asked Variables
  unfolding scan_questions refusal_of first_no question1 ask
  long_vars n = record { same = λ ws rs t w h e. rw n }

  -- question 16 comes after question 1
  pub long_timers : vars_in_range vars ≡ true → timers_in_range vars (number_timers ns) ≡ false → LongScanRefused vars ns asked Timers
  unfolding scan_questions refusal_of first_no question1 question16 ask
  long_timers y n = record { same = λ ws rs t w h e. rw (y, n) }

  -- and the others after it
  pub long_legal : (r : RefusalCase) → LongRefused vars asked r → vars_in_range vars ≡ true → timers_in_range vars (number_timers ns) ≡ true → LongScanRefused vars ns asked r
  unfolding scan_questions first_no question1 question16 ask
  long_legal r refused y z = record {
    same = λ ws rs t w h e. rw (y, z) (first_no_lem (form_questions vars (record { words = ws; records = rs })) _ (refusal_of r) (refused.form y ws rs h e));
  }
