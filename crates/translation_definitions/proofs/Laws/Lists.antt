-- The translated list is the list of the rungs' codes, its jumps lead to their rungs, and each rung's code does what the rung does. Assumes nothing.
use Rattle.std.specs.Prelude.{◌≡◌, Bool, ℕ, ◌≤◌, T, leb, length}
use Rattle.std.proofs.Math.Path.{ap}
use Rattle.std.proofs.Common.{◌∙◌, arith, leb→le}
use mathlib.Core.List.{List, ◌∷◌, ◌++◌, flat_map}
use Rattle.questions.specs.Tests.{all}
use Rattle.questions.proofs.Laws.Tests.{all_at}
use Rattle.questions.proofs.Laws.Answers.{ask_passed, each_passed}
use Rattle.table.specs.State.{State, scratch_bytes}
use Rattle.table.proofs.Laws.Alike.{Alike, alike_same}
use Rattle.rungs.specs.Records.{lay, present, start_of}
use Rattle.rungs.proofs.Laws.Rows.{present_below}
use Rattle.rungs.proofs.Laws.Layout.{sizes, start_at, start_most, lay_same, pieces_length}
use Rattle.ladder_definitions.specs.Tree.{Rung, Ladder, labels}
use Rattle.ladder_definitions.specs.Meaning.{run_rung}
use Rattle.ladder_definitions.specs.Questions.{rung_below, rung_leads, rung_scratch, question6, question8, scratch_in_range, question9, Accepted}
use Rattle.list_definitions.specs.Instruction.{Instr}
use Rattle.translation_definitions.specs.Translate.{rung_code, list_records, translate}
use Rattle.translation_definitions.specs.Agreement.{Agreement, SumsAgree, TimesAgree}
use Rattle.translation_definitions.proofs.Laws.Places.{label_of, size_by, list_of, first}
use Rattle.translation_definitions.proofs.Laws.Parts.{same_length, rung_did}
use Rattle.translation_definitions.proofs.Laws.Scans.{RungDid, agrees, sums_agree, times_agree}

-- what questions 6, 8 and 9 tell of every rung
pub below_all : (vars : ℕ) (gs : Ladder) → Accepted vars gs → T (all (rung_below vars) gs)
unfolding question6
below_all vars gs a = each_passed 6 (rung_below vars) gs a.variables

pub leads_all : (vars : ℕ) (gs : Ladder) → Accepted vars gs → T (all (rung_leads (labels gs)) gs)
unfolding question8
leads_all vars gs a = each_passed 8 (rung_leads (labels gs)) gs a.jumps

pub scratch_all : (vars : ℕ) (gs : Ladder) → Accepted vars gs → T (all (λ g. leb (rung_scratch g) scratch_bytes) gs)
unfolding question9 scratch_in_range
scratch_all vars gs a = ask_passed 9 _ a.scratch

module _ (vars : ℕ) (gs : Ladder) where
  abbrev pub start : ℕ → ℕ
  start = start_of (list_records vars gs)

  abbrev pub code : Rung → List Instr
  code = rung_code vars start

  pub records_are : list_records vars gs ≡ lay label_of (size_by code) 0 gs
  unfolding list_records
  records_are = lay_same label_of (size_by (rung_code vars (λ l. 0))) (size_by code) (same_length vars (λ l. 0) start) 0 gs

  pub translate_is : translate vars gs ≡ list_of code gs
  unfolding translate list_of
  translate_is = λ i. record { code = flat_map code gs; records = records_are i }

  leads : (l : ℕ) → T (present l (labels gs)) → start l ≡ first code gs l
  unfolding first
  leads l h = ap (λ rs. start_of rs l) records_are ∙ start_at label_of (size_by code) gs l (present_below label_of l gs h)

  -- no jump leads past the end
  pub start_near : (l : ℕ) → start l ≤ length (flat_map code gs)
  start_near l =
      let e = ap (λ rs. start_of rs l) records_are in
      let n = pieces_length code gs in
      let h = start_most label_of (size_by code) gs l in
      omega arith

  module _ (a : Accepted vars gs) where
    did : (pre : Ladder) (g : Rung) (post : Ladder) → gs ≡ pre ++ g ∷ post → (s t : State) (v : Bool) → Alike vars s t
        → RungDid (Alike vars) 2 code gs (sizes (size_by code) pre) (code g) v t (run_rung g s)
    did pre g post e s t v p = rung_did vars code gs (labels gs) start leads (sizes (size_by code) pre) g s t v
        (all_at (rung_below vars) pre g post (rw e at (below_all vars gs a)))
        (all_at (rung_leads (labels gs)) pre g post (ap_all e (leads_all vars gs a)))
        (leb→le (rung_scratch g) scratch_bytes (all_at (λ h. leb (rung_scratch h) scratch_bytes) pre g post (rw e at (scratch_all vars gs a)))) p
      where
        ap_all : {xs ys : Ladder} → xs ≡ ys → T (all (rung_leads (labels gs)) xs) → T (all (rung_leads (labels gs)) ys)
        ap_all q h = rw q at h

    pub translated_agrees : (s : State) (n : ℕ) → Alike vars s s → Agreement 2 gs (translate vars gs) s n
    translated_agrees s n alike = rw translate_is (agrees (Alike vars) (λ a b p. alike_same p) 2 code gs (omega arith) did s n alike)

    pub translated_sums : (s : State) (n : ℕ) → Alike vars s s → SumsAgree gs (translate vars gs) s n
    translated_sums s n alike = rw translate_is (sums_agree (Alike vars) (λ a b p. alike_same p) 2 code gs (omega arith) did s n alike (λ a b p. p.same_moved))

    pub translated_times : (s : State) (n : ℕ) → Alike vars s s → TimesAgree gs (translate vars gs) s n
    translated_times s n alike = rw translate_is (times_agree (Alike vars) (λ a b p. alike_same p) 2 code gs (omega arith) did s n alike a.differ)
