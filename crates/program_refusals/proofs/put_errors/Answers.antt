-- `program_refusals::put_errors` meets its contract: the name and what is wrong, and the name and the line ends where they are CR LF. Assumes nothing.
-- how far the name and what is wrong reach
use Prim.Native.Nat.{◌≤◌}
use native.Mathlib.Omega.{arith}
use Rattle.questions.specs.Bytes.{bytes}
use Rattle.program_definitions.specs.Refusals.{line_ends_text}
use Rattle.printing.proofs.Laws.Puts.{text_reach}
use mathlib.Core.List.{List, ◌++◌}
use Prim.Native.Nat.{ℕ}
use lib.ListN.{length}
use mir.Val.{Val}
use denote.Laws.{Is}
use denote.Enum.Declared.{row}
use Rattle.questions.specs.Refusals.{refusal_of}
use Rattle.questions.specs.declared.Refusal.{Refusal as RefusalCase}
use Rattle.questions.specs.contracts.Refusal.{the_type}
use Rattle.printing.specs.Put.{Put}
use Rattle.program_definitions.specs.Refusals.{explanation}
use Rattle.program_refusals.proofs.Lines.{name_reach, explanation_long, errors_plain, errors_crlf}
use Rattle.program_refusals.proofs.put_errors.Goals as goal

pub put_explanation-wrong-requires : goal.put_explanation-wrong-requires
put_explanation-wrong-requires c = omega (arith, name_reach _ 0 c.put_name-first.ensures c.requires (omega arith))

told : (name : List ℕ) {l x y : List ℕ} {m r : ℕ} (q : RefusalCase) {vs : List Val} → Is (row the_type) q vs → Put l 0 (name ++ bytes ": ") m x
    → Put x m (explanation (refusal_of q)) r y → length name ≤ 100 → r ≤ 222
told name q h a b k = text_reach 120 102 b (explanation_long q h) (name_reach name 0 a k (omega arith))

pub returns-then-not-crlf : goal.returns-then-not-crlf
returns-then-not-crlf c = record {
  put = errors_plain _ _ _ c.put_name-first.ensures c.if-not-crlf.true c.put_explanation-wrong.ensures;
  upper_bound = omega (arith, told _ _ c.well_formed.1.1.1.0 c.put_name-first.ensures c.put_explanation-wrong.ensures c.requires);
}

pub put_name-second-requires : goal.put_name-second-requires
put_name-second-requires c = (omega (arith, told _ _ c.well_formed.1.1.1.0 c.put_name-first.ensures c.put_explanation-wrong.ensures c.requires), c.requires)

pub put_text-requires : goal.put_text-requires
put_text-requires c =
    let h = told _ _ c.well_formed.1.1.1.0 c.put_name-first.ensures c.put_explanation-wrong.ensures c.requires in
    (omega (arith, name_reach _ 222 c.put_name-second.ensures c.requires h), omega arith)

pub returns : goal.returns
unfolding bytes line_ends_text
returns c =
    let last = c.put_text.ensures in
    let h = told _ _ c.well_formed.1.1.1.0 c.put_name-first.ensures c.put_explanation-wrong.ensures c.requires in
    record {
      put = errors_crlf _ _ _ c.put_name-first.ensures c.if-not-crlf.false c.put_explanation-wrong.ensures c.put_name-second.ensures last;
      upper_bound = omega (arith, text_reach 57 324 last (omega arith) (name_reach _ 222 c.put_name-second.ensures c.requires h));
    }
