-- What a "yes" to question 10 tells of words and records in three number slices. Assumes nothing.
use mathlib.Core.Path.{◌≡◌}
use mathlib.Core.Option.{some}
use mathlib.Core.List.{List, map}
use Prim.Native.Nat.{ℕ, ◌≤◌, ◌<◌}
use native.Mathlib.Omega.{arith}
use lib.Dec.{T, ltb}
use lib.ListN.{length, get_or}
use Rattle.questions.specs.Tests.{all}
use Rattle.rungs.specs.Records.{laid, fields_of, most_records}
use Rattle.rungs.proofs.Laws.Rows.{Even, row_even, row_length}
use Rattle.list_definitions.specs.Instruction.{decode_code, code_of}
use Rattle.list_definitions.specs.Questions.{most_instructions, list_in_range}
use Rattle.list_definitions.specs.Decoding.{instr_of, Decodes}
use Rattle.list_definitions.proofs.Laws.InRange.{list_in_range_lem}

pub record ListAccepted (vars : ℕ) (ws ls os ns : List ℕ) : Type 0 where
  pub code_most : length ws ≤ most_instructions
  pub records_most : length ls ≤ most_records
  pub even : Even ls os ns
  pub lengths : length ns ≡ length ls
  pub lies : T (laid 0 (length ws) (fields_of ls os ns))
  pub some_length : T (all (λ r. ltb 0 r.length) (fields_of ls os ns))
  pub decodes : (i : ℕ) → i < length ws → Decodes (get_or ws i 0)
  pub held : decode_code ws ≡ some (code_of ws)
  pub printed : code_of ws ≡ map instr_of ws

pub list_accepted : (vars : ℕ) (ws ls os ns : List ℕ) → T (list_in_range vars ws (fields_of ls os ns)) → ListAccepted vars ws ls os ns
list_accepted vars ws ls os ns h =
    let a = list_in_range_lem vars ws (fields_of ls os ns) h in
    let e = row_even ls os ns a.some_record in
    let l = row_length ls os ns e in
    let most = a.records_most in
    let p = e.first in let q = e.second in
    record {
      code_most = a.code_most;
      records_most = omega arith;
      even = e;
      lengths = omega arith;
      lies = a.lies;
      some_length = a.some_length;
      decodes = a.decodes;
      held = a.held;
      printed = a.printed;
    }
