-- Laws of the lines that are printed: how far they reach, and their parts put one after the other. Assumes nothing.
use Prim.Native.Nat.{ℕ, ◌+◌, ◌≤◌}
use native.Mathlib.Omega.{arith}
use mathlib.Core.Path.{◌≡◌, sym}
use mathlib.Core.Bool.{Bool, true, false}
use mathlib.Core.List.{List, ◌++◌, append_assoc, append-nil}
use lib.ListN.{length, length-append}
use mir.Val.{Val}
use denote.Laws.{Is}
use denote.Enum.Declared.{row}
use Rattle.questions.specs.Bytes.{bytes, decimal}
use Rattle.questions.specs.Questions.{Refusal}
use Rattle.questions.specs.Refusals.{refusal_of}
use Rattle.questions.specs.declared.Refusal.{Refusal as RefusalCase}
use Rattle.questions.specs.declared.Refusal.TheVariants.{Variables, TextLength, Text, Kept, Sizes, Variable, Label, Jump, Scratch, List as ListCase}
use Rattle.questions.specs.declared.Refusal.TheVariants.{Table, Watchdog, Buffer, NameTable, ListText, Timers, TimerNumber}
use Rattle.questions.specs.contracts.Refusal.{the_type}
use Rattle.printing.specs.Put.{Put}
use Rattle.printing.proofs.Laws.Puts.{put_then, put_as, decimal_most}
use Rattle.program_definitions.specs.Refusals.{refusal_line, explanation, explanations, line_ends_text, error_lines}

-- how far a name reaches
module _ {l : List ℕ} {i : ℕ} {r : ℕ} {x : List ℕ} where
  pub name_reach : (name : List ℕ) (most : ℕ) → Put l i (name ++ bytes ": ") r x → length name ≤ 100 → i ≤ most → r ≤ most + 102
  unfolding bytes
  name_reach name most p h g = omega (arith, p.end, length-append name (bytes ": "))

  pub explanation_put : (q : RefusalCase) {q' : RefusalCase} → q ≡ q' → Put l i (explanation (refusal_of q')) r x
      → Put l i (explanation (refusal_of q)) r x
  explanation_put q e p = rw e p

module _ {l : List ℕ} {i m1 m2 m3 m4 r : ℕ} {x1 x2 x3 x4 y : List ℕ} where
  pub refusal_put : (refusal : Refusal) (n p : ℕ) → n ≡ refusal.number → p ≡ refusal.place
      → Put l i (bytes "refused ") m1 x1 → Put x1 m1 (decimal n) m2 x2 → Put x2 m2 (bytes " place ") m3 x3 → Put x3 m3 (decimal p) m4 x4
      → Put x4 m4 (bytes "\n") r y → Put l i (refusal_line refusal) r y
  unfolding refusal_line
  refusal_put refusal n p en ep a b c d e = rw (← en, ← ep) (put_then a (put_then b (put_then c (put_then d e))))

-- a text after the name
pub after_name : (name text : List ℕ) {l : List ℕ} {i m : ℕ} {x : List ℕ} {r : ℕ} {y : List ℕ} → Put l i (name ++ bytes ": ") m x → Put x m text r y
    → Put l i (name ++ (bytes ": " ++ text)) r y
after_name name text p q = put_as (sym (append_assoc name (bytes ": ") text)) (put_then p q)

-- what is wrong, and the line ends where they are CR LF
module _ (name : List ℕ) (refusal : Refusal) (crlf : Bool) {l : List ℕ} {i m1 : ℕ} {x1 : List ℕ} (named : Put l i (name ++ bytes ": ") m1 x1) where
  pub errors_plain : crlf ≡ false → {r : ℕ} {y : List ℕ} → Put x1 m1 (explanation refusal) r y → Put l i (error_lines name crlf refusal) r y
  unfolding error_lines
  errors_plain e q = rw (e, append-nil (explanation refusal)) (after_name name (explanation refusal) named q)

  pub errors_crlf : crlf ≡ true → {m2 m3 r : ℕ} {x2 x3 y : List ℕ} → Put x1 m1 (explanation refusal) m2 x2 → Put x2 m2 (name ++ bytes ": ") m3 x3
      → Put x3 m3 line_ends_text r y → Put l i (error_lines name crlf refusal) r y
  unfolding error_lines
  errors_crlf e q again last =
      rw e (after_name name (explanation refusal ++ (name ++ (bytes ": " ++ line_ends_text))) named (put_then q (after_name name line_ends_text again last)))

-- a place fits 64 bits, so what is wrong is short
pub explanation_long : (q : RefusalCase) {vs : List Val} → Is (row the_type) q vs → length (explanation (refusal_of q)) ≤ 120
unfolding refusal_of explanation explanations bytes
explanation_long Variables h = omega arith
explanation_long TextLength h = omega arith
explanation_long (Text place) h = let k = decimal_most place h.1.1.1.1.0.1 in simp length-append (omega arith)
explanation_long Kept h = omega arith
explanation_long Sizes h = omega arith
explanation_long (Variable rung) h = let k = decimal_most rung h.1.1.1.1.0.1 in simp length-append (omega arith)
explanation_long (Label rung) h = let k = decimal_most rung h.1.1.1.1.0.1 in simp length-append (omega arith)
explanation_long (Jump rung) h = let k = decimal_most rung h.1.1.1.1.0.1 in simp length-append (omega arith)
explanation_long Scratch h = omega arith
explanation_long ListCase h = omega arith
explanation_long Table h = omega arith
explanation_long Watchdog h = omega arith
explanation_long Buffer h = omega arith
explanation_long NameTable h = omega arith
explanation_long ListText h = omega arith
explanation_long Timers h = omega arith
explanation_long TimerNumber h = omega arith
