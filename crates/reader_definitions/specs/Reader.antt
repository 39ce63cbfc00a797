-- The reader of a text in the line form: from a position on, what is read and the position after it. Theorems ties it to Form. Assumes nothing.
use Rattle.std.specs.Prelude.{ℕ, zero, suc, ◌+◌, ◌-◌, Bool, false, List, [], ◌∷◌, eqb, ltb, length, get_or, take, drop}
use Rattle.std.proofs.Math.Option.{Option, none, some}
use Rattle.questions.specs.Bytes.{byte, same_bytes}
use Rattle.table.specs.State.{scratch_bytes}
use Rattle.rungs.specs.Words.{word}
use Rattle.text_grammar.specs.Reader.{pick, Parse, read, stuck, map_p, bind, followed, digit_of, numeral_of}
use Rattle.list_definitions.specs.Instruction.{Instr, Operand, table_index, no_operand, instruction_index, timer_number, operand_number, decode_instr, sort_of, operand_sort, same_sort}
use Rattle.list_definitions.specs.Names.{Names, trimmed, name_bytes, is_capital}
use Rattle.reader_definitions.specs.Form.{ListRung}

-- the position after at most k capital letters
unfoldable pub letters_from : List ℕ → ℕ → ℕ → ℕ
letters_from s zero n = n
letters_from s (suc k) n = let more = letters_from s k (n + 1) in pick (is_capital (get_or s n 0)) more n

-- the bytes from one position up to another
abbrev pub between : List ℕ → ℕ → ℕ → List ℕ
between s at n = take (n - at) (drop at s)

-- the op that has a name, where the names begin at op k
unfoldable pub op_named : ℕ → Names → List ℕ → Option ℕ
op_named k [] w = none
op_named k (name ∷ names) w = let later = op_named (suc k) names w in pick (same_bytes (trimmed name) w) (some k) later

-- what is read up to n, or stuck
unfoldable pub given : {A : Type 0} → ℕ → Option A → Parse A
given n none = stuck n
given n (some a) = read n a

abbrev pub below : ℕ → ℕ → Operand → Option Operand
below x limit o = pick (ltb x limit) (some o) none

-- the operand of a letter and a number
unfoldable pub lettered : ℕ → ℕ → ℕ → Option Operand
lettered vars letter x =
    pick (eqb letter (byte "v")) (below x vars (table_index x))
    (pick (eqb letter (byte "t")) (below x scratch_bytes (table_index (vars + x)))
    (pick (eqb letter (byte "@")) (some (instruction_index x))
    (pick (eqb letter (byte "d")) (some (timer_number x)) none)))

-- after a name: a space, a letter and a number; or no operand
unfoldable pub operand_from : ℕ → List ℕ → ℕ → Parse Operand
operand_from vars s at =
    let numbered = bind (numeral_of s (at + 2)) (λ n x. given n (lettered vars (get_or s (at + 1) 0) x)) in
    pick (eqb (get_or s at 0) (byte " ")) numbered (read at no_operand)

-- the instruction of an op and an operand, of the sort that the op takes
unfoldable pub instr_with : Operand → ℕ → Option Instr
instr_with o k = pick (same_sort (operand_sort k) (sort_of o)) (decode_instr (word k (operand_number o))) none

unfoldable pub instr_named : Names → List ℕ → Operand → Option Instr
instr_named names w o = elim (op_named 1 names w) [ none ↦ none | some k ↦ instr_with o k ]

-- an instruction line
unfoldable pub instruction_from : Names → ℕ → List ℕ → ℕ → Parse Instr
instruction_from names vars s at =
    let n = letters_from s name_bytes at in
    followed s (byte "\n") (bind (operand_from vars s n) (λ m o. given m (instr_named names (between s at n) o)))

-- a label line, and how one begins: no name is followed by a digit
unfoldable pub opens_label : List ℕ → ℕ → Bool
opens_label s at = pick (eqb (get_or s at 0) (byte "L")) (ltb (digit_of (get_or s (at + 1) 0)) 10) false

unfoldable pub label_from : List ℕ → ℕ → Parse ℕ
label_from s at = let numbered = followed s (byte "\n") (followed s (byte ":") (numeral_of s (at + 1))) in pick (eqb (get_or s at 0) (byte "L")) numbered (stuck at)

-- instruction lines up to a label line or the text's end, fewer than k
unfoldable pub code_from : Names → ℕ → List ℕ → ℕ → ℕ → Parse (List Instr)
code_from names vars s zero at = stuck at
code_from names vars s (suc k) at =
    let more = bind (instruction_from names vars s at) (λ n i. map_p (λ is. i ∷ is) (code_from names vars s k n)) in
    pick (opens_label s at) (read at []) (pick (eqb at (length s)) (read at []) more)

abbrev pub list_rung : ℕ → List Instr → ListRung
list_rung l is = record { label = l; code = is }

unfoldable pub rung_from : Names → ℕ → List ℕ → ℕ → Parse ListRung
rung_from names vars s at = bind (label_from s at) (λ n l. map_p (list_rung l) (code_from names vars s (suc (length s)) n))

-- rungs up to the text's end, at most k
unfoldable pub rungs_from : Names → ℕ → List ℕ → ℕ → ℕ → Parse (List ListRung)
rungs_from names vars s zero at = stuck at
rungs_from names vars s (suc k) at =
    bind (rung_from names vars s at) (λ n g. let more = map_p (λ gs. g ∷ gs) (rungs_from names vars s k n) in pick (eqb n (length s)) (read n (g ∷ [])) more)

unfoldable pub list_text_of : Names → ℕ → List ℕ → Parse (List ListRung)
list_text_of names vars s = rungs_from names vars s (suc (length s)) 0
