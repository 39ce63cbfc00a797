-- Names of instructions: name tables, the fixed table, and question 14. Document 01, "Listing"; document 02, Req 05: "a table of one name for each op, 1 to 6
-- capital letters". Assumes nothing.
use Rattle.std.specs.Prelude.{ℕ, zero, suc, ◌-◌, ◌*◌, ◌≤◌, ◌<◌, ◌≡◌, Bool, true, false, ◌&&◌, eqb, leb, length, get_or, take, drop, replicate}
use mathlib.Core.List.{List, [], ◌∷◌, ◌++◌, flat_map}
use Rattle.questions.specs.Bytes.{byte, bytes, same_bytes}
use Rattle.questions.specs.Tests.{all, different}
use Rattle.questions.specs.Questions.{Answer, ask}

-- a name for each op from 1 on, six bytes each, filled with zeros
abbrev pub Names : Type 0
Names = List (List ℕ)

-- "The fourteen names are one fixed table, six bytes a name, filled with zeros."; with 02's S, R and TON there are seventeen
unfoldable pub fixed_names : Names
unfolding bytes
fixed_names =
    (bytes "LD" ++ 0 ∷ 0 ∷ 0 ∷ 0 ∷ [])
    ∷ (bytes "LDN" ++ 0 ∷ 0 ∷ 0 ∷ [])
    ∷ (bytes "ST" ++ 0 ∷ 0 ∷ 0 ∷ 0 ∷ [])
    ∷ (bytes "STN" ++ 0 ∷ 0 ∷ 0 ∷ [])
    ∷ (bytes "AND" ++ 0 ∷ 0 ∷ 0 ∷ [])
    ∷ (bytes "ANDN" ++ 0 ∷ 0 ∷ [])
    ∷ (bytes "OR" ++ 0 ∷ 0 ∷ 0 ∷ 0 ∷ [])
    ∷ (bytes "ORN" ++ 0 ∷ 0 ∷ 0 ∷ [])
    ∷ (bytes "XOR" ++ 0 ∷ 0 ∷ 0 ∷ [])
    ∷ (bytes "XORN" ++ 0 ∷ 0 ∷ [])
    ∷ (bytes "NOT" ++ 0 ∷ 0 ∷ 0 ∷ [])
    ∷ (bytes "JMP" ++ 0 ∷ 0 ∷ 0 ∷ [])
    ∷ (bytes "JMPC" ++ 0 ∷ 0 ∷ [])
    ∷ (bytes "JMPCN" ++ 0 ∷ [])
    ∷ (bytes "S" ++ 0 ∷ 0 ∷ 0 ∷ 0 ∷ 0 ∷ [])
    ∷ (bytes "R" ++ 0 ∷ 0 ∷ 0 ∷ 0 ∷ 0 ∷ [])
    ∷ (bytes "TON" ++ 0 ∷ 0 ∷ 0 ∷ [])
    ∷ []

-- a name without its filling
unfoldable pub trimmed : List ℕ → List ℕ
trimmed [] = []
trimmed (b ∷ bs) = elim (eqb b 0) [ true ↦ [] | false ↦ b ∷ trimmed bs ]

unfoldable pub name_of : Names → ℕ → List ℕ
name_of names op = trimmed (get_or names (op - 1) [])

-- ops are numbered from 1 to; 02, Req 06: "name tables name op 17 too"
abbrev pub most_op : ℕ
most_op = 17

-- "six bytes an op"
abbrev pub name_bytes : ℕ
name_bytes = 6

-- the first n names of a table's bytes
unfoldable pub names_from : ℕ → List ℕ → Names
names_from zero table = []
names_from (suc n) table = take name_bytes table ∷ names_from n (drop name_bytes table)

abbrev pub names_in : List ℕ → Names
names_in table = names_from most_op table

-- the fixed table in bytes, which ladder-list lends Listing
unfoldable pub fixed_table : List ℕ
fixed_table = flat_map (λ name. name) fixed_names

-- from "A" to "Z"
unfoldable pub is_capital : ℕ → Bool
is_capital b = leb (byte "A") b && leb b (byte "Z")

-- not "empty", and "capitals before zeros"
unfoldable pub is_name : List ℕ → Bool
is_name name = leb 1 (length (trimmed name)) && (all is_capital (trimmed name) && all (λ b. eqb b 0) (drop (length (trimmed name)) name))

-- and no name "repeats an earlier one"
unfoldable pub is_name_table : List ℕ → Bool
is_name_table table = eqb (length table) (name_bytes * most_op) && (all is_name (names_in table) && different same_bytes (names_in table))

-- "14 when the table isn't six bytes an op or a name is empty, isn't capitals before zeros or repeats an earlier one"
unfoldable pub question14 : List ℕ → Answer
question14 table = ask 14 (is_name_table table)

-- ---- the same in plain words, for Theorems

-- "1 to 6 capital letters", and zeros after them
pub record IsName (name : List ℕ) : Type 0 where
  pub letters : List ℕ
  pub filling : ℕ
  pub same : name ≡ letters ++ replicate filling 0
  pub some_letter : 1 ≤ length letters
  pub capitals : (i : ℕ) → i < length letters → (byte "A" ≤ get_or letters i 0) × (get_or letters i 0 ≤ byte "Z")

-- the six bytes at a place, from 0
abbrev pub name_at : List ℕ → ℕ → List ℕ
name_at table p = take name_bytes (drop (name_bytes * p) table)

pub record IsNameTable (table : List ℕ) : Type 0 where
  pub six_bytes_an_op : length table ≡ name_bytes * most_op
  pub each_a_name : (p : ℕ) → p < most_op → IsName (name_at table p)
  pub none_repeats : (p q : ℕ) → p < q → q < most_op → name_at table p ≡ name_at table q → ⊥
