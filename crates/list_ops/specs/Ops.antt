-- The number of each op, and the op of a number. Document 01, "What a list does"; document 02, Req 01 and Req 06. Assumes nothing.
use Rattle.std.specs.Prelude.{ℕ, Option, Some, None, List, [], ◌∷◌, get_or}
use Rattle.list_ops.specs.declared.Op.{Op}
use Rattle.list_ops.specs.declared.Op.TheVariants.{Ld, Ldn, St, Stn, And, Andn, Or, Orn, Xor, Xorn, Not, Jmp, Jmpc, Jmpcn, S, R, Ton}

-- "1 LD, 2 LDN, 3 ST, 4 STN, 5 AND, 6 ANDN, 7 OR, 8 ORN, 9 XOR, 10 XORN, 11 NOT, 12 JMP, 13 JMPC, 14 JMPCN"; 02, Req 01: "ops 15 S and 16 R";
-- Req 06: "op 17 TON"
unfoldable pub op_number : Op → ℕ
op_number Ld = 1
op_number Ldn = 2
op_number St = 3
op_number Stn = 4
op_number And = 5
op_number Andn = 6
op_number Or = 7
op_number Orn = 8
op_number Xor = 9
op_number Xorn = 10
op_number Not = 11
op_number Jmp = 12
op_number Jmpc = 13
op_number Jmpcn = 14
op_number S = 15
op_number R = 16
op_number Ton = 17

-- and back, from 0 to 17
unfoldable pub cases : List (Option Op)
cases =
    None ∷ Some Ld ∷ Some Ldn ∷ Some St ∷ Some Stn ∷ Some And ∷ Some Andn ∷ Some Or ∷ Some Orn ∷ Some Xor ∷ Some Xorn ∷ Some Not
    ∷ Some Jmp ∷ Some Jmpc ∷ Some Jmpcn ∷ Some S ∷ Some R ∷ Some Ton ∷ []

unfoldable pub numbered : ℕ → Option Op
numbered k = get_or cases k None
