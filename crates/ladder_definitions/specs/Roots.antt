-- The kind of a tree's first word, which laws and parts tell a tree by. Document 01, "The kept ladder". Assumes nothing.
use Rattle.std.specs.Prelude.{ℕ}
use Rattle.ladder_definitions.specs.Tree.{Front, input, front_and, front_or, Rear, output, rear_and, rear_or}
use Rattle.ladder_definitions.specs.Kept.{input_kind, output_kind}

-- the kind of a tree's first word
abbrev pub front_kind : Front → ℕ
front_kind (input i) = input_kind i
front_kind (front_and f g) = 3
front_kind (front_or f g) = 4

abbrev pub rear_kind : Rear → ℕ
rear_kind (output o) = output_kind o
rear_kind (rear_and f r) = 9
rear_kind (rear_or a b) = 10
