-- Ladders as trees. Document 000, figure 3, whose nonterminals input and output stand as types of their own. Assumes nothing.
use Rattle.std.specs.Prelude.{ℕ, Bool, ◌&&◌, List, map}

-- contact(var), contactn(var): the second is document 01's negated contact
pub data Input : Type 0 where
  contact contactn : ℕ → Input

pub data Front : Type 0 where
  input : Input → Front
  front_and front_or : Front → Front → Front

-- coil(var), coiln(var), jump(label), jumpn(label); and 02, Req 01: "Add outputs s and r", set and reset coils; Req 06: "Add an output t with a
-- timer number"
pub data Output : Type 0 where
  coil coiln jump jumpn set_coil reset_coil timer : ℕ → Output

-- what an output names
pub data Named : Type 0 where
  a_variable a_label a_timer : ℕ → Named

-- document 01, "The kept ladder": "Operand: a variable for 1, 2, 5, 6; a label for 7, 8"; a variable too for 02's set and reset coils, and
-- a timer number for its timers
unfoldable pub input_variable : Input → ℕ
input_variable (contact v) = v
input_variable (contactn v) = v

unfoldable pub output_names : Output → Named
output_names (coil v) = a_variable v
output_names (coiln v) = a_variable v
output_names (jump l) = a_label l
output_names (jumpn l) = a_label l
output_names (set_coil v) = a_variable v
output_names (reset_coil v) = a_variable v
output_names (timer n) = a_timer n

unfoldable pub number : Named → ℕ
number (a_variable v) = v
number (a_label l) = l
number (a_timer n) = n

-- document 01: "A rear is an output (5 to 8), or 9 with a front and a rear, or 10 with two rears."
pub data Rear : Type 0 where
  output : Output → Rear
  rear_and : Front → Rear → Rear
  rear_or : Rear → Rear → Rear

-- "A rung is a front followed by a rear."
pub record Rung : Type 0 where
  pub label : ℕ
  pub front : Front
  pub rear : Rear

abbrev pub Ladder : Type 0
Ladder = List Rung

abbrev pub labels : Ladder → List ℕ
labels gs = map (λ g. g.label) gs

-- whether each input and each output passes a test
unfoldable pub front_all : (Input → Bool) → Front → Bool
front_all inputs (input i) = inputs i
front_all inputs (front_and f g) = front_all inputs f && front_all inputs g
front_all inputs (front_or f g) = front_all inputs f && front_all inputs g

unfoldable pub rear_all : (Input → Bool) → (Output → Bool) → Rear → Bool
rear_all inputs outputs (output o) = outputs o
rear_all inputs outputs (rear_and f r) = front_all inputs f && rear_all inputs outputs r
rear_all inputs outputs (rear_or a b) = rear_all inputs outputs a && rear_all inputs outputs b

unfoldable pub rung_all : (Input → Bool) → (Output → Bool) → Rung → Bool
rung_all inputs outputs g = front_all inputs g.front && rear_all inputs outputs g.rear
