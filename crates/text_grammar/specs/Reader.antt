-- The reader of a text: the ladder, or the place where reading is stuck. Assumes nothing.
use Rattle.std.specs.Prelude.{Bool, true, false, List, [], ◌∷◌, ℕ, zero, suc, ◌+◌, ◌-◌, ◌*◌, eqb, leb, ltb, length, get_or}
use Rattle.std.proofs.Math.Option.{Option, none, some}
use Rattle.questions.specs.Bytes.{byte}
use Rattle.ladder_definitions.specs.Tree.{contact, contactn, Front, input, front_and, front_or, Output, coil, coiln, jump, jumpn, set_coil, reset_coil, timer, Rear, output, rear_and, rear_or, Rung, Ladder}
use Rattle.text_grammar.specs.Grammar.{most_number, most_brackets}

abbrev pub pick : {A : Type 0} → Bool → A → A → A
pick true a b = a
pick false a b = b

-- the position after a part, with what the part is; or the place where reading is stuck
pub data Parse (A : Type 0) : Type 0 where
  read : ℕ → A → Parse A
  stuck : ℕ → Parse A

unfoldable pub map_p : {A B : Type 0} → (A → B) → Parse A → Parse B
map_p f (read n a) = read n (f a)
map_p f (stuck p) = stuck p

-- a part, and then what is read from its end on
unfoldable pub bind : {A B : Type 0} → Parse A → (ℕ → A → Parse B) → Parse B
bind (read n a) rest = rest n a
bind (stuck p) rest = stuck p

-- a part, and then the byte b
unfoldable pub followed : {A : Type 0} → List ℕ → ℕ → Parse A → Parse A
followed s b (read n a) = pick (eqb (get_or s n 0) b) (read (n + 1) a) (stuck n)
followed s b (stuck p) = stuck p

-- the digit that a byte is, 10 where it is none
unfoldable pub digit_of : ℕ → ℕ
digit_of b = pick (ltb b 48) 10 (pick (ltb 57 b) 10 (b - 48))

-- at most k more digits after the value v, as long as the value stays within 65,535
unfoldable pub digits_from : List ℕ → ℕ → ℕ → ℕ → Parse ℕ
digits_from s zero v n = read n v
digits_from s (suc k) v n =
    let x = digit_of (get_or s n 0) in
    let more = digits_from s k (v * 10 + x) (n + 1) in
    pick (leb 10 x) (read n v) (pick (ltb most_number (v * 10 + x)) (read n v) more)

unfoldable pub numeral_of : List ℕ → ℕ → Parse ℕ
numeral_of s at =
    let x = digit_of (get_or s at 0) in
    let more = digits_from s 4 x (at + 1) in
    pick (leb 10 x) (stuck at) (pick (eqb x 0) (read (at + 1) 0) more)

-- after a first part: while the separator stands there, one part more, grouped to the left; at most k of them
unfoldable pub chain : (ℕ → Parse Front) → ℕ → (Front → Front → Front) → List ℕ → ℕ → Parse Front → Parse Front
chain item sep op s zero r = r
chain item sep op s (suc k) (stuck p) = stuck p
chain item sep op s (suc k) (read n f) =
    let more = chain item sep op s k (map_p (op f) (item (n + 1))) in
    pick (eqb (get_or s n 0) sep) more (read n f)

unfoldable pub term_by : (ℕ → Parse Front) → List ℕ → ℕ → Parse Front
term_by factor s at = chain factor (byte "&") front_and s (length s) (factor at)

unfoldable pub front_by : (ℕ → Parse Front) → List ℕ → ℕ → Parse Front
front_by factor s at = chain (term_by factor s) (byte "|") front_or s (length s) (term_by factor s at)

-- a factor by its first byte, with what a bracket there gives
unfoldable pub factor_by : Parse Front → List ℕ → ℕ → Parse Front
factor_by inner s at =
    let contacts = map_p (λ v. input (contact v)) (numeral_of s (at + 1)) in
    let negated = map_p (λ v. input (contactn v)) (numeral_of s (at + 1)) in
    pick (eqb (get_or s at 0) (byte "c")) contacts (pick (eqb (get_or s at 0) (byte "n")) negated (pick (eqb (get_or s at 0) (byte "(")) inner (stuck at)))

-- with at most d brackets open below it
unfoldable pub factor_of : ℕ → List ℕ → ℕ → Parse Front
factor_of zero s at = factor_by (stuck at) s at
factor_of (suc d) s at = let inner = followed s (byte ")") (front_by (factor_of d s) s (at + 1)) in factor_by inner s at

unfoldable pub term_of : ℕ → List ℕ → ℕ → Parse Front
term_of d s at = term_by (factor_of d s) s at

unfoldable pub front_of : ℕ → List ℕ → ℕ → Parse Front
front_of d s at = front_by (factor_of d s) s at

unfoldable pub opens_factor : ℕ → Bool
opens_factor b = pick (eqb b (byte "c")) true (pick (eqb b (byte "n")) true (pick (eqb b (byte "(")) true false))

-- factors followed by "&" as long as one begins, at most k, then an end
unfoldable pub branch_by : (ℕ → Parse Front) → (ℕ → Parse Rear) → List ℕ → ℕ → ℕ → Parse Rear
branch_by factor end s zero at = stuck at
branch_by factor end s (suc k) at =
    let more = bind (followed s (byte "&") (factor at)) (λ n f. map_p (rear_and f) (branch_by factor end s k n)) in
    pick (opens_factor (get_or s at 0)) more (end at)

-- branches joined by "|", at most k, grouped to the right
unfoldable pub rear_by : (ℕ → Parse Rear) → List ℕ → ℕ → ℕ → Parse Rear
rear_by branch s zero at = stuck at
rear_by branch s (suc k) at =
    bind (branch at) (λ n r. let more = map_p (rear_or r) (rear_by branch s k (n + 1)) in pick (eqb (get_or s n 0) (byte "|")) more (read n r))

-- what the letter of an output makes of its number; none where a byte is no such letter
unfoldable pub output_at : ℕ → Option (ℕ → Output)
output_at b =
    pick (eqb b (byte "o")) (some coil)
    (pick (eqb b (byte "q")) (some coiln)
    (pick (eqb b (byte "j")) (some jump)
    (pick (eqb b (byte "k")) (some jumpn)
    (pick (eqb b (byte "s")) (some set_coil)
    (pick (eqb b (byte "r")) (some reset_coil)
    (pick (eqb b (byte "t")) (some timer) none))))))

-- the output that the letter at `at` begins; where no letter stands there, the other part
abbrev pub output_or : Option (ℕ → Output) → List ℕ → ℕ → Parse Rear → Parse Rear
output_or (some make) s at other = map_p (λ v. output (make v)) (numeral_of s (at + 1))
output_or none s at other = other

unfoldable pub end_by : Parse Rear → List ℕ → ℕ → Parse Rear
end_by inner s at = output_or (output_at (get_or s at 0)) s at (pick (eqb (get_or s at 0) (byte "[")) inner (stuck at))

unfoldable pub end_of : ℕ → List ℕ → ℕ → Parse Rear
end_of zero s at = end_by (stuck at) s at
end_of (suc d) s at =
    let inner = followed s (byte "]") (rear_by (branch_by (factor_of d s) (end_of d s) s (suc (length s))) s (suc (length s)) (at + 1)) in
    end_by inner s at

unfoldable pub branch_of : ℕ → List ℕ → ℕ → Parse Rear
branch_of d s at = branch_by (factor_of d s) (end_of d s) s (suc (length s)) at

unfoldable pub rear_of : ℕ → List ℕ → ℕ → Parse Rear
rear_of d s at = rear_by (branch_by (factor_of d s) (end_of d s) s (suc (length s))) s (suc (length s)) at

abbrev pub rung : ℕ → Front → Rear → Rung
rung l f r = record { label = l; front = f; rear = r }

unfoldable pub line_of : List ℕ → ℕ → Parse Rung
line_of s at =
    bind (followed s (byte ":") (numeral_of s at)) (λ n l.
    bind (followed s (byte ">") (front_of most_brackets s n)) (λ m f.
    map_p (rung l f) (followed s (byte "\n") (rear_of most_brackets s m))))

-- lines up to the end of the text, at most k
unfoldable pub lines_of : List ℕ → ℕ → ℕ → Parse Ladder
lines_of s zero at = stuck at
lines_of s (suc k) at =
    bind (line_of s at) (λ n g. let more = map_p (λ gs. g ∷ gs) (lines_of s k n) in pick (eqb n (length s)) (read n (g ∷ [])) more)

unfoldable pub text_of : List ℕ → Parse Ladder
text_of s = lines_of s (suc (length s)) 0
