-- The grammar of document 01, "Text", production by production, with the letters of 02, Req 01 and Req 06: which bytes are a text, and of which ladder. Assumes nothing.
use Rattle.std.specs.Prelude.{ℕ, suc, ◌+◌, ◌*◌, ◌≤◌, List, [], ◌∷◌, ◌++◌}
use Rattle.questions.specs.Bytes.{byte}
use Rattle.ladder_definitions.specs.Tree.{contact, contactn, Front, input, front_and, front_or, Output, coil, coiln, jump, jumpn, set_coil, reset_coil, timer, Rear, output, rear_and, rear_or, Rung, Ladder}

-- digits, of which the first is not 0, and their value
pub data IsDigits : List ℕ → ℕ → Type 0 where
  first : (d : ℕ) → 1 ≤ d → d ≤ 9 → IsDigits ((byte "0" + d) ∷ []) d
  next : {s : List ℕ} {v : ℕ} → IsDigits s v → (d : ℕ) → d ≤ 9 → IsDigits (s ++ ((byte "0" + d) ∷ [])) (v * 10 + d)

-- "Numbers are 0 to 65,535"
abbrev pub most_number : ℕ
most_number = 65535

-- "at most 15 brackets of both sorts open together"
abbrev pub most_brackets : ℕ
most_brackets = 15

-- number: 0 to 65,535 without leading zeros
pub data IsNumber : List ℕ → ℕ → Type 0 where
  nought : IsNumber (byte "0" ∷ []) 0
  digits : {s : List ℕ} {v : ℕ} → IsDigits s v → v ≤ most_number → IsNumber s v

-- In all that follows d is how many brackets may be open together, of both sorts.
mutual
  -- front = term, then any number of "|" term; to the left
  pub data IsFront : ℕ → List ℕ → Front → Type 0 where
    one_term : {d : ℕ} {s : List ℕ} {f : Front} → IsTerm d s f → IsFront d s f
    more_term : {d : ℕ} {s t : List ℕ} {f g : Front} → IsFront d s f → IsTerm d t g → IsFront d (s ++ byte "|" ∷ t) (front_or f g)

  -- term = factor, then any number of "&" factor; to the left
  pub data IsTerm : ℕ → List ℕ → Front → Type 0 where
    one_factor : {d : ℕ} {s : List ℕ} {f : Front} → IsFactor d s f → IsTerm d s f
    more_factor : {d : ℕ} {s t : List ℕ} {f g : Front} → IsTerm d s f → IsFactor d t g → IsTerm d (s ++ byte "&" ∷ t) (front_and f g)

  -- factor = "c" number or "n" number or "(" front ")"
  pub data IsFactor : ℕ → List ℕ → Front → Type 0 where
    c_number : {d : ℕ} {s : List ℕ} {v : ℕ} → IsNumber s v → IsFactor d (byte "c" ∷ s) (input (contact v))
    n_number : {d : ℕ} {s : List ℕ} {v : ℕ} → IsNumber s v → IsFactor d (byte "n" ∷ s) (input (contactn v))
    in_round : {d : ℕ} {s : List ℕ} {f : Front} → IsFront d s f → IsFactor (suc d) (byte "(" ∷ (s ++ byte ")" ∷ [])) f

-- the letters of outputs, each with what it makes of its number: "o" a coil, "q" a negated coil, "j" a jump, "k" a negated jump;
-- 02, Req 01: "outputs s and r", a set coil and a reset coil; Req 06: "an output t with a timer number"
pub data IsOutput : ℕ → (ℕ → Output) → Type 0 where
  o_letter : IsOutput (byte "o") coil
  q_letter : IsOutput (byte "q") coiln
  j_letter : IsOutput (byte "j") jump
  k_letter : IsOutput (byte "k") jumpn
  s_letter : IsOutput (byte "s") set_coil
  r_letter : IsOutput (byte "r") reset_coil
  t_letter : IsOutput (byte "t") timer

mutual
  -- rear = branch, then any number of "|" branch; to the right
  pub data IsRear : ℕ → List ℕ → Rear → Type 0 where
    one_branch : {d : ℕ} {s : List ℕ} {r : Rear} → IsBranch d s r → IsRear d s r
    more_branch : {d : ℕ} {s t : List ℕ} {r q : Rear} → IsBranch d s r → IsRear d t q → IsRear d (s ++ byte "|" ∷ t) (rear_or r q)

  -- branch = any number of (factor "&"), then end; to the right
  pub data IsBranch : ℕ → List ℕ → Rear → Type 0 where
    at_end : {d : ℕ} {s : List ℕ} {r : Rear} → IsEnd d s r → IsBranch d s r
    factor_and : {d : ℕ} {s t : List ℕ} {f : Front} {r : Rear} → IsFactor d s f → IsBranch d t r → IsBranch d (s ++ byte "&" ∷ t) (rear_and f r)

  -- end = ("o" "q" "j" or "k") number or "[" rear "]"; with 02's letters ("o" "q" "j" "k" "s" "r" or "t") number
  pub data IsEnd : ℕ → List ℕ → Rear → Type 0 where
    output_number : {d b : ℕ} {make : ℕ → Output} {s : List ℕ} {v : ℕ} → IsOutput b make → IsNumber s v → IsEnd d (b ∷ s) (output (make v))
    in_square : {d : ℕ} {s : List ℕ} {r : Rear} → IsRear d s r → IsEnd (suc d) (byte "[" ∷ (s ++ byte "]" ∷ [])) r

-- line = number ":" front ">" rear LF; at most 15 brackets open together
pub data IsLine : List ℕ → Rung → Type 0 where
  line : {s t u : List ℕ} {l : ℕ} {f : Front} {r : Rear} → IsNumber s l → IsFront most_brackets t f → IsRear most_brackets u r
      → IsLine (s ++ byte ":" ∷ (t ++ byte ">" ∷ (u ++ byte "\n" ∷ []))) (record { label = l; front = f; rear = r })

-- text = line, one or more
pub data IsText : List ℕ → Ladder → Type 0 where
  one_line : {s : List ℕ} {g : Rung} → IsLine s g → IsText s (g ∷ [])
  more_lines : {s t : List ℕ} {g : Rung} {gs : Ladder} → IsLine s g → IsText t gs → IsText (s ++ t) (g ∷ gs)
