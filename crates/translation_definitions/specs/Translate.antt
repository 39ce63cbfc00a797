-- A ladder's list. Document 01, "Translation". Assumes nothing.
use Rattle.std.specs.Prelude.{ℕ, ◌+◌, ◌*◌, length}
use mathlib.Core.List.{List, [], ◌∷◌, ◌++◌, flat_map}
use Rattle.table.specs.State.{scratch_index}
use Rattle.rungs.specs.Records.{RungRecord, lay, start_of}
use Rattle.ladder_definitions.specs.Tree.{contact, contactn, Front, input, front_and, front_or, Output, coil, coiln, jump, jumpn, set_coil, reset_coil, timer, Rear, output, rear_and, rear_or, Rung, Ladder}
use Rattle.list_definitions.specs.Instruction.{Instr, LD, LDN, ST, STN, AND, ANDN, OR, ORN, JMPC, JMPCN, TON}
use Rattle.list_definitions.specs.Machine.{InstructionList}

-- what follows F(f, d) in "F(f AND g, d): if g is a contact, F(f, d) + AND v (negated: ANDN v); else F(f, d) + ST td + F(g, d+1) + AND td. OR likewise, with
-- OR and ORN.": `code` is F(g, d+1), `td` the index of td
unfoldable pub join : (ℕ → Instr) → (ℕ → Instr) → Front → List Instr → ℕ → List Instr
join op opn (input (contact v)) code td = op v ∷ []
join op opn (input (contactn v)) code td = opn v ∷ []
join op opn (front_and f g) code td = ST td ∷ code ++ op td ∷ []
join op opn (front_or f g) code td = ST td ∷ code ++ op td ∷ []

-- F(front, d): "contact v is LD v, negated LDN v"; of f AND g and f OR g it is F(f, d), then g joined
unfoldable pub F : ℕ → Front → ℕ → List Instr
F vars (input (contact v)) d = LD v ∷ []
F vars (input (contactn v)) d = LDN v ∷ []
F vars (front_and f g) d = F vars f d ++ join AND ANDN g (F vars g (d + 1)) (scratch_index vars d)
F vars (front_or f g) d = F vars f d ++ join OR ORN g (F vars g (d + 1)) (scratch_index vars d)

-- "coil ST v; negated coil STN v; jump JMPC, negated JMPCN, to the first instruction of the target rung", which `start` gives;
-- 02, Req 01: "They translate to S v and R v"; Req 06: a timer is "translated to op 17 TON"
unfoldable pub output_code : (ℕ → ℕ) → Output → Instr
output_code start (coil v) = ST v
output_code start (coiln v) = STN v
output_code start (jump l) = JMPC (start l)
output_code start (jumpn l) = JMPCN (start l)
output_code start (set_coil v) = Instr.S v
output_code start (reset_coil v) = Instr.R v
output_code start (timer n) = TON n

-- R(rear, d): "R(f AND r, d): if f is a contact, AND v (or ANDN v) + R(r, d); else ST td + F(f, d+1) + AND td + R(r, d).
-- R(a OR b, d): ST td + R(a, d+1) + LD td + R(b, d)."
unfoldable pub R : ℕ → (ℕ → ℕ) → Rear → ℕ → List Instr
R vars start (output o) d = output_code start o ∷ []
R vars start (rear_and f r) d = join AND ANDN f (F vars f (d + 1)) (scratch_index vars d) ++ R vars start r d
R vars start (rear_or a b) d = ST (scratch_index vars d) ∷ R vars start a (d + 1) ++ LD (scratch_index vars d) ∷ R vars start b d

-- "A rung is F(front, 0) + R(rear, 0)."
unfoldable pub rung_code : ℕ → (ℕ → ℕ) → Rung → List Instr
rung_code vars start g = F vars g.front 0 ++ R vars start g.rear 0

-- the records, laid as a ladder's and counting instructions; a rung's length does not depend on where its jumps lead (Theorems, list-stands)
unfoldable pub list_records : ℕ → Ladder → List RungRecord
list_records vars gs = lay (λ g. g.label) (λ g. length (rung_code vars (λ l. 0) g)) 0 gs

-- "In demand 3 a ladder's list is what Translate writes for it, records included."
unfoldable pub translate : ℕ → Ladder → InstructionList
translate vars gs = record { code = flat_map (rung_code vars (start_of (list_records vars gs))) gs; records = list_records vars gs }

-- two instructions a word: a part's code has at most so many instructions for its words (Theorems, few-instructions)
abbrev pub code_bound : ℕ → ℕ
code_bound words = 2 * words
