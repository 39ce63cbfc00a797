-- On a legal table a write turns a variable over exactly where it changes the variable's byte; so the sum of a state is the number of the writes that did.
-- Assumes nothing.
use Rattle.std.specs.Prelude.{ℕ, zero, suc, ◌+◌, ◌≤◌, ◌≡◌, refl, Bool, true, false, not, List, [], ◌∷◌, T, eqb, ltb, length, get_or}
use Rattle.std.proofs.Common.{arith, ap, ◌∙◌, leb→le, get_or-set_same, ltb-true}
use Rattle.std.proofs.Math.Bool.{xor}
use Rattle.questions.specs.Tests.{all, bit, truth}
use Rattle.questions.proofs.Laws.Tests.{all_head, all_tail}
use Rattle.table.specs.Timer.{Timer}
use Rattle.table.specs.State.{State, state_of, value_at, written_at, turns, write}
use Rattle.table.specs.Questions.{is_bit}
use Rattle.table.specs.Writes.{Write, wrote, made, changes_byte, changes_variable, changes, WritesTell}
use Rattle.table.proofs.Laws.Alike.{table_room, table_bits}
use Rattle.table.proofs.Laws.Legal.{LegalTable, written_legal}
use Rattle.table.proofs.Laws.Moved.{write_few}
use Rattle.table.proofs.Laws.Replaying.{untimed, makes, makes_bytes}

bit_at : (xs : List ℕ) (i : ℕ) → T (all is_bit xs) → get_or xs i 0 ≤ 1
bit_at [] i h = omega arith
bit_at (x ∷ xs) zero h = leb→le x 1 (all_head is_bit x xs h)
bit_at (x ∷ xs) (suc i) h = bit_at xs i (all_tail is_bit x xs h)

-- of a byte that is 0 or 1
byte_changes : (x : ℕ) (b : Bool) → x ≤ 1 → xor (truth x) b ≡ not (eqb (bit b) x)
unfolding xor
byte_changes zero true h = refl
byte_changes zero false h = refl
byte_changes (suc zero) true h = refl
byte_changes (suc zero) false h = refl
byte_changes (suc (suc x)) b h = absurd (omega arith)

pub turns_changes : (vars : ℕ) (bytes : List ℕ) (i : ℕ) (b : Bool) → LegalTable vars bytes → turns vars bytes i b ≡ changes_variable vars (wrote i b) bytes
unfolding turns changes_variable changes_byte made written_at value_at
turns_changes vars bytes i b legal = go (ltb i vars) refl
  where
    go : (c : Bool) → ltb i vars ≡ c → turns vars bytes i b ≡ changes_variable vars (wrote i b) bytes
    go false e = rw e
    go true e =
        let room = table_room vars bytes legal in
        let below = ltb-true i vars e in
        let bits = table_bits vars bytes legal in
        rw (e, get_or-set_same bytes i (bit b) 0 (omega arith)) (byte_changes (get_or bytes i 0) b (bit_at bytes i bits))

-- the sum after some writes
pub makes_moved : (ws : List Write) (s : State) → LegalTable s.vars s.bytes → (makes ws s).moved ≡ s.moved + changes s.vars ws s.bytes
unfolding makes changes write made
makes_moved [] s h = omega arith
makes_moved (w ∷ later) s h =
    let i = w.index in
    let b = w.value in
    let first = ap bit (turns_changes s.vars s.bytes i b h) in
    let rest = makes_moved later (write s i b) (written_legal s.vars s.bytes i b h) in
    rest ∙ rw first (omega arith)

-- it grows by one at most for each, whatever the table
pub makes_few : (ws : List Write) (s : State) → (makes ws s).moved ≤ s.moved + length ws
unfolding makes
makes_few [] s = omega arith
makes_few (w ∷ later) s = let first = write_few s w.index w.value in let rest = makes_few later (write s w.index w.value) in omega arith

-- a state that begins with nothing turned over, and one that the writes leave
pub makes_tell : (vars : ℕ) (ws : List Write) (table : List ℕ) (timers : List Timer) (now : ℕ) (s : State) → LegalTable vars table
    → untimed s ≡ makes ws (untimed (state_of vars table timers now)) → WritesTell vars ws table s.moved s.bytes
makes_tell vars ws table timers now s h e = record {
  replayed = ap (λ t. t.bytes) e ∙ makes_bytes ws (untimed (state_of vars table timers now));
  sum = ap (λ t. t.moved) e ∙ makes_moved ws (untimed (state_of vars table timers now)) h ∙ omega arith;
}
