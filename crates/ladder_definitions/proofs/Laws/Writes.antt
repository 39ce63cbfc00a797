-- A ladder scan leaves the state with its writes made, and these are at most half of a rung's words for each rung entered. Assumes nothing.
use Rattle.std.specs.Prelude.{ℕ, zero, suc, ◌+◌, ◌*◌, ◌≤◌, ◌≡◌, refl, Bool, true, false, not, ◌&&◌, List, [], ◌∷◌, ◌++◌, T, leb, length}
use Rattle.std.proofs.Common.{arith, sym, ap, ◌∙◌, leb→le, length-append}
use Rattle.questions.specs.Tests.{all}
use Rattle.questions.proofs.Laws.Tests.{all_head, all_tail}
use Rattle.table.specs.State.{State, write}
use Rattle.table.specs.Writes.{Write}
use Rattle.table.proofs.Laws.Legal.{LegalTable}
use Rattle.table.proofs.Laws.Changes.{makes_few}
use Rattle.table.proofs.Laws.Replaying.{untimed, makes, makes_append, makes_legal, write_if_makes, wrote_if_few, timer_makes, timer_few}
use Rattle.ladder_definitions.specs.Tree.{contact, contactn, Front, input, front_and, front_or, Output, coil, coiln, jump, jumpn, set_coil, reset_coil, timer, Rear, output, rear_and, rear_or, Rung, Ladder}
use Rattle.ladder_definitions.specs.Meaning.{work_input, work_front, Run, onward, jumped, left, jump_if, unless_jumped, run_output, run_rear, run_rung, follow, scan_from, scan_ladder}
use Rattle.ladder_definitions.specs.Kept.{front_words, rear_words, rung_words}
use Rattle.ladder_definitions.specs.Questions.{most_rung_words}
use Rattle.ladder_definitions.specs.Writes.{output_writes, unless_jumped_writes, rear_writes, rung_writes, writes_from, ladder_writes, most_rung_writes}
use Rattle.ladder_definitions.proofs.Laws.Scratch.{all_follow}

-- ---- the writes made

pub front_leaves : (f : Front) (s : State) → (work_front f s).state ≡ s
unfolding work_front work_input
front_leaves (input (contact v)) s = refl
front_leaves (input (contactn v)) s = refl
front_leaves (front_and f g) s = front_leaves g (work_front f s).state ∙ front_leaves f s
front_leaves (front_or f g) s = front_leaves g (work_front f s).state ∙ front_leaves f s

jump_leaves : (b : Bool) (l : ℕ) (s : State) → left (jump_if b l s) ≡ s
unfolding jump_if left
jump_leaves true l s = refl
jump_leaves false l s = refl

pub output_makes : (o : Output) (p : Bool) (s : State) → untimed (left (run_output o p s)) ≡ makes (output_writes o p s) (untimed s)
unfolding run_output output_writes makes left write
output_makes (coil v) p s = refl
output_makes (coiln v) p s = refl
output_makes (jump l) p s = ap untimed (jump_leaves p l s)
output_makes (jumpn l) p s = ap untimed (jump_leaves (not p) l s)
output_makes (set_coil v) p s = write_if_makes p s v true
output_makes (reset_coil v) p s = write_if_makes p s v false
output_makes (timer n) p s = timer_makes s n p

unless_makes : (x : Run) (ws : List Write) (next : State → Run) (more : State → List Write) (s : State) → untimed (left x) ≡ makes ws (untimed s)
    → ((u : State) → untimed (left (next u)) ≡ makes (more u) (untimed u)) → untimed (left (unless_jumped x next)) ≡ makes (ws ++ unless_jumped_writes x more) (untimed s)
unfolding unless_jumped unless_jumped_writes left makes
unless_makes (onward u) ws next more s e h = h u ∙ ap (makes (more u)) e ∙ sym (makes_append ws (more u) (untimed s))
unless_makes (jumped l u) ws next more s e h = e ∙ sym (makes_append ws [] (untimed s))

pub rear_makes : (r : Rear) (p : Bool) (s : State) → untimed (left (run_rear r p s)) ≡ makes (rear_writes r p s) (untimed s)
unfolding run_rear rear_writes
rear_makes (output o) p s = output_makes o p s
rear_makes (rear_and f r) p s =
    let w = work_front f s in
    rear_makes r (p && w.power) w.state ∙ ap (λ u. makes (rear_writes r (p && w.power) w.state) (untimed u)) (front_leaves f s)
rear_makes (rear_or a b) p s = unless_makes (run_rear a p s) (rear_writes a p s) (λ u. run_rear b p u) (λ u. rear_writes b p u) s (rear_makes a p s) (λ u. rear_makes b p u)

pub rung_makes : (g : Rung) (s : State) → untimed (left (run_rung g s)) ≡ makes (rung_writes g s) (untimed s)
unfolding run_rung rung_writes
rung_makes g s =
    let w = work_front g.front s in
    rear_makes g.rear w.power w.state ∙ ap (λ u. makes (rear_writes g.rear w.power w.state) (untimed u)) (front_leaves g.front s)

from_makes : (gs : Ladder) (n k : ℕ) (rest : Ladder) (s : State) → untimed (scan_from gs n k rest s).state ≡ makes (writes_from gs n rest s) (untimed s)
unfolding scan_from writes_from makes
from_makes gs zero k [] s = refl
from_makes gs zero k (g ∷ rest) s = refl
from_makes gs (suc n) k [] s = refl
from_makes gs (suc n) k (g ∷ rest) s =
    let x = run_rung g s in
    let later = writes_from gs n (follow gs rest x) (left x) in
    from_makes gs n (k + 1) (follow gs rest x) (left x) ∙ ap (makes later) (rung_makes g s) ∙ sym (makes_append (rung_writes g s) later (untimed s))

pub ladder_makes : (gs : Ladder) (n : ℕ) (s : State) → untimed (scan_ladder gs n s).state ≡ makes (ladder_writes gs n s) (untimed s)
unfolding scan_ladder ladder_writes
ladder_makes gs n s = from_makes gs n 0 gs s

pub ladder_legal : (vars : ℕ) (gs : Ladder) (n : ℕ) (s : State) → LegalTable vars s.bytes → LegalTable vars (scan_ladder gs n s).state.bytes
ladder_legal vars gs n s h = rw (ap (λ t. t.bytes) (ladder_makes gs n s)) (makes_legal vars (ladder_writes gs n s) (untimed s) h)

-- ---- how many they are

front_some : (f : Front) → 1 ≤ length (front_words f)
unfolding front_words
front_some (input i) = omega arith
front_some (front_and f g) = omega arith
front_some (front_or f g) = omega arith

output_few : (o : Output) (p : Bool) (s : State) → length (output_writes o p s) ≤ 1
unfolding output_writes
output_few (coil v) p s = omega arith
output_few (coiln v) p s = omega arith
output_few (jump l) p s = omega arith
output_few (jumpn l) p s = omega arith
output_few (set_coil v) p s = wrote_if_few p v true
output_few (reset_coil v) p s = wrote_if_few p v false
output_few (timer n) p s = timer_few s n p

unless_few : (x : Run) (more : State → List Write) (most : ℕ) → ((u : State) → 2 * length (more u) ≤ most) → 2 * length (unless_jumped_writes x more) ≤ most
unfolding unless_jumped_writes
unless_few (onward u) more most h = h u
unless_few (jumped l u) more most h = omega arith

-- each output has a word, and a rear-or before each output but the first
rear_few : (r : Rear) (p : Bool) (s : State) → 2 * length (rear_writes r p s) ≤ length (rear_words r) + 1
unfolding rear_writes rear_words
rear_few (output o) p s = let h = output_few o p s in omega arith
rear_few (rear_and f r) p s =
    let h = rear_few r (p && (work_front f s).power) (work_front f s).state in
    let k = length-append (front_words f) (rear_words r) in
    omega arith
rear_few (rear_or a b) p s =
    let ha = rear_few a p s in
    let hb = unless_few (run_rear a p s) (λ u. rear_writes b p u) (length (rear_words b) + 1) (λ u. rear_few b p u) in
    let words = length-append (rear_words a) (rear_words b) in
    let writes = length-append (rear_writes a p s) (unless_jumped_writes (run_rear a p s) (λ u. rear_writes b p u)) in
    omega arith

pub rung_few : (g : Rung) (s : State) → 2 * length (rung_writes g s) ≤ length (rung_words g)
unfolding rung_writes rung_words
rung_few g s =
    let f = front_some g.front in
    let h = rear_few g.rear (work_front g.front s).power (work_front g.front s).state in
    let words = length-append (front_words g.front) (rear_words g.rear) in
    omega arith

-- a rung that question 5 takes
abbrev short_rung : Rung → Bool
short_rung g = leb (length (rung_words g)) most_rung_words

from_few : (gs : Ladder) (n k : ℕ) (rest : Ladder) (s : State) → T (all short_rung gs) → T (all short_rung rest)
    → length (writes_from gs n rest s) + most_rung_writes * k ≤ most_rung_writes * (scan_from gs n k rest s).rungs
unfolding scan_from writes_from
from_few gs zero k [] s b c = omega arith
from_few gs zero k (g ∷ rest) s b c = omega arith
from_few gs (suc n) k [] s b c = omega arith
from_few gs (suc n) k (g ∷ rest) s b c =
    let x = run_rung g s in
    let ih = from_few gs n (k + 1) (follow gs rest x) (left x) b (all_follow short_rung gs rest x b (all_tail short_rung g rest c)) in
    let short = leb→le (length (rung_words g)) most_rung_words (all_head short_rung g rest c) in
    let h = rung_few g s in
    let writes = length-append (rung_writes g s) (writes_from gs n (follow gs rest x) (left x)) in
    omega arith

pub ladder_few : (gs : Ladder) (n : ℕ) (s : State) → T (all short_rung gs) → length (ladder_writes gs n s) ≤ most_rung_writes * (scan_ladder gs n s).rungs
unfolding scan_ladder ladder_writes
ladder_few gs n s b = let h = from_few gs n 0 gs s b b in omega arith

-- each turns one variable over at most
pub ladder_moved : (gs : Ladder) (n : ℕ) (s : State) → T (all short_rung gs) → (scan_ladder gs n s).state.moved ≤ s.moved + most_rung_writes * (scan_ladder gs n s).rungs
ladder_moved gs n s b =
    let few = ladder_few gs n s b in
    let most = makes_few (ladder_writes gs n s) (untimed s) in
    let state = ap (λ t. t.moved) (ladder_makes gs n s) in
    omega arith
