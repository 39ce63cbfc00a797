-- What the functions that measure scratch promise to each other. Nothing here is a sentence of document 01. Assumes nothing.
use Rattle.std.specs.Prelude.{ℕ, ◌+◌, ◌≤◌, ◌≡◌, Bool, List, map, leb, length}
use Rattle.table.specs.State.{scratch_bytes}
use Rattle.ladder_definitions.specs.Tree.{Rung, Ladder, Front, Rear}
use Rattle.ladder_definitions.specs.Kept.{rung_words, front_words, rear_words}
use Rattle.ladder_definitions.specs.Held.{RungAt, LadderHeld, FrontAt, RearAt}
use Rattle.ladder_definitions.specs.Questions.{rung_scratch, scratch_in_range, join_scratch, front_scratch, rear_scratch}
use Rattle.ladder_scratch.specs.declared.Taken.{Taken}

-- the rung whose n words begin at a position
pub record FewAsked (ws : List ℕ) (at n : ℕ) (r : Bool) : Type 0 where
  pub same : (g : Rung) → RungAt ws at g → n ≡ length (rung_words g) → r ≡ leb (rung_scratch g) scratch_bytes

pub record ScratchAsked (ws os ns : List ℕ) (r : Bool) : Type 0 where
  pub same : (ls : List ℕ) (gs : Ladder) → LadderHeld ws ls os gs → ns ≡ map (λ g. length (rung_words g)) gs → r ≡ scratch_in_range gs

-- what a front takes where it is joined: none, or what it takes through td
pub record JoinMeasured (ws : List ℕ) (at through r : ℕ) : Type 0 where
  pub few : r ≤ through
  pub same : (f : Front) → FrontAt ws at f → (n : ℕ) → through ≡ n + 1 → r ≡ join_scratch f n

-- the measure of a tree with n words, and the position after it
pub record TakenDone (at n bytes : ℕ) (r : Taken) : Type 0 where
  pub same : r.bytes ≡ bytes
  pub next : r.next ≡ at + n

pub record FrontMeasured (ws : List ℕ) (at : ℕ) (r : Taken) : Type 0 where
  pub onward : at + r.bytes ≤ r.next
  pub done : (f : Front) → FrontAt ws at f → TakenDone at (length (front_words f)) (front_scratch f) r

pub record RearMeasured (ws : List ℕ) (at : ℕ) (r : Taken) : Type 0 where
  pub onward : at + r.bytes ≤ r.next
  pub done : (k : Rear) → RearAt ws at k → TakenDone at (length (rear_words k)) (rear_scratch k) r

pub record RungMeasured (ws : List ℕ) (at r : ℕ) : Type 0 where
  pub same : (g : Rung) → RungAt ws at g → r ≡ rung_scratch g
