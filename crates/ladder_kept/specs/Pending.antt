-- Question 4 word by word: how many fronts and rears are still pending. What the functions inside this crate promise to each other.
-- Nothing here is a sentence of document 01. Assumes nothing.
use Rattle.std.specs.Prelude.{ℕ, zero, suc, ◌+◌, ◌≤◌, ◌≡◌, Bool, false, ◌&&◌, List, [], ◌∷◌, eqb, leb, length, take, drop, Option, Some, None, MatchOption}
use Rattle.rungs.specs.Words.{number_of, operand_of}
use Rattle.rungs.specs.Records.{RungRecord}
use Rattle.ladder_definitions.specs.Kept.{KindSort, contact_sort, joined_sort, output_sort, rear_and_sort, rear_or_sort, no_sort, kind_sort}
use Rattle.ladder_kept.specs.declared.Pending.{Pending as PendingParts}

-- What is pending before a word, going from the first word to the last: some fronts and then some rears. Misplaced: a word stood where none like it may.
pub data Pending : Type 0 where
  misplaced : Pending
  pending : ℕ → ℕ → Pending

-- What is pending after a word, from its operand and from what was pending before it. Each is the other way round of how Kept puts the word before trees.
-- a contact is a front
unfoldable pub take_front : ℕ → ℕ → Pending
take_front (suc f) r = pending f r
take_front zero r = misplaced

-- a front-and, a front-or: a front in two parts
unfoldable pub split_front : ℕ → ℕ → ℕ → Pending
split_front zero (suc f) r = pending (suc (suc f)) r
split_front zero zero r = misplaced
split_front (suc o) f r = misplaced

-- a coil, a jump: a rear
unfoldable pub take_rear : ℕ → ℕ → Pending
take_rear zero (suc r) = pending 0 r
take_rear zero zero = misplaced
take_rear (suc f) r = misplaced

-- a rear-and: a rear in two parts, the first a front
unfoldable pub front_rear : ℕ → ℕ → ℕ → Pending
front_rear zero zero (suc r) = pending 1 (suc r)
front_rear zero zero zero = misplaced
front_rear zero (suc f) r = misplaced
front_rear (suc o) f r = misplaced

-- a rear-or: a rear in two parts
unfoldable pub split_rear : ℕ → ℕ → ℕ → Pending
split_rear zero zero (suc r) = pending 0 (suc (suc r))
split_rear zero zero zero = misplaced
split_rear zero (suc f) r = misplaced
split_rear (suc o) f r = misplaced

-- by the sort of the word's kind
unfoldable pub pending_after : KindSort → ℕ → ℕ → ℕ → Pending
pending_after contact_sort o f r = take_front f r
pending_after joined_sort o f r = split_front o f r
pending_after output_sort o f r = take_rear f r
pending_after rear_and_sort o f r = front_rear o f r
pending_after rear_or_sort o f r = split_rear o f r
pending_after no_sort o f r = misplaced

-- whether words are f fronts and then r rears
unfoldable pub completes : ℕ → ℕ → List ℕ → Bool
completes f r [] = eqb f 0 && eqb r 0
completes f r (w ∷ ws) = elim (pending_after (kind_sort (number_of w)) (operand_of w) f r) [ misplaced ↦ false | pending g s ↦ completes g s ws ]

unfoldable pub pending_in : Option PendingParts → Pending
pending_in (Some s) = pending s.fronts s.rears
pending_in None = misplaced

-- s is pending after a word of kind k and operand o, where f fronts and r rears were pending before it
pub record WordTaken (k o f r : ℕ) (s : Option PendingParts) : Type 0 where
  pub same : pending_in s ≡ pending_after (kind_sort k) o f r
  pub few : MatchOption s (Unit {0}) (λ p. (p.fronts ≤ f + 1) × (p.rears ≤ r + 1))

-- whether records and words from `start` on hold rungs
unfoldable pub holds_from : ℕ → List RungRecord → List ℕ → Bool
holds_from start [] ws = eqb (length ws) 0
holds_from start (r ∷ rs) ws = (eqb r.offset start && leb r.length (length ws)) && (completes 1 1 (take r.length ws) && holds_from (start + r.length) rs (drop r.length ws))
