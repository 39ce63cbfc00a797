-- A scratch byte takes two words, so a rung of at most 65 words takes at most 32 scratch bytes. Assumes nothing.
use Prim.Native.Nat.{ℕ, ◌+◌, ◌*◌, ◌≤◌}
use native.Mathlib.Omega.{arith}
use mathlib.Core.Path.{sym, ap, ◌∙◌}
use mathlib.Core.List.{List}
use lib.Dec.{leb}
use lib.ListN.{length, length-append}
use borrow.Author.Tests.{le-leb}
use Rattle.table.specs.State.{scratch_bytes}
use Rattle.ladder_definitions.specs.Tree.{Front, input, front_and, front_or, Rear, output, rear_and, rear_or, Rung}
use Rattle.ladder_definitions.proofs.Laws.Scratch.{join_few}
use Rattle.ladder_definitions.specs.Kept.{front_words, rear_words, rung_words}
use Rattle.ladder_definitions.specs.Questions.{front_scratch, rear_scratch, rung_scratch}
use Rattle.ladder_scratch.specs.Measuring.{RungMeasured, FewAsked}

front_few : (f : Front) → 2 * front_scratch f + 1 ≤ length (front_words f)
unfolding front_scratch front_words
front_few (input i) = omega arith
front_few (front_and f g) = simp length-append (omega (arith, front_few f, front_few g, join_few g (front_scratch g)))
front_few (front_or f g) = simp length-append (omega (arith, front_few f, front_few g, join_few g (front_scratch g)))

rear_few : (r : Rear) → 2 * rear_scratch r + 1 ≤ length (rear_words r)
unfolding rear_scratch rear_words
rear_few (output o) = omega arith
rear_few (rear_and f r) = simp length-append (omega (arith, front_few f, rear_few r, join_few f (front_scratch f)))
rear_few (rear_or a b) = simp length-append (omega (arith, rear_few a, rear_few b))

rung_few : (g : Rung) → length (rung_words g) ≤ 65 → rung_scratch g ≤ scratch_bytes
unfolding rung_scratch rung_words
rung_few g h = omega (arith, length-append (front_words g.front) (rear_words g.rear), front_few g.front, rear_few g.rear)

module _ (ws : List ℕ) (at n : ℕ) where
  pub few_words : n ≤ 65 → FewAsked ws at n (leb n 65)
  few_words h = record { same = λ g s e. le-leb n 65 h ∙ sym (le-leb (rung_scratch g) scratch_bytes (rung_few g (omega arith))) }

  pub many_words : (r : ℕ) → RungMeasured ws at r → FewAsked ws at n (leb r scratch_bytes)
  many_words r m = record { same = λ g s e. ap (λ x. leb x scratch_bytes) (m.same g s) }
