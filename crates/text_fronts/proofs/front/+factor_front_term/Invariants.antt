-- The cycle `text::front::factor`, `term`, `front` meets its contracts: brackets that may still open and bytes that remain fall. The loops' invariant: what is read so far, with the parts that may follow, is the whole chain. Assumes nothing.
use Prim.Native.Nat.{◌+◌, ◌-◌, ◌*◌}
use lib.ListN.{length}
use Rattle.ladder_definitions.specs.Tree.{front_and, front_or}
use Rattle.text_grammar.specs.Reader.{factor_of, term_of, front_of}
use Rattle.text_fronts.proofs.Chains.{Writing}
use Rattle.text_fronts.proofs.front.+factor_front_term.Given as goal

abbrev pub decreases-factor : goal.decreases-factor
decreases-factor l = 3 * l.depth + (length l.text.now - l.at)

abbrev pub decreases-front : goal.decreases-front
decreases-front l = 3 * l.depth + 2 + (length l.text.now - l.at)

abbrev pub decreases-term : goal.decreases-term
decreases-term l = 3 * l.depth + 1 + (length l.text.now - l.at)

abbrev pub invariant-front-loop-rung : goal.invariant-front-loop-rung
invariant-front-loop-rung l = Writing (term_of l.depth l.text) 124 front_or l.text (front_of l.depth l.text l.at) l.at l.put l.initial.rung l.rung l.initial.count l.next l.count

abbrev pub decreases-front-loop-rung : goal.decreases-front-loop-rung
decreases-front-loop-rung l = length l.text - l.next

abbrev pub invariant-term-loop-rung : goal.invariant-term-loop-rung
invariant-term-loop-rung l = Writing (factor_of l.depth l.text) 38 front_and l.text (term_of l.depth l.text l.at) l.at l.put l.initial.rung l.rung l.initial.count l.next l.count

abbrev pub decreases-term-loop-rung : goal.decreases-term-loop-rung
decreases-term-loop-rung l = length l.text - l.next
