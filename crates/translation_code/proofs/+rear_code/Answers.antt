-- `translation_code::rear_code` meets its contract: the word's kind forces the tree's root, and the parts' instructions are put from later words. The measure
-- is what is left of the words.
use Rattle.std.proofs.Common.{◌<◌, length, set, ap, sym, ◌∙◌, arith}
use Rattle.ladder_definitions.specs.Kept.{kind_sort, kind_sorts}
use Rattle.ladder_definitions.proofs.Laws.Trees.{starts_rear}
use Rattle.ladder_kinds.specs.Kinds.{kind_number}
use Rattle.list_ops.specs.Ops.{op_number}
use Rattle.translation_code.proofs.Fronts.{kind_inside}
use Rattle.translation_code.proofs.Rears.{room_and, room_or, rear_output, rear_and_lem, rear_or_lem, rear_none, no_rear_kind}
use Rattle.translation_code.proofs.+rear_code.Goals as goal

pub overflow_add-at : goal.overflow_add-at
overflow_add-at t c =
    let l : c.args.at < length c.args.words.now = kind_inside _ _ _ c.in-Some.kind c.in-Some.ensures c.at_or-word.ensures in
    omega arith

pub join_code-joined-requires : goal.join_code-joined-requires
join_code-joined-requires t c =
    let l : c.args.at < length c.args.words.now = kind_inside _ _ _ c.in-Some.kind c.in-Some.ensures c.at_or-word.ensures in
    (omega arith, omega arith, omega arith, omega arith)

pub rear_code-requires : goal.rear_code-requires
unfolding kind_number kind_sort kind_sorts
rear_code-requires t c =
    room_and _ _ _ _ _ _ _ c.at_or-word.ensures (c.decreases, c.requires) _ (ap kind_sort (sym c.in-Some.ensures ∙ ap kind_number c.in-RearAnd.is)) c.join_code-joined.ensures.within

pub overflow_add-at-in-RearOr : goal.overflow_add-at-in-RearOr
overflow_add-at-in-RearOr t c =
    let l : c.args.at < length c.args.words.now = kind_inside _ _ _ c.in-Some.kind c.in-Some.ensures c.at_or-word.ensures in
    omega arith

pub rear_code-first-requires : goal.rear_code-first-requires
rear_code-first-requires t c =
    let l : c.args.at < length c.args.words.now = kind_inside _ _ _ c.in-Some.kind c.in-Some.ensures c.at_or-word.ensures in
    (omega arith, (omega arith, omega arith, omega arith, omega arith))

pub rear_code-requires-in-RearOr : goal.rear_code-requires-in-RearOr
unfolding kind_number kind_sort kind_sorts
rear_code-requires-in-RearOr t c =
    room_or _ _ _ _ _ _ _ c.at_or-word.ensures (c.decreases, c.requires) _ (ap kind_sort (sym c.in-Some.ensures ∙ ap kind_number c.in-RearOr.is)) c.rear_code-first.ensures.within

pub overflow_add-result : goal.overflow_add-result
overflow_add-result t c =
    let l : c.args.at < length c.args.words.now = kind_inside _ _ _ c.in-Some.kind c.in-Some.ensures c.at_or-word.ensures in
    omega arith

pub returns-in_default : goal.returns-in_default
returns-in_default t c =
    rear_none _ _ _ _ _ _ _ _ c.at_or-word.ensures _ (ap starts_rear c.in_default.ensures)

pub returns-in-RearAnd : goal.returns-in-RearAnd
unfolding kind_number kind_sort kind_sorts op_number
returns-in-RearAnd t c =
    rear_and_lem _ _ _ _ _ _ _ _ c.at_or-word.ensures _ _ _ _ _ (ap kind_sort (sym c.in-Some.ensures ∙ ap kind_number c.in-RearAnd.is)) c.join_code-joined.ensures c.rear_code.ensures

pub returns-in-RearOr : goal.returns-in-RearOr
unfolding kind_number kind_sort kind_sorts op_number
returns-in-RearOr t c =
    rear_or_lem _ _ _ _ _ _ _ _ c.at_or-word.ensures _ _ _ _ _ _ _ (ap kind_sort (sym c.in-Some.ensures ∙ ap kind_number c.in-RearOr.is))
    (c.put.ensures ∙ ap (set _ _) c.instruction.ensures) c.rear_code-first.ensures (c.put-in-RearOr.ensures ∙ ap (set _ _) c.instruction-in-RearOr.ensures)
    c.rear_code-in-RearOr.ensures

pub returns-in-Some-output_code : goal.returns-in-Some-output_code
returns-in-Some-output_code t c =
    rear_output _ _ _ _ _ _ _ _ c.at_or-word.ensures _ _ _ (rw c.in-Some.ensures at c.in-Some-output_code.ensures) c.put-in_default-kind.ensures

pub returns-in_default-output_code : goal.returns-in_default-output_code
returns-in_default-output_code t c =
    rear_none _ _ _ _ _ _ _ _ c.at_or-word.ensures _
    (no_rear_kind c.in-Some.kind c.in-Some.ensures c.in_default-kind.not-RearAnd c.in_default-kind.not-RearOr c.in_default-output_code.ensures)
