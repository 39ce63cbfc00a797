-- `translation_code::front_code` and `join_code` meet their contracts: the word's kind forces the tree's root, and the parts' code is put by the same functions,
-- from later words. The measure is twice what is left of the words, and one more where a front is joined.
use Rattle.std.proofs.Common.{◌<◌, length, set, ap, sym, ◌∙◌, arith}
use Rattle.ladder_kinds.specs.Kinds.{kind_number}
use Rattle.list_ops.specs.Ops.{op_number}
use Rattle.translation_code.proofs.Fronts.{kind_inside, front_contact, front_contactn, front_and_lem, front_or_lem, front_none, join_contact, join_contactn, join_none, join_through, no_contact, no_front, front_sorted}
use Rattle.translation_code.proofs.+front_code_join_code.Goals as goal

pub front_code-put_one-requires : goal.front_code-put_one-requires
front_code-put_one-requires t c =
    let l : c.args.at < length c.args.words.now = kind_inside _ _ _ c.in-Some.kind c.in-Some.ensures c.at_or-word.ensures in
    (omega arith, omega arith, omega arith)

pub front_code-put_one-requires-in-NegatedContact : goal.front_code-put_one-requires-in-NegatedContact
front_code-put_one-requires-in-NegatedContact t c =
    let l : c.args.at < length c.args.words.now = kind_inside _ _ _ c.in-Some.kind c.in-Some.ensures c.at_or-word.ensures in
    (omega arith, omega arith, omega arith)

pub front_code-overflow_add-at : goal.front_code-overflow_add-at
front_code-overflow_add-at t c =
    let l : c.args.at < length c.args.words.now = kind_inside _ _ _ c.in-Some.kind c.in-Some.ensures c.at_or-word.ensures in
    omega arith

pub front_code-front_code-first-requires : goal.front_code-front_code-first-requires
front_code-front_code-first-requires t c =
    let l : c.args.at < length c.args.words.now = kind_inside _ _ _ c.in-Some.kind c.in-Some.ensures c.at_or-word.ensures in
    (omega arith, (omega arith, omega arith, omega arith, omega arith))

pub front_code-join_code-requires : goal.front_code-join_code-requires
front_code-join_code-requires t c =
    let l : c.args.at < length c.args.words.now = kind_inside _ _ _ c.in-Some.kind c.in-Some.ensures c.at_or-word.ensures in
    let h = c.front_code-first.ensures.within in
    (omega (arith, h.onward), (omega arith, omega arith, omega (arith, h.onward), omega (arith, h.onward, h.inside, h.few)))

pub front_code-overflow_add-at-in-FrontOr : goal.front_code-overflow_add-at-in-FrontOr
front_code-overflow_add-at-in-FrontOr t c =
    let l : c.args.at < length c.args.words.now = kind_inside _ _ _ c.in-Some.kind c.in-Some.ensures c.at_or-word.ensures in
    omega arith

pub front_code-front_code-first-requires-in-FrontOr : goal.front_code-front_code-first-requires-in-FrontOr
front_code-front_code-first-requires-in-FrontOr t c =
    let l : c.args.at < length c.args.words.now = kind_inside _ _ _ c.in-Some.kind c.in-Some.ensures c.at_or-word.ensures in
    (omega arith, (omega arith, omega arith, omega arith, omega arith))

pub front_code-join_code-requires-in-FrontOr : goal.front_code-join_code-requires-in-FrontOr
front_code-join_code-requires-in-FrontOr t c =
    let l : c.args.at < length c.args.words.now = kind_inside _ _ _ c.in-Some.kind c.in-Some.ensures c.at_or-word.ensures in
    let h = c.front_code-first-in-FrontOr.ensures.within in
    (omega (arith, h.onward), (omega arith, omega arith, omega (arith, h.onward), omega (arith, h.onward, h.inside, h.few)))

pub front_code-returns-in-Contact : goal.front_code-returns-in-Contact
unfolding kind_number op_number
front_code-returns-in-Contact t c =
    front_contact _ _ _ _ c.at_or-word.ensures _ _ _ _ _ (sym c.in-Some.ensures ∙ ap kind_number c.in-Contact.is) c.put_one.ensures

pub front_code-returns-in-NegatedContact : goal.front_code-returns-in-NegatedContact
unfolding kind_number op_number
front_code-returns-in-NegatedContact t c =
    front_contactn _ _ _ _ c.at_or-word.ensures _ _ _ _ _ (sym c.in-Some.ensures ∙ ap kind_number c.in-NegatedContact.is) c.put_one-in-NegatedContact.ensures

pub front_code-returns-in-FrontAnd : goal.front_code-returns-in-FrontAnd
unfolding kind_number op_number
front_code-returns-in-FrontAnd t c =
    front_and_lem _ _ _ _ c.at_or-word.ensures _ _ _ _ _ _ _ (sym c.in-Some.ensures ∙ ap kind_number c.in-FrontAnd.is) c.front_code-first.ensures c.join_code.ensures

pub front_code-returns-in-FrontOr : goal.front_code-returns-in-FrontOr
unfolding kind_number op_number
front_code-returns-in-FrontOr t c =
    front_or_lem _ _ _ _ c.at_or-word.ensures _ _ _ _ _ _ _ (sym c.in-Some.ensures ∙ ap kind_number c.in-FrontOr.is) c.front_code-first-in-FrontOr.ensures c.join_code-in-FrontOr.ensures

pub front_code-returns-in_default : goal.front_code-returns-in_default
front_code-returns-in_default t c =
    front_none _ _ _ _ c.at_or-word.ensures _ _ _ (λ l h. front_sorted _ l h c.in_default.ensures)

pub front_code-returns-in_default-kind : goal.front_code-returns-in_default-kind
front_code-returns-in_default-kind t c =
    let d = c.in_default-kind in
    front_none _ _ _ _ c.at_or-word.ensures _ _ _ (no_front c.in-Some.kind c.in-Some.ensures d.not-Contact d.not-NegatedContact d.not-FrontAnd d.not-FrontOr)

pub join_code-put_one-requires : goal.join_code-put_one-requires
join_code-put_one-requires t c =
    let l : c.args.at < length c.args.words.now = kind_inside _ _ _ c.in-Some.kind c.in-Some.ensures c.at_or-word.ensures in
    (omega arith, omega arith, omega arith)

pub join_code-put_one-requires-in-NegatedContact : goal.join_code-put_one-requires-in-NegatedContact
join_code-put_one-requires-in-NegatedContact t c =
    let l : c.args.at < length c.args.words.now = kind_inside _ _ _ c.in-Some.kind c.in-Some.ensures c.at_or-word.ensures in
    (omega arith, omega arith, omega arith)

pub join_code-returns-in-Contact : goal.join_code-returns-in-Contact
unfolding kind_number
join_code-returns-in-Contact t c =
    join_contact _ _ _ _ c.at_or-word.ensures _ _ _ _ _ _ _ (sym c.in-Some.ensures ∙ ap kind_number c.in-Contact.is) c.put_one.ensures

pub join_code-returns-in-NegatedContact : goal.join_code-returns-in-NegatedContact
unfolding kind_number
join_code-returns-in-NegatedContact t c =
    join_contactn _ _ _ _ c.at_or-word.ensures _ _ _ _ _ _ _ (sym c.in-Some.ensures ∙ ap kind_number c.in-NegatedContact.is) c.put_one-in-NegatedContact.ensures

pub join_code-returns-in_default : goal.join_code-returns-in_default
join_code-returns-in_default t c =
    join_none _ _ _ _ c.at_or-word.ensures _ _ _ _ _ (λ l h. front_sorted _ l h c.in_default.ensures)

pub join_code-returns-in_default-kind : goal.join_code-returns-in_default-kind
unfolding op_number
join_code-returns-in_default-kind t c =
    let d = c.in_default-kind in
    join_through _ _ _ _ c.at_or-word.ensures _ _ _ _ _ _ _ _ _ (no_contact c.in-Some.kind c.in-Some.ensures d.not-Contact d.not-NegatedContact)
    (c.put.ensures ∙ ap (set _ _) c.instruction.ensures) c.front_code-inner.ensures (c.put-in_default-kind.ensures ∙ ap (set _ _) c.instruction-in_default-kind.ensures)
