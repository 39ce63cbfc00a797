-- `ladder_walk::contact_at` meets its contract: by the word's kind a contact stands there, or none. Assumes nothing.
use Rattle.std.proofs.Common.{◌≡◌, None, sym, ap, ◌∙◌, arith, rules}
use Rattle.table.specs.State.{value}
use Rattle.ladder_definitions.specs.Tree.{contact, contactn}
use Rattle.ladder_definitions.specs.Kept.{input_kind}
use Rattle.ladder_definitions.proofs.Laws.Trees.{inside}
use Rattle.ladder_kinds.specs.Kinds.{kind_number}
use Rattle.ladder_kinds.specs.declared.Kind.TheVariants as the_kind
use Rattle.ladder_kinds.proofs.Numbers.{same_kind}
use Rattle.ladder_walk.proofs.Walks.{worked_contact, worked_contactn, no_contact_lem, no_input_sort}
use Rattle.ladder_walk.proofs.contact_at.Goals as goal

pub returns-in_err-of : goal.returns-in_err-of
returns-in_err-of c =
    let none : c.from_residual.result ≡ None = search rules in
    rw none (record {
      cases = λ n.
          no_contact_lem _ _ _ _ c.at_or-word.ensures n
          (λ v. no_input_sort _ c.in_err-of.ensures (contact v)) (λ v. no_input_sort _ c.in_err-of.ensures (contactn v));
    })

pub overflow_add-result : goal.overflow_add-result
unfolding kind_number
overflow_add-result c =
    let l = inside c.args.words.now c.args.at _ c.at_or-word.ensures (λ z. let k = sym c.in_ok-of.ensures ∙ ap kind_number c.in-Contact.is in omega arith) in
    omega arith

pub overflow_add-result-in-NegatedContact : goal.overflow_add-result-in-NegatedContact
unfolding kind_number
overflow_add-result-in-NegatedContact c =
    let l = inside c.args.words.now c.args.at _ c.at_or-word.ensures (λ z. let k = sym c.in_ok-of.ensures ∙ ap kind_number c.in-NegatedContact.is in omega arith) in
    omega arith

pub returns-in-Contact : goal.returns-in-Contact
unfolding input_kind kind_number value
returns-in-Contact c = record { cases = worked_contact _ _ _ _ c.at_or-word.ensures (sym c.in_ok-of.ensures ∙ ap kind_number c.in-Contact.is) _ c.value-value.ensures }

pub returns-in-NegatedContact : goal.returns-in-NegatedContact
unfolding input_kind kind_number value
returns-in-NegatedContact c = record {
  cases = worked_contactn _ _ _ _ c.at_or-word.ensures (sym c.in_ok-of.ensures ∙ ap kind_number c.in-NegatedContact.is) _ c.value-value.ensures;
}

pub returns-in_default : goal.returns-in_default
unfolding input_kind kind_number
returns-in_default c = record {
  cases = λ n.
      no_contact_lem _ _ _ _ c.at_or-word.ensures n
      (λ v e. c.in_default.not-Contact (same_kind _ the_kind.Contact (c.in_ok-of.ensures ∙ e)))
      (λ v e. c.in_default.not-NegatedContact (same_kind _ the_kind.NegatedContact (c.in_ok-of.ensures ∙ e)));
}
