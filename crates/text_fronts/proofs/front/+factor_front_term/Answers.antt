-- The cycle `text_fronts::front::factor`, `term`, `front` meets its contracts: brackets that may still open and bytes that remain fall. The loops' invariant: what is read so far, with the parts that may follow, is the whole chain. Assumes nothing.
use mathlib.Core.Path.{refl}
use native.Mathlib.Omega.{arith}
use Rattle.ladder_definitions.specs.Kept.{front_words}
use Rattle.ladder_kinds.specs.Kinds.{kind_number}
use Rattle.text_fronts.proofs.Parts.{error_is, closed, not_closed, inner_stuck}
use Rattle.text_fronts.proofs.Factors.{term_law, front_law, factor_contact, factor_contactn, factor_none, factor_deep, factor_open}
use Rattle.text_fronts.proofs.Chains.{and_rooted, or_rooted, chain_start, first_stuck, chain_more, chain_stuck, chain_end}
use Rattle.text_fronts.proofs.front.+factor_front_term.Goals as goal

pub factor-returns-in_err-inner-in-40 : goal.factor-returns-in_err-inner-in-40
factor-returns-in_err-inner-in-40 t c =
    rw (error_is _ c.from_residual.ensures)
    (factor_open _ _ _ c.at_or.ensures c.in-40.is _ c.if-depth-gt0.true _ _ _ _
    (inner_stuck front_words _ _ _ _ _ (omega arith) _ _ _ _ _ _ _ c.in_err-inner-in-40.ensures))

pub factor-returns-in_err-next-in-40 : goal.factor-returns-in_err-next-in-40
factor-returns-in_err-next-in-40 t c =
    rw (error_is _ c.from_residual-in_err-next-in-40.ensures)
    (factor_open _ _ _ c.at_or.ensures c.in-40.is _ c.if-depth-gt0.true _ _ _ _
    (not_closed front_words _ _ _ _ _ (omega arith) _ _ _ _ _ _ _ _ c.in_ok-inner-in-40.ensures c.in_err-next-in-40.ensures))

pub factor-returns-in_ok-next-in-40 : goal.factor-returns-in_ok-next-in-40
factor-returns-in_ok-next-in-40 t c =
    factor_open _ _ _ c.at_or.ensures c.in-40.is _ c.if-depth-gt0.true _ _ _ _
    (closed front_words _ _ _ _ _ (omega arith) _ _ _ _ _ c.in_ok-inner-in-40.ensures c.in_ok-next-in-40.ensures)

pub factor-returns-in-99 : goal.factor-returns-in-99
unfolding kind_number
factor-returns-in-99 t c = factor_contact _ _ _ c.at_or.ensures _ c.in-99.is _ _ _ _ c.leaf.ensures

pub factor-returns-in-110 : goal.factor-returns-in-110
unfolding kind_number
factor-returns-in-110 t c = factor_contactn _ _ _ c.at_or.ensures _ c.in-110.is _ _ _ _ c.leaf-in-110.ensures

pub factor-returns-in_default : goal.factor-returns-in_default
factor-returns-in_default t c = factor_deep _ _ _ c.at_or.ensures c.in-40.is _ (omega arith) _ _ _

pub factor-returns-in_default-2 : goal.factor-returns-in_default-2
factor-returns-in_default-2 t c = factor_none _ _ _ c.at_or.ensures _ (λ e. omega arith) (λ e. omega arith) (λ e. omega arith) _ _ _

pub front-returns-in_err-next : goal.front-returns-in_err-next
front-returns-in_err-next t c = rw (error_is _ c.from_residual.ensures) (first_stuck _ _ _ _ _ _ _ _ _ _ _ (front_law _ _ _) c.in_err-next.ensures)

pub front-loop-rung-init : goal.front-loop-rung-init
front-loop-rung-init t c = chain_start _ _ _ _ _ _ _ _ _ _ (front_law _ _ _) c.term.auto.rung c.in_ok-next.ensures

pub front-returns-in_err-more : goal.front-returns-in_err-more
front-returns-in_err-more t c =
    rw (error_is _ c.from_residual-in_err-more.ensures)
    (chain_stuck _ _ _ _ (omega arith) _ _ _ _ _ _ _ _ c.loop-rung.invariant _ c.at_or.ensures c.loop-rung-test.true _ _ _ _ _ c.in_err-more.ensures)

pub front-loop-rung-preserved : goal.front-loop-rung-preserved
front-loop-rung-preserved t c =
    chain_more _ _ _ _ (omega arith) _ _ _ _ _ _ _ _ c.loop-rung.invariant _ c.at_or.ensures c.loop-rung-test.true _ refl _ _ _
    c.in_ok-more.ensures c.term-in-loop-rung.auto.rung _ or_rooted c.insert.ensures c.insert.auto.words _ (omega arith)

pub front-returns : goal.front-returns
front-returns t c =
    chain_end _ _ _ _ (omega arith) _ _ _ _ _ _ _ _ c.loop-rung.invariant _ c.at_or.ensures c.loop-rung-test.false _ _
    c.term.auto.rung refl c.in_ok-next.ensures

pub term-returns-in_err-next : goal.term-returns-in_err-next
term-returns-in_err-next t c = rw (error_is _ c.from_residual.ensures) (first_stuck _ _ _ _ _ _ _ _ _ _ _ (term_law _ _ _) c.in_err-next.ensures)

pub term-loop-rung-init : goal.term-loop-rung-init
term-loop-rung-init t c = chain_start _ _ _ _ _ _ _ _ _ _ (term_law _ _ _) c.factor.auto.rung c.in_ok-next.ensures

pub term-returns-in_err-more : goal.term-returns-in_err-more
term-returns-in_err-more t c =
    rw (error_is _ c.from_residual-in_err-more.ensures)
    (chain_stuck _ _ _ _ (omega arith) _ _ _ _ _ _ _ _ c.loop-rung.invariant _ c.at_or.ensures c.loop-rung-test.true _ _ _ _ _ c.in_err-more.ensures)

pub term-loop-rung-preserved : goal.term-loop-rung-preserved
term-loop-rung-preserved t c =
    chain_more _ _ _ _ (omega arith) _ _ _ _ _ _ _ _ c.loop-rung.invariant _ c.at_or.ensures c.loop-rung-test.true _ refl _ _ _
    c.in_ok-more.ensures c.factor-in-loop-rung.auto.rung _ and_rooted c.insert.ensures c.insert.auto.words _ (omega arith)

pub term-returns : goal.term-returns
term-returns t c =
    chain_end _ _ _ _ (omega arith) _ _ _ _ _ _ _ _ c.loop-rung.invariant _ c.at_or.ensures c.loop-rung-test.false _ _
    c.factor.auto.rung refl c.in_ok-next.ensures
