-- `ladder_names::unknown_variable` meets its contract: where all words pass no rung fails, and else the rungs' words are asked. Assumes nothing.
use Rattle.std.proofs.Common.{sym, ap, ◌∙◌, rules}
use Rattle.questions.specs.Tests.{all, first_failed}
use Rattle.ladder_names.specs.Asking.{word_below}
use Rattle.ladder_names.proofs.Asked.{words_pass, rungs_tested, below_tests}
use Rattle.ladder_names.proofs.unknown_variable.Goals as goal

pub returns-then-words_below : goal.returns-then-words_below
returns-then-words_below c = record { same = words_pass (below_tests _) (sym c.words_below.ensures ∙ c.if-words_below.true) }

pub returns : goal.returns
returns c = record {
  same = λ gs l.
      c.first_failing.ensures.same (all (word_below c.args.vars)) (λ own b k. search rules) gs l
      ∙ ap first_failed (rungs_tested (below_tests c.args.vars) gs l.fits);
}
