-- `ladder_names::missing_label` meets its contract: without a jump no rung fails, and else the rungs' words are asked. Assumes nothing.
use Rattle.std.proofs.Common.{sym, ap, ◌∙◌, rules}
use Rattle.questions.specs.Tests.{all, first_failed}
use Rattle.ladder_names.specs.Asking.{word_stays, word_leads}
use Rattle.ladder_names.proofs.Asked.{words_pass, rungs_tested, leads_tests, stays_leads}
use Rattle.ladder_names.proofs.missing_label.Goals as goal

pub returns-then-every_word : goal.returns-then-every_word
returns-then-every_word c = record {
  same =
      words_pass (leads_tests _) (stays_leads _ _ (sym (c.every_word.ensures.same word_stays (λ w b k. search rules)) ∙ c.if-every_word.true));
}

pub returns : goal.returns
returns c = record {
  same = λ gs l.
      c.first_failing.ensures.same (all (word_leads c.args.labels.now)) (λ own b k. search rules) gs l
      ∙ ap first_failed (rungs_tested (leads_tests c.args.labels.now) gs l.fits);
}
