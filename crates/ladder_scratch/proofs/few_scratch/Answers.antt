-- `ladder_scratch::few_scratch` meets its contract. Few words take few scratch bytes, and more words are measured. Assumes nothing.
use Rattle.ladder_scratch.proofs.FewWords.{few_words, many_words}
use Rattle.ladder_scratch.proofs.few_scratch.Goals as goal

pub returns-then-length-le-FEW_WORDS : goal.returns-then-length-le-FEW_WORDS
returns-then-length-le-FEW_WORDS c = few_words _ _ _ c.if-length-le-FEW_WORDS.true

pub returns-else-length-le-FEW_WORDS : goal.returns-else-length-le-FEW_WORDS
returns-else-length-le-FEW_WORDS c = many_words _ _ _ _ c.rung_scratch.ensures
