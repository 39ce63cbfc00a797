-- The measure is twice what is left of the words, and one more where a front is joined.
use Rattle.std.proofs.Common.{◌+◌, ◌-◌, ◌*◌, length}
use Rattle.translation_code.proofs.+front_code_join_code.Given as goal

abbrev pub decreases-front_code : goal.decreases-front_code
decreases-front_code l = 2 * (length l.words.now - l.at)

abbrev pub decreases-join_code : goal.decreases-join_code
decreases-join_code l = 2 * (length l.words.now - l.at) + 1
