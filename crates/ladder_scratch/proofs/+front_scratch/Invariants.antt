-- `ladder_scratch::front_scratch` meets its contract: the sort of the word's kind forces the tree's root, and the parts are measured by the same function, from later words.
-- The measure is what is left of the words.
use Rattle.std.proofs.Common.{◌-◌, length}
use Rattle.ladder_scratch.proofs.+front_scratch.Given as goal

abbrev pub decreases-front_scratch : goal.decreases-front_scratch
decreases-front_scratch l = length l.words.now - l.at
