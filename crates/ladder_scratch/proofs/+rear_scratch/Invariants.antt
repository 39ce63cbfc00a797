-- `ladder_scratch::rear_scratch` meets its contract: the sort of the word's kind forces the tree's root, and the parts are measured from later words.
-- The measure is what is left of the words.
use Rattle.std.proofs.Common.{◌-◌, length}
use Rattle.ladder_scratch.proofs.+rear_scratch.Given as goal

abbrev pub decreases-rear_scratch : goal.decreases-rear_scratch
decreases-rear_scratch l = length l.words.now - l.at
