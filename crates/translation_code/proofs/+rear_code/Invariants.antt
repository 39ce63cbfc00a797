-- The measure is what is left of the words.
use Rattle.std.proofs.Common.{◌-◌, length}
use Rattle.translation_code.proofs.+rear_code.Given as goal

abbrev pub decreases-rear_code : goal.decreases-rear_code
decreases-rear_code l = length l.words.now - l.at
