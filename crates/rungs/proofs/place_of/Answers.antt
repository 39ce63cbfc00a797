-- `rungs::place_of` meets its contract.
use Rattle.std.proofs.Common.{rules}
use Rattle.rungs.specs.Parts.{place_of}
use Rattle.rungs.proofs.place_of.Goals as goal

pub returns : goal.returns
unfolding place_of
returns c = search rules
