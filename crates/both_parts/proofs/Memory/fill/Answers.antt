-- `both_parts::Memory::fill` meets its contract.
use Rattle.std.proofs.Common.{◌∙◌}
use Rattle.both_parts.specs.Parts.{memory}
use Rattle.both_parts.proofs.Copies.{sets_copied}
use Rattle.both_parts.proofs.Memory.fill.Goals as goal

pub returns-clause-copied : goal.returns-clause-copied
returns-clause-copied c =
    let bytes = c.copy_into.ensures ∙ sets_copied c.args.table.now c.args.self.now.table.now in
    let numbers = c.copy_into-2.ensures ∙ sets_copied c.args.timers.now c.args.self.now.timers.now in
    λ i. memory (bytes i) (numbers i)
