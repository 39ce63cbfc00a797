-- `program_scan_verdict::put_verdict` meets its contract: the line of the case whose text is long. Assumes nothing.
use Rattle.questions.specs.Bytes.{bytes}
use Rattle.program_definitions.specs.Scanout.{verdict_line}
use Rattle.program_scan_verdict.specs.Parts.{verdict_in}
use Rattle.program_scan_verdict.proofs.put_verdict.Goals as goal

pub returns-in-BothStopped : goal.returns-in-BothStopped
unfolding bytes verdict_line verdict_in
returns-in-BothStopped c = rw c.in-BothStopped.is c.put_text-in-BothStopped.ensures
