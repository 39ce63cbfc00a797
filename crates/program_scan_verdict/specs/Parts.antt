-- What the functions of this crate promise each other. Nothing here is a sentence of document 01. Assumes nothing.
use Rattle.program_definitions.specs.Scanout.{Verdict, alike, both_stopped, not_alike}
use Rattle.program_scan_verdict.specs.declared.Verdict.{Verdict as VerdictCase}
use Rattle.program_scan_verdict.specs.declared.Verdict.TheVariants.{Alike, BothStopped, NotAlike}

unfoldable pub verdict_in : VerdictCase → Verdict
verdict_in Alike = alike
verdict_in BothStopped = both_stopped
verdict_in NotAlike = not_alike
