-- `program_refusals::finish` meets its contract: what was placed stands, and a refusal's line is put. Assumes nothing.
use Rattle.program_definitions.proofs.Laws.Outcomes.{finish_placed, finish_refused}
use Rattle.program_refusals.proofs.finish.Goals as goal

pub returns-in-Ok : goal.returns-in-Ok
returns-in-Ok c = finish_placed _ c.in-Ok.is

pub returns-in-Err : goal.returns-in-Err
returns-in-Err c = finish_refused _ c.in-Err.is c.put_refusal.ensures.put c.put_refusal.ensures.upper_bound
