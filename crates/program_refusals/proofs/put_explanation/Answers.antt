-- `program_refusals::put_explanation` meets its contract: the text of each case. Assumes nothing.
use Rattle.questions.specs.Bytes.{bytes}
use Rattle.questions.specs.Refusals.{refusal_of}
use Rattle.program_definitions.specs.Refusals.{explanation, explanations}
use Rattle.program_refusals.proofs.Lines.{explanation_put}
use Rattle.program_refusals.proofs.put_explanation.Goals as goal

pub returns-in-Variables : goal.returns-in-Variables
unfolding refusal_of explanation explanations bytes
returns-in-Variables c = explanation_put _ c.in-Variables.is c.put_text.ensures

pub returns-in-TextLength : goal.returns-in-TextLength
unfolding refusal_of explanation explanations bytes
returns-in-TextLength c = explanation_put _ c.in-TextLength.is c.put_text-in-TextLength.ensures

pub returns-in-Text : goal.returns-in-Text
unfolding refusal_of explanation explanations bytes
returns-in-Text c = explanation_put _ c.in-Text.is c.put_placed.ensures

pub returns-in-List : goal.returns-in-List
unfolding refusal_of explanation explanations bytes
returns-in-List c = explanation_put _ c.in-List.is c.put_text-in-List.ensures

pub returns-in-Table : goal.returns-in-Table
unfolding refusal_of explanation explanations bytes
returns-in-Table c = explanation_put _ c.in-Table.is c.put_text-in-Table.ensures

pub returns-in-Buffer : goal.returns-in-Buffer
unfolding refusal_of explanation explanations bytes
returns-in-Buffer c = explanation_put _ c.in-Buffer.is c.put_text-in-Buffer.ensures

pub returns-in-NameTable : goal.returns-in-NameTable
unfolding refusal_of explanation explanations bytes
returns-in-NameTable c = explanation_put _ c.in-NameTable.is c.put_text-in-NameTable.ensures

pub returns-in-Timers : goal.returns-in-Timers
unfolding refusal_of explanation explanations bytes
returns-in-Timers c = explanation_put _ c.in-Timers.is c.put_text-in-Timers.ensures
