use Rattle.hotel_program.proofs.OfScript.ScriptRunLemmas.{scripts_run, lists_between}
use Rattle.hotel_program.proofs.script.script_run.scripts_run.Goals as goal

pub returns-clause-run : goal.returns-clause-run
returns-clause-run c = scripts_run

pub returns-clause-lists : goal.returns-clause-lists
returns-clause-lists c = lists_between
