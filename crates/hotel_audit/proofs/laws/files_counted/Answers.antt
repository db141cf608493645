use Rattle.hotel_audit.proofs.{CountsOfFits.notes_counted, FilesCounted.files_counted, NotesTaken.runs_take}
use Rattle.hotel_audit.proofs.laws.files_counted.Goals as goal

pub returns-clause-of_files : goal.returns-clause-of_files
returns-clause-of_files c = files_counted

pub returns-clause-of_histories : goal.returns-clause-of_histories
returns-clause-of_histories c = notes_counted

pub returns-clause-of_runs : goal.returns-clause-of_runs
returns-clause-of_runs c = runs_take
