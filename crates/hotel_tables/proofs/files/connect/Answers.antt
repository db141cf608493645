use Rattle.hotel_tables.proofs.OfFiles.{path_error_opens}
use Rattle.hotel_tables.proofs.files.connect.Goals as goal

pub returns-in-Ok-open_files-clause-answer : goal.returns-in-Ok-open_files-clause-answer
returns-in-Ok-open_files-clause-answer g c =
    let did = c.in-Ok-open_files.ensures in
    (c.in-Ok.opened.0, c.in-Ok.ensures.parts, did.fresh, λ clean. (did.opened clean, did.found clean, did.plain clean))

pub returns-in-Err-open_files-clause-answer : goal.returns-in-Err-open_files-clause-answer
returns-in-Err-open_files-clause-answer g c =
    let did = c.in-Err-open_files.ensures in
    (did.named, (c.in-Ok.opened.0, c.in-Ok.ensures.parts, λ clean. (did.cause clean, did.unharmed clean)))

pub returns-in-Err-clause-answer : goal.returns-in-Err-clause-answer
returns-in-Err-clause-answer g c = (path_error_opens c.in-Err.error c.in-Err.ensures.kind, c.in-Err.ensures.kind)
