use Rattle.hotel_audit.proofs.ImportsLead.{imports_lead}
use Rattle.hotel_audit.proofs.laws.imports_lead.Goals as goal

pub returns : goal.returns
returns g c = imports_lead g.B.Kept g.B.Books
