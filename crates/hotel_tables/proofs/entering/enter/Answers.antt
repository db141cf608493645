use Rattle.std.proofs.Common.{List, ℕ, inl, sym, subst, Ok, Err, ◌∙◌}
use Rattle.sqlite.specs.Held.{state}
use Rattle.hotel_statements.specs.declared.version.Version.{Version}
use Rattle.hotel_statements.specs.Schema.{version_of}
use Rattle.hotel_statements.specs.Books.{IsKept}
use Rattle.hotel_statements.specs.Upgrade.{AreRoomsFor}
use Rattle.hotel_tables.specs.Opening.{Enters, Opens, Lacks}
use Rattle.hotel_tables.specs.Exits.{CallFails}
use Rattle.hotel_tables.proofs.Entered.{books_read, rooms_read, entered_whole, entered_made, entered_not, not_made}
use Rattle.hotel_tables.proofs.Entered.{completion_fails}
use Rattle.hotel_tables.proofs.entering.enter.Goals as goal

pub returns-in-Err : goal.returns-in-Err
returns-in-Err g c =
    let old = state g.S.Store c.args.conn.now in
    let new = state g.S.Store c.find_counts.new.conn in
    entered_not c.args.layout old new c.in-Err.why c.requires.has (λ cause reads. inl reads)
    (subst (λ (v : Version). Opens v old new (Err c.in-Err.why)) c.version.ensures c.in-Err.ensures)

pub returns-then-is_whole : goal.returns-then-is_whole
returns-then-is_whole g c =
    let old = state g.S.Store c.args.conn.now in
    let new = state g.S.Store c.find_counts.new.conn in
    entered_whole c.args.layout old new (sym c.is_whole.ensures ∙ c.if-is_whole.true) c.requires.has
    (subst (λ (v : Version). Opens v old new (Ok c.in-Ok.found)) c.version.ensures c.in-Ok.ensures)

pub migrate-requires-clause-books : goal.migrate-requires-clause-books
migrate-requires-clause-books g c =
    let old = state g.S.Store c.args.conn.now in
    let mid = state g.S.Store c.find_counts.new.conn in
    books_read c.args.layout c.requires.has
    (subst (λ (v : Version). Opens v old mid (Ok c.in-Ok.found)) c.version.ensures c.in-Ok.ensures)

pub migrate-requires-clause-rooms : goal.migrate-requires-clause-rooms
migrate-requires-clause-rooms g c = λ kept.
    let old = state g.S.Store c.args.conn.now in
    let mid = state g.S.Store c.find_counts.new.conn in
    let opens = subst (λ (v : Version). Opens v old mid (Ok c.in-Ok.found)) c.version.ensures c.in-Ok.ensures in
    let lacks : Lacks c.args.layout old.now.schema = (sym c.is_whole.ensures ∙ c.if-is_whole.false, c.requires.has) in
    subst (λ (rooms : List ℕ). AreRoomsFor (version_of c.args.layout) rooms mid.now.trees) (sym c.deref.ensures.value)
    (rooms_read c.args.layout lacks opens kept)

pub returns-in-Ok-migrate : goal.returns-in-Ok-migrate
returns-in-Ok-migrate g c =
    let did = c.in-Ok-migrate.ensures in
    let old = state g.S.Store c.args.conn.now in
    let mid = state g.S.Store c.find_counts.new.conn in
    let opens = subst (λ (v : Version). Opens v old mid (Ok c.in-Ok.found)) c.version.ensures c.in-Ok.ensures in
    let lacks : Lacks c.args.layout old.now.schema = (sym c.is_whole.ensures ∙ c.if-is_whole.false, c.requires.has) in
    entered_made c.args.layout lacks opens did.books.autocommit did.was did.crash
    did.books did.made did.whole did.open_on

pub returns-in-Err-migrate : goal.returns-in-Err-migrate
returns-in-Err-migrate g c =
    let did = c.in-Err-migrate.ensures in
    let layout = c.args.layout in
    let old = state g.S.Store c.args.conn.now in
    let mid = state g.S.Store c.find_counts.new.conn in
    let new = state g.S.Store c.migrate.new.conn in
    let fails = CallFails g.S.Store c.args.conn.now c.migrate.new.conn in
    let opens = subst (λ (v : Version). Opens v old mid (Ok c.in-Ok.found)) c.version.ensures c.in-Ok.ensures in
    let lacks : Lacks c.args.layout old.now.schema = (sym c.is_whole.ensures ∙ c.if-is_whole.false, c.requires.has) in
    subst (λ why. Enters fails old new (Err why)) (sym c.open_fault.ensures)
    (not_made layout lacks opens did.left.autocommit did.was did.crash c.fault_of.result did.same
    (λ cause is. completion_fails g.S.Store layout c.args.conn.now c.find_counts.new.conn c.migrate.new.conn _
    c.in-Err-migrate.error lacks opens.keeps
    (subst (λ (rooms : List ℕ). IsKept mid → AreRoomsFor (version_of layout) rooms mid.now.trees)
    (sym c.deref.ensures.value)
    (rooms_read layout lacks opens)) did.failed cause (sym c.fault_of.ensures ∙ is)))
