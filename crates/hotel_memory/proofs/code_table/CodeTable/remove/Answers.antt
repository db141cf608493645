use Rattle.std.proofs.Common.{ap, sym, ◌∙◌, subst, nat_cmp}
use Rattle.hotel_books.proofs.Names.{is_at, remove_entry, at_number, first_code_at}
use Rattle.hotel_memory.specs.Tables.{PlacesAgree}
use Rattle.hotel_memory.proofs.OfTables.PlacedCodes.{agree_without}
use Rattle.hotel_memory.proofs.code_table.CodeTable.remove.Goals as goal

pub invariant_of-self : goal.invariant_of-self
invariant_of-self c =
    let there = ap (λ es. at_number es c.args.code) c.self.view_is ∙ c.requires.there in
    let alone = ap (λ es. first_code_at (remove_entry (is_at (nat_cmp c.args.code)) es) c.args.row.room
    c.args.row.place) c.self.view_is ∙ c.requires.alone in
    subst (λ es. PlacesAgree es c.remove-2.new.self.entries) (sym c.remove.ensures.entries)
    (agree_without c.self.inside.codes.entries c.self.inside.places.entries c.remove-2.new.self.entries c.args.code
    c.args.row c.self.invariant there alone (λ r p. c.remove-2.ensures.updates.0 (r, p)))
