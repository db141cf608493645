use Rattle.std.proofs.Common.{ap, sym, ◌∙◌, subst}
use Rattle.hotel_books.proofs.Names.{at_number, first_code_at}
use Rattle.hotel_memory.proofs.OfTables.PlacedCodes.{agree_after}
use Rattle.hotel_memory.specs.Tables.{PlacesAgree}
use Rattle.hotel_memory.proofs.OfTables.PlacedCodes.{agree_again}
use Rattle.hotel_memory.proofs.code_table.CodeTable.insert.Goals as goal

pub invariant_of-self-in-Ok-insert : goal.invariant_of-self-in-Ok-insert
invariant_of-self-in-Ok-insert c =
    let absent = ap (λ es. at_number es c.args.code) c.self.view_is ∙ c.requires.new_code in
    let free = ap (λ es. first_code_at es c.args.row.room c.args.row.place) c.self.view_is ∙ c.requires.free_place in
    subst (λ es. PlacesAgree es c.insert.new.self.entries) (sym c.in-Ok-insert.ensures.entries)
    (agree_after c.self.inside.codes.entries c.self.inside.places.entries c.insert.new.self.entries c.args.code
    c.args.row c.self.invariant absent free (λ r p. c.in-Ok.ensures.updates.0 (r, p)))

pub invariant_of-self-in_default-insert : goal.invariant_of-self-in_default-insert
invariant_of-self-in_default-insert c =
    let free = ap (λ es. first_code_at es c.args.row.room c.args.row.place) c.self.view_is ∙ c.requires.free_place in
    subst (λ es. PlacesAgree es c.remove.new.self.entries) (sym c.in_default-insert.ensures.err)
    (agree_again c.self.inside.codes.entries c.self.inside.places.entries c.insert.new.self.entries
    c.remove.new.self.entries c.args.code c.args.row c.self.invariant free (λ r p. c.in-Ok.ensures.updates.0 (r, p))
    (λ r p. c.remove.ensures.updates.0 (r, p)))
