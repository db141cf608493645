use Rattle.std.proofs.Common.{◌-◌, ap₂, sym, ◌∙◌, arith}
use Rattle.hotel_rows.specs.LastCards.{link_of_both}
use Rattle.hotel_rows.specs.CodePlaces.{places_in, listed_in}
use Rattle.hotel_rows.proofs.OfDamage.Newest.{last_two, no_link, due_parts}
use Rattle.hotel_rows.proofs.damage.code_places.newest_of.Goals as goal

pub returns-then-codes-lt2 : goal.returns-then-codes-lt2
returns-then-codes-lt2 c =
    let es = places_in c.args.placed.now.entries c.args.room in
    let due = due_parts es c.args.codes (listed_in c.args.placed.now.entries c.args.room) c.requires in
    sym (no_link es (omega (arith, due.1, c.if-codes-lt2.true)))

pub returns : goal.returns
returns c =
    let es = places_in c.args.placed.now.entries c.args.room in
    let due = due_parts es c.args.codes (listed_in c.args.placed.now.entries c.args.room) c.requires in
    c.both_of.ensures ∙ ap₂ link_of_both c.code_of-old.ensures c.code_of-new.ensures
    ∙ sym (last_two 0 es (c.args.codes - 2) (c.args.codes - 1) due.0 (omega (arith, due.1, c.if-codes-lt2.false))
    (omega (arith, due.1, c.if-codes-lt2.false)) (omega (arith, due.1, c.if-codes-lt2.false)))
