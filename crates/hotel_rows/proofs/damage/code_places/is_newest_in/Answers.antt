use Rattle.std.proofs.Common.{◌-◌, ◌&&◌, ap, sym, ◌∙◌, arith}
use Rattle.keycard_rules.specs.declared.card.Link.{Link}
use Rattle.hotel_model.specs.Words.{is_that}
use Rattle.hotel_model.specs.Rows.{at_number}
use Rattle.hotel_rows.specs.CodePlaces.{places_in, listed_in}
use Rattle.hotel_rows.proofs.OfDamage.Newest.{newest_at, none_newest, due_parts}
use Rattle.hotel_rows.proofs.damage.code_places.is_newest_in.Goals as goal

pub returns-then-codes-lt2 : goal.returns-then-codes-lt2
returns-then-codes-lt2 c =
    let es = places_in c.args.placed.now.entries c.args.room in
    let due = due_parts es c.args.codes (listed_in c.args.placed.now.entries c.args.room) c.requires in
    sym (none_newest es _ (omega (arith, due.1, c.if-codes-lt2.true)))

pub returns-then-not-is_at_place : goal.returns-then-not-is_at_place
returns-then-not-is_at_place c =
    let es = places_in c.args.placed.now.entries c.args.room in
    let due = due_parts es c.args.codes (listed_in c.args.placed.now.entries c.args.room) c.requires in
    let link : Link = record { old_code = c.args.old; new_code = c.args.new } in
    sym (newest_at 0 es link (c.args.codes - 2) (c.args.codes - 1) due.0 (omega (arith, due.1, c.if-codes-lt2.false))
    (omega (arith, due.1, c.if-codes-lt2.false)) (omega (arith, due.1, c.if-codes-lt2.false))
    ∙ ap (λ b. b && is_that (at_number es (c.args.codes - 1)) c.args.new)
    (sym c.is_at_place.ensures ∙ c.if-not-is_at_place.true))

pub returns : goal.returns
returns c =
    let es = places_in c.args.placed.now.entries c.args.room in
    let due = due_parts es c.args.codes (listed_in c.args.placed.now.entries c.args.room) c.requires in
    let link : Link = record { old_code = c.args.old; new_code = c.args.new } in
    c.is_at_place-2.ensures
    ∙ sym (newest_at 0 es link (c.args.codes - 2) (c.args.codes - 1) due.0 (omega (arith, due.1, c.if-codes-lt2.false))
    (omega (arith, due.1, c.if-codes-lt2.false)) (omega (arith, due.1, c.if-codes-lt2.false))
    ∙ ap (λ b. b && is_that (at_number es (c.args.codes - 1)) c.args.new) (sym c.is_at_place.ensures
    ∙ c.if-not-is_at_place.false))
