use Rattle.std.proofs.Common.{sym, ◌∙◌}
use Rattle.hotel_rows.proofs.OfDamage.Placing.{due_of_codes}
use Rattle.hotel_rows.proofs.damage.first_of_later.Goals as goal

pub cards_hold-requires-clause-due : goal.cards_hold-requires-clause-due
cards_hold-requires-clause-due c =
    due_of_codes c.args.stored.now c.args.known.now.placed.entries c.requires.known.placed
    (sym c.in_ok-codes.ensures ∙ c.if-not-codes.false)

pub insides_hold-requires-clause-due : goal.insides_hold-requires-clause-due
insides_hold-requires-clause-due c =
    due_of_codes c.args.stored.now c.args.known.now.placed.entries c.requires.known.placed
    (sym c.in_ok-codes.ensures ∙ c.if-not-codes.false)
