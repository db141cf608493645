use Rattle.std.proofs.Common.{ap, sym, ◌∙◌, subst}
use Rattle.hotel_books.proofs.Names.{IsNumberUpTo, moved}
use Rattle.hotel_memory.specs.Tables.{HaveCardNumbers}
use Rattle.hotel_memory.proofs.OfTables.CardsInside.{numbers_removed, numbers_added}
use Rattle.hotel_model.specs.declared.change.InsideMove.{InsideMove}
use Rattle.hotel_memory.proofs.inside_table.InsideTable.change.Goals as goal

pub invariant_of-self : goal.invariant_of-self
invariant_of-self c = subst (λ keys. HaveCardNumbers keys) (sym c.remove.ensures.keys)
    (numbers_removed c.self.inside.pairs.keys (c.args.room, c.in-Goes.number) c.self.invariant)

pub returns-in-Goes-clause-ok : goal.returns-in-Goes-clause-ok
returns-in-Goes-clause-ok c =
    c.remove.ensures.keys ∙ ap (λ (m : InsideMove). moved m c.args.room c.self.inside.pairs.keys) (sym c.in-Goes.is)
    ∙ ap (λ keys. moved c.args.insides c.args.room keys) c.self.view_is

pub invariant_of-self-in-Comes : goal.invariant_of-self-in-Comes
invariant_of-self-in-Comes c =
    let number = subst (λ n. IsNumberUpTo 9999999 n) c.value-in_range.ensures.same c.value-in_range.ensures.known in
    subst (λ keys. HaveCardNumbers keys) (sym c.in-Ok.ensures.keys)
    (numbers_added c.self.inside.pairs.keys (c.args.room, c.in-Comes.number) c.self.invariant number)
