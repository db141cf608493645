use Rattle.std.proofs.Common.{ℕ, ◌==◌, not, rules, ap, sym, ◌∙◌, subst}
use Rattle.std.proofs.lemmas.Fn.{filter_same}
use Rattle.hotel_books.proofs.Names.{those_elsewhere}
use Rattle.hotel_memory.proofs.OfTables.CardsInside.{numbers_filtered}
use Rattle.hotel_memory.specs.Tables.{HaveCardNumbers}
use Rattle.hotel_memory.proofs.inside_table.InsideTable.clear.Goals as goal

pub returns : goal.returns
returns c = filter_same _ _ _ (λ x b f' k. search rules) _ _ c.retain.ensures.filtered
    ∙ ap (λ keys. those_elsewhere c.args.room keys) c.self.view_is

pub invariant_of-self : goal.invariant_of-self
invariant_of-self c =
    subst (λ keys. HaveCardNumbers keys) (sym (filter_same _ (λ (e : ℕ × ℕ). not (e.0 == c.args.room)) _
    (λ x b f' k. search rules) c.self.inside.pairs.keys _ c.retain.ensures.filtered))
    (numbers_filtered (λ (e : ℕ × ℕ). not (e.0 == c.args.room)) c.self.inside.pairs.keys c.self.invariant)
