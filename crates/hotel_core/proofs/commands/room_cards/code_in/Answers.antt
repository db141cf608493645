use Rattle.hotel_model.specs.Refinement.Lookups.{code_at}
use Rattle.hotel_core.proofs.OfCode.LookUps.{finds_whole}
use Rattle.hotel_core.proofs.commands.room_cards.code_in.Goals as goal

pub returns : goal.returns
returns g c =
    finds_whole g.met.B.Books.kept_rows (λ rows. code_at rows c.args.room c.args.place)
    c.code_at-code.result c.there_or.result c.code_at-code.ensures c.there_or.ensures
