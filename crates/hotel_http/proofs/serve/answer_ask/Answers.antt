use Rattle.std.proofs.Common.{[], sym, subst}
use Rattle.hotel_core.specs.Books.Happens.{HappensBy}
use Rattle.hotel_asks.specs.declared.asked.Ask.{Ask}
use Rattle.hotel_http.specs.Serve.{Answered, AskComes}
use Rattle.hotel_http.proofs.serve.answer_ask.Goals as goal

pub returns-in-List-clause-went : goal.returns-in-List-clause-went
returns-in-List-clause-went g c =
    let old = g.W.Write.contents c.args.writer.now in
    let new = g.W.Write.contents c.answer_list.new.writer in
    let s = g.R.Rng.stream c.args.source.now in
    subst (λ (a : Ask). HappensBy g.B.Kept g.B.Books c.args.books.now
    (Answered (AskComes a) s s [] old new c.answer_list.result) c.answer_list.new.books) (sym c.in-List.is)
    (c.answer_list.ensures.went s)
