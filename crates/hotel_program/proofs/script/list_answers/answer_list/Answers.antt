use Rattle.std.proofs.Common.{◌≡◌, ◌∙◌, [], sym, subst, Result, ℕ, List, Ok, Err}
use Rattle.std.specs.Io.KnownBytes.{Appends}
use Rattle.hotel_streams.specs.Bytes.{AppendsPrefix}
use Rattle.hotel_lists.specs.RowLines.{ListTold, LooksAt}
use Rattle.hotel_lists.specs.declared.fault.ListFault.{ListFault}
use Rattle.hotel_program.specs.Script.ListAnswers.{refusal_text}
use Rattle.hotel_lists.specs.Listings.{ListEnds}
use Rattle.hotel_asks.specs.Listings.{listing_on}
use Rattle.hotel_program.proofs.OfScript.LineAnswerLemmas.{list_cut, list_ends}
use Rattle.hotel_program.proofs.OfScript.ListAnswerLemmas.{refused_whole, refused_cut, whole_answered, cut_answered}
use Rattle.hotel_program.proofs.OfScript.ListAnswerLemmas.{when_ok, when_err}
use Rattle.hotel_program.proofs.script.list_answers.answer_list.Goals as goal

pub returns-clause-went : goal.returns-clause-went
returns-clause-went g c = λ s.
    let listing = listing_on (g.B.Books.rows c.args.books.now) c.args.list.now in
    let old = g.W.Write.contents c.args.writer.now in
    let mid = g.W.Write.contents c.write_list.new.writer in
    let new = g.W.Write.contents c.write_bytes.new.writer in
    let refused = sym c.told_refusal.ensures ∙ c.in-Some.is in
    let looks : LooksAt g.B.Kept c.args.books.now c.write_list.new.books (Err c.in-Err.fault) =
    subst (λ (r : Result (Unit {0}) ListFault). LooksAt g.B.Kept c.args.books.now c.write_list.new.books r) c.in-Err.is
    c.write_list.ensures.books in
    let said : c.as_bytes.result.now ≡ refusal_text c.in-Some.refusal =
    c.as_bytes.ensures.same ∙ c.reply_text-text.ensures in
    list_ends c.args.list.now g.met.B.Books.kept_rows looks s old new c.write_bytes.result
    (λ honest.
    let written = subst (λ (r : Result (Unit {0}) ListFault). ListEnds [] listing old mid r) c.in-Err.is
    (c.write_list.ensures.text honest) in
    when_ok _ _ _ (λ p. refused_whole listing old mid new _ _ refused written looks
    (subst (λ (t : List ℕ). Appends mid new t) said p)) c.write_bytes.ensures.writes.ok)
    (λ honest.
    let written = subst (λ (r : Result (Unit {0}) ListFault). ListEnds [] listing old mid r) c.in-Err.is
    (c.write_list.ensures.text honest) in
    when_err _ _ _ (λ p. refused_cut listing old mid new _ _ refused written looks
    (subst (λ (t : List ℕ). AppendsPrefix mid new t) said p)) c.write_bytes.ensures.writes.err)

pub returns-in_default-clause-went : goal.returns-in_default-clause-went
returns-in_default-clause-went g c = λ s.
    let listing = listing_on (g.B.Books.rows c.args.books.now) c.args.list.now in
    let old = g.W.Write.contents c.args.writer.now in
    let new = g.W.Write.contents c.write_list.new.writer in
    let looks = c.write_list.ensures.books in
    list_ends c.args.list.now g.met.B.Books.kept_rows looks s old new (Ok tt)
    (λ honest.
    let written = subst (λ (r : Result (Unit {0}) ListFault). ListEnds [] listing old new r) c.in_default.is
    (c.write_list.ensures.text honest) in
    whole_answered listing old new looks.told written
    (subst (λ (r : Result (Unit {0}) ListFault). ListTold r looks.told) c.in_default.is looks.tells))
    (λ honest. tt)

pub returns-in_default-told_refusal-clause-went : goal.returns-in_default-told_refusal-clause-went
returns-in_default-told_refusal-clause-went g c = λ s.
    let listing = listing_on (g.B.Books.rows c.args.books.now) c.args.list.now in
    let old = g.W.Write.contents c.args.writer.now in
    let new = g.W.Write.contents c.write_list.new.writer in
    let looks = c.write_list.ensures.books in
    let none = sym c.told_refusal.ensures ∙ c.in_default-told_refusal.is in
    list_cut c.args.list.now g.met.B.Books.kept_rows looks s old new
    (λ honest.
    let written = subst (λ (r : Result (Unit {0}) ListFault). ListEnds [] listing old new r) c.in-Err.is
    (c.write_list.ensures.text honest) in
    cut_answered listing old new looks.told _ none
    (subst (λ (r : Result (Unit {0}) ListFault). ListTold r looks.told) c.in-Err.is looks.tells) written)
