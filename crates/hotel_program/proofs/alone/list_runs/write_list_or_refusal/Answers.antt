use Rattle.std.proofs.Common.{◌≡◌, ◌∙◌, [], subst, sym, ap, Result, Err, ℕ, List}
use Rattle.std.specs.Io.KnownBytes.{Appends}
use Rattle.hotel_model.specs.declared.reply.Refusal.TheVariants as refusal
use Rattle.hotel_streams.specs.Bytes.{AppendsPrefix}
use Rattle.hotel_lists.specs.declared.fault.ListFault.{ListFault}
use Rattle.hotel_program.specs.Script.ListAnswers.{refusal_text}
use Rattle.hotel_program.specs.Alone.ListRuns.{AnswerEnds}
use Rattle.hotel_lists.specs.Listings.{ListEnds}
use Rattle.hotel_asks.specs.Listings.{listing_on}
use Rattle.hotel_program.proofs.ListRunLemmas.{told_no_room, cut_no_room, is_write}
use Rattle.hotel_program.proofs.alone.list_runs.write_list_or_refusal.Goals as goal

pub returns-in_err-write_bytes-in-Err-NoRoom-clause-text : goal.returns-in_err-write_bytes-in-Err-NoRoom-clause-text
returns-in_err-write_bytes-in-Err-NoRoom-clause-text g c = λ honest.
    let listing = listing_on (g.B.Books.rows c.args.books.now) c.args.list.now in
    let old = g.W.Write.contents c.args.writer.now in
    let mid = g.W.Write.contents c.write_list.new.writer in
    let new = g.W.Write.contents c.write_bytes.new.writer in
    let no_room = c.in-Err-NoRoom.is ∙ ap (λ (f : ListFault). Err f) c.in-Err-NoRoom.field-0-is in
    let written = subst (λ (r : Result (Unit {0}) ListFault). ListEnds [] listing old mid r) no_room
    (c.write_list.ensures.text honest) in
    let said : c.as_bytes.result.now ≡ refusal_text refusal.NoRoom =
    c.as_bytes.ensures.same ∙ c.reply_text-refused.ensures in
    let prefix : AppendsPrefix mid new c.as_bytes.result.now = c.in_err-write_bytes-in-Err-NoRoom.ensures.writes.err in
    subst (λ (r : Result (Unit {0}) ListFault). AnswerEnds listing old new r)
    (sym (is_write c.from_residual.result c.from_residual.ensures.1))
    (cut_no_room listing old mid new written (subst (λ (t : List ℕ). AppendsPrefix mid new t) said prefix))

pub returns-in_ok-write_bytes-in-Err-NoRoom-clause-text : goal.returns-in_ok-write_bytes-in-Err-NoRoom-clause-text
returns-in_ok-write_bytes-in-Err-NoRoom-clause-text g c = λ honest.
    let listing = listing_on (g.B.Books.rows c.args.books.now) c.args.list.now in
    let old = g.W.Write.contents c.args.writer.now in
    let mid = g.W.Write.contents c.write_list.new.writer in
    let new = g.W.Write.contents c.write_bytes.new.writer in
    let no_room = c.in-Err-NoRoom.is ∙ ap (λ (f : ListFault). Err f) c.in-Err-NoRoom.field-0-is in
    let written = subst (λ (r : Result (Unit {0}) ListFault). ListEnds [] listing old mid r) no_room
    (c.write_list.ensures.text honest) in
    let said : c.as_bytes.result.now ≡ refusal_text refusal.NoRoom =
    c.as_bytes.ensures.same ∙ c.reply_text-refused.ensures in
    let whole : Appends mid new c.as_bytes.result.now = c.in_ok-write_bytes-in-Err-NoRoom.ensures.writes.ok in
    told_no_room listing old mid new written (subst (λ (t : List ℕ). Appends mid new t) said whole)
