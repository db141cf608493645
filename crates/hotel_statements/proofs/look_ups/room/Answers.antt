use Rattle.std.proofs.Common.{◌≡◌, ◌∙◌, sym, ap, None, Some, inl, inr, [], ◌∷◌}
use Rattle.sqlite.specs.Held.{state}
use Rattle.hotel_model.specs.Rows.{at_number, fits_at, last_fit}
use Rattle.hotel_rows.specs.Joined.{with_last}
use Rattle.hotel_statements.specs.Tables.{fits_in, bare_rooms_in}
use Rattle.hotel_statements.proofs.Fitted.{room_is, room_lost}
use Rattle.hotel_statements.specs.Values.{int}
use Rattle.hotel_statements.specs.Books.{IsKept}
use Rattle.hotel_statements.specs.Readable.{IsRoom}
use Rattle.hotel_statements.specs.Texts as text
use Rattle.hotel_statements.proofs.Statements.Selects as selects
use Rattle.hotel_statements.proofs.Since.{fails_later, clean_before}
use Rattle.hotel_statements.proofs.Unread.{cause_passed}
use Rattle.hotel_statements.proofs.LookedInTurn.{of_look, of_find, then_answered, then_found, answers_so, then_fails}
use Rattle.hotel_statements.proofs.look_ups.room.Goals as goal

pub returns-in_default : goal.returns-in_default
returns-in_default g c =
    let old = state g.S.Store c.args.conn.now in
    let first = of_look c.in_ok-fits.ensures in
    let second = of_find c.in_ok-bare.ensures in
    answers_so (then_answered first second)
    (λ kept.
    let found = then_found first second (λ db. at_number (bare_rooms_in db) c.args.room) c.in_ok-bare.ensures.found
    kept in
    room_lost old.now.trees c.args.room (sym c.in_default.is ∙ found.1))

pub returns : goal.returns
returns g c =
    let old = state g.S.Store c.args.conn.now in
    let bare = c.in-Some.bare in
    let fits = c.in_ok-fits.fits.items in
    let first = of_look c.in_ok-fits.ensures in
    let second = of_find c.in_ok-bare.ensures in
    answers_so (then_answered first second)
    (λ kept.
    let found = then_found first second (λ db. at_number (bare_rooms_in db) c.args.room) c.in_ok-bare.ensures.found
    kept in
    let there : Some bare ≡ at_number (bare_rooms_in old.now.trees) c.args.room = sym c.in-Some.is ∙ found.1 in
    let are : fits ≡ fits_at (fits_in old.now.trees) c.args.room = c.in_ok-fits.ensures.found found.0 in
    let with : c.in_ok-room_with.field-0 ≡ with_last (last_fit fits) bare = c.in_ok-room_with.ensures.reads
    ∙ ap (λ fs. with_last (last_fit fs) bare) c.deref.ensures.value in
    room_is old.now.trees c.args.room bare c.in_ok-room_with.field-0 fits there are with)

pub returns-in_err-bare : goal.returns-in_err-bare
returns-in_err-bare g c =
    let old = state g.S.Store c.args.conn.now in
    let mid = state g.S.Store c.fits_of_room.new.conn in
    let new = state g.S.Store c.bare_room.new.conn in
    then_fails c.from_residual-in_err-bare.result c.from_residual-in_err-bare.ensures.0
    (of_look c.in_ok-fits.ensures) c.bare_room.ensures.books c.bare_room.ensures.keeps c.bare_room.ensures.crash
    (λ clean. cause_passed c.from_residual-in_err-bare.result _ c.from_residual-in_err-bare.ensures (λ other.
    inr (inl (fails_later old mid new (clean_before mid new c.bare_room.ensures.crash)
    (c.in_ok-fits.ensures.unchanged tt) c.in_ok-fits.ensures.crash text.select_room
    (int c.args.room ∷ []) _ selects.select_room
    c.in_ok-fits.ensures.books clean IsRoom (c.in_err-bare.ensures.cause clean other)))))

pub returns-in_err-room_with : goal.returns-in_err-room_with
returns-in_err-room_with g c =
    let old = state g.S.Store c.args.conn.now in
    let new = state g.S.Store c.bare_room.new.conn in
    let bare = c.in-Some.bare in
    let fits = c.in_ok-fits.fits.items in
    then_fails c.from_residual-in_err-room_with.result c.from_residual-in_err-room_with.ensures.0
    (of_look c.in_ok-fits.ensures) c.in_ok-bare.ensures.books c.in_ok-bare.ensures.keeps c.in_ok-bare.ensures.crash
    (λ clean. cause_passed c.from_residual-in_err-room_with.result _ c.from_residual-in_err-room_with.ensures (λ other.
    let kept : IsKept new = (clean, c.in_ok-bare.ensures.open_on clean) in
    let first = of_look c.in_ok-fits.ensures in
    let second = of_find c.in_ok-bare.ensures in
    let found = then_found first second (λ db. at_number (bare_rooms_in db) c.args.room) c.in_ok-bare.ensures.found
    kept in
    let begun : IsKept old = (first.keeps found.0).0 in
    let there : Some bare ≡ at_number (bare_rooms_in old.now.trees) c.args.room = sym c.in-Some.is ∙ found.1 in
    let are : fits ≡ fits_at (fits_in old.now.trees) c.args.room = c.in_ok-fits.ensures.found found.0 in
    let none : last_fit fits ≡ None = ap last_fit (sym c.deref.ensures.value) ∙ c.in_err-room_with.ensures.unread in
    inr (inr (begun, (bare, sym there, ap last_fit (sym are) ∙ none)))))
