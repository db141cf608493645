use Rattle.std.proofs.Common.{inl, refl, Err}
use Rattle.sqlite.specs.Held.{state}
use Rattle.hotel_statements.specs.WholeTables.{AreFirst, AreLast, FirstFail, LastFail, FitRowsFail}
use Rattle.hotel_statements.proofs.Unread.{err_is}
use Rattle.hotel_statements.proofs.ReadingsInTurn.{not_read, second_failed, both_read, pair_read, last_later}
use Rattle.hotel_statements.proofs.ReadingsInTurn.{fits_later}
use Rattle.hotel_statements.proofs.whole_tables.read_tables.Goals as goal

pub returns-in_err-first : goal.returns-in_err-first
returns-in_err-first g c =
    not_read c.args.version _ _ _ _ (state g.S.Store c.args.conn.now)
    (state g.S.Store c.read_first.new.conn) _ c.from_residual.result
    (err_is c.from_residual.result _ c.from_residual.ensures) (λ fails. inl (inl fails)) c.in_err-first.ensures

pub returns-in_err-last : goal.returns-in_err-last
returns-in_err-last g c =
    let version = c.args.version in
    let old = state g.S.Store c.args.conn.now in
    let mid = state g.S.Store c.read_first.new.conn in
    let new = state g.S.Store c.read_last.new.conn in
    let fault = c.in_err-last.field-0.0 in
    let failed = second_failed version FirstFail
    LastFail AreFirst AreLast old mid new c.in_ok-first.first c.in_ok-first.ensures
    AreLast fault (Err fault) refl (last_later version) c.in_err-last.ensures in
    not_read version _ _ _ _ old new fault c.from_residual-in_err-last.result
    (err_is c.from_residual-in_err-last.result fault c.from_residual-in_err-last.ensures) inl failed

pub returns-in_err-fits : goal.returns-in_err-fits
returns-in_err-fits g c =
    let version = c.args.version in
    let old = state g.S.Store c.args.conn.now in
    let first = state g.S.Store c.read_first.new.conn in
    let mid = state g.S.Store c.read_last.new.conn in
    let new = state g.S.Store c.read_fits.new.conn in
    let fault = c.in_err-fits.field-0.0 in
    let both = pair_read version FirstFail
    LastFail AreFirst AreLast old first mid c.in_ok-first.first c.in_ok-first.ensures
    c.in_ok-last.last (λ _ _. tt) c.in_ok-last.ensures in
    second_failed version _ (FitRowsFail version) _ _ old mid new
    (c.in_ok-first.first, c.in_ok-last.last) both _ fault c.from_residual-in_err-fits.result
    (err_is c.from_residual-in_err-fits.result fault c.from_residual-in_err-fits.ensures)
    (fits_later version) c.in_err-fits.ensures

pub returns : goal.returns
returns g c =
    let version = c.args.version in
    let old = state g.S.Store c.args.conn.now in
    let first = state g.S.Store c.read_first.new.conn in
    let mid = state g.S.Store c.read_last.new.conn in
    let new = state g.S.Store c.read_fits.new.conn in
    let both = pair_read version FirstFail
    LastFail AreFirst AreLast old first mid c.in_ok-first.first c.in_ok-first.ensures
    c.in_ok-last.last (λ _ _. tt) c.in_ok-last.ensures in
    both_read version _ (FitRowsFail version) _ _ old mid new
    (c.in_ok-first.first, c.in_ok-last.last) both _ c.in_ok-fits.fits _
    (λ clean is_open. (clean, is_open)) (λ db two fits. (two.0, (two.1, fits))) c.in_ok-fits.ensures
