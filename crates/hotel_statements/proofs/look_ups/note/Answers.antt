use Rattle.std.proofs.Common.{◌≡◌, ◌+◌, ◌==◌, ◌∙◌, sym, ap, subst, arith, rules, inl, inr, [], ◌∷◌, ◌<◌, ◌^◌, ℕ}
use Rattle.std.proofs.Common.{true, false, Option, None, Some}
use Rattle.std.specs.Prelude.{option_map, if◌then◌else◌}
use Rattle.std.specs.Map.{lookup}
use Rattle.std.specs.BTreeMap.{is_at}
use Rattle.sqlite.specs.Held.{state}
use Rattle.sqlite.specs.Tree.{Trees}
use Rattle.keycard_rules.specs.Note.{Note}
use Rattle.hotel_model.specs.declared.rows.FitRow.{FitRow}
use Rattle.hotel_model.specs.Words.{pair_cmp}
use Rattle.hotel_model.specs.Rows.{fits_at}
use Rattle.hotel_rows.specs.Joined.{with_count, fit_of_number}
use Rattle.hotel_statements.specs.Tables.{fits_in, bare_notes_in}
use Rattle.hotel_statements.specs.LookUps.{numbered_fit}
use Rattle.hotel_statements.proofs.Fitted.{note_number, no_fit, no_note, note_is}
use Rattle.hotel_statements.specs.Values.{int}
use Rattle.hotel_statements.specs.Books.{IsKept}
use Rattle.hotel_statements.specs.Readable.{IsNote, IsUnderFits}
use Rattle.hotel_statements.specs.Texts as text
use Rattle.hotel_statements.proofs.Statements.Selects as selects
use Rattle.hotel_statements.proofs.Since.{fails_later, clean_before}
use Rattle.hotel_statements.proofs.Unread.{cause_passed}
use Rattle.hotel_statements.proofs.LookedInTurn.{of_look, of_find, then_answered, then_found, answers_so}
use Rattle.hotel_statements.proofs.LookedInTurn.{then_fails}
use Rattle.hotel_statements.proofs.look_ups.note.Goals as goal

-- the row of a note's number, as the tables have it
abbrev bare_in : ℕ → ℕ → Trees → Option Note
bare_in room number db = lookup (is_at (pair_cmp (room, number))) (bare_notes_in db)

pub returns-in_default : goal.returns-in_default
returns-in_default g c =
    let old = state g.S.Store c.args.conn.now in
    let fits = c.in_ok-fits.fits.items in
    let lost : None ≡ numbered_fit fits c.args.fit = sym c.in_default.is ∙ c.numbered.ensures
    ∙ ap (λ fs. numbered_fit fs c.args.fit) c.deref.ensures.value in
    answers_so (of_look c.in_ok-fits.ensures)
    (λ kept. no_fit old.now.trees c.args.room c.args.fit c.args.count fits (c.in_ok-fits.ensures.found kept)
    (ap (option_map (λ (f : FitRow). f.before + c.args.count)) lost))

pub returns-in_default-2 : goal.returns-in_default-2
returns-in_default-2 g c =
    let old = state g.S.Store c.args.conn.now in
    let room = c.args.room in
    let fit = c.args.fit in
    let count = c.args.count in
    let fits = c.in_ok-fits.fits.items in
    let number = c.from.result + c.from-2.result in
    let is = note_number fits fit count c.in-Some.of c.from.result c.from-2.result c.from.ensures
    (c.from-2.ensures ∙ c.value.ensures.same)
    (sym c.in-Some.is ∙ c.numbered.ensures ∙ ap (λ fs. numbered_fit fs fit) c.deref.ensures.value) in
    let first = of_look c.in_ok-fits.ensures in
    let second = of_find c.in_ok-bare.ensures in
    answers_so (then_answered first second)
    (λ kept.
    let found = then_found first second (bare_in room number) c.in_ok-bare.ensures.found kept in
    let are = c.in_ok-fits.ensures.found found.0 in
    no_note old.now.trees room fit count fits are number is (sym c.in_default-2.is ∙ found.1))

pub returns-then-eq : goal.returns-then-eq
returns-then-eq g c =
    let old = state g.S.Store c.args.conn.now in
    let room = c.args.room in
    let fit = c.args.fit in
    let count = c.args.count in
    let fits = c.in_ok-fits.fits.items in
    let number = c.from.result + c.from-2.result in
    let is = note_number fits fit count c.in-Some.of c.from.result c.from-2.result c.from.ensures
    (c.from-2.ensures ∙ c.value.ensures.same)
    (sym c.in-Some.is ∙ c.numbered.ensures ∙ ap (λ fs. numbered_fit fs fit) c.deref.ensures.value) in
    let bare = c.in-Some-2.bare in
    let note = c.in_ok-note.note in
    let with : note ≡ with_count (fit_of_number fits bare.count) bare.count bare = c.in_ok-note.ensures.reads
    ∙ ap (λ fs. with_count (fit_of_number fs bare.count) bare.count bare) c.deref-2.ensures.value in
    let of_it : (note.fit == fit) ≡ true = search rules in
    let first = of_look c.in_ok-fits.ensures in
    let second = of_find c.in_ok-bare.ensures in
    answers_so (then_answered first second)
    (λ kept.
    let found = then_found first second (bare_in room number) c.in_ok-bare.ensures.found kept in
    let are = c.in_ok-fits.ensures.found found.0 in
    ap (λ b. if b then Some note else None) (sym of_it)
    ∙ note_is old.now.trees room fit count fits are number is bare note (sym c.in-Some-2.is ∙ found.1) with)

pub returns : goal.returns
returns g c =
    let old = state g.S.Store c.args.conn.now in
    let room = c.args.room in
    let fit = c.args.fit in
    let count = c.args.count in
    let fits = c.in_ok-fits.fits.items in
    let number = c.from.result + c.from-2.result in
    let is = note_number fits fit count c.in-Some.of c.from.result c.from-2.result c.from.ensures
    (c.from-2.ensures ∙ c.value.ensures.same)
    (sym c.in-Some.is ∙ c.numbered.ensures ∙ ap (λ fs. numbered_fit fs fit) c.deref.ensures.value) in
    let bare = c.in-Some-2.bare in
    let note = c.in_ok-note.note in
    let with : note ≡ with_count (fit_of_number fits bare.count) bare.count bare = c.in_ok-note.ensures.reads
    ∙ ap (λ fs. with_count (fit_of_number fs bare.count) bare.count bare) c.deref-2.ensures.value in
    let of_other : (note.fit == fit) ≡ false = search rules in
    let first = of_look c.in_ok-fits.ensures in
    let second = of_find c.in_ok-bare.ensures in
    answers_so (then_answered first second)
    (λ kept.
    let found = then_found first second (bare_in room number) c.in_ok-bare.ensures.found kept in
    let are = c.in_ok-fits.ensures.found found.0 in
    ap (λ b. if b then Some note else None) (sym of_other)
    ∙ note_is old.now.trees room fit count fits are number is bare note (sym c.in-Some-2.is ∙ found.1) with)

pub returns-in_err-bare : goal.returns-in_err-bare
returns-in_err-bare g c =
    let old = state g.S.Store c.args.conn.now in
    let mid = state g.S.Store c.fits_of_room.new.conn in
    let new = state g.S.Store c.bare_note.new.conn in
    let number = c.from.result + c.from-2.result in
    let low : c.from.result + c.from-2.result < 2 ^ 63 = omega arith in
    then_fails c.from_residual-in_err-bare.result c.from_residual-in_err-bare.ensures.0
    (of_look c.in_ok-fits.ensures) c.bare_note.ensures.books c.bare_note.ensures.keeps c.bare_note.ensures.crash
    (λ clean. cause_passed c.from_residual-in_err-bare.result _ c.from_residual-in_err-bare.ensures (λ other.
    inr (
      number,
      low,
      inl (fails_later old mid new (clean_before mid new c.bare_note.ensures.crash)
          (c.in_ok-fits.ensures.unchanged tt) c.in_ok-fits.ensures.crash text.select_note
          (int c.args.room ∷ int number ∷ []) _
          selects.select_note c.in_ok-fits.ensures.books clean IsNote (c.in_err-bare.ensures.cause clean other)),
    )))

pub returns-in_err-note : goal.returns-in_err-note
returns-in_err-note g c =
    let old = state g.S.Store c.args.conn.now in
    let new = state g.S.Store c.bare_note.new.conn in
    let room = c.args.room in
    let fits = c.in_ok-fits.fits.items in
    let number = c.from.result + c.from-2.result in
    let low : c.from.result + c.from-2.result < 2 ^ 63 = omega arith in
    let bare = c.in-Some-2.bare in
    let unread : ¬ IsUnderFits fits bare =
    subst (λ fs. ¬ IsUnderFits fs bare) c.deref-2.ensures.value c.in_err-note.ensures.unread in
    then_fails c.from_residual-in_err-note.result c.from_residual-in_err-note.ensures.0
    (of_look c.in_ok-fits.ensures) c.in_ok-bare.ensures.books c.in_ok-bare.ensures.keeps c.in_ok-bare.ensures.crash
    (λ clean. cause_passed c.from_residual-in_err-note.result _ c.from_residual-in_err-note.ensures (λ other.
    let kept : IsKept new = (clean, c.in_ok-bare.ensures.open_on clean) in
    let first = of_look c.in_ok-fits.ensures in
    let second = of_find c.in_ok-bare.ensures in
    let found = then_found first second (bare_in room number) c.in_ok-bare.ensures.found kept in
    let are : fits ≡ fits_at (fits_in old.now.trees) room = c.in_ok-fits.ensures.found found.0 in
    let begun : IsKept old = (first.keeps found.0).0 in
    inr (
      number,
      low,
      inr (begun, (bare, sym found.1 ∙ c.in-Some-2.is, subst (λ fs. ¬ IsUnderFits fs bare) are unread)),
    )))
