use Rattle.std.proofs.Common.{rules, ◌≡◌, None, Some, ap, sym, ◌∙◌, arith}
use Rattle.hotel_rows.specs.declared.stored.PlainRoom.{PlainRoom}
use Rattle.hotel_model.specs.Rows.{at_number}
use Rattle.hotel_rows.specs.Stored.{number_of, fits_of, joined_row}
use Rattle.hotel_rows.specs.Places.{place_at}
use Rattle.hotel_rows.specs.Keys.{room_key}
use Rattle.hotel_rows.proofs.OfDamage.FoundKeys.{none_found, one_found, one_bound, plain_found, passes_at}
use Rattle.hotel_rows.proofs.OfDamage.RowsTogether.{rooms_are}
use Rattle.hotel_rows.proofs.damage.by_key.room_at.Goals as goal

pub returns-in_default : goal.returns-in_default
returns-in_default c =
    let none : c.place_at.result ≡ None = search rules in
    record {
      row = sym (ap (λ es. at_number es c.args.room)
          (rooms_are (fits_of c.args.stored.now) c.args.stored.now.room.items)
          ∙ none_found room_key (joined_row (fits_of c.args.stored.now))
          (place_at c.args.places.now.rooms) c.args.stored.now.room.items c.args.room c.requires.rooms
          (sym c.place_at.ensures ∙ none));
      key = tt;
      rules = tt;
    }

pub returns-then-place-len : goal.returns-then-place-len
returns-then-place-len c =
    let low = one_bound room_key (joined_row (fits_of c.args.stored.now))
    (place_at c.args.places.now.rooms) c.args.stored.now.room.items c.args.room c.in-Some.place c.requires.rooms
    (sym c.place_at.ensures ∙ c.in-Some.is) in
    absurd (omega (arith, low, c.if-place-len.true, c.len.ensures))

pub returns : goal.returns
returns c =
    let found = place_at c.args.places.now.rooms in
    let plain_rows = c.args.stored.now.room.items in
    let fits = fits_of c.args.stored.now in
    let there = sym c.place_at.ensures ∙ c.in-Some.is in
    let low = one_bound room_key (joined_row (fits_of c.args.stored.now))
    found plain_rows c.args.room c.in-Some.place c.requires.rooms there in
    record {
      row = ap (λ plain. Some (joined_row fits plain)) c.index.ensures
          ∙ sym (ap (λ es. at_number es c.args.room) (rooms_are fits plain_rows)
          ∙ one_found room_key (joined_row fits) found plain_rows c.args.room c.in-Some.place c.index.result.now
          c.requires.rooms there);
      key = ap (λ (plain : PlainRoom). number_of plain.room) c.index.ensures
          ∙ plain_found room_key (joined_row fits) found plain_rows c.args.room c.in-Some.place c.index.result.now
          c.requires.rooms there;
      rules = λ t all. ap t c.index.ensures ∙ passes_at t plain_rows c.in-Some.place c.index.result.now low all;
    }
