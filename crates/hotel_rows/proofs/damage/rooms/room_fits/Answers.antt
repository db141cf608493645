use Rattle.std.proofs.Common.{◌≡◌, Bool, true, false, ◌&&◌, ap, sym, ◌∙◌, refl, nat_le, nat_lt}
use Rattle.std.specs.Prelude.{bytes_eq, string_bytes}
use Rattle.std.specs.List.{list_any}
use Rattle.hotel_model.specs.Rows.{has_kind}
use Rattle.hotel_rows.specs.Stored.{number_of, room_row, rows_of}
use Rattle.hotel_rows.specs.Damage.{most_notes, are_room_columns}
use Rattle.hotel_rows.specs.RowTests.{is_room_number, has_few_codes, is_at_home, is_secured_as_due}
use Rattle.hotel_rows.proofs.damage.rooms.room_fits.Goals as goal

fourth_fails : (a b c d e f g h : Bool) → d ≡ false → false ≡ (((((((a && b) && c) && d) && e) && f) && g) && h)
fourth_fails true true true d e f g h is = sym (ap (λ z. (((z && e) && f) && g) && h) is)
fourth_fails true true false d e f g h is = refl
fourth_fails true false c d e f g h is = refl
fourth_fails false b c d e f g h is = refl

pub returns-then-not-has_kind : goal.returns-then-not-has_kind
returns-then-not-has_kind c =
    let s = c.args.stored.now in
    let plain = c.args.room.now in
    let rows = rows_of s in
    fourth_fails (are_room_columns plain) (is_room_number plain)
    (nat_lt (number_of plain.lock_place) (number_of plain.codes)) (has_kind rows (string_bytes plain.kind))
    (has_few_codes s plain)
    (nat_le (number_of plain.notes) (most_notes s)) (is_at_home rows (room_row plain)) (is_secured_as_due s plain)
    (ap (λ t. list_any (λ k. bytes_eq k t) rows.kinds) (sym c.as_str.ensures.value)
    ∙ sym (c.has_kind.ensures rows.kinds c.requires.kinds.read c.requires.kinds.known) ∙ c.if-not-has_kind.true)
