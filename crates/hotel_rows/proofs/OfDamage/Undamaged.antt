-- Undamaged tables have sound rows, and the other way round.
use Rattle.std.proofs.Common.{◌≡◌, ℕ, Bool, true, false, cond, ◌==◌, ◌&&◌, nat_le, Option, Some, None, refl}
use Rattle.std.specs.List.{list_all}
use Rattle.hotel_model.specs.declared.rows.RoomRow.{RoomRow}
use Rattle.hotel_model.specs.Rows.{Rows, at_number}
use Rattle.hotel_model.specs.Sound.{IsSound, keys_in_order, passes_rules}
use Rattle.hotel_model.specs.SoundRooms.{day_before_kinds, kinds_read, room_numbers, lock_places}
use Rattle.hotel_model.specs.SoundRooms.{room_kinds_there, codes_few, parties_in_house}
use Rattle.hotel_model.specs.SoundRooms.{secured_hold_last}
use Rattle.hotel_model.specs.SoundStays.{stay_numbers, guests_read, stay_kinds_there, stay_days, stay_rooms}
use Rattle.hotel_model.specs.SoundStays.{nights_fit}
use Rattle.hotel_model.specs.SoundCards.{codes_in_range, code_rooms_there, places_once, card_numbers}
use Rattle.hotel_model.specs.SoundCards.{card_parties_there, links_are_neighbours, links_of_one_party}
use Rattle.hotel_model.specs.SoundCards.{neighbours_are_links, fits_without_links, newest_of_party}
use Rattle.hotel_model.specs.SoundCards.{last_cards_newest}
use Rattle.hotel_model.specs.SoundNotes.{insides_fit, notes_fit, notes_counted}
use Rattle.hotel_model.specs.SoundFits.{fit_rooms_there, fit_numbers, first_fits, fit_places_rise, fit_notes_rise}
use Rattle.hotel_model.specs.SoundFits.{last_fits_held, last_fits_noted, fit_notes_few}
use Rattle.hotel_model.proofs.OfTables.KeysInOrder.{ordered}
use Rattle.hotel_model.proofs.OfTables.Tests.{and_true, eq_from}
use Rattle.hotel_model.proofs.OfTables.RowTests.{both, found_passes}
use Rattle.hotel_model.proofs.SoundRows.TestsSound.{nights_pass, passing_are_sound}
use Rattle.hotel_rows.specs.declared.stored.Stored.{Stored}
use Rattle.hotel_rows.specs.declared.stored.TableName.{TableName}
use Rattle.hotel_rows.specs.declared.stored.TableName.TheVariants as table
use Rattle.hotel_rows.specs.Stored.{rows_of}
use Rattle.hotel_rows.specs.Damage.{are_room_columns, are_stay_columns, are_note_columns, meta_holds, kind_holds}
use Rattle.hotel_rows.specs.Damage.{room_holds, stay_holds, code_holds, card_holds, inside_holds, note_holds, fit_holds}
use Rattle.hotel_rows.specs.Damage.{notes_few, first_damaged_of, columns_fit, UndamagedIsSound}
use Rattle.hotel_rows.proofs.OfDamage.FirstVersion.{few_in_both, few_of_sound}
use Rattle.hotel_rows.proofs.OfDamage.NotesOfFits.{of_fits, of_last_fits}

-- each table holds
pub record AllHold (s : Stored) : Type 0 where
  pub meta : meta_holds s ≡ true
  pub kind : kind_holds s ≡ true
  pub room : room_holds s ≡ true
  pub stay : stay_holds s ≡ true
  pub code : code_holds s ≡ true
  pub card : card_holds s ≡ true
  pub inside : inside_holds s ≡ true
  pub note : note_holds s ≡ true
  pub fit : fit_holds s ≡ true

passed : (b : Bool) (t : TableName) (rest : Option TableName) → cond b rest (Some t) ≡ None → (b ≡ true) × (rest ≡ None)
passed true t rest e = (refl, e)
passed false t rest e = absurd (let w : ◌≡◌ {A = Option TableName} (Some t) None = e in cc)

pub all_passed : (s : Stored) → first_damaged_of s ≡ None → AllHold s
all_passed s e =
    let a = passed (meta_holds s) table.Meta _ e in
    let b = passed (kind_holds s) table.Kind _ a.1 in
    let c = passed (room_holds s) table.Room _ b.1 in
    let d = passed (stay_holds s) table.Stay _ c.1 in
    let f = passed (code_holds s) table.Code _ d.1 in
    let g = passed (card_holds s) table.Card _ f.1 in
    let h = passed (inside_holds s) table.Inside _ g.1 in
    let i = passed (note_holds s) table.Note _ h.1 in
    let j = passed (fit_holds s) table.Fit _ i.1 in
    record {
      meta = a.0;
      kind = b.0;
      room = c.0;
      stay = d.0;
      code = f.0;
      card = g.0;
      inside = h.0;
      note = i.0;
      fit = j.0;
    }

pass_on : (b : Bool) (t : TableName) (rest : Option TableName) → b ≡ true → rest ≡ None → cond b rest (Some t) ≡ None
pass_on true t rest h e = e
pass_on false t rest h e = absurd (let w : ◌≡◌ {A = Bool} false true = h in cc)

none_first : (s : Stored) → AllHold s → first_damaged_of s ≡ None
none_first s h =
    pass_on (meta_holds s) table.Meta _ h.meta (pass_on (kind_holds s) table.Kind _ h.kind
    (pass_on (room_holds s) table.Room _ h.room (pass_on (stay_holds s) table.Stay _ h.stay
    (pass_on (code_holds s) table.Code _ h.code (pass_on (card_holds s) table.Card _ h.card
    (pass_on (inside_holds s) table.Inside _ h.inside (pass_on (note_holds s) table.Note _ h.note
    (pass_on (fit_holds s) table.Fit _ h.fit refl))))))))

room_is : (rows : Rows) → room_numbers rows ≡ true → (r : ℕ) (row : RoomRow) → at_number rows.rooms r ≡ Some row
    → row.room ≡ r
room_is rows numbers r row found =
    let p = and_true ((row.room == r) && nat_le 1 r) (nat_le r 9999)
    (found_passes (λ (e : ℕ × RoomRow). (e.1.room == e.0) && nat_le 1 e.0
    && nat_le e.0 9999) rows.rooms r row numbers found) in
    eq_from row.room r (and_true (row.room == r) (nat_le 1 r) p.0).0

-- one test more that holds
more : {a b : Bool} → a ≡ true → b ≡ true → (a && b) ≡ true
more {a} {b} p q = both a b p q

rules_passed : (s : Stored) → AllHold s → (passes_rules (rows_of s) ≡ true) × (columns_fit s ≡ true)
rules_passed s h =
    let rows = rows_of s in
    let meta_1 = and_true _ (day_before_kinds rows) h.meta in
    let kind_1 = and_true _ (kinds_read rows) h.kind in
    let room_8 = and_true _ (secured_hold_last rows) h.room in
    let room_7 = and_true _ (parties_in_house rows) room_8.0 in
    let room_6 = and_true _ (notes_few s) room_7.0 in
    let room_5 = and_true _ (codes_few rows) room_6.0 in
    let room_4 = and_true _ (room_kinds_there rows) room_5.0 in
    let room_3 = and_true _ (lock_places rows) room_4.0 in
    let room_2 = and_true _ (room_numbers rows) room_3.0 in
    let room_1 = and_true _ (list_all are_room_columns s.room.items) room_2.0 in
    let stay_7 = and_true _ (nights_fit rows) h.stay in
    let stay_6 = and_true _ (stay_rooms rows) stay_7.0 in
    let stay_5 = and_true _ (stay_days rows) stay_6.0 in
    let stay_4 = and_true _ (stay_kinds_there rows) stay_5.0 in
    let stay_3 = and_true _ (guests_read rows) stay_4.0 in
    let stay_2 = and_true _ (stay_numbers rows) stay_3.0 in
    let stay_1 = and_true _ (list_all are_stay_columns s.stay.items) stay_2.0 in
    let code_3 = and_true _ (places_once rows) h.code in
    let code_2 = and_true _ (code_rooms_there rows) code_3.0 in
    let code_1 = and_true _ (codes_in_range rows) code_2.0 in
    let card_8 = and_true _ (last_cards_newest rows) h.card in
    let card_7 = and_true _ (newest_of_party rows) card_8.0 in
    let card_6 = and_true _ (fits_without_links rows) card_7.0 in
    let card_5 = and_true _ (neighbours_are_links rows) card_6.0 in
    let card_4 = and_true _ (links_of_one_party rows) card_5.0 in
    let card_3 = and_true _ (links_are_neighbours rows) card_4.0 in
    let card_2 = and_true _ (card_parties_there rows) card_3.0 in
    let card_1 = and_true _ (card_numbers rows) card_2.0 in
    let inside_1 = and_true _ (insides_fit rows) h.inside in
    let note_3 = and_true _ (notes_fit rows) h.note in
    let note_2 = and_true _ (notes_counted rows) note_3.0 in
    let note_1 = and_true _ (list_all are_note_columns s.note.items) note_2.0 in
    let fit_8 = and_true _ (fit_notes_few rows) h.fit in
    let fit_7 = and_true _ (last_fits_noted rows) fit_8.0 in
    let fit_6 = and_true _ (last_fits_held rows) fit_7.0 in
    let fit_5 = and_true _ (fit_notes_rise rows) fit_6.0 in
    let fit_4 = and_true _ (fit_places_rise rows) fit_5.0 in
    let fit_3 = and_true _ (first_fits rows) fit_4.0 in
    let fit_2 = and_true _ (fit_numbers rows) fit_3.0 in
    let fit_1 = and_true _ (fit_rooms_there rows) fit_2.0 in
    let of_fit = of_fits s note_2.1 note_3.1 fit_2.1 fit_3.1 (room_is rows room_2.1) in
    let keys : keys_in_order rows ≡ true = more (more
    (more (more (more (more (more kind_1.0 room_1.0) code_1.0) stay_1.0) card_1.0) inside_1.0) note_1.0) fit_1.0 in
    let metas = more (more (more keys meta_1.0) meta_1.1) kind_1.1 in
    let rooms = more (more (more (more (more (more (more metas room_2.1) room_3.1) room_4.1) room_5.1)
    (few_in_both s room_6.1)) room_7.1) room_8.1 in
    let stays = more (more (more (more (more (more rooms stay_2.1) stay_3.1) stay_4.1) stay_5.1) stay_6.1) stay_7.1 in
    let codes = more (more (more stays code_1.1) code_2.1) code_3.1 in
    let cards = more (more (more (more (more (more (more (more codes card_1.1) card_2.1) card_3.1) card_4.1) card_5.1)
    card_6.1) card_7.1) card_8.1 in
    let notes = more (more (more (more cards inside_1.1) note_2.1) note_3.1) of_fit in
    let fits = more (more (more (more (more (more (more (more notes fit_1.1) fit_2.1) fit_3.1) fit_4.1) fit_5.1)
    fit_6.1) fit_7.1) fit_8.1 in
    (more fits (of_last_fits s), more (more room_1.1 stay_1.1) note_1.1)

rules_hold : (s : Stored) → IsSound (rows_of s) → columns_fit s ≡ true → AllHold s
rules_hold s sound columns =
    let rows = rows_of s in
    let k = ordered rows sound.keys in
    let c2 = and_true _ (list_all are_note_columns s.note.items) columns in
    let c1 = and_true _ (list_all are_stay_columns s.stay.items) c2.0 in
    let nights = nights_pass rows sound.stay_nights in
    record {
      meta = more sound.meta_day sound.meta_kinds;
      kind = more k.kinds sound.kind_reads;
      room = more (more (more (more (more (more (more (more k.rooms c1.0) sound.room_number) sound.room_lock_place)
          sound.room_kind) sound.room_codes) (few_of_sound s sound)) sound.room_party) sound.room_secured;
      stay =
          more (more (more (more (more (more (more k.stays c1.1) sound.stay_number) sound.stay_guest) sound.stay_kind)
          sound.stay_day) sound.stay_room) nights;
      code = more (more (more k.codes sound.code_range) sound.code_room) sound.code_places;
      card =
          more (more (more (more (more (more (more (more k.cards sound.card_number) sound.card_party) sound.card_link)
          sound.card_one_party) sound.card_neighbours) sound.card_fits) sound.card_newest) sound.card_last;
      inside = more k.inside sound.inside_fits;
      note = more (more (more k.notes c2.1) sound.note_counted) sound.note_fits;
      fit = more (more (more (more (more (more (more (more k.fits sound.fit_room) sound.fit_number) sound.fit_first)
          sound.fit_places) sound.fit_notes) sound.fit_held) sound.fit_noted) sound.fit_few;
    }

pub undamaged_is_sound : UndamagedIsSound
undamaged_is_sound s = (
  λ none. let p = rules_passed s (all_passed s none) in (passing_are_sound (rows_of s) p.0, p.1),
  λ sound. none_first s (rules_hold s sound.0 sound.1),
)
