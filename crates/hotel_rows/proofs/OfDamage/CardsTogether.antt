-- The rules of cards as tests of each row.
use Rattle.std.proofs.Common.{◌≡◌, ℕ, Bool, true, false, ◌&&◌, ◌==◌, List, [], ◌∷◌, map, length, Option, Some, None}
use Rattle.std.proofs.Common.{refl, sym, ap, ◌∙◌, nat_cmp}
use Rattle.std.specs.Prelude.{nat_le, is_some, not, ◌||◌, option_map}
use Rattle.std.specs.List.{list_all, list_any}
use Rattle.keycard_rules.specs.declared.card.Card.{Card}
use Rattle.hotel_nights.specs.declared.stay.Stay.{Stay}
use Rattle.hotel_model.specs.declared.rows.RoomRow.{RoomRow}
use Rattle.hotel_model.specs.declared.rows.CodeRow.{CodeRow}
use Rattle.hotel_model.specs.Words.{said_of}
use Rattle.hotel_model.specs.Rows.{at_number, begins_fit}
use Rattle.hotel_model.specs.Stays.{room_of_state}
use Rattle.hotel_model.specs.Cards.{same_link}
use Rattle.hotel_model.specs.SoundRooms.{are_in_order, count_up}
use Rattle.hotel_model.specs.SoundCards.{card_parties_there, links_are_neighbours, links_of_one_party}
use Rattle.hotel_model.specs.SoundCards.{neighbours_are_links, fits_without_links, newest_of_party}
use Rattle.hotel_model.specs.SoundCards.{last_cards_newest, code_is, stands_at, is_newest, owns_newest, has_newest}
use Rattle.hotel_model.proofs.OfTables.RowTests.{all_mapped}
use Rattle.hotel_rows.specs.declared.stored.Stored.{Stored}
use Rattle.hotel_rows.specs.Stored.{number_of, fits_of, rows_of, card_entry, card_row, link_row, code_entry, stay_entry}
use Rattle.hotel_rows.specs.Keys.{are_numbered, card_key}
use Rattle.hotel_rows.specs.Damage.{card_holds}
use Rattle.hotel_rows.specs.RowTests.{card_fits, agrees, begins_one, is_brought, is_owned, has_owner, has_last}
use Rattle.hotel_rows.specs.RowTests.{links_hold}
use Rattle.hotel_rows.proofs.OfDamage.RowsTogether.{keys_mapped, length_mapped, all_and, all_alike, left_and, all_rooms}
use Rattle.hotel_rows.proofs.OfDamage.StaysTogether.{own_keys}

numbers_joined : (o e u w : Bool) → e ≡ true → (o && ((e && u) && w)) ≡ ((o && u) && w)
numbers_joined true e u w is = ap (λ z. (z && u) && w) is
numbers_joined false e u w is = refl

any_mapped : {L X : Type 0} (t : X → Bool) (f : L → X) (ls : List L)
    → list_any t (map f ls) ≡ list_any (λ l. t (f l)) ls
any_mapped t f [] = refl
any_mapped t f (l ∷ ls) = ap (λ b. t (f l) || b) (any_mapped t f ls)

said_alike : {X Y : Type 0} (o : Option X) (d : Y) (f g : X → Y) → ((x : X) → f x ≡ g x) → said_of o d f ≡ said_of o d g
said_alike (Some x) d f g e = e x
said_alike None d f g e = refl

agree_together : (s : Stored) → links_of_one_party (rows_of s) ≡ list_all (agrees s) s.card.items
agree_together s =
    all_mapped (λ (e : ℕ × Card). list_all (λ (f : ℕ × Card). not (same_link e.1.link f.1.link)
    || (e.1.party == f.1.party)) (rows_of s).cards) card_entry s.card.items
    ∙ all_alike _ (agrees s) s.card.items (λ plain. all_mapped (λ (f : ℕ × Card).
    not (same_link (link_row plain) f.1.link) || (number_of plain.party == f.1.party)) card_entry s.card.items)

brought_together : (s : Stored) → (neighbours_are_links (rows_of s) && fits_without_links (rows_of s))
    ≡ list_all (is_brought s) s.code.items
brought_together s =
    let brought = λ (e : ℕ × CodeRow). list_any (λ (c : ℕ × Card). c.1.link.new_code == e.0) (rows_of s).cards in
    let begun = λ (e : ℕ × CodeRow). begins_fit (rows_of s) e.1.room e.1.place in
    ap (λ b. b && fits_without_links (rows_of s)) (all_mapped
    (λ (e : ℕ × CodeRow). (e.1.place == 0) || begun e || brought e) code_entry s.code.items)
    ∙ all_and (λ plain. (number_of plain.place == 0) || begins_one s plain || brought (code_entry plain))
    (λ plain. not (begins_one s plain && brought (code_entry plain))) s.code.items _
    (all_mapped (λ (e : ℕ × CodeRow). not (begun e && brought e)) code_entry s.code.items)
    ∙ all_alike _ (is_brought s) s.code.items (λ plain.
    ap (λ b. ((number_of plain.place == 0) || begins_one s plain || b) && not (begins_one s plain && b))
    (any_mapped (λ (c : ℕ × Card). c.1.link.new_code == number_of plain.code) card_entry s.card.items))

owners_together : (s : Stored) → newest_of_party (rows_of s) ≡ list_all (has_owner s) s.room.items
owners_together s =
    all_rooms (λ (e : ℕ × RoomRow). said_of e.1.party true (owns_newest (rows_of s) e.1.room)) (fits_of s) s.room.items
    ∙ all_alike _ (has_owner s) s.room.items (λ plain.
    said_alike (option_map number_of plain.party) true (owns_newest (rows_of s) (number_of plain.room))
    (λ party. list_all (is_owned s (number_of plain.room) party) s.card.items)
    (λ party. all_mapped (λ (e : ℕ × Card). not (is_newest (rows_of s) (number_of plain.room) e.1.link)
    || (e.1.party == party)) card_entry s.card.items))

lasts_together : (s : Stored) → last_cards_newest (rows_of s) ≡ list_all (has_last s) s.stay.items
lasts_together s = all_mapped (λ (e : ℕ × Stay). said_of (room_of_state e.1.state) true
    (has_newest (rows_of s) e.1.party)) stay_entry s.stay.items

both_first : (a b c d e : Bool) → ((((a && b) && c) && d) && e) ≡ (((a && (b && c)) && d) && e)
both_first true b c d e = refl
both_first false b c d e = refl

joined : (a b c d e f : Bool) → (((((a && b) && c) && d) && e) && f) ≡ ((a && b) && (((c && d) && e) && f))
joined true true c d e f = refl
joined true false c d e f = refl
joined false b c d e f = refl

-- the rules of cards are tests of the keys and of each row
pub cards_together : (s : Stored) → card_holds s ≡ (are_numbered (map card_key s.card.items)
    && list_all (λ card. card_fits (rows_of s) (card_row card)) s.card.items && links_hold s)
cards_together s =
    let plain_rows = s.card.items in
    let rows = rows_of s in
    let ks = map card_key plain_rows in
    let o = are_numbered ks in
    let own = list_all (λ (e : ℕ × Card). e.1.number == e.0) rows.cards in
    ap (λ keys. are_in_order nat_cmp keys && (own && count_up 1 keys && nat_le (length rows.cards) 9999999)
    && card_parties_there rows && links_are_neighbours rows && links_of_one_party rows && neighbours_are_links rows
    && fits_without_links rows && newest_of_party rows && last_cards_newest rows)
    (keys_mapped card_key card_row plain_rows)
    ∙ ap (λ n. are_in_order nat_cmp ks && (own && count_up 1 ks && nat_le n 9999999) && card_parties_there rows
    && links_are_neighbours rows && links_of_one_party rows && neighbours_are_links rows && fits_without_links rows
    && newest_of_party rows && last_cards_newest rows)
    (length_mapped card_entry plain_rows ∙ sym (length_mapped card_key plain_rows))
    ∙ ap (λ b. b && card_parties_there rows && links_are_neighbours rows && links_of_one_party rows
    && neighbours_are_links rows && fits_without_links rows && newest_of_party rows && last_cards_newest rows)
    (numbers_joined (are_in_order nat_cmp ks) own (count_up 1 ks) (nat_le (length ks) 9999999)
    (own_keys card_key card_row (λ (card : Card). card.number) (λ plain. refl) plain_rows))
    ∙ ap (λ b. b && links_of_one_party rows && neighbours_are_links rows && fits_without_links rows
    && newest_of_party rows && last_cards_newest rows)
    (left_and o card_entry
    (λ (e : ℕ × Card). code_is rows e.1.link.new_code (λ new. stands_at rows new.room e.1.link)) _ plain_rows _
    (ap (λ b. o && b) (all_mapped (λ (e : ℕ × Card). is_some (at_number rows.stays e.1.party)) card_entry plain_rows)))
    ∙ ap (λ b. o && list_all (λ card. card_fits rows (card_row card)) plain_rows && b && neighbours_are_links rows
    && fits_without_links rows && newest_of_party rows && last_cards_newest rows) (agree_together s)
    ∙ both_first (o && list_all (λ card. card_fits rows (card_row card)) plain_rows && list_all (agrees s) plain_rows)
    (neighbours_are_links rows) (fits_without_links rows) (newest_of_party rows) (last_cards_newest rows)
    ∙ ap (λ b. o && list_all (λ card. card_fits rows (card_row card)) plain_rows && list_all (agrees s) plain_rows && b
    && newest_of_party rows && last_cards_newest rows) (brought_together s)
    ∙ ap (λ b. o && list_all (λ card. card_fits rows (card_row card)) plain_rows && list_all (agrees s) plain_rows
    && list_all (is_brought s) s.code.items && b && last_cards_newest rows) (owners_together s)
    ∙ ap (λ b. o && list_all (λ card. card_fits rows (card_row card)) plain_rows && list_all (agrees s) plain_rows
    && list_all (is_brought s) s.code.items && list_all (has_owner s) s.room.items && b) (lasts_together s)
    ∙ joined o (list_all (λ card. card_fits rows (card_row card)) plain_rows) (list_all (agrees s) plain_rows)
    (list_all (is_brought s) s.code.items) (list_all (has_owner s) s.room.items) (list_all (has_last s) s.stay.items)
