-- The texts of the statements, each of one table but for those of three walks.
use Rattle.std.specs.Prelude.{List, ℕ}
use Rattle.hotel_statements.specs.declared.texts.TheConstants as constant

-- ---- the tables

abbrev pub create_meta : List ℕ
create_meta = constant.CREATE_META.now

abbrev pub create_kind : List ℕ
create_kind = constant.CREATE_KIND.now

abbrev pub create_room : List ℕ
create_room = constant.CREATE_ROOM.now

abbrev pub create_stay : List ℕ
create_stay = constant.CREATE_STAY.now

abbrev pub create_code : List ℕ
create_code = constant.CREATE_CODE.now

abbrev pub create_card : List ℕ
create_card = constant.CREATE_CARD.now

abbrev pub create_inside : List ℕ
create_inside = constant.CREATE_INSIDE.now

abbrev pub create_note : List ℕ
create_note = constant.CREATE_NOTE.now

abbrev pub create_fit : List ℕ
create_fit = constant.CREATE_FIT.now

-- ---- the indexes: by the first two the rows that refer to a changed one are looked for, by the third arrivals and
-- bookings

abbrev pub create_stay_room : List ℕ
create_stay_room = constant.CREATE_STAY_ROOM.now

abbrev pub create_card_party : List ℕ
create_card_party = constant.CREATE_CARD_PARTY.now

abbrev pub create_stay_arrive : List ℕ
create_stay_arrive = constant.CREATE_STAY_ARRIVE.now

-- ---- one row by its key

abbrev pub select_day : List ℕ
select_day = constant.SELECT_DAY.now

abbrev pub select_kind : List ℕ
select_kind = constant.SELECT_KIND.now

abbrev pub select_room : List ℕ
select_room = constant.SELECT_ROOM.now

abbrev pub select_stay : List ℕ
select_stay = constant.SELECT_STAY.now

abbrev pub select_code : List ℕ
select_code = constant.SELECT_CODE.now

abbrev pub select_code_at : List ℕ
select_code_at = constant.SELECT_CODE_AT.now

abbrev pub select_card : List ℕ
select_card = constant.SELECT_CARD.now

abbrev pub select_inside : List ℕ
select_inside = constant.SELECT_INSIDE.now

abbrev pub select_any_inside : List ℕ
select_any_inside = constant.SELECT_ANY_INSIDE.now

abbrev pub select_note : List ℕ
select_note = constant.SELECT_NOTE.now

abbrev pub select_fit : List ℕ
select_fit = constant.SELECT_FIT.now

abbrev pub select_last_party : List ℕ
select_last_party = constant.SELECT_LAST_PARTY.now

abbrev pub select_last_card : List ℕ
select_last_card = constant.SELECT_LAST_CARD.now

-- ---- some rows in order

abbrev pub select_stays_of_kind : List ℕ
select_stays_of_kind = constant.SELECT_STAYS_OF_KIND.now

abbrev pub select_cards_inside : List ℕ
select_cards_inside = constant.SELECT_CARDS_INSIDE.now

abbrev pub select_fits : List ℕ
select_fits = constant.SELECT_FITS.now

-- ---- changes

abbrev pub insert_meta : List ℕ
insert_meta = constant.INSERT_META.now

abbrev pub insert_kind : List ℕ
insert_kind = constant.INSERT_KIND.now

abbrev pub insert_room : List ℕ
insert_room = constant.INSERT_ROOM.now

abbrev pub insert_stay : List ℕ
insert_stay = constant.INSERT_STAY.now

abbrev pub insert_code : List ℕ
insert_code = constant.INSERT_CODE.now

abbrev pub insert_card : List ℕ
insert_card = constant.INSERT_CARD.now

abbrev pub insert_inside : List ℕ
insert_inside = constant.INSERT_INSIDE.now

abbrev pub insert_note : List ℕ
insert_note = constant.INSERT_NOTE.now

abbrev pub insert_fit : List ℕ
insert_fit = constant.INSERT_FIT.now

abbrev pub update_day : List ℕ
update_day = constant.UPDATE_DAY.now

abbrev pub update_version : List ℕ
update_version = constant.UPDATE_VERSION.now

abbrev pub update_issued : List ℕ
update_issued = constant.UPDATE_ISSUED.now

abbrev pub update_party : List ℕ
update_party = constant.UPDATE_PARTY.now

abbrev pub update_noted : List ℕ
update_noted = constant.UPDATE_NOTED.now

abbrev pub update_refitted : List ℕ
update_refitted = constant.UPDATE_REFITTED.now

abbrev pub update_state : List ℕ
update_state = constant.UPDATE_STATE.now

abbrev pub delete_inside : List ℕ
delete_inside = constant.DELETE_INSIDE.now

abbrev pub delete_insides : List ℕ
delete_insides = constant.DELETE_INSIDES.now

-- ---- walks

abbrev pub walk_arrivals : List ℕ
walk_arrivals = constant.WALK_ARRIVALS.now

abbrev pub walk_chain : List ℕ
walk_chain = constant.WALK_CHAIN.now

abbrev pub walk_audit : List ℕ
walk_audit = constant.WALK_AUDIT.now

abbrev pub walk_in_house : List ℕ
walk_in_house = constant.WALK_IN_HOUSE.now

abbrev pub walk_left_behind : List ℕ
walk_left_behind = constant.WALK_LEFT_BEHIND.now

abbrev pub walk_room_status : List ℕ
walk_room_status = constant.WALK_ROOM_STATUS.now

abbrev pub walk_inside : List ℕ
walk_inside = constant.WALK_INSIDE.now

abbrev pub walk_bookings : List ℕ
walk_bookings = constant.WALK_BOOKINGS.now

abbrev pub walk_cards_given : List ℕ
walk_cards_given = constant.WALK_CARDS_GIVEN.now

abbrev pub walk_locks : List ℕ
walk_locks = constant.WALK_LOCKS.now

-- ---- whole tables

abbrev pub read_meta : List ℕ
read_meta = constant.READ_META.now

abbrev pub read_kind : List ℕ
read_kind = constant.READ_KIND.now

abbrev pub read_room : List ℕ
read_room = constant.READ_ROOM.now

abbrev pub read_stay : List ℕ
read_stay = constant.READ_STAY.now

abbrev pub read_code : List ℕ
read_code = constant.READ_CODE.now

abbrev pub read_card : List ℕ
read_card = constant.READ_CARD.now

abbrev pub read_inside : List ℕ
read_inside = constant.READ_INSIDE.now

abbrev pub read_note : List ℕ
read_note = constant.READ_NOTE.now

abbrev pub read_fit : List ℕ
read_fit = constant.READ_FIT.now
