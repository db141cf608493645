-- Rooms and cards that are there stay.
use Rattle.std.proofs.Common.{ℕ, ◌≡◌, true, false, Some, ap, sym, ◌∙◌, is_some}
use Rattle.hotel_model.proofs.Names.{keys_of, is_one_of, said_of, at_number, same_link, Card, Link, Note, Event, Issue}
use Rattle.hotel_model.proofs.Names.{History, ◌▷◌, cards, card_of, link_to, is_room, is_card, has_link, next_card}
use Rattle.hotel_model.proofs.Names.{Reached}
use Rattle.hotel_model.proofs.OfTables.TableKeys.{is_key, row_of_key}
use Rattle.hotel_model.proofs.{Invariants.HomeRooms.room_goes_on, Invariants.Kept.card_goes_on}
use Rattle.hotel_model.proofs.{Invariants.CardParties.card_kept}
use Rattle.hotel_building.specs.Building.{event_of}
use Rattle.hotel_building.proofs.Quiet.{SameCommands, same_books, noted_quiet}

-- The rooms and the cards of a history are there after another one.
pub record Grows (h h' : History) : Type 0 where
  pub rooms_stay : (r : ℕ) → is_room h r ≡ true → is_room h' r ≡ true
  pub cards_stay : (n : ℕ) (card : Card) → at_number (cards h) n ≡ Some card → at_number (cards h') n ≡ Some card

pub grows_on : (h g h' : History) → Grows h g → Grows g h' → Grows h h'
grows_on h g h' a b = record {
  rooms_stay = λ r t. b.rooms_stay r (a.rooms_stay r t);
  cards_stay = λ n card e. b.cards_stay n card (a.cards_stay n card e);
}

-- those of histories with the same commands are the same
pub grows_same : (h h' : History) → SameCommands h h' → Grows h h'
grows_same h h' q =
    let s = same_books h h' q in record {
      rooms_stay = λ r t. sym (ap (λ rs. is_one_of r (keys_of rs)) s.same_rooms) ∙ t;
      cards_stay = λ n card e. sym (ap (λ cs. at_number cs n) s.same_cards) ∙ e;
    }

-- an event takes none away
pub grows_event : (h : History) (e : Event) → Reached (h ▷ e) → Grows h (h ▷ e)
grows_event h e ok = record {
  rooms_stay = λ r t. room_goes_on h e r t;
  cards_stay = λ n card f. card_goes_on h e n card ok f;
}

pub grows_issue : (h : History) → Reached h → (party room number code : ℕ) → number ≡ next_card h
    → Grows h (h ▷ Issue party room number code)
grows_issue h ok party room number code next = record {
  rooms_stay = λ r t. t;
  cards_stay = λ n card f. card_kept h number (card_of number party (link_to h room code)) n card ok next f;
}

-- the same note on both sides
pub grows_noted : (h h' : History) (note : Note) → Grows h h' → Grows (h ▷ event_of note) (h' ▷ event_of note)
grows_noted h h' note g = grows_on (h ▷ event_of note) h (h' ▷ event_of note)
    (grows_same (h ▷ event_of note) h (noted_quiet h note))
    (grows_on h h' (h' ▷ event_of note) g (grows_same h' (h' ▷ event_of note) (sym (noted_quiet h' note))))

-- a card with its link stays
pub card_stays : (h h' : History) → Grows h h' → (n : ℕ) (link : Link) → is_card h n ≡ true → has_link h n link ≡ true
    → (is_card h' n ≡ true) × (has_link h' n link ≡ true)
card_stays h h' g n link there has =
    let row = row_of_key (cards h) n there in
    let stays = g.cards_stay n row.0 row.1 in (
      is_key (cards h') n ∙ ap is_some stays,
      ap (λ o. said_of o false (λ (k : Card). same_link k.link link)) (stays ∙ sym row.1) ∙ has,
    )
