-- Tests of the statements along a history, for computing: each step's rows against its change's, and what the headline
-- says of each room.
use Rattle.std.specs.Prelude.{ℕ, Bool, true, false, List, [], ◌∷◌, ◌++◌, ◌+◌, ◌==◌, ◌&&◌, ◌||◌, Option, Some, None, not}
use Rattle.std.specs.Prelude.{is_some, nat_le, length, bytes_eq}
use Rattle.std.specs.List.{list_all}
use Rattle.std.specs.Map.{keys_of}
use Rattle.keycard_rules.specs.declared.card.Card.{Card}
use Rattle.keycard_rules.specs.declared.card.Link.{Link}
use Rattle.keycard_rules.specs.Note.{Note}
use Rattle.hotel_model.specs.declared.rows.FitRow.{FitRow}
use Rattle.hotel_model.specs.Words.{said_of, is_one_of, before, after}
use Rattle.hotel_model.specs.Rows.{Rows, at_number, fits_at, newest_link_at}
use Rattle.hotel_model.specs.Sound.{passes_rules}
use Rattle.hotel_model.specs.Event.{Event, Entered, Recoded, Refitted}
use Rattle.hotel_model.specs.History.{History, start, ◌▷◌}
use Rattle.hotel_model.specs.RowsOf.{rows_of}
use Rattle.hotel_model.specs.Issued.{issued, current}
use Rattle.hotel_model.specs.Cards.{cards, newest_link, same_link}
use Rattle.keycard_rules.specs.Lock.{turn}
use Rattle.hotel_model.specs.Lock.{held}
use Rattle.hotel_model.specs.Ledger.{passed, awaited, turns}
use Rattle.hotel_model.specs.Guests.{registered, inside, secured}
use Rattle.hotel_model.specs.Stays.{rooms}
use Rattle.hotel_model.specs.Notes.{notes, notes_of, same_note}
use Rattle.hotel_model.specs.Refinement.Change.{made}
use Rattle.hotel_model.specs.Refinement.Lookups.{note_at}
use Rattle.hotel_model.specs.Refinement.ChangeOf.{change_of}

-- the rows that each event's change makes, and those of each grown history, the newest first
abbrev pub rows_made : History → List Rows
rows_made (start t) = []
rows_made (h ▷ event) = made (change_of h event) (rows_of h) ∷ rows_made h

abbrev pub rows_read : History → List Rows
rows_read (start t) = []
rows_read (h ▷ event) = rows_of (h ▷ event) ∷ rows_read h

-- the room's ledger joined is its issued codes
abbrev pub ledger_holds : History → ℕ → Bool
ledger_holds h r = bytes_eq (passed h r ++ held h r ∷ awaited h r) (issued h r)

-- both say yes, or both say no
abbrev pub agree : Bool → Bool → Bool
agree true b = b
agree false b = not b

abbrev pub newest_opens : History → ℕ → Bool
newest_opens h r =
    said_of (newest_link h r) true (λ link. agree (is_some (turn (held h r) link)) (nat_le (length (awaited h r)) 1))

-- the link is the room's newest one
abbrev pub is_newest : History → ℕ → Link → Bool
is_newest h r link = said_of (newest_link h r) false (λ newest. same_link link newest)

-- the card has the room's newest link, and is the party's
abbrev pub belongs : History → ℕ → ℕ → ℕ → Bool
belongs h r party number =
    said_of (at_number (cards h) number) false (λ card. (card.party == party) && is_newest h r card.link)

abbrev pub safe_room : History → ℕ → Bool
safe_room h r = not (secured h r) || said_of (registered h r) true
    (λ party. (held h r == current h r) && list_all (belongs h r party) (inside h r))

-- a card opens only where both of its codes were issued
abbrev pub opens_own : History → ℕ → Bool
opens_own h r = list_all (λ (e : ℕ × Card). not (is_some (turn (held h r) e.1.link))
    || (is_one_of e.1.link.old_code (issued h r) && is_one_of e.1.link.new_code (issued h r))) (cards h)

-- the note is found among the rows by its fit and count
abbrev pub is_found : Rows → ℕ → Note → Bool
is_found rows r note = said_of (note_at rows r note.fit note.count) false (λ kept. same_note kept note)

-- the fit has no note of the count 0, and none after the last one
abbrev pub none_beyond : Rows → ℕ → ℕ → ℕ → Bool
none_beyond rows r fit last = not (is_some (note_at rows r fit 0)) && not (is_some (note_at rows r fit (last + 1)))

-- the notes are found among the rows by fit and count, and no fit has one more
abbrev pub notes_found : History → Rows → ℕ → Bool
notes_found h rows r =
    list_all (is_found rows r) (notes h r)
    && list_all (λ (f : FitRow). none_beyond rows r f.fit (length (notes_of h r f.fit))) (fits_at rows.fits r)

-- both links are there and equal, or neither is there
abbrev pub same_links : Option Link → Option Link → Bool
same_links (Some a) o = said_of o false (λ b. same_link a b)
same_links None o = not (is_some o)

-- the newest link is that which the rows say; the cards with the current code have it; a secured room has one
abbrev pub newest_known : History → Rows → ℕ → Bool
newest_known h rows r = same_links (newest_link h r) (newest_link_at rows r)
    && list_all (λ (e : ℕ × Card). not (e.1.link.new_code == current h r) || is_newest h r e.1.link) (cards h)
    && (not (secured h r) || is_some (newest_link h r))

abbrev pub room_keeps : History → ℕ → Bool
room_keeps h r = ledger_holds h r && newest_opens h r && safe_room h r && opens_own h r
    && notes_found h (rows_of h) r && newest_known h (rows_of h) r

-- the two codes of a link, at the ends of their lists
abbrev pub entry_moves : History → History → ℕ → ℕ → ℕ → Bool
entry_moves h h' r old new = (held h r == old) && (held h' r == new)
    && bytes_eq (passed h' r) (passed h r ++ old ∷ []) && bytes_eq (awaited h r) (new ∷ awaited h' r)

-- no code of the room moved
abbrev pub stands : History → History → ℕ → Bool
stands h h' r = bytes_eq (passed h' r) (passed h r) && (held h' r == held h r) && bytes_eq (awaited h' r) (awaited h r)

-- the lock held the link's new code, and no code moved
abbrev pub opens_only : History → History → ℕ → Link → Bool
opens_only h h' r link = (held h r == link.new_code) && stands h h' r

-- what the event moved at its room: an entry its link's two codes or none, a recoding those from the one up to the
-- other, a refit all
abbrev pub moves_right : Event → History → History → Bool
moves_right (Entered room fit count number link at) h h' =
    (turns h room link && entry_moves h h' room link.old_code link.new_code)
    || (not (turns h room link) && opens_only h h' room link)
moves_right (Recoded room fit count from to at) h h' = (held h room == from) && (held h' room == to)
    && bytes_eq (passed h' room) (passed h room ++ from ∷ before to (awaited h room))
    && bytes_eq (awaited h' room) (after to (awaited h room))
moves_right (Refitted room fit code) h h' = (held h' room == code)
    && bytes_eq (passed h' room) (issued h room) && bytes_eq (awaited h' room) []
moves_right _ h h' = true

-- what the headline says, after each event
abbrev pub always_kept : History → Bool
always_kept (start t) = passes_rules t
always_kept (h ▷ event) =
    passes_rules (rows_of (h ▷ event)) && list_all (room_keeps (h ▷ event)) (keys_of (rooms (h ▷ event)))
    && moves_right event h (h ▷ event) && always_kept h
