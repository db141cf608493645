-- Tests that the rows of a table pass along each history: where each new row passes, and what passed goes on to pass.
use Rattle.std.proofs.Common.{ℕ, ◌≡◌, Bool, true, List, Option, Some, None, refl, length, ◌+◌}
use Rattle.hotel_model.proofs.Names.{list_all, Card, Link, Note, Stay, StayState, CodeRow, Rows, Event, Install}
use Rattle.hotel_model.proofs.Names.{Reserved, Cancelled, Issue, Refitted, Spare, CheckOut, note_of, History, start}
use Rattle.hotel_model.proofs.Names.{◌▷◌, issued, all_issued, cards, card_of, with_spare, link_of_party, link_to, rooms}
use Rattle.hotel_model.proofs.Names.{stays, now_is, all_notes, and_note, notes, fits, fit_row, FitRow, pair_cmp}
use Rattle.hotel_model.proofs.Names.{Reached, IsSound}
use Rattle.hotel_nights.specs.declared.stay.StayState.TheVariants as state
use Rattle.hotel_model.proofs.OfTables.Pairs.{pair_exact}
use Rattle.hotel_model.proofs.OfTables.RowTests.{all_weaker, all_inserted, all_added_by, all_in_state}

-- what passes the test after a history passes it after one more event
abbrev pub GoesOn : {X : Type 0} → (History → X → Bool) → Type 0
GoesOn {X} t = (h : History) (event : Event) (x : X) → Reached (h ▷ event) → t h x ≡ true → t (h ▷ event) x ≡ true

-- this holds at each start
abbrev pub HoldsAtStart : (History → Type 0) → Type 0
HoldsAtStart P = (s : Rows) → IsSound s → P (start s)

-- all that passed goes on to pass
all_go_on : {X : Type 0} (t : History → X → Bool) → GoesOn t → (h : History) (event : Event) (xs : List X)
    → Reached (h ▷ event) → list_all (t h) xs ≡ true → list_all (t (h ▷ event)) xs ≡ true
all_go_on t on h event xs ok all = all_weaker (t h) (t (h ▷ event)) (λ x. on h event x ok) xs all

pub rooms_pass : (t : History → ℕ × List ℕ → Bool)
    → GoesOn t → HoldsAtStart (λ h. list_all (t h) (rooms h) ≡ true) → ((h : History) (room code : ℕ) (kind : List ℕ)
    → Reached (h ▷ Install room kind code) → t (h ▷ Install room kind code) (room, kind) ≡ true)
    → (h : History) → Reached h → list_all (t h) (rooms h) ≡ true
rooms_pass t on first new (start s) ok = first s ok
rooms_pass t on first new (h ▷ Install room kind code) ok =
    all_inserted _ (rooms h) room kind (new h room code kind ok)
    (all_go_on t on h _ (rooms h) ok (rooms_pass t on first new h ok.0))
rooms_pass t on first new (h ▷ event) ok = all_go_on t on h event (rooms h) ok (rooms_pass t on first new h ok.0)

-- the stay that a booking adds
abbrev pub booked : ℕ → List ℕ → List ℕ → ℕ → ℕ → Stay
booked party guest kind arrive depart =
    record { party = party; guest = guest; kind = kind; arrive = arrive; depart = depart; state = state.Booked }

pub stays_pass : (t : History → ℕ × Stay → Bool) → GoesOn t → HoldsAtStart (λ h. list_all (t h) (stays h) ≡ true)
    → ((h : History) (x : ℕ × Stay) (s : StayState) → t h x ≡ true → t h (x.0, now_is s x.1) ≡ true)
    → ((h : History) (party : ℕ) (guest kind : List ℕ) (arrive depart : ℕ)
    → Reached (h ▷ Reserved party guest kind arrive depart)
    → t (h ▷ Reserved party guest kind arrive depart) (party, booked party guest kind arrive depart) ≡ true)
    → (h : History) → Reached h → list_all (t h) (stays h) ≡ true
stays_pass t on first keeps new (start s) ok = first s ok
stays_pass t on first keeps new (h ▷ Reserved party guest kind arrive depart) ok =
    all_inserted _ (stays h) party _ (new h party guest kind arrive depart ok)
    (all_go_on t on h _ (stays h) ok (stays_pass t on first keeps new h ok.0))
stays_pass t on first keeps new (h ▷ Cancelled party) ok =
    all_in_state _ party state.Cancelled (stays h) (λ x. keeps _ x state.Cancelled)
    (all_go_on t on h _ (stays h) ok (stays_pass t on first keeps new h ok.0))
stays_pass t on first keeps new (h ▷ Issue party room number code) ok =
    all_in_state _ party (state.InHouse room) (stays h) (λ x. keeps _ x (state.InHouse room))
    (all_go_on t on h _ (stays h) ok (stays_pass t on first keeps new h ok.0))
stays_pass t on first keeps new (h ▷ CheckOut party) ok =
    all_in_state _ party state.Done (stays h) (λ x. keeps _ x state.Done)
    (all_go_on t on h _ (stays h) ok (stays_pass t on first keeps new h ok.0))
stays_pass t on first keeps new (h ▷ event) ok =
    all_go_on t on h event (stays h) ok (stays_pass t on first keeps new h ok.0)

-- the row that a new code of a room is given
abbrev pub next_row : History → ℕ → CodeRow
next_row h room = record { room = room; place = length (issued h room) }

pub codes_pass : (t : History → ℕ × CodeRow → Bool)
    → GoesOn t → HoldsAtStart (λ h. list_all (t h) (all_issued h) ≡ true)
    → ((h : History) (room code : ℕ) (kind : List ℕ)
    → Reached (h ▷ Install room kind code) → t (h ▷ Install room kind code) (code, next_row h room) ≡ true)
    → ((h : History) (party room number code : ℕ)
    → Reached (h ▷ Issue party room number code) → t (h ▷ Issue party room number code) (code, next_row h room) ≡ true)
    → ((h : History) (room fit code : ℕ)
    → Reached (h ▷ Refitted room fit code) → t (h ▷ Refitted room fit code) (code, next_row h room) ≡ true)
    → (h : History) → Reached h → list_all (t h) (all_issued h) ≡ true
codes_pass t on first f g k (start s) ok = first s ok
codes_pass t on first f g k (h ▷ Install room kind code) ok =
    all_inserted _ (all_issued h) code _ (f h room code kind ok)
    (all_go_on t on h _ (all_issued h) ok (codes_pass t on first f g k h ok.0))
codes_pass t on first f g k (h ▷ Issue party room number code) ok =
    all_inserted _ (all_issued h) code _ (g h party room number code ok)
    (all_go_on t on h _ (all_issued h) ok (codes_pass t on first f g k h ok.0))
codes_pass t on first f g k (h ▷ Refitted room fit code) ok =
    all_inserted _ (all_issued h) code _ (k h room fit code ok)
    (all_go_on t on h _ (all_issued h) ok (codes_pass t on first f g k h ok.0))
codes_pass t on first f g k (h ▷ event) ok =
    all_go_on t on h event (all_issued h) ok (codes_pass t on first f g k h ok.0)

spare_passes : (o : Option Link) (t : ℕ × Card → Bool) (number party : ℕ) (all : List (ℕ × Card))
    → ((link : Link) → o ≡ Some link → t (number, card_of number party link) ≡ true) → list_all t all ≡ true
    → list_all t (with_spare number party o all) ≡ true
spare_passes (Some link) t number party all new passed = all_inserted t all number _ (new link refl) passed
spare_passes None t number party all new passed = passed

pub cards_pass : (t : History → ℕ × Card → Bool) → GoesOn t → HoldsAtStart (λ h. list_all (t h) (cards h) ≡ true)
    → ((h : History) (party room number code : ℕ) → Reached (h ▷ Issue party room number code)
    → t (h ▷ Issue party room number code) (number, card_of number party (link_to h room code)) ≡ true)
    → ((h : History) (party number : ℕ) (link : Link) → Reached (h ▷ Spare party number)
    → link_of_party h party ≡ Some link → t (h ▷ Spare party number) (number, card_of number party link) ≡ true)
    → (h : History) → Reached h → list_all (t h) (cards h) ≡ true
cards_pass t on first f g (start s) ok = first s ok
cards_pass t on first f g (h ▷ Issue party room number code) ok =
    all_inserted _ (cards h) number _ (f h party room number code ok)
    (all_go_on t on h _ (cards h) ok (cards_pass t on first f g h ok.0))
cards_pass t on first f g (h ▷ Spare party number) ok =
    spare_passes (link_of_party h party) _ number party (cards h) (λ link e. g h party number link ok e)
    (all_go_on t on h _ (cards h) ok (cards_pass t on first f g h ok.0))
cards_pass t on first f g (h ▷ event) ok = all_go_on t on h event (cards h) ok (cards_pass t on first f g h ok.0)

note_passes : (h : History) (o : Option Note) (t : (ℕ × ℕ) × Note → Bool) (all : List ((ℕ × ℕ) × Note))
    → ((note : Note) → o ≡ Some note → t ((note.room, length (notes h note.room) + 1), note) ≡ true)
    → list_all t all ≡ true → list_all t (and_note h o all) ≡ true
note_passes h (Some note) t all new passed =
    all_added_by pair_cmp pair_exact t all (note.room, length (notes h note.room) + 1) note (new note refl) passed
note_passes h None t all new passed = passed

pub notes_pass : (t : History → (ℕ × ℕ) × Note → Bool)
    → GoesOn t → HoldsAtStart (λ h. list_all (t h) (all_notes h) ≡ true)
    → ((h : History) (event : Event) (note : Note) → Reached (h ▷ event) → note_of event ≡ Some note
    → t (h ▷ event) ((note.room, length (notes h note.room) + 1), note) ≡ true)
    → (h : History) → Reached h → list_all (t h) (all_notes h) ≡ true
notes_pass t on first new (start s) ok = first s ok
notes_pass t on first new (h ▷ event) ok =
    note_passes h (note_of event) (t (h ▷ event)) (all_notes h) (λ note e. new h event note ok e)
    (all_go_on t on h event (all_notes h) ok (notes_pass t on first new h ok.0))

pub fits_pass : (t : History → (ℕ × ℕ) × FitRow → Bool) → GoesOn t → HoldsAtStart (λ h. list_all (t h) (fits h) ≡ true)
    → ((h : History) (room code : ℕ) (kind : List ℕ)
    → Reached (h ▷ Install room kind code) → t (h ▷ Install room kind code) ((room, 1), fit_row room 1 0 0) ≡ true)
    → ((h : History) (room fit code : ℕ) → Reached (h ▷ Refitted room fit code) → t (h
    ▷ Refitted room fit code) ((room, fit), fit_row room fit (length (issued h room)) (length (notes h room))) ≡ true)
    → (h : History) → Reached h → list_all (t h) (fits h) ≡ true
fits_pass t on first f g (start s) ok = first s ok
fits_pass t on first f g (h ▷ Install room kind code) ok =
    all_added_by pair_cmp pair_exact _ (fits h) (room, 1) _ (f h room code kind ok)
    (all_go_on t on h _ (fits h) ok (fits_pass t on first f g h ok.0))
fits_pass t on first f g (h ▷ Refitted room fit code) ok =
    all_added_by pair_cmp pair_exact _ (fits h) (room, fit) _ (g h room fit code ok)
    (all_go_on t on h _ (fits h) ok (fits_pass t on first f g h ok.0))
fits_pass t on first f g (h ▷ event) ok = all_go_on t on h event (fits h) ok (fits_pass t on first f g h ok.0)
