-- The commands by which a party comes to a room, lifted.
use Rattle.std.proofs.Common.{ℕ, ◌≡◌, true, false, Option, Some, None, refl, ap, sym, ◌∙◌, length, is_some}
use Rattle.hotel_model.proofs.Names.{said_of, draw_from, Draw, Link, Change, NoRoom, NoParty, NotBooked, NotInHouse}
use Rattle.hotel_model.proofs.Names.{WrongKind, SameRoom, RoomTaken, NumbersUsedUp, History, issued_codes, card_of}
use Rattle.hotel_model.proofs.Names.{cards, link_to, stays, rows_of, is_room, is_booked, is_in_house, is_taken}
use Rattle.hotel_model.proofs.Names.{next_card, own_room, room_of, other_than, last_card_of, no_link, Outcome, needs}
use Rattle.hotel_model.proofs.Names.{bars, accepted, by_draw, link_on, home_link_on, Lifts}
use Rattle.hotel_model.specs.declared.change.Change.TheVariants as change
use Rattle.hotel_model.specs.declared.command.Command.TheVariants as command
use Rattle.hotel_model.specs.declared.reply.Reply.TheVariants as reply
use Rattle.hotel_model.specs.Event as event
use Rattle.hotel_model.proofs.{OfTables.Numbered.is_there, Lifted.LiftTools.lifts_by, Lifted.LiftTools.alike}
use Rattle.hotel_model.proofs.{Lifted.LiftTools.draw_lifts, Lifted.LiftTools.needed, Lifted.LiftEasy.room_is_there}
use Rattle.hotel_model.proofs.Lifted.LiftRooms.{last_number, taken_said, home_said, kind_said, link_said}
use Rattle.hotel_model.proofs.Lifted.LiftFacts.{CurrentFound, HomeLink, AtHome}
use Rattle.hotel_model.proofs.{Invariants.Following.barred, Invariants.Following.some_number}
use Rattle.hotel_model.proofs.{Invariants.Homes.itself_leaves, Invariants.Homes.not_leaving}
use Rattle.hotel_model.proofs.{Invariants.InHouse.booked_nowhere}

-- a card of a new code, and the change that makes it, where the link of each code is this
abbrev issue_by : History → ℕ → ℕ → Option ℕ → Draw → (ℕ → Link) → Outcome Change
issue_by h party room leaves draw link = by_draw draw (λ code. reply.Issued (card_of (next_card h) party (link code)))
    (λ code. change.Issue (card_of (next_card h) party (link code)) room leaves)

issue_same : (h : History) (party room : ℕ) (leaves : Option ℕ) (draw : Draw) → CurrentFound h → is_room h room ≡ true
    → issue_by h party room leaves draw (link_on (rows_of h) room) ≡ issue_by h party room leaves draw (link_to h room)
issue_same h party room leaves draw found there = by draw.code
  where
    by : (o : Option ℕ) → (let d : Draw = record draw { code = o } in
        issue_by h party room leaves d (link_on (rows_of h) room) ≡ issue_by h party room leaves d (link_to h room))
    by None = refl
    by (Some code) =
        let d : Draw = record draw { code = Some code } in
        ap (λ l. issue_by h party room leaves d (λ _. l)) (link_said h room code found there)

-- where a party leaves the same room
leaving : (h : History) (party room : ℕ) (draw : Draw) (leaves : Option ℕ) → leaves ≡ other_than room (room_of h party)
    → issue_by h party room leaves draw (link_to h room)
    ≡ issue_by h party room (other_than room (room_of h party)) draw (link_to h room)
leaving h party room draw leaves e = ap (λ o. issue_by h party room o draw (link_to h room)) e

pub check_in_lifts : (h : History) (party room : ℕ) → CurrentFound h → Lifts h (command.CheckIn party room)
check_in_lifts h party room found ahead =
    let there = needed (is_room h room) NoRoom in
    let draw : Draw = draw_from (issued_codes h) ahead in
    lifts_by h ahead (command.CheckIn party room) (alike refl λ _. alike (ap (λ b. needs b NoRoom)
    (room_is_there h room)) λ r. alike (ap (λ b. needs b NoParty) (is_there (stays h) party)) λ _.
    alike refl λ b. alike refl λ _. alike refl λ _. alike (ap (λ b. needs b WrongKind) (kind_said h room party)) λ _.
    alike (ap (λ b. bars b RoomTaken) (taken_said h room (there r))) λ _.
    alike (ap (λ b. bars b NumbersUsedUp) (last_number (length (cards h)))) λ _.
    issue_same h party room None draw found (there r) ∙ leaving h party room draw None
    (sym (ap (other_than room) (booked_nowhere h party (needed (is_booked h party) NotBooked b))))
    ∙ draw_lifts h draw (λ code. reply.Issued (card_of (next_card h) party (link_to h room code)))
    (λ code. event.Issue party room (next_card h) code))

-- the room of a party in house isn't one that nobody is registered at
not_free : (h : History) (party room : ℕ)
    → AtHome h → is_taken h room ≡ false → other_than room (room_of h party) ≡ room_of h party
not_free h party room at_home free = not_leaving room (room_of h party)
    (λ e. let w : true ≡ false = sym (ap is_some (at_home room party e)) ∙ free in cc)

pub transfer_lifts : (h : History) (party room : ℕ) → CurrentFound h → AtHome h → Lifts h (command.Transfer party room)
transfer_lifts h party room found at_home ahead =
    let there = needed (is_room h room) NoRoom in
    let draw : Draw = draw_from (issued_codes h) ahead in
    lifts_by h ahead (command.Transfer party room) (alike refl λ _. alike (ap (λ b. needs b NoRoom)
    (room_is_there h room)) λ r. alike (ap (λ b. needs b NoParty) (is_there (stays h) party)) λ _.
    alike refl λ _. alike (ap (λ b. needs b WrongKind) (kind_said h room party)) λ _. alike
    (ap (λ b. bars b SameRoom) (home_said h room party (there r))) λ _.
    alike (ap (λ b. bars b RoomTaken) (taken_said h room (there r))) λ f. alike
    (ap (λ b. bars b NumbersUsedUp) (last_number (length (cards h)))) λ _.
    issue_same h party room (room_of h party) draw found (there r) ∙ leaving h party room draw (room_of h party)
    (sym (not_free h party room at_home (barred (is_taken h room) RoomTaken f)))
    ∙ draw_lifts h draw (λ code. reply.Issued (card_of (next_card h) party (link_to h room code)))
    (λ code. event.Issue party room (next_card h) code))

pub reissue_lifts : (h : History) (party : ℕ) → CurrentFound h
    → ((room : ℕ) → room_of h party ≡ Some room → is_room h room ≡ true) → Lifts h (command.Reissue party)
reissue_lifts h party found home_there ahead =
    let draw : Draw = draw_from (issued_codes h) ahead in
    let room : ℕ = own_room h party in
    lifts_by h ahead (command.Reissue party)
    (alike refl λ _. alike (ap (λ b. needs b NoParty) (is_there (stays h) party)) λ _. alike refl λ n.
    alike (ap (λ b. bars b NumbersUsedUp) (last_number (length (cards h)))) λ _.
    let home : room_of h party ≡ Some room =
    some_number (room_of h party) (needed (is_in_house h party) NotInHouse n) in
    issue_same h party room None draw found (home_there room home)
    ∙ leaving h party room draw None (sym (ap (other_than room) home ∙ itself_leaves room))
    ∙ draw_lifts h draw (λ code. reply.Issued (card_of (next_card h) party (link_to h room code)))
    (λ code. event.Issue party room (next_card h) code))

home_link : (h : History) (party room : ℕ)
    → HomeLink h → room_of h party ≡ Some room → home_link_on (rows_of h) party ≡ last_card_of h party
home_link h party room found e = ap (λ o. said_of o no_link (λ link. link)) (sym (found party room e))

in_house_by : (h : History) (party : ℕ) (o : Option ℕ) → HomeLink h → room_of h party ≡ o
    → needs (is_some o) NotInHouse ≡ None → home_link_on (rows_of h) party ≡ last_card_of h party
in_house_by h party (Some room) found e n = home_link h party room found e
in_house_by h party None found e n = cc

pub spare_lifts : (h : History) (party : ℕ) → HomeLink h → Lifts h (command.Spare party)
spare_lifts h party found ahead =
    lifts_by h ahead (command.Spare party)
    (alike refl λ _. alike (ap (λ b. needs b NoParty) (is_there (stays h) party)) λ _. alike refl λ n.
    alike (ap (λ b. bars b NumbersUsedUp) (last_number (length (cards h)))) λ _.
    ap (λ link. accepted (reply.Issued (card_of (next_card h) party link))
    (change.Spare (card_of (next_card h) party link))) (in_house_by h party (room_of h party) found refl n))
