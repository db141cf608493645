-- Who is registered at a room, which cards are inside, and whether the room is secured.
use Rattle.std.specs.Prelude.{ℕ, Bool, true, false, List, [], ◌∷◌, Option, Some, None, ◌==◌, ◌&&◌, not, filter}
use Rattle.std.specs.BTreeMap.{is_at}
use Rattle.std.specs.BTreeSet.{insert_key}
use Rattle.std.specs.Set.{remove_key}
use Rattle.hotel_model.specs.Words.{when, other_than, said_of, pair_cmp}
use Rattle.hotel_model.specs.Rows.{InsideKey, at_number, room_is}
use Rattle.hotel_model.specs.Event.{Install, Issue, CheckOut, Refitted, Entered, Left}
use Rattle.hotel_model.specs.History.{History, start, ◌▷◌}
use Rattle.hotel_model.specs.Issued.{current}

-- The party that was last given a card with a new code at a room, until it checks out or is given one elsewhere.
abbrev pub registered : History → ℕ → Option ℕ
registered (start t) r = said_of (at_number t.rooms r) None (λ row. row.party)
registered (h ▷ Issue party room number code) r = when (room == r) (λ _. Some party) (other_than party (registered h r))
registered (h ▷ CheckOut party) r = other_than party (registered h r)
registered (h ▷ _) r = registered h r

-- the pairs of other rooms than this one
abbrev pub those_elsewhere : ℕ → List InsideKey → List InsideKey
those_elsewhere room pairs = filter (λ (e : InsideKey). not (e.0 == room)) pairs

-- The cards that are inside: they entered a room, and since then didn't leave it and it wasn't refitted.
abbrev pub insiders : History → List InsideKey
insiders (start t) = t.inside
insiders (h ▷ Refitted room fit code) = those_elsewhere room (insiders h)
insiders (h ▷ Entered room fit count number link at) = insert_key pair_cmp (insiders h) (room, number)
insiders (h ▷ Left room fit count number link at) = remove_key (is_at (pair_cmp (room, number))) (insiders h)
insiders (h ▷ _) = insiders h

-- the cards of these pairs that are at a room
abbrev pub those_in : List InsideKey → ℕ → List ℕ
those_in [] r = []
those_in (e ∷ es) r = when (e.0 == r) (λ numbers. e.1 ∷ numbers) (those_in es r)

-- The cards inside a room.
abbrev pub inside : History → ℕ → List ℕ
inside h r = those_in (insiders h) r

-- no numbers
abbrev pub are_none : List ℕ → Bool
are_none [] = true
are_none (n ∷ ns) = false

-- A room is secured when, since a code was last issued there, a card with the current code entered while no card was
-- inside.
abbrev pub secured : History → ℕ → Bool
secured (start t) r = room_is t r (λ row. row.secured)
secured (h ▷ Install room kind code) r = when (room == r) (λ _. false) (secured h r)
secured (h ▷ Issue party room number code) r = when (room == r) (λ _. false) (secured h r)
secured (h ▷ Refitted room fit code) r = when (room == r) (λ _. false) (secured h r)
secured (h ▷ Entered room fit count number link at) r =
    when ((room == r) && (link.new_code == current h room) && are_none (inside h room)) (λ _. true) (secured h r)
secured (h ▷ _) r = secured h r
