-- Nothing happened at a number that is no room's.
use Rattle.std.proofs.Common.{ℕ, ◌≡◌, false, [], ap, ◌∙◌}
use Rattle.hotel_model.proofs.Names.{Note, when, and_last, Install, Entered, Left, Recoded, History, start, ◌▷◌, issued}
use Rattle.hotel_model.proofs.Names.{passed, notes, note_from, Reached, is_room}
use Rattle.keycard_rules.specs.declared.note.Act.TheVariants as act
use Rattle.hotel_model.proofs.OfTables.Grown.{may_follow}
use Rattle.hotel_model.proofs.{Invariants.RoomCodes.others_have_none, Invariants.HomeRooms.apart_rooms}
use Rattle.hotel_model.proofs.{Invariants.HomeRooms.not_added, Starts.StartNotes.nothing_noted_at_start}

pub nothing_issued : (h : History) → Reached h → (r : ℕ) → is_room h r ≡ false → issued h r ≡ []
nothing_issued h ok r e = (others_have_none h ok r e).0

pub nothing_passed : (h : History) → Reached h → (r : ℕ) → is_room h r ≡ false → passed h r ≡ []
nothing_passed h ok r e = (others_have_none h ok r e).1

pub nothing_noted : (h : History) → Reached h → (r : ℕ) → is_room h r ≡ false → notes h r ≡ []
nothing_noted (start t) ok r e = nothing_noted_at_start t ok r e
nothing_noted (h ▷ Install room kind code) ok r e = nothing_noted h ok.0 r (not_added h room r code kind e).1
nothing_noted (h ▷ Entered room fit count number link at) ok r e =
    let note : Note = note_from room fit count (act.Entered number link) at in
    ap (λ b. when b (and_last note) (notes h r))
    (apart_rooms h room r (may_follow h (Entered room fit count number link at) ok).1 e) ∙ nothing_noted h ok.0 r e
nothing_noted (h ▷ Left room fit count number link at) ok r e =
    let note : Note = note_from room fit count (act.Left number link) at in
    ap (λ b. when b (and_last note) (notes h r))
    (apart_rooms h room r (may_follow h (Left room fit count number link at) ok).1 e) ∙ nothing_noted h ok.0 r e
nothing_noted (h ▷ Recoded room fit count from to at) ok r e =
    let note : Note = note_from room fit count (act.Recoded from to) at in
    ap (λ b. when b (and_last note) (notes h r))
    (apart_rooms h room r (may_follow h (Recoded room fit count from to at) ok).1 e) ∙ nothing_noted h ok.0 r e
nothing_noted (h ▷ _) ok r e = nothing_noted h ok.0 r e
