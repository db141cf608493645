-- How what is read off a history changes with one more event.
use Rattle.std.proofs.Common.{ℕ, ◌≡◌, Bool, true, false, refl, sym, ap, ◌∙◌}
use Rattle.hotel_model.proofs.{Names.Event, Names.History, Names.◌▷◌, Names.is_room, Names.Reached}
use Rattle.hotel_model.proofs.{Facts.Follow.MayFollow, Invariants.Following.answers_follow}
use Rattle.hotel_model.proofs.OfTables.Tests.{not_both}

-- what the last event needed
pub may_follow : (h : History) (event : Event) → Reached (h ▷ event) → MayFollow h event
may_follow h event ok = answers_follow h ok.1 ok.2 event ok.3

-- an event at a room that is there is none of a room that isn't
pub not_here : (b : Bool) (h : History) (room r : ℕ)
    → (b ≡ true → room ≡ r) → is_room h room ≡ true → is_room h r ≡ false → b ≡ false
not_here true h room r here t f = not_both (is_room h r) (ap (is_room h) (sym (here refl)) ∙ t) f
not_here false h room r here t f = refl
