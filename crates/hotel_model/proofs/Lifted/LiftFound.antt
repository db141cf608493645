-- Look-ups of codes find what the lifts of commands need.
use Rattle.std.proofs.Common.{◌+◌, false, Option, refl, ap, sym, ◌∙◌, length, ◌==◌, ◌&&◌, nat_lt}
use Rattle.hotel_model.proofs.Names.{CodeRow, said_of, at_number, Moment, History, issued, all_issued, notes_of}
use Rattle.hotel_model.proofs.Names.{present_fit, Reached}
use Rattle.hotel_model.proofs.Invariants.CodesFound as found
use Rattle.hotel_model.proofs.Lifted.LiftFacts.{CodesFound, AwaitedFound, EnteredPlace, EnteredCurrent, RecodedPlace}
use Rattle.hotel_model.proofs.{Invariants.LiftHomes.home_link_found, Lifted.LiftRooms.place_said}

awaited_found : (h : History) → Reached h → AwaitedFound h
awaited_found h ok room code there =
    ap (λ n. said_of (at_number (all_issued h) code) false (λ row. (row.room == room) && nat_lt n row.place))
    (place_said h room there)
    ∙ sym (found.awaited_by_place h ok room code there)

entered_place : (h : History) → Reached h → EnteredPlace h
entered_place h ok room fit count number link at r k l o =
    ap (λ (row : Option CodeRow). said_of row 0 (λ x. x.place)) (found.entered_place h ok room (present_fit h room)
    (length (notes_of h room (present_fit h room)) + 1) number link at (refl, r, k, l, o, refl))

entered_current : (h : History) → Reached h → EnteredCurrent h
entered_current h ok room number link r k l o =
    let at : Moment = (0, 0) in
    ap (λ n. n + 1 == length (issued h room)) (entered_place h ok room (present_fit h room)
    (length (notes_of h room (present_fit h room)) + 1) number link at r k l o)
    ∙ sym (found.entered_current h ok room (present_fit h room)
    (length (notes_of h room (present_fit h room)) + 1) number link at (refl, r, k, l, o, refl))

recoded_place : (h : History) → Reached h → RecodedPlace h
recoded_place h ok room fit count from to at r f a =
    ap (λ (row : Option CodeRow). said_of row 0 (λ x. x.place)) (found.recoded_place h ok room (present_fit h room)
    (length (notes_of h room (present_fit h room)) + 1) from to at (refl, r, f, a, refl))

pub codes_found : (h : History) → Reached h → CodesFound h
codes_found h ok = record {
  held = found.held_found h ok;
  current = found.current_found h ok;
  awaited = awaited_found h ok;
  home_link = home_link_found h ok;
  entered_place = entered_place h ok;
  entered_current = entered_current h ok;
  recoded_place = recoded_place h ok;
}
