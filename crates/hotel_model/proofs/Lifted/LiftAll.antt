-- Every command, lifted.
use Rattle.hotel_model.proofs.{Names.Command, Names.History, Names.Reached, Names.IsCommand, Names.Lifts}
use Rattle.hotel_model.proofs.{Lifted.LiftFacts.CodesFound, Lifted.LiftFound.codes_found}
use Rattle.hotel_model.specs.declared.command.Command.TheVariants as command
use Rattle.hotel_model.proofs.Lifted.LiftEasy.{begin_lifts, add_kind_lifts, next_day_lifts, cancel_lifts}
use Rattle.hotel_model.proofs.Lifted.LiftEasy.{check_out_lifts, add_room_lifts, refit_lifts, reserve_lifts}
use Rattle.hotel_model.proofs.{Lifted.LiftGuests.check_in_lifts, Lifted.LiftGuests.transfer_lifts}
use Rattle.hotel_model.proofs.{Lifted.LiftGuests.spare_lifts, Lifted.LiftGuests.reissue_lifts}
use Rattle.hotel_model.proofs.{Lifted.LiftNotes.note_lifts}
use Rattle.hotel_model.proofs.{Invariants.InHouse.homes_match, Invariants.HomeRooms.home_is_room}

answers_lift_where : (h : History) (command : Command) → Reached h → CodesFound h → IsCommand command → Lifts h command
answers_lift_where h (command.Begin day) ok found n = begin_lifts h day
answers_lift_where h (command.AddKind kind) ok found n = add_kind_lifts h kind
answers_lift_where h (command.AddRoom room kind) ok found n = add_room_lifts h room kind
answers_lift_where h (command.Reserve guest kind arrive nights) ok found n = reserve_lifts h guest kind arrive nights
answers_lift_where h (command.Cancel party) ok found n = cancel_lifts h party
answers_lift_where h (command.CheckIn party room) ok found n = check_in_lifts h party room found.current
answers_lift_where h (command.Spare party) ok found n = spare_lifts h party found.home_link
answers_lift_where h (command.Reissue party) ok found n =
    reissue_lifts h party found.current (λ room. home_is_room h party room ok)
answers_lift_where h (command.Transfer party room) ok found n =
    transfer_lifts h party room found.current (homes_match h ok).back
answers_lift_where h (command.CheckOut party) ok found n = check_out_lifts h party
answers_lift_where h (command.Refit room) ok found n = refit_lifts h room
answers_lift_where h command.NextDay ok found n = next_day_lifts h
answers_lift_where h (command.Reported note) ok found n = note_lifts h note ok found n.0.0

pub answers_lift : (h : History) (command : Command) → Reached h → IsCommand command → Lifts h command
answers_lift h command ok n = answers_lift_where h command ok (codes_found h ok) n
