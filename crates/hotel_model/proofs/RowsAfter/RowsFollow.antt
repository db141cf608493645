-- The rows after one more event are those that its change makes.
use Rattle.std.proofs.Common.{refl}
use Rattle.hotel_model.proofs.Names.{Event, Begun, Kind, Install, Reserved, Cancelled, Issue, Refitted, Spare, CheckOut}
use Rattle.hotel_model.proofs.Names.{NextDay, Entered, Left, Recoded, History, ◌▷◌, Reached}
use Rattle.hotel_model.proofs.{Facts.Follow.FollowsBy, Facts.Follow.MayFollow, OfTables.RoomNumbers.rooms_once}
use Rattle.hotel_model.proofs.{RowsAfter.RowsEasy.next_day_follows, RowsAfter.RowsEasy.spare_follows}
use Rattle.hotel_model.proofs.{RowsAfter.RowsIssue.install_follows}
use Rattle.hotel_model.proofs.{RowsAfter.RowsLeft.check_out_follows, RowsAfter.RowsLeft.issue_follows}
use Rattle.hotel_model.proofs.{RowsAfter.RowsNoted.entered_follows, RowsAfter.RowsNoted.recoded_follows}
use Rattle.hotel_model.proofs.{RowsAfter.RowsNoted.left_follows, RowsAfter.RowsRefit.refit_follows}
use Rattle.hotel_model.proofs.{Invariants.NotesOfFits.next_number, Invariants.HomeRooms.comes_to_room}
use Rattle.hotel_model.proofs.{Invariants.InHouseLinks.in_house_has_link, OfTables.Grown.may_follow}

follows_where : (h : History) (event : Event) → Reached h → MayFollow h event → FollowsBy h event
follows_where h (Begun day) ok n = refl
follows_where h (Kind kind) ok n = refl
follows_where h (Install room kind code) ok n = install_follows h room code kind ok n.1
follows_where h (Reserved party guest kind arrive depart) ok n = refl
follows_where h (Cancelled party) ok n = refl
follows_where h (Issue party room number code) ok n =
    issue_follows h party room number code ok (comes_to_room h party room ok n.0)
follows_where h (Spare party number) ok n = spare_follows h party number (in_house_has_link h ok party n.1)
follows_where h (CheckOut party) ok n = check_out_follows h party ok n.1
follows_where h (Refitted room fit code) ok n = refit_follows h room fit code ok n.0
follows_where h NextDay ok n = next_day_follows h n.0
follows_where h (Entered room fit count number link at) ok n =
    entered_follows h room fit count number link at ok n.1 (next_number h ok room fit count n.0 n.5)
follows_where h (Left room fit count number link at) ok n =
    left_follows h room fit count number link at (rooms_once h ok) n.1 (next_number h ok room fit count n.0 n.5)
follows_where h (Recoded room fit count from to at) ok n =
    recoded_follows h room fit count from to at ok n.1 (next_number h ok room fit count n.0 n.4)

-- The rows after one more event are those that its change makes.
pub made_follow : (h : History) (event : Event) → Reached (h ▷ event) → FollowsBy h event
made_follow h event ok = follows_where h event ok.0 (may_follow h event ok)
