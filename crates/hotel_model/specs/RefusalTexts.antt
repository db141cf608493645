-- The texts of refusals.
use Rattle.std.specs.Prelude.{ℕ, List, [], ◌++◌, codes}
use Rattle.std.specs.Fmt.{decimal}
use Rattle.hotel_nights.specs.Days.{day_text}
use Rattle.hotel_model.specs.declared.reply.Refusal.{Refusal}
use Rattle.hotel_model.specs.declared.reply.Refusal.TheVariants as refusal

-- the number and the name of a refusal
abbrev pub refusal_name : Refusal → List ℕ
refusal_name refusal.NotBegun = codes "1 NotBegun"
refusal_name refusal.AlreadyBegun = codes "2 AlreadyBegun"
refusal_name refusal.KindExists = codes "3 KindExists"
refusal_name refusal.NoKind = codes "4 NoKind"
refusal_name refusal.RoomExists = codes "5 RoomExists"
refusal_name refusal.NoRoom = codes "6 NoRoom"
refusal_name refusal.NoParty = codes "7 NoParty"
refusal_name refusal.NotBooked = codes "8 NotBooked"
refusal_name refusal.NotInHouse = codes "9 NotInHouse"
refusal_name refusal.TooEarly = codes "10 TooEarly"
refusal_name refusal.StayOver = codes "11 StayOver"
refusal_name refusal.WrongKind = codes "12 WrongKind"
refusal_name refusal.SameRoom = codes "13 SameRoom"
refusal_name refusal.RoomTaken = codes "14 RoomTaken"
refusal_name refusal.PastArrival = codes "15 PastArrival"
refusal_name refusal.PastEnd = codes "16 PastEnd"
refusal_name (refusal.KindFull day) = codes "17 KindFull"
refusal_name refusal.NumbersUsedUp = codes "18 NumbersUsedUp"
refusal_name refusal.NoFreshCode = codes "19 NoFreshCode"
refusal_name refusal.LastDay = codes "20 LastDay"
refusal_name refusal.Conflict = codes "21 Conflict"
refusal_name (refusal.Gap expected) = codes "22 Gap"
refusal_name refusal.NoCard = codes "23 NoCard"
refusal_name refusal.CardDiffers = codes "24 CardDiffers"
refusal_name refusal.LockShut = codes "25 LockShut"
refusal_name refusal.NotInside = codes "26 NotInside"
refusal_name refusal.HeldDiffers = codes "27 HeldDiffers"
refusal_name refusal.NotAwaited = codes "28 NotAwaited"
refusal_name refusal.Memory = codes "29 Memory"
refusal_name refusal.Store = codes "30 Store"
refusal_name refusal.OldFit = codes "31 OldFit"
refusal_name refusal.NoFit = codes "32 NoFit"
refusal_name refusal.FitsUsedUp = codes "33 FitsUsedUp"

-- what a refusal says beyond its name: the first full night, or the count that was expected
abbrev pub refusal_detail : Refusal → List ℕ
refusal_detail (refusal.KindFull day) = codes " " ++ day_text day
refusal_detail (refusal.Gap expected) = codes " " ++ decimal expected
refusal_detail _ = []

-- the text of a refusal, without a line feed
abbrev pub refusal_text : Refusal → List ℕ
refusal_text why = codes "refused " ++ refusal_name why ++ refusal_detail why
