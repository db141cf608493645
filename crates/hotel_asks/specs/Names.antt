-- The names of values, as users read them, and of the values of each verb.
use Rattle.std.specs.Prelude.{ℕ, List, [], ◌∷◌, codes}
use Rattle.hotel_asks.specs.{declared.values.ValueName.ValueName, declared.verbs.Verb.Verb}
use Rattle.hotel_asks.specs.declared.values.ValueName.TheVariants.{Day, Kind, Arrive, Nights, Guest, Room, Lock, Party}
use Rattle.hotel_asks.specs.declared.values.ValueName.TheVariants.{Card, Count, Old, New, From, To, Moment, File, Port}
use Rattle.hotel_asks.specs.declared.verbs.Verb.TheVariants as verb

-- The name of a value, in capital letters.
abbrev pub name_text : ValueName → List ℕ
name_text Day = codes "DAY"
name_text Kind = codes "KIND"
name_text Arrive = codes "ARRIVE"
name_text Nights = codes "NIGHTS"
name_text Guest = codes "GUEST"
name_text Room = codes "ROOM"
name_text Lock = codes "LOCK"
name_text Party = codes "PARTY"
name_text Card = codes "CARD"
name_text Count = codes "COUNT"
name_text Old = codes "OLD"
name_text New = codes "NEW"
name_text From = codes "FROM"
name_text To = codes "TO"
name_text Moment = codes "MOMENT"
name_text File = codes "FILE"
name_text Port = codes "PORT"

-- The values of a verb, in their order.
abbrev pub names_of : Verb → List ValueName
names_of verb.Begin = Day ∷ []
names_of verb.AddKind = Kind ∷ []
names_of verb.AddRoom = Room ∷ Kind ∷ []
names_of verb.Reserve = Kind ∷ Arrive ∷ Nights ∷ Guest ∷ []
names_of verb.Cancel = Party ∷ []
names_of verb.CheckIn = Party ∷ Room ∷ []
names_of verb.Spare = Party ∷ []
names_of verb.Reissue = Party ∷ []
names_of verb.Transfer = Party ∷ Room ∷ []
names_of verb.CheckOut = Party ∷ []
names_of verb.Refit = Room ∷ []
names_of verb.NextDay = []
names_of verb.Entered = Lock ∷ Count ∷ Card ∷ Old ∷ New ∷ Moment ∷ []
names_of verb.Left = Lock ∷ Count ∷ Card ∷ Old ∷ New ∷ Moment ∷ []
names_of verb.Recoded = Lock ∷ Count ∷ From ∷ To ∷ Moment ∷ []
names_of verb.Arrivals = Day ∷ []
names_of verb.InHouse = []
names_of verb.ChainOf = Room ∷ []
names_of verb.LeftBehind = []
names_of verb.AuditOf = Room ∷ []
names_of verb.BusinessDay = []
names_of verb.RoomStatus = []
names_of verb.Inside = []
names_of verb.Bookings = []
names_of verb.Availability = Day ∷ Nights ∷ []
names_of verb.CardsGiven = Party ∷ []
names_of verb.CardOf = Card ∷ []
names_of verb.Locks = []
