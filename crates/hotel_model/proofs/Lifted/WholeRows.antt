-- What whole rows have.
use Rattle.std.proofs.Common.{ℕ, ◌≡◌, ◌-◌, Option, Some, None, IsSome, refl}
use Rattle.hotel_model.proofs.Names.{false≢true, RoomRow, said_of, Rows, room_at, code_at, home_on, AreWhole, HasLink}

last_code_at : (rs : Rows) (room : ℕ) → AreWhole rs → (o : Option RoomRow)
    → room_at rs room ≡ o → IsSome o → IsSome (code_at rs room (said_of o 0 (λ row. row.codes) - 1))
last_code_at rs room w (Some row) e s = w.current room row e
last_code_at rs room w None e s = absurd (false≢true s)

-- the room of a party in house has its last two codes
pub home_has_link : (rs : Rows) (party room : ℕ) → AreWhole rs → home_on rs party ≡ Some room → HasLink room rs
home_has_link rs party room w e =
    let there = w.homes party room e in
    (there.0, there.1, last_code_at rs room w (room_at rs room) refl there.0)
