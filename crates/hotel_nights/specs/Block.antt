-- Stays that begin or end within a block of nights: those from `first` on and before `after`.
use Rattle.std.specs.Prelude.{ℕ, Bool, ◌-◌, ◌&&◌, not, cond, List, nat_lt}
use Rattle.hotel_nights.specs.{declared.stay.Stay.Stay, FullNight.takes}

-- the stay takes the night before `d`, and that night is of the block
abbrev pub was_taken : List ℕ → ℕ → ℕ → Stay → Bool
was_taken kind first d stay = nat_lt first d && takes kind (d - 1) stay

-- the stay takes the night `d` of the block, and took none before it there
abbrev pub begins : List ℕ → ℕ → ℕ → ℕ → Stay → Bool
begins kind first after d stay = nat_lt d after && (takes kind d stay && not (was_taken kind first d stay))

-- the stay takes the night before `d`, and not this one, which is of the block
abbrev pub ends : List ℕ → ℕ → ℕ → ℕ → Stay → Bool
ends kind first after d stay = nat_lt d after && (was_taken kind first d stay && not (takes kind d stay))

-- one where the test holds, and else none
abbrev pub one_if : Bool → ℕ
one_if b = cond b 1 0
