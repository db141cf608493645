use Rattle.std.proofs.Common.{◌-◌, length, drop}
use Rattle.hotel_rows.specs.CodePlaces.{PlacesOf}
use Rattle.hotel_rows.proofs.damage.code_places.place_codes.Given as goal

abbrev pub invariant-loop-k : goal.invariant-loop-k
invariant-loop-k l = PlacesOf l.placed.entries (drop (length l.codes - l.k) l.codes)
