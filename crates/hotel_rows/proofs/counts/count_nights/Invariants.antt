use Rattle.std.proofs.Common.{take, map}
use Rattle.std.specs.Map.{values_of}
use Rattle.hotel_books.specs.NightIndex.{CountsNights}
use Rattle.hotel_rows.specs.Stored.{stay_entry}
use Rattle.hotel_rows.proofs.counts.count_nights.Given as goal

abbrev pub invariant-loop-i : goal.invariant-loop-i
invariant-loop-i l = CountsNights l.nights (values_of (map stay_entry (take l.i l.stored.stay.items)))
