use Rattle.std.proofs.Common.{◌≡◌, drop, take, map}
use Rattle.std.specs.List.{list_all}
use Rattle.hotel_nights.specs.Kinds.{is_kind}
use Rattle.hotel_rows.specs.Stored.{kind_text}
use Rattle.hotel_rows.specs.RowTests.{HasKinds}
use Rattle.hotel_rows.proofs.damage.kinds.read_kinds.Given as goal

abbrev pub invariant-loop-i : goal.invariant-loop-i
invariant-loop-i l =
    (list_all is_kind (map kind_text l.kinds) ≡ list_all is_kind (map kind_text (drop l.i l.kinds)))
    × HasKinds l.known.entries (map kind_text (take l.i l.kinds))
