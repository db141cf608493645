use Rattle.std.proofs.Common.{ap, ◌∙◌}
use Rattle.std.specs.List.{list_all}
use Rattle.hotel_rows.specs.RowTests.{is_room_number}
use Rattle.hotel_rows.proofs.OfCounts.Countable.{rooms_numbered}
use Rattle.hotel_tables.specs.Opening.{rooms_for}
use Rattle.hotel_tables.proofs.Opened.{opened, fits_memory}
use Rattle.hotel_tables.proofs.opening.found_in.Goals as goal

pub returns-in-Ok-clause-ok : goal.returns-in-Ok-clause-ok
returns-in-Ok-clause-ok c = λ db read.
    let version = c.args.version in
    let counted = c.in_ok-counts.ensures.ok in
    opened version c.in_ok-stored.stored db _ (c.in_ok-stored.ensures.ok db read)
    (counted.0, counted.1, counted.2, c.in-Ok.ensures.ok ∙ ap (rooms_for version) c.deref.ensures.value)

pub returns-clause-err : goal.returns-clause-err
returns-clause-err c = λ db read.
    let numbers = ap (list_all is_room_number) c.deref.ensures.value
    ∙ rooms_numbered c.in_ok-stored.stored c.in_ok-counts.ensures.ok.1 in
    rw c.open_fault.ensures (fits_memory ⊥ c.args.version db c.in-Err.why (c.in-Err.ensures.err numbers))
