use Rattle.std.proofs.Common.{◌-◌, filter_map}
use Rattle.hotel_books.proofs.{Names.range_with_len, Names.chain_row_on, OfCode.Walking.SoFar}
use Rattle.hotel_memory.proofs.tables.Tables.walk_places.Given as goal

abbrev pub invariant-loop-place : goal.invariant-loop-place
invariant-loop-place g l =
    SoFar g.S.Sink.after (filter_map (chain_row_on l.self l.row) (range_with_len 0 l.row.codes))
    (filter_map (chain_row_on l.self l.row) (range_with_len l.place (l.row.codes - l.place))) l.initial.sink l.sink
