use Rattle.std.proofs.Common.{rules, ◌≡◌, ◌∙◌, ◌<◌, true, length, get_or, subst}
use Rattle.hotel_books.specs.KindRooms.{is_there}
use Rattle.hotel_rows.specs.Stored.{kind_text}
use Rattle.hotel_books.proofs.OfNights.KindKeys.{known_there}
use Rattle.hotel_rows.proofs.OfCounts.{one_more_known}
use Rattle.hotel_rows.proofs.counts.name_kinds.Goals as goal

pub loop-i-preserved : goal.loop-i-preserved
loop-i-preserved c =
    let plain_rows = c.args.kinds.now in
    let it = c.index-kinds-i.result in
    let low : c.loop-i.i < length plain_rows = search rules in
    let named : c.in_ok-kind.kind ≡ kind_text (get_or plain_rows c.loop-i.i it) =
    c.in_ok-kind.ensures.ok ∙ c.as_str.ensures.value in
    let known = known_there c.in_ok-kind.kind c.loop-i.counts c.know_kind.new.self c.know_kind.ensures.same
    c.in-Ok.ensures.kinds in (
      (λ kind. c.in-Ok.ensures.rooms kind ∙ c.loop-i.invariant.0 kind),
      one_more_known c.loop-i.counts c.know_kind.new.self plain_rows c.loop-i.i it low c.loop-i.invariant.1
          (subst (λ k. is_there c.know_kind.new.self k ≡ true) named known.0) known.1,
    )
