use Rattle.std.proofs.Common.{◌≡◌, ◌∙◌, ◌<◌, ◌^◌, ap, length, take, map, arith, rules, get_or}
use Rattle.std.proofs.lemmas.List.{length-map, length-take}
use Rattle.hotel_books.specs.NightIndex.{counted}
use Rattle.hotel_books.proofs.OfNights.NightsStanding.{none_stand, counts_fit}
use Rattle.hotel_rows.specs.Stored.{stay_entry, stay_row}
use Rattle.hotel_rows.proofs.OfCounts.{more_stays}
use Rattle.hotel_rows.proofs.counts.count_nights.Goals as goal

pub loop-i-init : goal.loop-i-init
loop-i-init c = λ kind d. ap (λ es. counted es kind d) c.empty-nights.ensures ∙ none_stand kind d

pub loop-i-preserved : goal.loop-i-preserved
loop-i-preserved c =
    let all = c.args.stored.now.stay in
    let stays = all.items in
    let low : c.loop-i.i < length stays = omega (arith, c.loop-i-test.true, c.len-i-end.ensures, all.ok.0) in
    let at : c.index.result.now ≡ get_or stays c.loop-i.i c.index.result.now = search rules in
    let es = map stay_entry (take c.loop-i.i stays) in
    let few : length es < 2 ^ 63 = omega (
      arith,
      length-map (take c.loop-i.i stays) stay_entry,
      length-take c.loop-i.i stays,
      all.ok.0,
      all.ok.1,
      all.small,
      c.loop-i-test.true,
      c.len-i-end.ensures,
    ) in
    more_stays c.loop-i.nights c.count_stay.new.nights stays c.loop-i.i c.index.result.now
    (stay_row c.index.result.now) low c.loop-i.invariant (ap stay_row at)
    (λ kind n. c.in_ok-count_stay.ensures.ok kind n (counts_fit c.loop-i.nights es kind n c.loop-i.invariant few))
