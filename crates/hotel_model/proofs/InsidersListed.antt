-- Each card that is inside a room is there, so that the list of the cards inside has it.
use Rattle.std.proofs.Common.{◌≡◌, Bool, true, false, Option, Some, None, List, [], ◌∷◌, map, filter_map}
use Rattle.std.proofs.Common.{option_map, refl, ap, ◌∙◌}
use Rattle.hotel_model.proofs.Names.{History, at_number, cards, cons_option, fits_inside, insiders, list_all}
use Rattle.hotel_model.proofs.Names.{rows_of, said_of}
use Rattle.hotel_model.specs.declared.list_rows.InsideRow.{InsideRow}
use Rattle.hotel_model.specs.{FurtherLaws.InsidersAreListed, Lists.inside_row, Rows.InsideKey, Rows.room_is}
use Rattle.hotel_model.specs.SoundNotes.{card_is}
use Rattle.hotel_model.proofs.{OfTables.Tests.and_true, SoundRows.SoundInside.all_inside_fit}

-- what passes a test is there
there : {X : Type 0} (o : Option X) (test : X → Bool) → said_of o false test ≡ true
    → (x : X) × (o ≡ Some x) × (test x ≡ true)
there (Some x) test e = (x, refl, e)
there None test e = cc e

listed : (h : History) (es : List InsideKey)
    → list_all (λ (e : InsideKey). room_is (rows_of h) e.0 (λ row. card_is (rows_of h) e.1
    (fits_inside (rows_of h) e.0 row))) es ≡ true
    → map (λ (row : InsideRow). (row.room, row.card)) (filter_map (inside_row h) es) ≡ es
listed h [] all = refl
listed h (e ∷ es) all =
    let p = and_true _ _ all in
    let row = there (at_number (rows_of h).rooms e.0) _ p.0 in
    let card = there (at_number (cards h) e.1) _ row.2 in
    let found : inside_row h e ≡ Some (record { room = e.0; card = e.1; party = card.0.party }) =
    ap (option_map (λ c. let r : InsideRow = record { room = e.0; card = e.1; party = c.party } in r)) card.1 in
    ap (λ (o : Option InsideRow). map (λ (r : InsideRow). (r.room, r.card))
    (cons_option o (filter_map (inside_row h) es))) found
    ∙ ap (λ (keys : List InsideKey). e ∷ keys) (listed h es p.1)

pub insiders_are_listed : InsidersAreListed
insiders_are_listed h ok = listed h (insiders h) (all_inside_fit h ok)
