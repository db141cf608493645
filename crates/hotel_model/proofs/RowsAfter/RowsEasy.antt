-- The rows after events that touch no room.
use Rattle.std.proofs.Common.{ℕ, ◌≡◌, ◌+◌, List, true, Option, Some, None, refl, ap, option_map, is_some, nat_cmp}
use Rattle.hotel_model.proofs.Names.{Link, Card, said_of, NextDay, Spare, History, rows_of, cards, with_spare}
use Rattle.hotel_model.proofs.Names.{link_of_party, card_of, is_begun, no_link, day, insert_entry}
use Rattle.hotel_model.proofs.Facts.Follow.{FollowsBy}

next_day : (o : Option ℕ) → is_some o ≡ true → option_map (λ d. d + 1) o ≡ Some (said_of o 0 (λ d. d) + 1)
next_day (Some d) h = refl
next_day None h = cc

pub next_day_follows : (h : History) → is_begun h ≡ true → FollowsBy h NextDay
next_day_follows h b = ap (λ d. record (rows_of h) { day = d }) (next_day (day h) b)

spare_card : (o : Option Link) (number party : ℕ) (all : List (ℕ × Card))
    → is_some o ≡ true → with_spare number party o all
    ≡ insert_entry nat_cmp all number (card_of number party (said_of o no_link (λ link. link)))
spare_card (Some link) number party all h = refl
spare_card None number party all h = cc

pub spare_follows : (h : History) (party number : ℕ)
    → is_some (link_of_party h party) ≡ true → FollowsBy h (Spare party number)
spare_follows h party number s =
    ap (λ cs. record (rows_of h) { cards = cs }) (spare_card (link_of_party h party) number party (cards h) s)
