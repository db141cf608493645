use Rattle.hotel_nights.specs.FullNight.{nights_taken, first_day}
use Rattle.std.proofs.Common.{refl, ◌≡◌, ℕ, List, [], ◌∷◌, ap, ◌∙◌, Bool, Option, Some, None}
use Rattle.std.specs.Prelude.{option_map, length, nat_le}
use Rattle.hotel_nights.specs.declared.stay.Stay.{Stay}
use Rattle.hotel_model.specs.Event.{Event}
use Rattle.hotel_model.specs.History.{History}
use Rattle.hotel_model.specs.Stays.{first_full}
use Rattle.keycard_rules.specs.declared.card.Card.{Card}
use Rattle.hotel_model.specs.declared.command.Command.{Command}
use Rattle.hotel_model.specs.declared.reply.Refusal.TheVariants.{KindFull, NumbersUsedUp}
use Rattle.hotel_model.specs.Cases.{cards_used_up, parties_used_up}
use Rattle.hotel_model.specs.Outcome.{Outcome, unless, bars, refused}
use Rattle.hotel_model.specs.Answer.{effect}
use Rattle.hotel_model.specs.Scenes.Words.{may, DBL, guest, check_in, spare, reissue, transfer, reserve}
use Rattle.hotel_model.specs.Scenes.TwoRefusals.{busy, with_cards, with_stays}
use Rattle.std.specs.Str.{is_utf8, chars}
use lib.Utf8.{encode}
use Rattle.hotel_model.specs.Answer.{answer_to}
use Rattle.keycard_rules.specs.Draw.{draw_from}
use Rattle.hotel_model.proofs.scenes.two_refusals.Goals as goal

pub returns-clause-at_once : goal.returns-clause-at_once
unfolding answer_to draw_from nights_taken first_day is_utf8 chars encode
returns-clause-at_once c = ((refl, refl, refl), refl, refl, refl, refl, refl, refl, refl, refl, refl, refl)

-- Where the numbers of cards are all that is left to check, and are used up.
cards_end : (command : Command) (cards : List (ℕ × Card)) → length cards ≡ 9999999
    → unless (bars (cards_used_up (with_cards cards)) NumbersUsedUp ∷ []) (effect (with_cards cards) busy.ahead command)
    ≡ refused NumbersUsedUp
cards_end command cards full =
    ap (λ b. unless (bars b NumbersUsedUp ∷ []) (effect (with_cards cards) busy.ahead command))
    (ap (λ n. nat_le 9999999 n) full)

pub returns-clause-cards_used_up : goal.returns-clause-cards_used_up
unfolding answer_to draw_from nights_taken first_day is_utf8 chars encode
returns-clause-cards_used_up c = λ cards full. (
  refl,
  cards_end (check_in 6 102) cards full,
  refl,
  cards_end (spare 1) cards full,
  refl,
  cards_end (reissue 1) cards full,
  refl,
  cards_end (transfer 1 102) cards full,
)

-- What is left of a booking's checks: whether a night is full, and then whether the numbers of parties are used up.
abbrev left : History → Option ℕ → Bool → Outcome Event
left h night full = unless (option_map KindFull night ∷ bars full NumbersUsedUp ∷ [])
    (effect h busy.ahead (reserve DBL (may 2) 1 guest))

is_left : (stays : List (ℕ × Stay)) → answer_to (with_stays stays) busy.ahead (reserve DBL (may 2) 1 guest)
    ≡ left (with_stays stays) (first_full (with_stays stays) DBL (may 2) 1) (parties_used_up (with_stays stays))
unfolding answer_to draw_from nights_taken first_day is_utf8 chars encode
is_left stays = refl

night_full : (stays : List (ℕ × Stay)) → first_full (with_stays stays) DBL (may 2) 1 ≡ Some (may 2)
    → answer_to (with_stays stays) busy.ahead (reserve DBL (may 2) 1 guest) ≡ refused (KindFull (may 2))
night_full stays night = is_left stays ∙ ap (λ o. left (with_stays stays) o (parties_used_up (with_stays stays))) night

parties_end : (stays : List (ℕ × Stay)) → length stays ≡ 9999999 → first_full (with_stays stays) DBL (may 2) 1 ≡ None
    → answer_to (with_stays stays) busy.ahead (reserve DBL (may 2) 1 guest) ≡ refused NumbersUsedUp
parties_end stays full free =
    is_left stays ∙ ap (λ o. left (with_stays stays) o (parties_used_up (with_stays stays))) free
    ∙ ap (λ n. left (with_stays stays) None (nat_le 9999999 n)) full

pub returns-clause-parties_used_up : goal.returns-clause-parties_used_up
returns-clause-parties_used_up c = λ stays full. (night_full stays, parties_end stays full)

pub returns-clause-of_fits : goal.returns-clause-of_fits
unfolding answer_to draw_from nights_taken first_day is_utf8 chars encode
returns-clause-of_fits c = ((refl, refl, refl), (refl, refl), (refl, refl), refl, refl, refl, refl, refl)
