-- The building in which the scenes begin: a room, and the card of its guest.
use Rattle.hotel_nights.specs.FullNight.{nights_taken, first_day}
use Rattle.std.proofs.Common.{ℕ, ◌*◌, refl, lit≤, lit<, List, ◌∷◌, []}
use Rattle.std.specs.Str.{is_utf8, chars}
use lib.Utf8.{encode}
use Rattle.hotel_model.specs.{Answer.answer_to}
use Rattle.keycard_rules.specs.Draw.{draw_from}
use Rattle.hotel_model.proofs.SoundRows.NoRows.{none_sound}
use Rattle.hotel_model.specs.Scenes.Words.{may, a0, a1, a2, DBL, ann_lee, begin, add_kind, add_room, reserve, check_in}
use Rattle.hotel_building.specs.Building.{Reachable}
use Rattle.hotel_building.specs.Scenes.Lines.{played}
use Rattle.hotel_building.specs.Scenes.LateLog.{opening}
use Rattle.hotel_building.specs.Faults.{ReachableBut}
use Rattle.hotel_building.proofs.Faults.{no_fault_is_one}

-- the words that give one code
abbrev pub words : ℕ → List ℕ
words code = code * 65536 ∷ []

-- the building in which Ann has a card
pub opened : Reachable (played (a0 ∷ a1 ∷ []) a2 opening).building
unfolding answer_to draw_from nights_taken first_day is_utf8 chars encode
opened = (
  (
    (
      (
        (
          none_sound,
          ((refl, [], begin (may 1), refl, lit≤ tt), tt),
        ),
        ((refl, [], add_kind DBL, refl, refl), tt),
      ),
      ((refl, words a0, add_room 101 DBL, refl, ((lit≤ tt, lit≤ tt), lit< tt)), tt),
    ),
    ((refl, [], reserve DBL (may 1) 2 ann_lee, refl, (refl, lit< tt, lit≤ tt, lit≤ tt)), tt),
  ),
  ((refl, words a1, check_in 1 101, refl, lit< tt), tt),
)

-- it is one whose doors may fail, too
pub opened_but : ReachableBut (played (a0 ∷ a1 ∷ []) a2 opening).building
opened_but = (no_fault_is_one (played (a0 ∷ a1 ∷ []) a2 opening).building opened).0
