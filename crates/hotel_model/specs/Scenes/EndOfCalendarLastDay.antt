-- The scenario "end-of-calendar" on other books: no day after the last one.
use Rattle.std.specs.Prelude.{List, [], ◌∷◌}
use Rattle.keycard_rules.specs.declared.note.TheConstants.{LAST_DAY}
use Rattle.hotel_model.specs.declared.reply.Refusal.TheVariants.{LastDay}
use Rattle.hotel_model.specs.Scenes.Words.{a0, begin, next_day, begun, refused}
use Rattle.hotel_model.specs.Scenes.Lines.{Line, ◌⇒◌, Holds}

abbrev pub lines : List Line
lines =
    begin LAST_DAY ⇒ begun
    ∷ next_day ⇒ refused LastDay
    ∷ []

abbrev pub TheScene : Type 0
TheScene = Holds ([]) a0 lines
