-- Moments: a day and a second of it.
use Rattle.std.specs.Prelude.{ℕ, ◌+◌, ◌*◌, ◌/◌, ◌%◌, ◌&&◌, ◌||◌, ◌==◌, List, ◌∷◌, ◌++◌, length, if◌then◌else◌, nat_le}
use Rattle.std.specs.Prelude.{Option, Some, None, slice_index, slice_range}
use Rattle.keycard_rules.specs.{Numerals.numeral, Numerals.fixed_text, Note.Note, declared.note.Act.Act}
use Rattle.keycard_rules.specs.declared.note.TheConstants.{LAST_SECOND}
use Rattle.hotel_nights.specs.Days.{read_day, day_text, ◌>>=◌}

-- a day, and a second of it
abbrev pub Moment : Type 0
Moment = ℕ × ℕ

-- the moment of a note
abbrev pub moment_of : Note → Moment
moment_of note = (note.day, note.second)

-- the note of a room's lock, by its count and what it says at a moment
abbrev pub note_from : ℕ → ℕ → ℕ → Act → Moment → Note
note_from room fit count act at =
    record { room = room; fit = fit; count = count; act = act; day = at.0; second = at.1 }

-- that second of the day, unless a day has fewer
abbrev pub moment_within : ℕ → ℕ → Option Moment
moment_within day second = if nat_le second LAST_SECOND then Some (day, second) else None

-- the second of the day that `HH:MM:SS` writes: eight bytes, colons (byte 58), hours to 23, minutes and seconds to 59
abbrev pub read_time : List ℕ → Option ℕ
read_time text =
    if (length text == 8) && (slice_index text 2 == 58) && (slice_index text 5 == 58) then (do
      h ← numeral 10 2 (slice_range text 0 2)
      m ← numeral 10 2 (slice_range text 3 5)
      s ← numeral 10 2 (slice_range text 6 8)
      if nat_le h 23 && nat_le m 59 && nat_le s 59 then Some (h * 3600 + m * 60 + s) else None)
    else None

-- the moment that `YYYY-MM-DDTHH:MM:SS` writes: 19 bytes, with `T` (byte 84) or a space (byte 32) between a day and a
-- time
abbrev pub read_moment : List ℕ → Option Moment
read_moment text =
    if (length text == 19) && ((slice_index text 10 == 84) || (slice_index text 10 == 32)) then (do
      d ← read_day (slice_range text 0 10)
      s ← read_time (slice_range text 11 19)
      Some (d, s))
    else None

-- a second of the day as `HH:MM:SS`
abbrev pub time_text : ℕ → List ℕ
time_text s = fixed_text 10 2 (s / 3600) ++ (58 ∷ (fixed_text 10 2 (s / 60 % 60) ++ (58 ∷ fixed_text 10 2 (s % 60))))

-- the text of a moment: its day, `T` and its time
abbrev pub moment_text : Moment → List ℕ
moment_text m = day_text m.0 ++ (84 ∷ time_text m.1)
