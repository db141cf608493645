-- A lock that counts its notes up to a last one, and knows from them which cards are inside.
use Rattle.std.specs.Prelude.{ℕ, Bool, false, ◌==◌, ◌&&◌, ◌||◌, not, List, [], ◌∷◌, Option, Some, None, nat_lt}
use Rattle.std.specs.Prelude.{if◌then◌else◌, option_map}
use Rattle.keycard_rules.specs.declared.card.Link.{Link}
use Rattle.keycard_rules.specs.declared.note.Act.{Act}
use Rattle.keycard_rules.specs.declared.note.Act.TheVariants.{Entered, Left, Recoded}
use Rattle.keycard_rules.specs.declared.numbers.TheConstants.{LAST_NUMBER}
use Rattle.keycard_rules.specs.Note.{Note}
use Rattle.hotel_lock.specs.Door.{Lock, Noted, acts, enters, leaves, is_set}

-- the same card: its number and both its codes
abbrev pub is_same_card : ℕ → Link → ℕ → Link → Bool
is_same_card number link other its =
    (other == number) && (its.old_code == link.old_code) && (its.new_code == link.new_code)

-- whether the card is inside behind an act, where it was or wasn't before
abbrev pub inside_behind : ℕ → Link → Bool → Act → Bool
inside_behind number link was (Entered other its) = is_same_card number link other its || was
inside_behind number link was (Left other its) = not (is_same_card number link other its) && was
inside_behind number link was (Recoded from to) = was

-- the same behind these notes
abbrev pub inside_after : ℕ → Link → Bool → List Note → Bool
inside_after number link was [] = was
inside_after number link was (note ∷ later) =
    inside_after number link (inside_behind number link was note.act) later

-- By these notes, all that the lock made, the card is inside: it came in, and didn't go out since.
abbrev pub is_inside : List Note → ℕ → Link → Bool
is_inside notes number link = inside_after number link false notes

-- the lock has another count for a note
abbrev pub has_count : Lock → Bool
has_count lock = nat_lt lock.made LAST_NUMBER

-- an act, where the lock has another count for its note
abbrev pub acts_where_counted : Lock → Act → ℕ → ℕ × ℕ → Option Noted
acts_where_counted lock act code at = if has_count lock then Some (acts lock act code at) else None

-- A card is shown. A lock whose counts are used up stays shut.
abbrev pub shows : Lock → ℕ → Link → ℕ × ℕ → Option Noted
shows lock number link at = if has_count lock then enters lock number link at else None

-- A card goes out. The lock notes it only where its notes have the card inside.
abbrev pub goes_out : Lock → List Note → ℕ → Link → ℕ × ℕ → Option Noted
goes_out lock notes number link at =
    if has_count lock && is_inside notes number link then Some (leaves lock number link at) else None

-- Staff set the lock, unless its counts are used up.
abbrev pub sets : Lock → ℕ → ℕ × ℕ → Option Noted
sets lock code at = if has_count lock then is_set lock code at else None

-- the note of what was done, if anything was
abbrev pub note_of : Option Noted → Option Note
note_of done = option_map (λ (noted : Noted). noted.note) done

-- the lock behind it: the same one, where nothing was done
abbrev pub lock_after : Lock → Option Noted → Lock
lock_after lock None = lock
lock_after lock (Some noted) = noted.lock

-- the lock then holds this code: it was set to it, or held it already
abbrev pub holds_after : Lock → ℕ → Option Noted → Bool
holds_after lock code done = (lock_after lock done).held == code
