-- What comes of a note on rows is Taken, Seen or a refusal.
use Rattle.std.proofs.Common.{◌≡◌, ℕ, Bool, true, false, List, [], ◌∷◌, Option, Some, None, sym, refl, subst}
use Rattle.std.proofs.Common.{if◌then◌else◌, is_some, ◌==◌, ◌+◌, ◌-◌}
use Rattle.hotel_books.proofs.Names.{turn, Stream, Note, Act, Change, Reply, Refusal, RoomRow, Rows, said_of, is_one_of}
use Rattle.hotel_books.proofs.Names.{comes, card_at, inside_at, note_at, room_at, same_note, outcome_on, reported_on}
use Rattle.hotel_books.proofs.Names.{untaken_on, told_on, checks_on, has_link_on, held_on, place_on, lock_place_of}
use Rattle.hotel_books.proofs.Names.{secured_on, secured_after_on, is_awaited_on, Outcome, accepted, needs, refused}
use Rattle.hotel_books.proofs.Names.{said, unless, false≢true, is_failed}
use Rattle.keycard_rules.specs.declared.note.Act.TheVariants as act
use Rattle.hotel_model.specs.declared.change.Change.TheVariants as change
use Rattle.hotel_model.specs.{declared.change.InsideMove.TheVariants.Same, declared.change.InsideMove.TheVariants.Goes}
use Rattle.hotel_model.specs.{NoteReplies.IsNoteReply}
use Rattle.hotel_model.specs.declared.command.Command.TheVariants as command
use Rattle.hotel_model.specs.declared.reply.Reply.TheVariants as reply
use Rattle.hotel_model.specs.declared.reply.Refusal.TheVariants as refusal
use Rattle.hotel_model.specs.Refinement.GoesOnRows as step
use Rattle.hotel_core.specs.Refinement.StepOnRows.{StepsAs}
use Rattle.hotel_books.specs.declared.books.Books.{Ghosts as BooksOf}
use Rattle.keycard_rules.specs.declared.kept.Kept.{Ghosts as KeptOf}

-- the first refusal of some checks is one, and so is what comes otherwise
unless_reply : (checks : List (Option Refusal)) (o : Outcome Change)
    → IsNoteReply o.reply → IsNoteReply (unless checks o).reply
unless_reply [] o h = h
unless_reply (Some why ∷ checks) o h = tt
unless_reply (None ∷ checks) o h = unless_reply checks o h

if_reply : (b : Bool) (o p : Outcome Change)
    → IsNoteReply o.reply → IsNoteReply p.reply → IsNoteReply (if b then o else p).reply
if_reply true o p h k = h
if_reply false o p h k = k

said_reply : (row : Option RoomRow) (o : Outcome Change) (f : RoomRow → Outcome Change)
    → IsNoteReply o.reply → ((r : RoomRow) → IsNoteReply (f r).reply) → IsNoteReply (said_of row o f).reply
said_reply None o f h k = h
said_reply (Some r) o f h k = k r

told_reply : (rows : Rows) (note : Note) (what : Act) → IsNoteReply (told_on rows note what).reply
told_reply rows note (act.Entered number link) =
    unless_reply (needs (is_some (card_at rows number)) refusal.NoCard ∷ needs (has_link_on rows number link)
    refusal.CardDiffers ∷ needs (is_some (turn (held_on rows note.room) link)) refusal.LockShut ∷ [])
    (accepted reply.Taken (change.Noted note (place_on rows link.new_code) (secured_after_on rows note.room link)
    (comes (is_one_of number (inside_at rows note.room)) number))) tt
told_reply rows note (act.Left number link) =
    unless_reply (needs (is_some (card_at rows number)) refusal.NoCard ∷ needs (has_link_on rows number link)
    refusal.CardDiffers ∷ needs (is_one_of number (inside_at rows note.room)) refusal.NotInside ∷ [])
    (accepted reply.Taken (change.Noted note (lock_place_of rows note.room) (secured_on rows note.room) (Goes number)))
    tt
told_reply rows note (act.Recoded from to) =
    unless_reply (needs (held_on rows note.room == from) refusal.HeldDiffers
    ∷ needs (is_awaited_on rows note.room to) refusal.NotAwaited ∷ [])
    (accepted reply.Taken (change.Noted note (place_on rows to) (secured_on rows note.room) Same)) tt

reported_reply : (rows : Rows) (note : Note) (kept : Option Note) → IsNoteReply (reported_on rows note kept).reply
reported_reply rows note (Some kept) = if_reply (same_note kept note) (said reply.Seen) (refused refusal.Conflict) tt tt
reported_reply rows note None =
    said_reply (room_at rows note.room) (refused refusal.NoRoom) (untaken_on rows note) tt
    (λ row. if_reply (note.fit == row.fit) (if note.count == row.notes - row.before + 1 then told_on rows note note.act
    else refused (refusal.Gap (row.notes - row.before + 1))) (refused refusal.OldFit)
    (if_reply (note.count == row.notes - row.before + 1) (told_on rows note note.act)
    (refused (refusal.Gap (row.notes - row.before + 1))) (told_reply rows note note.act) tt) tt)

-- what comes of a note on rows is such a reply
pub outcome_reply : (rows : Rows) (ahead : List ℕ) (note : Note)
    → IsNoteReply (outcome_on rows ahead (command.Reported note)).reply
unfolding outcome_on
outcome_reply rows ahead note = unless_reply (checks_on rows (command.Reported note))
    (reported_on rows note (note_at rows note.room note.fit note.count))
    (reported_reply rows note (note_at rows note.room note.fit note.count))

failed_is : (given : Reply) → is_failed given ≡ true → IsNoteReply given
failed_is (reply.Refused why) e = tt
failed_is _ e = absurd (false≢true e)

-- so is the reply of a step that takes a note
pub note_reply : (given : Reply) (rows : Rows) (ahead : List ℕ) (note : Note) (later : Rows) (source rest : Stream)
    → step.Goes (outcome_on rows ahead (command.Reported note)) rows source given later rest → IsNoteReply given
note_reply given rows ahead note later source rest g = by (is_failed given) refl g
  where
    by : (b : Bool) → is_failed given ≡ b
        → step.GoesIf b (outcome_on rows ahead (command.Reported note)) rows source given later rest → IsNoteReply given
    by true e went = failed_is given e
    by false e went = subst (λ r. IsNoteReply r) (sym went.0) (outcome_reply rows ahead note)

-- and of one that takes a note over books
pub taken_reply : {S : Type 0} {K : KeptOf S} {B : BooksOf S} {old new : S} {source rest : Stream} {answer : Reply}
    (ahead : List ℕ) (note : Note)
    → StepsAs K B (λ rows. outcome_on rows ahead (command.Reported note)) old new source rest answer
    → K.is_honest new → IsNoteReply answer
taken_reply {B = B} {old = old} {new = new} {source = source} {rest = rest} {answer = answer} ahead note t honest =
    by (is_failed answer) refl
  where
    by : (b : Bool) → is_failed answer ≡ b → IsNoteReply answer
    by true e = failed_is answer e
    by false e = note_reply answer (B.rows old) ahead note (B.rows new) source rest
        (t.goes (t.vouched honest e))
