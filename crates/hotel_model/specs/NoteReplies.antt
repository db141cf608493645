-- What a note is answered: Taken, Seen or a refusal.
use Rattle.hotel_model.specs.declared.reply.Reply.{Reply}
use Rattle.hotel_model.specs.declared.reply.Reply.TheVariants as reply

-- a reply that a note may be given
abbrev pub IsNoteReply : Reply → Type 0
IsNoteReply reply.Taken = Unit {0}
IsNoteReply reply.Seen = Unit {0}
IsNoteReply (reply.Refused refusal) = Unit {0}
IsNoteReply _ = ⊥
