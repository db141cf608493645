-- The texts of replies, each a line.
use Rattle.std.specs.Prelude.{ℕ, List, [], ◌∷◌, ◌++◌, codes}
use Rattle.std.specs.Fmt.{decimal}
use Rattle.keycard_rules.specs.Numerals.{code_text}
use Rattle.hotel_nights.specs.Days.{day_text}
use Rattle.hotel_model.specs.{declared.reply.Reply.Reply, RefusalTexts.refusal_text}
use Rattle.hotel_model.specs.declared.reply.Reply.TheVariants as reply

-- the text of a reply without its line feed
abbrev pub reply_line : Reply → List ℕ
reply_line reply.Begun = codes "begun"
reply_line reply.KindAdded = codes "kind added"
reply_line (reply.RoomAdded code) = codes "room code " ++ code_text code
reply_line (reply.Reserved party) = codes "party " ++ decimal party
reply_line reply.Cancelled = codes "cancelled"
reply_line (reply.Issued card) =
    codes "card " ++ decimal card.number ++ codes " party " ++ decimal card.party ++ codes " old "
    ++ code_text card.link.old_code ++ codes " new " ++ code_text card.link.new_code
reply_line reply.CheckedOut = codes "checked out"
reply_line (reply.Refitted code fit) = codes "lock " ++ decimal fit ++ codes " code " ++ code_text code
reply_line (reply.DayIs day) = codes "day " ++ day_text day
reply_line reply.Taken = codes "taken"
reply_line reply.Seen = codes "seen"
reply_line (reply.Refused refusal) = refusal_text refusal

-- the text of a reply
abbrev pub reply_text : Reply → List ℕ
reply_text reply = reply_line reply ++ (10 ∷ [])
