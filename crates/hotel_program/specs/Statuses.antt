-- The exit status of a reply.
use Rattle.std.specs.Prelude.{ℕ}
use Rattle.hotel_model.specs.declared.reply.Reply.{Reply}
use Rattle.hotel_model.specs.declared.reply.Reply.TheVariants.{Refused}
use Rattle.hotel_model.specs.declared.reply.Refusal.{Refusal}
use Rattle.hotel_model.specs.declared.reply.Refusal.TheVariants.{Memory, Store}

-- The status of a refusal: 4 where memory or the store failed, else 3.
abbrev pub refusal_status : Refusal → ℕ
refusal_status Memory = 4
refusal_status Store = 4
refusal_status _ = 3

-- The status of a reply: 0 where it is no refusal.
abbrev pub exit_of_reply : Reply → ℕ
exit_of_reply (Refused why) = refusal_status why
exit_of_reply _ = 0
