-- The answer to a line that asks for a list.
use Rattle.std.specs.Prelude.{◌≡◌, ◌⊎◌, ℕ, ◌-◌, Bool, true, ◌||◌, List, ◌++◌, length, drop, bytes_eq, Option}
use Rattle.keycard_rules.specs.{declared.issued.LookFault.LookFault, Calls.Told, Calls.all_answer}
use Rattle.hotel_model.specs.declared.reply.Reply.TheVariants.{Refused}
use Rattle.hotel_model.specs.declared.reply.Refusal.{Refusal}
use Rattle.hotel_model.specs.declared.reply.Refusal.TheVariants as refusal
use Rattle.hotel_books.specs.Books.Failures.{refusal_of}
use Rattle.hotel_core.specs.Texts.{reply_text}
use Rattle.hotel_lists.specs.{RowLines.ListFailed, Listings.Listing, Listings.IsListPrefix, Listings.in_full}

-- The line of a refusal.
abbrev pub refusal_text : Refusal → List ℕ
refusal_text refusal = reply_text (Refused refusal)

-- Whole lines of a list and then the line of the failure.
abbrev pub IsCutShort : Option Listing → List ℕ → Told → Type 0
IsCutShort listing text told = (prefix : List ℕ) × (why : LookFault) × IsListPrefix listing prefix
    × (text ≡ prefix ++ refusal_text (refusal_of why)) × ListFailed why told

-- The answer to a list, by what its calls reported: it in full, or the line that its room isn't there; or it is cut
-- short.
abbrev pub AnswersList : Option Listing → List ℕ → Told → Type 0
AnswersList listing text told =
    ((text ≡ in_full (refusal_text refusal.NoRoom) listing) × (all_answer told ≡ true)) ⊎ IsCutShort listing text told

-- a text ends by this one
abbrev pub ends_by : List ℕ → List ℕ → Bool
ends_by end text = bytes_eq (drop (length text - length end) text) end

-- The answer ends by the line that memory or the store failed.
abbrev pub tells_failure : List ℕ → Bool
tells_failure text = ends_by (refusal_text refusal.Memory) text || ends_by (refusal_text refusal.Store) text
