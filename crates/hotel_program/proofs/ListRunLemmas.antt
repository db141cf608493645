-- What a writer took of a list that is asked for alone.
use Rattle.std.proofs.Common.{◌≡◌, ◌≢◌, ℕ, Bool, true, false, List, [], ◌∷◌, refl, ap, subst, take, Option, Some, None}
use Rattle.std.proofs.Common.{Result, Ok, Err}
use Rattle.std.specs.Result.{IsErrAnd}
use Rattle.std.specs.Io.KnownBytes.{Appends}
use Rattle.std.proofs.KnownBytes.{Appends-trans}
use Rattle.hotel_model.specs.declared.reply.Refusal.TheVariants as refusal
use Rattle.hotel_model.specs.Rows.{Rows}
use Rattle.hotel_streams.specs.Bytes.{AppendsPrefix}
use Rattle.hotel_lists.specs.declared.fault.ListFault.{ListFault}
use Rattle.hotel_lists.specs.declared.fault.ListFault.TheVariants as fault
use Rattle.hotel_asks.specs.declared.asked.ListAsk.{ListAsk}
use Rattle.hotel_program.specs.Script.ListAnswers.{refusal_text}
use Rattle.hotel_program.specs.Alone.ListRuns.{AnswerEnds, AnswerEndsFor}
use Rattle.hotel_lists.specs.Listings.{ListEnds, Listing}
use Rattle.hotel_asks.specs.Listings.{listing_on}
use Rattle.hotel_asks.proofs.ListingLemmas.{listing_stands}

-- a text has a byte
abbrev has_byte : List ℕ → Bool
has_byte [] = false
has_byte (b ∷ text) = true

is_text : (text : List ℕ) → has_byte text ≡ true → text ≢ []
is_text [] h = cc h
is_text (b ∷ text) h = λ e. cc e

-- the line that the room isn't there was written
pub told_no_room : (listing : Option Listing) (old mid new : Option (List ℕ))
    → ListEnds [] listing old mid (Err fault.NoRoom) → Appends mid new (refusal_text refusal.NoRoom)
    → AnswerEnds listing old new (Err fault.NoRoom)
told_no_room None old mid new p written = (refl, Appends-trans old mid new [] (refusal_text refusal.NoRoom) p.1 written)
told_no_room (Some listing) old mid new p written = cc p.0

-- the fault of a failed write
pub is_write : (r : Result (Unit {0}) ListFault) → IsErrAnd r (λ e. e ≡ fault.Write) → r ≡ Err fault.Write
is_write (Ok done) p = absurd p
is_write (Err e) p = ap (λ (f : ListFault). Err f) p

-- a prefix of it was written
pub cut_no_room : (listing : Option Listing) (old mid new : Option (List ℕ))
    → ListEnds [] listing old mid (Err fault.NoRoom) → AppendsPrefix mid new (refusal_text refusal.NoRoom)
    → AnswerEnds listing old new (Err fault.Write)
cut_no_room None old mid new p prefix = (
  (λ none. is_text (refusal_text refusal.NoRoom) refl),
  (prefix.0, prefix.1, Appends-trans old mid new [] (take prefix.0 (refusal_text refusal.NoRoom)) p.1 prefix.2),
)
cut_no_room (Some listing) old mid new p prefix = cc p.0

pub answer_ends : (rows : Rows) (its_list : ListAsk) (old new : Option (List ℕ)) (end : Result (Unit {0}) ListFault)
    → AnswerEnds (listing_on rows its_list) old new end → AnswerEndsFor rows its_list old new end
answer_ends rows its_list old new end p =
    λ h stands. subst (λ (l : Option Listing). AnswerEnds l old new end) (listing_stands h rows its_list stands) p
