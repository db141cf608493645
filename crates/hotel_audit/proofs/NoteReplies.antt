-- What a note is answered: Taken, Seen or a refusal.
use Rattle.std.proofs.Common.{◌≡◌, Bool, true, false, [], ◌∷◌, Some, refl, Ok, Err}
use Rattle.hotel_books.proofs.Names.{Note, is_failed, failure_in}
use Rattle.keycard_rules.specs.declared.issued.LookFault.{LookFault}
use Rattle.keycard_rules.specs.declared.issued.LookFault.TheVariants as look
use Rattle.hotel_model.specs.{declared.reply.Reply.Reply, NoteReplies.IsNoteReply}
use Rattle.hotel_model.specs.declared.reply.Reply.TheVariants as reply
use Rattle.hotel_model.specs.declared.reply.Refusal.TheVariants as refusal
use Rattle.hotel_audit.specs.declared.answer.LineAnswer.{LineAnswer}
use Rattle.hotel_audit.specs.declared.answer.LineAnswer.TheVariants.{Taken, Seen, Refused}
use Rattle.hotel_lock.specs.declared.line.Line.TheVariants as line
use Rattle.hotel_audit.specs.Import.{IsAnswerTo, answer_of, replies_in, reply_or_cause}

-- the reply to a note that is answered so is that answer's
pub answered_reply : (note : Note) (given : Reply) (answer : LineAnswer)
    → Ok answer ≡ answer_of given → IsAnswerTo (line.Note note) answer × (replies_in (answer ∷ []) ≡ given ∷ [])
answered_reply note reply.Taken answer e = let same : answer ≡ Taken = cc e in rw same (tt, refl)
answered_reply note reply.Seen answer e = let same : answer ≡ Seen = cc e in rw same (tt, refl)
answered_reply note (reply.Refused why) answer e = by (is_failed (reply.Refused why)) refl
  where
    by : (b : Bool) → is_failed (reply.Refused why) ≡ b
        → IsAnswerTo (line.Note note) answer × (replies_in (answer ∷ []) ≡ reply.Refused why ∷ [])
    by true q = let f = rw q at e in cc f
    by false q = let f = rw q at e in let same : answer ≡ Refused why = cc f in rw same (q, refl)
answered_reply note _ answer e = cc e

-- a reply that is answered so is no failure
pub answered_sure : (given : Reply) (answer : LineAnswer) → Ok answer ≡ answer_of given → is_failed given ≡ false
answered_sure (reply.Refused why) answer e = by (is_failed (reply.Refused why)) refl
  where
    by : (b : Bool) → is_failed (reply.Refused why) ≡ b → is_failed (reply.Refused why) ≡ false
    by true q = let f = rw q at e in cc f
    by false q = q
answered_sure _ answer e = refl

-- so it is the answer's reply
pub answered_is : (given : Reply) (answer : LineAnswer) → Ok answer ≡ answer_of given
    → reply_or_cause answer ≡ Ok given
answered_is reply.Taken answer e = let same : answer ≡ Taken = cc e in rw same refl
answered_is reply.Seen answer e = let same : answer ≡ Seen = cc e in rw same refl
answered_is (reply.Refused why) answer e = by (is_failed (reply.Refused why)) refl
  where
    by : (b : Bool) → is_failed (reply.Refused why) ≡ b → reply_or_cause answer ≡ Ok (reply.Refused why)
    by true q = let f = rw q at e in cc f
    by false q = let f = rw q at e in let same : answer ≡ Refused why = cc f in rw same refl
answered_is _ answer e = cc e

-- a reply that a note may be given and that is no answer says that memory or the store failed
pub failed_reply : (given : Reply) (why : LookFault)
    → Err why ≡ answer_of given → IsNoteReply given → is_failed given ≡ true
failed_reply reply.Taken why e n = cc e
failed_reply reply.Seen why e n = cc e
failed_reply (reply.Refused r) why e n = by (is_failed (reply.Refused r)) refl
  where
    by : (b : Bool) → is_failed (reply.Refused r) ≡ b → is_failed (reply.Refused r) ≡ true
    by true q = q
    by false q = let f = rw q at e in cc f
failed_reply _ why e n = absurd n

-- the failure that is reported is the one of the reply
pub failure_told : (given : Reply) (why : LookFault)
    → Err why ≡ answer_of given → is_failed given ≡ true → failure_in given ≡ Some why
failure_told (reply.Refused refusal.Memory) why e f = let same : why ≡ look.Memory = cc e in rw same refl
failure_told (reply.Refused refusal.Store) why e f = let same : why ≡ look.Store = cc e in rw same refl
failure_told _ why e f = cc f
