-- What the calls of a list reported, one after the other.
use Rattle.std.proofs.Common.{◌≡◌, ◌+◌, ◌&&◌, ◌++◌, ◌∙◌, true, [], ◌∷◌, Option, Some, None, Result, Ok, Err}
use Rattle.std.proofs.Common.{is_some, length, inl, inr, append_assoc, refl, ap, sym, arith}
use Rattle.std.specs.Prelude.{is_none}
use Rattle.std.specs.List.{list_all}
use Rattle.std.proofs.lemmas.List.{length-append}
use Rattle.std.proofs.lemmas.List.Folds.{list_all-append}
use Rattle.keycard_rules.specs.declared.issued.LookFault.{LookFault}
use Rattle.keycard_rules.specs.declared.issued.LookFault.TheVariants as look
use Rattle.keycard_rules.specs.{declared.kept.Kept.Ghosts as KeptOf, Calls.LastCallFailed, Calls.NoCallFailed}
use Rattle.keycard_rules.specs.{Calls.Told, Calls.all_answer, Calls.last_answers}
use Rattle.keycard_rules.proofs.CallsTogether.{together}
use Rattle.hotel_books.proofs.Names.{RoomRow, false≢true}
use Rattle.hotel_lists.specs.RowLines.{FindsRoom, ListTold, LooksAt}
use Rattle.hotel_lists.specs.declared.fault.ListFault.{ListFault}
use Rattle.hotel_lists.specs.declared.fault.ListFault.TheVariants as fault

-- answered calls, and others behind them
all_both : (told later : Told) → all_answer told ≡ true → all_answer later ≡ true → all_answer (told ++ later) ≡ true
all_both told later first second =
    list_all-append is_none told later ∙ (ap (λ b. b && list_all is_none later) first ∙ second)

last_both : (why : LookFault) (told later : Told) → all_answer told ≡ true → LastCallFailed why later
    → LastCallFailed why (told ++ later)
last_both why told later first (before, answered, e) = (
  told ++ before,
  all_both told before first answered,
  ap (λ l. told ++ l) e ∙ sym (append_assoc told before (Some why ∷ [])),
)

none_both : (told later : Told) → NoCallFailed told → NoCallFailed later → NoCallFailed (told ++ later)
none_both told later first second = (
  (let n : length (told ++ later) ≡ length told + length later = length-append told later in omega (arith, n, first.0)),
  all_both told later first.1 second.1,
)

-- what the calls of a list reported, behind calls of which none failed
pub told_both : (end : Result (Unit {0}) ListFault) (told later : Told) → NoCallFailed told → ListTold end later
    → ListTold end (told ++ later)
told_both (Ok done) told later first t = none_both told later first t
told_both (Err fault.NoRoom) told later first t = none_both told later first t
told_both (Err fault.Memory) told later first (inl t) = inl (all_both told later first.1 t)
told_both (Err fault.Memory) told later first (inr t) = inr (last_both look.Memory told later first.1 t)
told_both (Err fault.Store) told later first t = last_both look.Store told later first.1 t
told_both (Err fault.Write) told later first t = all_both told later first.1 t

-- the last of calls of which none failed was answered
pub last_of : (told : Told) → NoCallFailed told → last_answers told ≡ true
last_of [] n = absurd (omega (arith, n.0))
last_of (None ∷ []) n = refl
last_of (Some why ∷ []) n = absurd (false≢true n.1)
last_of (None ∷ next ∷ later) n = last_of (next ∷ later) (omega arith, n.1)
last_of (Some why ∷ next ∷ later) n = absurd (false≢true n.1)

-- a list that was written in full, or a room that was found, vouches for the books
pub answered_clean : {B : Type 0} (K : KeptOf B) {old new : B} {done : Unit {0}}
    → LooksAt K old new (Ok done) → K.is_honest new → K.is_clean new
answered_clean K {old = old} {new = new} l honest =
    (together K old new l.told l.calls).vouched honest (last_of l.told l.tells)

-- the room was found
pub room_there : (row : Option RoomRow) → FindsRoom row (Ok tt) → is_some row ≡ true
room_there (Some row) f = refl
room_there None f = absurd (false≢true f)
