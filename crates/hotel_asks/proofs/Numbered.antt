-- As many texts as a verb has values are never refused for their number.
use Rattle.std.proofs.Common.{◌≡◌, ℕ, ◌&&◌, Bool, true, false, if◌then◌else◌, List, [], ◌∷◌, length, take, arith}
use Rattle.std.proofs.Common.{Option, Some, None, Result, Ok, Err, subst, sym}
use Rattle.std.specs.Option.{ok_or}
use Rattle.std.specs.Str.{is_utf8}
use Rattle.keycard_rules.specs.Results.{◌>>=◌}
use Rattle.hotel_nights.specs.Guests.{is_guest}
use Rattle.hotel_asks.specs.{Asks.◌<$>◌, Asks.◌<*>◌, Asks.ask_of, Asks.link_in, Asks.card_report, Names.names_of}
use Rattle.hotel_asks.specs.Values.{IsReading, guest_in, slash_in, fit_after, lock_in}
use Rattle.hotel_asks.specs.declared.asked.Ask.{Ask}
use Rattle.keycard_rules.specs.Numerals.{number_up_to}
use Rattle.hotel_asks.specs.declared.values.ValueName.TheVariants.{Guest, Lock}
use Rattle.hotel_asks.specs.{declared.values.AskFault.AskFault, declared.values.AskFault.TheVariants.Values}
use Rattle.hotel_asks.specs.{declared.values.ValueFault.ValueFault}
use Rattle.hotel_asks.specs.{declared.values.ValueFault.TheVariants.Number}
use Rattle.hotel_asks.specs.{declared.values.ValueFault.TheVariants.Value, declared.values.ValueName.ValueName}
use Rattle.hotel_asks.specs.declared.verbs.Verb.{Verb}
use Rattle.hotel_asks.specs.declared.verbs.Verb.TheVariants.{Begin, AddKind, AddRoom, Reserve, Cancel, CheckIn, Spare}
use Rattle.hotel_asks.specs.declared.verbs.Verb.TheVariants.{Reissue, Transfer, CheckOut, Refit, NextDay, Entered, Left}
use Rattle.hotel_asks.specs.declared.verbs.Verb.TheVariants.{Recoded, Arrivals, InHouse, ChainOf, LeftBehind, AuditOf}
use Rattle.hotel_asks.specs.declared.verbs.Verb.TheVariants.{BusinessDay, RoomStatus, Inside, Bookings, Availability}
use Rattle.hotel_asks.specs.declared.verbs.Verb.TheVariants.{CardsGiven, CardOf, Locks}

-- whether it isn't the number of texts that is refused
abbrev pub IsNumbered : {A : Type 0} → Result A ValueFault → Type 0
IsNumbered (Ok a) = Unit {0}
IsNumbered (Err (Value name)) = Unit {0}
IsNumbered (Err Number) = ⊥

-- a value by its reader
read : {A : Type 0} (o : Option A) (name : ValueName) → IsNumbered (ok_or o (Value name))
read (Some a) name = tt
read None name = tt

-- what is made of a value
made : {A B : Type 0} (f : A → B) (r : Result A ValueFault) → IsNumbered r → IsNumbered (f <$> r)
made f (Ok a) held = tt
made f (Err (Value name)) held = tt
made f (Err Number) held = held

-- and of the next one
next : {A B : Type 0} (f : Result (A → B) ValueFault) (r : Result A ValueFault)
    → IsNumbered f → IsNumbered r → IsNumbered (f <*> r)
next (Ok f) r first held = made f r held
next (Err (Value name)) r first held = tt
next (Err Number) r first held = first

either : {A : Type 0} (b : Bool) (r q : Result A ValueFault)
    → IsNumbered r → IsNumbered q → IsNumbered (if b then r else q)
either true r q held other = held
either false r q held other = other

guest_numbered : (text : List ℕ) → IsNumbered (guest_in text)
guest_numbered text = either (is_utf8 text && is_guest text) (Ok text) (Err (Value Guest)) tt tt

after : {A B : Type 0} (o : Option A) (name : ValueName) (f : A → Result B ValueFault)
    → ((a : A) → IsNumbered (f a)) → IsNumbered (ok_or o (Value name) >>= f)
after (Some a) name f rest = rest a
after None name f rest = tt

lock_numbered : (text : List ℕ) → IsNumbered (lock_in text)
lock_numbered text = after (number_up_to 9999 (take (slash_in text) text)) Lock _
    (λ r. after (fit_after text (slash_in text)) Lock _ (λ f. tt))

link_numbered : (old new : List ℕ) → IsNumbered (link_in old new)
link_numbered old new = next _ _ (made _ _ (read _ _)) (read _ _)

report_numbered : (verb : Verb) (lock count card old new moment : List ℕ)
    → IsNumbered (card_report verb lock count card old new moment)
report_numbered verb lock count card old new moment = next _ _ (next _ _ (next _ _ (next _ _
    (made _ (lock_in lock) (lock_numbered lock)) (read _ _)) (read _ _)) (link_numbered old new)) (read _ _)

-- as many texts as the verb has values
numbered : (verb : Verb) (values : List (List ℕ))
    → length values ≡ length (names_of verb) → IsNumbered (ask_of verb values)
numbered Begin (a ∷ []) n = made _ _ (made _ _ (read _ _))
numbered AddKind (a ∷ []) n = made _ _ (made _ _ (read _ _))
numbered AddRoom (a ∷ b ∷ []) n = made _ _ (next _ _ (made _ _ (read _ _)) (read _ _))
numbered Reserve (a ∷ b ∷ c ∷ d ∷ []) n = made _ _
    (next _ _ (next _ _ (next _ _ (made _ _ (read _ _)) (read _ _)) (read _ _)) (guest_numbered d))
numbered Cancel (a ∷ []) n = made _ _ (made _ _ (read _ _))
numbered CheckIn (a ∷ b ∷ []) n = made _ _ (next _ _ (made _ _ (read _ _)) (read _ _))
numbered Spare (a ∷ []) n = made _ _ (made _ _ (read _ _))
numbered Reissue (a ∷ []) n = made _ _ (made _ _ (read _ _))
numbered Transfer (a ∷ b ∷ []) n = made _ _ (next _ _ (made _ _ (read _ _)) (read _ _))
numbered CheckOut (a ∷ []) n = made _ _ (made _ _ (read _ _))
numbered Refit (a ∷ []) n = made _ _ (made _ _ (read _ _))
numbered NextDay [] n = tt
numbered Entered (a ∷ b ∷ c ∷ d ∷ e ∷ f ∷ []) n = made _ _ (report_numbered Entered a b c d e f)
numbered Left (a ∷ b ∷ c ∷ d ∷ e ∷ f ∷ []) n = made _ _ (report_numbered Left a b c d e f)
numbered Recoded (a ∷ b ∷ c ∷ d ∷ e ∷ []) n = made _ _ (next _ _ (next _ _ (next _ _ (next _ _
    (made _ (lock_in a) (lock_numbered a)) (read _ _)) (read _ _)) (read _ _)) (read _ _))
numbered Arrivals (a ∷ []) n = made _ _ (made _ _ (read _ _))
numbered InHouse [] n = tt
numbered ChainOf (a ∷ []) n = made _ _ (made _ _ (read _ _))
numbered LeftBehind [] n = tt
numbered AuditOf (a ∷ []) n = made _ _ (made _ _ (read _ _))
numbered BusinessDay [] n = tt
numbered RoomStatus [] n = tt
numbered Inside [] n = tt
numbered Bookings [] n = tt
numbered Availability (a ∷ b ∷ []) n = made _ _ (next _ _ (made _ _ (read _ _)) (read _ _))
numbered CardsGiven (a ∷ []) n = made _ _ (made _ _ (read _ _))
numbered CardOf (a ∷ []) n = made _ _ (made _ _ (read _ _))
numbered Locks [] n = tt
numbered _ _ n = absurd (omega arith)

-- A reading that refuses the number is of texts that aren't as many as the verb has values.
pub misnumbered : (verb : Verb) (values : List (List ℕ)) (copied : Ask → Bool) (result : Result Ask AskFault)
    → IsReading copied (ask_of verb values) result
    → result ≡ Err (Values Number) → length values ≡ length (names_of verb) → ⊥
misnumbered verb values copied result read is same =
    let wanted : Err Number ≡ ask_of verb values = subst (IsReading copied (ask_of verb values)) is read in
    subst IsNumbered (sym wanted) (numbered verb values same)
