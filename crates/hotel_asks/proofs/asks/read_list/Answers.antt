-- Other texts aren't those of the verb's values.
use Rattle.std.proofs.Common.{rules, ◌≡◌, ℕ, List, [], ◌∷◌, length, map, arith, Bor, Err, refl}
use Rattle.hotel_asks.specs.{declared.values.ValueFault.TheVariants.Number}
use Rattle.hotel_asks.specs.{Names.names_of, declared.verbs.Verb.Verb}
use Rattle.hotel_asks.specs.declared.verbs.Verb.TheVariants.{Begin, AddKind, AddRoom, Reserve, Cancel, CheckIn, Spare}
use Rattle.hotel_asks.specs.declared.verbs.Verb.TheVariants.{Reissue, Transfer, CheckOut, Refit, NextDay, Entered, Left}
use Rattle.hotel_asks.specs.declared.verbs.Verb.TheVariants.{Recoded, Arrivals, InHouse, ChainOf, LeftBehind, AuditOf}
use Rattle.hotel_asks.specs.declared.verbs.Verb.TheVariants.{BusinessDay, RoomStatus, Inside, Bookings, Availability}
use Rattle.hotel_asks.specs.declared.verbs.Verb.TheVariants.{CardsGiven, CardOf, Locks}
use Rattle.hotel_asks.specs.Asks.{list_of}
use Rattle.hotel_asks.proofs.asks.read_list.Goals.{in_default-via-in-Arrivals+then-values-lt1}
use Rattle.hotel_asks.proofs.asks.read_list.Goals.{in_default-via-in-Arrivals+else-values-lt1+else-this-lt2}
use Rattle.hotel_asks.proofs.asks.read_list.Goals.{in_default-via-in-InHouse+else-this-lt1}
use Rattle.hotel_asks.proofs.asks.read_list.Goals.{in_default-via-in-ChainOf+then-this-lt1-2}
use Rattle.hotel_asks.proofs.asks.read_list.Goals.{in_default-via-in-ChainOf+else-this-lt1-2+else-this-lt2-2}
use Rattle.hotel_asks.proofs.asks.read_list.Goals.{in_default-via-in-LeftBehind+else-this-lt1-3}
use Rattle.hotel_asks.proofs.asks.read_list.Goals.{in_default-via-in-AuditOf+then-this-lt1-4}
use Rattle.hotel_asks.proofs.asks.read_list.Goals.{in_default-via-in-AuditOf+else-this-lt1-4+else-this-lt2-3}
use Rattle.hotel_asks.proofs.asks.read_list.Goals.{in_default-via-in-BusinessDay+else-this-lt1-5}
use Rattle.hotel_asks.proofs.asks.read_list.Goals.{in_default-via-in-RoomStatus+else-this-lt1-6}
use Rattle.hotel_asks.proofs.asks.read_list.Goals.{in_default-via-in-Inside+else-this-lt1-7}
use Rattle.hotel_asks.proofs.asks.read_list.Goals.{in_default-via-in-Bookings+else-this-lt1-8}
use Rattle.hotel_asks.proofs.asks.read_list.Goals.{in_default-via-in-Availability+then-this-lt2-4}
use Rattle.hotel_asks.proofs.asks.read_list.Goals.{in_default-via-in-Availability+else-this-lt2-4+else-this-lt3}
use Rattle.hotel_asks.proofs.asks.read_list.Goals.{in_default-via-in-CardsGiven+then-this-lt1-9}
use Rattle.hotel_asks.proofs.asks.read_list.Goals.{in_default-via-in-CardsGiven+else-this-lt1-9+else-this-lt2-5}
use Rattle.hotel_asks.proofs.asks.read_list.Goals.{in_default-via-in-CardOf+then-this-lt1-10}
use Rattle.hotel_asks.proofs.asks.read_list.Goals.{in_default-via-in-CardOf+else-this-lt1-10+else-this-lt2-6}
use Rattle.hotel_asks.proofs.asks.read_list.Goals.{in_default-via-in-Locks+else-this-lt1-11}
use Rattle.hotel_asks.proofs.asks.read_list.Goals.{in_default-via-in_default}
use Rattle.hotel_asks.proofs.asks.read_list.Goals as goal

-- not as many texts as the verb has values
misfit : (verb : Verb) (values : List (Bor (List ℕ)))
    → (length values ≡ length (names_of verb) → ⊥) → Err Number ≡ list_of verb (map (λ v. v.now) values)
misfit Arrivals (a ∷ []) n = absurd (n refl)
misfit InHouse [] n = absurd (n refl)
misfit ChainOf (a ∷ []) n = absurd (n refl)
misfit LeftBehind [] n = absurd (n refl)
misfit AuditOf (a ∷ []) n = absurd (n refl)
misfit BusinessDay [] n = absurd (n refl)
misfit RoomStatus [] n = absurd (n refl)
misfit Inside [] n = absurd (n refl)
misfit Bookings [] n = absurd (n refl)
misfit Availability (a ∷ b ∷ []) n = absurd (n refl)
misfit CardsGiven (a ∷ []) n = absurd (n refl)
misfit CardOf (a ∷ []) n = absurd (n refl)
misfit Locks [] n = absurd (n refl)
misfit _ _ n = refl

pub returns-in_default : goal.returns-in_default
returns-in_default c = let no = misfit c.args.verb c.args.values.now in elim c.in_default.branch [
  | in_default-via-in-Arrivals+then-values-lt1 w ↦ no (λ same. grind (arith, same))
  | in_default-via-in-Arrivals+else-values-lt1+else-this-lt2 w ↦ no (λ same. grind (arith, same))
  | in_default-via-in-InHouse+else-this-lt1 w ↦ no (λ same. grind (arith, same))
  | in_default-via-in-ChainOf+then-this-lt1-2 w ↦ no (λ same. grind (arith, same))
  | in_default-via-in-ChainOf+else-this-lt1-2+else-this-lt2-2 w ↦ no (λ same. grind (arith, same))
  | in_default-via-in-LeftBehind+else-this-lt1-3 w ↦ no (λ same. grind (arith, same))
  | in_default-via-in-AuditOf+then-this-lt1-4 w ↦ no (λ same. grind (arith, same))
  | in_default-via-in-AuditOf+else-this-lt1-4+else-this-lt2-3 w ↦ no (λ same. grind (arith, same))
  | in_default-via-in-BusinessDay+else-this-lt1-5 w ↦ no (λ same. grind (arith, same))
  | in_default-via-in-RoomStatus+else-this-lt1-6 w ↦ no (λ same. grind (arith, same))
  | in_default-via-in-Inside+else-this-lt1-7 w ↦ no (λ same. grind (arith, same))
  | in_default-via-in-Bookings+else-this-lt1-8 w ↦ no (λ same. grind (arith, same))
  | in_default-via-in-Availability+then-this-lt2-4 w ↦ no (λ same. grind (arith, same))
  | in_default-via-in-Availability+else-this-lt2-4+else-this-lt3 w ↦ no (λ same. grind (arith, same))
  | in_default-via-in-CardsGiven+then-this-lt1-9 w ↦ no (λ same. grind (arith, same))
  | in_default-via-in-CardsGiven+else-this-lt1-9+else-this-lt2-5 w ↦ no (λ same. grind (arith, same))
  | in_default-via-in-CardOf+then-this-lt1-10 w ↦ no (λ same. grind (arith, same))
  | in_default-via-in-CardOf+else-this-lt1-10+else-this-lt2-6 w ↦ no (λ same. grind (arith, same))
  | in_default-via-in-Locks+else-this-lt1-11 w ↦ no (λ same. grind (arith, same))
  | in_default-via-in_default w ↦
      let texts = map (λ v. v.now) c.args.values.now in
      (elim c.args.verb as (λ verb. c.args.verb ≡ verb → Err Number ≡ list_of c.args.verb texts) [
        | Begin ↦ λ is. rw is refl
        | AddKind ↦ λ is. rw is refl
        | AddRoom ↦ λ is. rw is refl
        | Reserve ↦ λ is. rw is refl
        | Cancel ↦ λ is. rw is refl
        | CheckIn ↦ λ is. rw is refl
        | Spare ↦ λ is. rw is refl
        | Reissue ↦ λ is. rw is refl
        | Transfer ↦ λ is. rw is refl
        | CheckOut ↦ λ is. rw is refl
        | Refit ↦ λ is. rw is refl
        | NextDay ↦ λ is. rw is refl
        | Entered ↦ λ is. rw is refl
        | Left ↦ λ is. rw is refl
        | Recoded ↦ λ is. rw is refl
        | Arrivals ↦ λ is. search (rules, w.in_default, is)
        | InHouse ↦ λ is. search (rules, w.in_default, is)
        | ChainOf ↦ λ is. search (rules, w.in_default, is)
        | LeftBehind ↦ λ is. search (rules, w.in_default, is)
        | AuditOf ↦ λ is. search (rules, w.in_default, is)
        | BusinessDay ↦ λ is. search (rules, w.in_default, is)
        | RoomStatus ↦ λ is. search (rules, w.in_default, is)
        | Inside ↦ λ is. search (rules, w.in_default, is)
        | Bookings ↦ λ is. search (rules, w.in_default, is)
        | Availability ↦ λ is. search (rules, w.in_default, is)
        | CardsGiven ↦ λ is. search (rules, w.in_default, is)
        | CardOf ↦ λ is. search (rules, w.in_default, is)
        | Locks ↦ λ is. search (rules, w.in_default, is)
      ]) refl
]
