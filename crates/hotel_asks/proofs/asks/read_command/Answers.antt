-- The texts of two, five and six values are taken apart; and other texts aren't those of the verb's values.
use Rattle.std.proofs.Common.{rules, ◌≡◌, ◌≤◌, ◌<◌, ℕ, List, [], ◌∷◌, length, map, get_or, arith, Bor, Ok}
use Rattle.std.proofs.Common.{Err, refl}
use Rattle.hotel_asks.specs.{declared.values.ValueFault.TheVariants.Number}
use Rattle.hotel_asks.specs.{Names.names_of, declared.verbs.Verb.Verb}
use Rattle.hotel_asks.specs.declared.verbs.Verb.TheVariants.{Begin, AddKind, AddRoom, Reserve, Cancel, CheckIn, Spare}
use Rattle.hotel_asks.specs.declared.verbs.Verb.TheVariants.{Reissue, Transfer, CheckOut, Refit, NextDay, Entered, Left}
use Rattle.hotel_asks.specs.declared.verbs.Verb.TheVariants.{Recoded, Arrivals, InHouse, ChainOf, LeftBehind, AuditOf}
use Rattle.hotel_asks.specs.declared.verbs.Verb.TheVariants.{BusinessDay, RoomStatus, Inside, Bookings, Availability}
use Rattle.hotel_asks.specs.declared.verbs.Verb.TheVariants.{CardsGiven, CardOf, Locks}
use Rattle.hotel_asks.specs.{Asks.command_of, Asks.copies, Values.IsReading}
use Rattle.hotel_asks.proofs.asks.read_command.Goals.{in_default-via-in-Begin+then-values-lt1}
use Rattle.hotel_asks.proofs.asks.read_command.Goals.{in_default-via-in-Begin+else-values-lt1+else-this-lt2}
use Rattle.hotel_asks.proofs.asks.read_command.Goals.{in_default-via-in-AddKind+then-this-lt1}
use Rattle.hotel_asks.proofs.asks.read_command.Goals.{in_default-via-in-AddKind+else-this-lt1+else-this-lt2-2}
use Rattle.hotel_asks.proofs.asks.read_command.Goals.{in_default-via-in-AddRoom+then-this-lt2-3}
use Rattle.hotel_asks.proofs.asks.read_command.Goals.{in_default-via-in-AddRoom+else-this-lt2-3+else-this-lt3}
use Rattle.hotel_asks.proofs.asks.read_command.Goals.{in_default-via-in-Reserve+then-this-lt4}
use Rattle.hotel_asks.proofs.asks.read_command.Goals.{in_default-via-in-Reserve+else-this-lt4+else-this-lt5}
use Rattle.hotel_asks.proofs.asks.read_command.Goals.{in_default-via-in-Cancel+then-this-lt1-2}
use Rattle.hotel_asks.proofs.asks.read_command.Goals.{in_default-via-in-Cancel+else-this-lt1-2+else-this-lt2-4}
use Rattle.hotel_asks.proofs.asks.read_command.Goals.{in_default-via-in-CheckIn+then-this-lt2-5}
use Rattle.hotel_asks.proofs.asks.read_command.Goals.{in_default-via-in-CheckIn+else-this-lt2-5+else-this-lt3-2}
use Rattle.hotel_asks.proofs.asks.read_command.Goals.{in_default-via-in-Spare+then-this-lt1-3}
use Rattle.hotel_asks.proofs.asks.read_command.Goals.{in_default-via-in-Spare+else-this-lt1-3+else-this-lt2-6}
use Rattle.hotel_asks.proofs.asks.read_command.Goals.{in_default-via-in-Reissue+then-this-lt1-4}
use Rattle.hotel_asks.proofs.asks.read_command.Goals.{in_default-via-in-Reissue+else-this-lt1-4+else-this-lt2-7}
use Rattle.hotel_asks.proofs.asks.read_command.Goals.{in_default-via-in-Transfer+then-this-lt2-8}
use Rattle.hotel_asks.proofs.asks.read_command.Goals.{in_default-via-in-Transfer+else-this-lt2-8+else-this-lt3-3}
use Rattle.hotel_asks.proofs.asks.read_command.Goals.{in_default-via-in-CheckOut+then-this-lt1-5}
use Rattle.hotel_asks.proofs.asks.read_command.Goals.{in_default-via-in-CheckOut+else-this-lt1-5+else-this-lt2-9}
use Rattle.hotel_asks.proofs.asks.read_command.Goals.{in_default-via-in-Refit+then-this-lt1-6}
use Rattle.hotel_asks.proofs.asks.read_command.Goals.{in_default-via-in-Refit+else-this-lt1-6+else-this-lt2-10}
use Rattle.hotel_asks.proofs.asks.read_command.Goals.{in_default-via-in-NextDay+else-this-lt1-7}
use Rattle.hotel_asks.proofs.asks.read_command.Goals.{in_default-via-in-Entered+then-this-lt6}
use Rattle.hotel_asks.proofs.asks.read_command.Goals.{in_default-via-in-Entered+else-this-lt6+else-this-lt7}
use Rattle.hotel_asks.proofs.asks.read_command.Goals.{in_default-via-in-Left+then-this-lt6-2}
use Rattle.hotel_asks.proofs.asks.read_command.Goals.{in_default-via-in-Left+else-this-lt6-2+else-this-lt7-2}
use Rattle.hotel_asks.proofs.asks.read_command.Goals.{in_default-via-in-Recoded+then-this-lt5-2}
use Rattle.hotel_asks.proofs.asks.read_command.Goals.{in_default-via-in-Recoded+else-this-lt5-2+else-this-lt6-3}
use Rattle.hotel_asks.proofs.asks.read_command.Goals.{in_default-via-in_default}
use Rattle.hotel_asks.proofs.asks.read_command.Goals as goal

abbrev no_text : Bor (List ℕ)
no_text = record { ref_ptr = (0, 0); now = [] }

-- the text of a value
abbrev text : List (Bor (List ℕ)) → ℕ → List ℕ
text values at = (get_or values at no_text).now

two : (P : List (List ℕ) → Type 0) (values : List (Bor (List ℕ))) → 2 ≤ length values → length values < 3
    → P (text values 0 ∷ text values 1 ∷ []) → P (map (λ v. v.now) values)
two P (a ∷ b ∷ []) least below held = held
two P _ least below held = absurd (omega arith)

five : (P : List (List ℕ) → Type 0) (values : List (Bor (List ℕ))) → 5 ≤ length values → length values < 6
    → P (text values 0 ∷ text values 1 ∷ text values 2 ∷ text values 3 ∷ text values 4 ∷ [])
    → P (map (λ v. v.now) values)
five P (a ∷ b ∷ c ∷ d ∷ e ∷ []) least below held = held
five P _ least below held = absurd (omega arith)

six : (P : List (List ℕ) → Type 0) (values : List (Bor (List ℕ))) → 6 ≤ length values → length values < 7
    → P (text values 0 ∷ text values 1 ∷ text values 2 ∷ text values 3 ∷ text values 4 ∷ text values 5 ∷ [])
    → P (map (λ v. v.now) values)
six P (a ∷ b ∷ c ∷ d ∷ e ∷ f ∷ []) least below held = held
six P _ least below held = absurd (omega arith)

pub returns-in_err-read_room-in-AddRoom-len2 : goal.returns-in_err-read_room-in-AddRoom-len2
returns-in_err-read_room-in-AddRoom-len2 c =
    two (λ texts. IsReading copies (command_of c.args.verb texts)
    c.from_residual-in_err-read_room-in-AddRoom-len2.result)
    c.args.values.now c.in-AddRoom-len2.len_at_least c.in-AddRoom-len2.len_below (search rules)

pub returns-in_err-read_party-in-CheckIn-len2 : goal.returns-in_err-read_party-in-CheckIn-len2
returns-in_err-read_party-in-CheckIn-len2 c =
    two (λ texts. IsReading copies (command_of c.args.verb texts)
    c.from_residual-in_err-read_party-in-CheckIn-len2.result)
    c.args.values.now c.in-CheckIn-len2.len_at_least c.in-CheckIn-len2.len_below (search rules)

pub returns-in_err-read_party-in-Transfer-len2 : goal.returns-in_err-read_party-in-Transfer-len2
returns-in_err-read_party-in-Transfer-len2 c =
    two (λ texts. IsReading copies (command_of c.args.verb texts)
    c.from_residual-in_err-read_party-in-Transfer-len2.result)
    c.args.values.now c.in-Transfer-len2.len_at_least c.in-Transfer-len2.len_below (search rules)

pub returns-in_err-read_card_report-in-Entered-len6 : goal.returns-in_err-read_card_report-in-Entered-len6
returns-in_err-read_card_report-in-Entered-len6 c = six
    (λ texts. IsReading copies (command_of c.args.verb texts)
    c.from_residual-in_err-read_card_report-in-Entered-len6.result)
    c.args.values.now c.in-Entered-len6.len_at_least c.in-Entered-len6.len_below (search rules)

pub returns-in_err-read_card_report-in-Left-len6 : goal.returns-in_err-read_card_report-in-Left-len6
returns-in_err-read_card_report-in-Left-len6 c = six
    (λ texts. IsReading copies (command_of c.args.verb texts)
    c.from_residual-in_err-read_card_report-in-Left-len6.result)
    c.args.values.now c.in-Left-len6.len_at_least c.in-Left-len6.len_below (search rules)

pub returns-in_err-read_recoding-in-Recoded-len5 : goal.returns-in_err-read_recoding-in-Recoded-len5
returns-in_err-read_recoding-in-Recoded-len5 c = five
    (λ texts. IsReading copies (command_of c.args.verb texts)
    c.from_residual-in_err-read_recoding-in-Recoded-len5.result)
    c.args.values.now c.in-Recoded-len5.len_at_least c.in-Recoded-len5.len_below (search rules)

pub returns-in_ok-read_card_report-in-Entered-len6 : goal.returns-in_ok-read_card_report-in-Entered-len6
returns-in_ok-read_card_report-in-Entered-len6 c =
    let P : List (List ℕ) → Type 0 =
    λ texts. Ok c.in_ok-read_card_report-in-Entered-len6.field-0 ≡ command_of c.args.verb texts in
    six P c.args.values.now c.in-Entered-len6.len_at_least c.in-Entered-len6.len_below (search rules)

pub returns-in_ok-read_card_report-in-Left-len6 : goal.returns-in_ok-read_card_report-in-Left-len6
returns-in_ok-read_card_report-in-Left-len6 c =
    let P : List (List ℕ) → Type 0 =
    λ texts. Ok c.in_ok-read_card_report-in-Left-len6.field-0 ≡ command_of c.args.verb texts in
    six P c.args.values.now c.in-Left-len6.len_at_least c.in-Left-len6.len_below (search rules)

-- not as many texts as the verb has values
misfit : (verb : Verb) (values : List (Bor (List ℕ)))
    → (length values ≡ length (names_of verb) → ⊥) → Err Number ≡ command_of verb (map (λ v. v.now) values)
misfit Begin (a ∷ []) n = absurd (n refl)
misfit AddKind (a ∷ []) n = absurd (n refl)
misfit AddRoom (a ∷ b ∷ []) n = absurd (n refl)
misfit Reserve (a ∷ b ∷ c ∷ d ∷ []) n = absurd (n refl)
misfit Cancel (a ∷ []) n = absurd (n refl)
misfit CheckIn (a ∷ b ∷ []) n = absurd (n refl)
misfit Spare (a ∷ []) n = absurd (n refl)
misfit Reissue (a ∷ []) n = absurd (n refl)
misfit Transfer (a ∷ b ∷ []) n = absurd (n refl)
misfit CheckOut (a ∷ []) n = absurd (n refl)
misfit Refit (a ∷ []) n = absurd (n refl)
misfit NextDay [] n = absurd (n refl)
misfit Entered (a ∷ b ∷ c ∷ d ∷ e ∷ f ∷ []) n = absurd (n refl)
misfit Left (a ∷ b ∷ c ∷ d ∷ e ∷ f ∷ []) n = absurd (n refl)
misfit Recoded (a ∷ b ∷ c ∷ d ∷ e ∷ []) n = absurd (n refl)
misfit _ _ n = refl

pub returns-in_default : goal.returns-in_default
returns-in_default c = let no = misfit c.args.verb c.args.values.now in elim c.in_default.branch [
  | in_default-via-in-Begin+then-values-lt1 w ↦ no (λ same. grind (arith, same))
  | in_default-via-in-Begin+else-values-lt1+else-this-lt2 w ↦ no (λ same. grind (arith, same))
  | in_default-via-in-AddKind+then-this-lt1 w ↦ no (λ same. grind (arith, same))
  | in_default-via-in-AddKind+else-this-lt1+else-this-lt2-2 w ↦ no (λ same. grind (arith, same))
  | in_default-via-in-AddRoom+then-this-lt2-3 w ↦ no (λ same. grind (arith, same))
  | in_default-via-in-AddRoom+else-this-lt2-3+else-this-lt3 w ↦ no (λ same. grind (arith, same))
  | in_default-via-in-Reserve+then-this-lt4 w ↦ no (λ same. grind (arith, same))
  | in_default-via-in-Reserve+else-this-lt4+else-this-lt5 w ↦ no (λ same. grind (arith, same))
  | in_default-via-in-Cancel+then-this-lt1-2 w ↦ no (λ same. grind (arith, same))
  | in_default-via-in-Cancel+else-this-lt1-2+else-this-lt2-4 w ↦ no (λ same. grind (arith, same))
  | in_default-via-in-CheckIn+then-this-lt2-5 w ↦ no (λ same. grind (arith, same))
  | in_default-via-in-CheckIn+else-this-lt2-5+else-this-lt3-2 w ↦ no (λ same. grind (arith, same))
  | in_default-via-in-Spare+then-this-lt1-3 w ↦ no (λ same. grind (arith, same))
  | in_default-via-in-Spare+else-this-lt1-3+else-this-lt2-6 w ↦ no (λ same. grind (arith, same))
  | in_default-via-in-Reissue+then-this-lt1-4 w ↦ no (λ same. grind (arith, same))
  | in_default-via-in-Reissue+else-this-lt1-4+else-this-lt2-7 w ↦ no (λ same. grind (arith, same))
  | in_default-via-in-Transfer+then-this-lt2-8 w ↦ no (λ same. grind (arith, same))
  | in_default-via-in-Transfer+else-this-lt2-8+else-this-lt3-3 w ↦ no (λ same. grind (arith, same))
  | in_default-via-in-CheckOut+then-this-lt1-5 w ↦ no (λ same. grind (arith, same))
  | in_default-via-in-CheckOut+else-this-lt1-5+else-this-lt2-9 w ↦ no (λ same. grind (arith, same))
  | in_default-via-in-Refit+then-this-lt1-6 w ↦ no (λ same. grind (arith, same))
  | in_default-via-in-Refit+else-this-lt1-6+else-this-lt2-10 w ↦ no (λ same. grind (arith, same))
  | in_default-via-in-NextDay+else-this-lt1-7 w ↦ no (λ same. grind (arith, same))
  | in_default-via-in-Entered+then-this-lt6 w ↦ no (λ same. grind (arith, same))
  | in_default-via-in-Entered+else-this-lt6+else-this-lt7 w ↦ no (λ same. grind (arith, same))
  | in_default-via-in-Left+then-this-lt6-2 w ↦ no (λ same. grind (arith, same))
  | in_default-via-in-Left+else-this-lt6-2+else-this-lt7-2 w ↦ no (λ same. grind (arith, same))
  | in_default-via-in-Recoded+then-this-lt5-2 w ↦ no (λ same. grind (arith, same))
  | in_default-via-in-Recoded+else-this-lt5-2+else-this-lt6-3 w ↦ no (λ same. grind (arith, same))
  | in_default-via-in_default w ↦
      let texts = map (λ v. v.now) c.args.values.now in
      (elim c.args.verb as (λ verb. c.args.verb ≡ verb → Err Number ≡ command_of c.args.verb texts) [
        | Begin ↦ λ is. search (rules, w.in_default, is)
        | AddKind ↦ λ is. search (rules, w.in_default, is)
        | AddRoom ↦ λ is. search (rules, w.in_default, is)
        | Reserve ↦ λ is. search (rules, w.in_default, is)
        | Cancel ↦ λ is. search (rules, w.in_default, is)
        | CheckIn ↦ λ is. search (rules, w.in_default, is)
        | Spare ↦ λ is. search (rules, w.in_default, is)
        | Reissue ↦ λ is. search (rules, w.in_default, is)
        | Transfer ↦ λ is. search (rules, w.in_default, is)
        | CheckOut ↦ λ is. search (rules, w.in_default, is)
        | Refit ↦ λ is. search (rules, w.in_default, is)
        | NextDay ↦ λ is. search (rules, w.in_default, is)
        | Entered ↦ λ is. search (rules, w.in_default, is)
        | Left ↦ λ is. search (rules, w.in_default, is)
        | Recoded ↦ λ is. search (rules, w.in_default, is)
        | Arrivals ↦ λ is. rw is refl
        | InHouse ↦ λ is. rw is refl
        | ChainOf ↦ λ is. rw is refl
        | LeftBehind ↦ λ is. rw is refl
        | AuditOf ↦ λ is. rw is refl
        | BusinessDay ↦ λ is. rw is refl
        | RoomStatus ↦ λ is. rw is refl
        | Inside ↦ λ is. rw is refl
        | Bookings ↦ λ is. rw is refl
        | Availability ↦ λ is. rw is refl
        | CardsGiven ↦ λ is. rw is refl
        | CardOf ↦ λ is. rw is refl
        | Locks ↦ λ is. rw is refl
      ]) refl
]
