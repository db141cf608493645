-- Look-ups that are made one after the other, before their list is written.
use Rattle.std.proofs.Common.{◌≡◌, ◌++◌, ◌∙◌, ℕ, Bool, List, [], ◌∷◌, Option, Some, None}
use Rattle.std.proofs.Common.{Result, Ok, Err, IfOk}
use Rattle.std.proofs.Common.{arith, inl, inr, refl, sym, ap, subst}
use Rattle.keycard_rules.specs.declared.issued.LookFault.{LookFault}
use Rattle.keycard_rules.specs.declared.issued.LookFault.TheVariants as look
use Rattle.keycard_rules.specs.{declared.kept.Kept.Ghosts as KeptOf, Leaves.Leaves, Leaves.Looks}
use Rattle.keycard_rules.specs.{declared.card.Card.Card}
use Rattle.keycard_rules.proofs.CallsTogether.{passes_join, together}
use Rattle.hotel_nights.specs.{declared.stay.Stay.Stay}
use Rattle.hotel_model.proofs.Names.{Rows, card_at, said_of, stay_at}
use Rattle.hotel_lists.specs.{Faults.list_fault, RowLines.LooksAt}
use Rattle.hotel_lists.specs.declared.fault.ListFault.{ListFault}
use Rattle.hotel_lists.specs.declared.fault.ListFault.TheVariants as fault
use Rattle.hotel_lists.specs.{LookedLists.FindsRows}
use Rattle.hotel_model.specs.Refinement.ListsOnRows.{card_rows_on}
use Rattle.hotel_model.specs.Lists.{card_row}
use Rattle.hotel_lists.proofs.ToldLemmas.{told_both}

-- what is looked at behind look-ups that were answered
pub looks_next : {B : Type 0} (K : KeptOf B) {a b c : B} (end : Result (Unit {0}) ListFault)
    → LooksAt K a b (Ok tt) → LooksAt K b c end → LooksAt K a c end
looks_next K end first next =
    let later = together K _ _ next.told next.calls in
    record {
      kept = λ clean. K.kept_trans _ _ _ (first.kept (later.since.was_clean clean)) (next.kept clean);
      stop = K.no_more_trans _ _ _ first.stop next.stop;
      told = first.told ++ next.told;
      calls = passes_join _ _ _ _ first.told next.told first.calls next.calls;
      tells = told_both end first.told next.told first.tells next.tells;
    }

-- a look-up that was answered
pub one_answered : {B : Type 0} (K : KeptOf B) {takes : Bool} {a b : B} {told : Option LookFault} → told ≡ None
    → Looks K takes a told b → LooksAt K a b (Ok tt)
one_answered K {a = a} {b = b} e looks = record {
  kept = looks.kept;
  stop = looks.stop;
  told = None ∷ [];
  calls = (b, subst (λ t. Leaves K a t b) e looks.leaves, refl);
  tells = (omega arith, refl);
}

-- a look-up that failed
pub one_failed : {B : Type 0} (K : KeptOf B) {takes : Bool} {a b : B} {told : Option LookFault} (why : LookFault)
    → told ≡ Some why → Looks K takes a told b → LooksAt K a b (Err (list_fault why))
one_failed K {a = a} {b = b} look.Memory e looks = record {
  kept = looks.kept;
  stop = looks.stop;
  told = Some look.Memory ∷ [];
  calls = (b, subst (λ t. Leaves K a t b) e looks.leaves, refl);
  tells = inr ([], refl, refl);
}
one_failed K {a = a} {b = b} look.Store e looks = record {
  kept = looks.kept;
  stop = looks.stop;
  told = Some look.Store ∷ [];
  calls = (b, subst (λ t. Leaves K a t b) e looks.leaves, refl);
  tells = ([], refl, refl);
}

-- memory was refused behind look-ups that were answered
pub then_memory : {B : Type 0} (K : KeptOf B) {a b : B} → LooksAt K a b (Ok tt) → LooksAt K a b (Err fault.Memory)
then_memory K first = record {
  kept = first.kept;
  stop = first.stop;
  told = first.told;
  calls = first.calls;
  tells = inl first.tells.1;
}

-- what was looked up isn't there
pub then_no_room : {B : Type 0} (K : KeptOf B) {a b : B} → LooksAt K a b (Ok tt) → LooksAt K a b (Err fault.NoRoom)
then_no_room K first = record {
  kept = first.kept;
  stop = first.stop;
  told = first.told;
  calls = first.calls;
  tells = first.tells;
}

-- what was honest behind look-ups was honest before them
pub began_honest : {B : Type 0} (K : KeptOf B) {a b : B} {end : Result (Unit {0}) ListFault}
    → LooksAt K a b end → K.is_honest b → K.is_honest a
began_honest K looks honest = (together K _ _ looks.told looks.calls).since.was_honest honest

module _ {B A R : Type 0} (K : KeptOf B) (said : A → List R) (wanted : List R) {a b : B} where
  -- the rows were found
  pub all_found : (found : A) → (K.is_honest b → said found ≡ wanted) → LooksAt K a b (Ok tt)
      → FindsRows K said wanted a b (Ok found)
  all_found found rows looks =
      record { rows = rows; no_room = λ e. cc e; unwritten = λ e. cc e; books = looks }

  -- memory for them was refused
  pub none_kept : LooksAt K a b (Ok tt) → FindsRows K said wanted a b (Err fault.Memory)
  none_kept looks =
      record { rows = λ honest. tt; no_room = λ e. cc e; unwritten = λ e. cc e; books = then_memory K looks }

  -- a look-up of them failed
  pub look_failed : (why : LookFault) → LooksAt K a b (Err (list_fault why))
      → FindsRows K said wanted a b (Err (list_fault why))
  look_failed look.Memory looks =
      record { rows = λ honest. tt; no_room = λ e. cc e; unwritten = λ e. cc e; books = looks }
  look_failed look.Store looks =
      record { rows = λ honest. tt; no_room = λ e. cc e; unwritten = λ e. cc e; books = looks }

  pub look_ended : {end : Result A ListFault} (why : LookFault) → end ≡ Err (list_fault why)
      → LooksAt K a b (Err (list_fault why)) → FindsRows K said wanted a b end
  look_ended why e looks = subst (λ r. FindsRows K said wanted a b r) (sym e) (look_failed why looks)

-- what an answered look-up says
pub answer_is : {X Y F : Type 0} (said : X → Y) (wanted : Y) (r : Result X F) (x : X)
    → r ≡ Ok x → IfOk r (λ a. said a ≡ wanted) → said x ≡ wanted
answer_is {X = X} {F = F} said wanted r x e is = subst (λ (q : Result X F). IfOk q (λ a. said a ≡ wanted)) e is

-- ---- a card

pub no_card : (rows : Rows) (number : ℕ) → card_at rows number ≡ None → [] ≡ card_rows_on rows number
no_card rows number e = ap (λ (o : Option Card). said_of o [] (λ card. said_of (stay_at rows card.party) []
    (λ stay. card_row card stay ∷ []))) (sym e)

pub no_stay : (rows : Rows) (number : ℕ) (card : Card) → card_at rows number ≡ Some card
    → stay_at rows card.party ≡ None → [] ≡ card_rows_on rows number
no_stay rows number card e f =
    ap (λ (o : Option Stay). said_of o [] (λ stay. card_row card stay ∷ [])) (sym f)
    ∙ ap (λ (o : Option Card). said_of o [] (λ card. said_of (stay_at rows card.party) []
    (λ stay. card_row card stay ∷ []))) (sym e)

pub card_there : (rows : Rows) (number : ℕ) (card : Card) (stay : Stay) → card_at rows number ≡ Some card
    → stay_at rows card.party ≡ Some stay → card_row card stay ∷ [] ≡ card_rows_on rows number
card_there rows number card stay e f =
    ap (λ (o : Option Stay). said_of o [] (λ stay. card_row card stay ∷ [])) (sym f)
    ∙ ap (λ (o : Option Card). said_of o [] (λ card. said_of (stay_at rows card.party) []
    (λ stay. card_row card stay ∷ []))) (sym e)
