-- What the rows have stays there: codes and cards.
use Rattle.std.proofs.Common.{ℕ, ◌≡◌, Bool, true, false, Option, Some, None, List, [], ◌∷◌, ◌++◌, refl, ap, ◌∙◌}
use Rattle.std.proofs.Common.{append_assoc, ◌==◌}
use Rattle.hotel_model.proofs.Names.{Card, CodeRow, when, and_last, said_of, at_number, Event, Install, Issue, Refitted}
use Rattle.hotel_model.proofs.Names.{Spare, History, ◌▷◌, issued, all_issued, cards, card_of, link_of_party, link_to}
use Rattle.hotel_model.proofs.Names.{rows_of, Reached, code_is, card_is}
use Rattle.hotel_model.proofs.{OfTables.Tests.not_both, OfTables.TableKeys.row_kept, OfTables.Grown.may_follow}
use Rattle.hotel_model.proofs.{Invariants.CodePlaces.fresh_has_no_row, Invariants.CardParties.card_kept}
use Rattle.hotel_model.proofs.{Invariants.CardParties.card_kept_spare}
use Rattle.hotel_model.proofs.SoundRows.SoundLinks.{said_some}

-- a code's row stays
pub code_goes_on : (h : History) (event : Event) (code : ℕ) (row : CodeRow) → Reached (h ▷ event)
    → at_number (all_issued h) code ≡ Some row → at_number (all_issued (h ▷ event)) code ≡ Some row
code_goes_on h (Install room kind new) code row ok e =
    row_kept (all_issued h) new _ row code (fresh_has_no_row h new (may_follow h (Install room kind new) ok).2) e
code_goes_on h (Issue party room number new) code row ok e =
    row_kept (all_issued h) new _ row code (fresh_has_no_row h new (may_follow h (Issue party room number new) ok).6) e
code_goes_on h (Refitted room fit new) code row ok e =
    row_kept (all_issued h) new _ row code (fresh_has_no_row h new (may_follow h (Refitted room fit new) ok).3) e
code_goes_on h _ code row ok e = e

-- and so does a card
pub card_goes_on : (h : History) (event : Event) (n : ℕ) (card : Card)
    → Reached (h ▷ event) → at_number (cards h) n ≡ Some card → at_number (cards (h ▷ event)) n ≡ Some card
card_goes_on h (Issue party room number code) n card ok e = card_kept h number
    (card_of number party (link_to h room code)) n card ok.0 (may_follow h (Issue party room number code) ok).5 e
card_goes_on h (Spare party number) n card ok e =
    card_kept_spare (link_of_party h party) h party number n card ok.0 (may_follow h (Spare party number) ok).2 e
card_goes_on h _ n card ok e = e

more_codes : (b : Bool) (new : ℕ) (codes prefix back : List ℕ) (a c : ℕ)
    → codes ≡ prefix ++ a ∷ c ∷ back → (later : List ℕ) × (when b (and_last new) codes ≡ prefix ++ a ∷ c ∷ later)
more_codes true new codes prefix back a c e =
    (back ++ new ∷ [], ap (λ zs. zs ++ new ∷ []) e ∙ append_assoc prefix (a ∷ c ∷ back) (new ∷ []))
more_codes false new codes prefix back a c e = (back, e)

-- neighbours at a room stay so, at their places
pub link_goes_on : (h : History) (event : Event) (r : ℕ) (prefix back : List ℕ) (a c : ℕ)
    → issued h r ≡ prefix ++ a ∷ c ∷ back → (later : List ℕ) × (issued (h ▷ event) r ≡ prefix ++ a ∷ c ∷ later)
link_goes_on h (Install room kind new) r prefix back a c e = more_codes (room == r) new (issued h r) prefix back a c e
link_goes_on h (Issue party room number new) r prefix back a c e =
    more_codes (room == r) new (issued h r) prefix back a c e
link_goes_on h (Refitted room fit new) r prefix back a c e = more_codes (room == r) new (issued h r) prefix back a c e
link_goes_on h _ r prefix back a c e = (back, e)

on_by : {X : Type 0} (o p : Option X) (t u : X → Bool) → ((x : X) → o ≡ Some x → p ≡ Some x)
    → ((x : X) → t x ≡ true → u x ≡ true) → said_of o false t ≡ true → said_of p false u ≡ true
on_by (Some x) p t u kept weaker e = said_some p x u (kept x refl) (weaker x e)
on_by None p t u kept weaker e = not_both false e refl

-- what is so of a code goes on
pub code_is_on : (h : History) (event : Event) (code : ℕ) (t u : CodeRow → Bool)
    → Reached (h ▷ event) → ((row : CodeRow) → t row ≡ true → u row ≡ true) → code_is (rows_of h) code t ≡ true
    → code_is (rows_of (h ▷ event)) code u ≡ true
code_is_on h event code t u ok weaker e = on_by (at_number (all_issued h) code)
    (at_number (all_issued (h ▷ event)) code) t u (λ row f. code_goes_on h event code row ok f) weaker e

-- and what is so of a card
pub card_is_on : (h : History) (event : Event) (n : ℕ) (t u : Card → Bool)
    → Reached (h ▷ event) → ((card : Card) → t card ≡ true → u card ≡ true) → card_is (rows_of h) n t ≡ true
    → card_is (rows_of (h ▷ event)) n u ≡ true
card_is_on h event n t u ok weaker e = on_by (at_number (cards h) n) (at_number (cards (h ▷ event)) n) t u
    (λ card f. card_goes_on h event n card ok f) weaker e
