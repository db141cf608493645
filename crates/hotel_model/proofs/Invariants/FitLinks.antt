-- No card's new code begins a fit.
use Rattle.std.proofs.Common.{ℕ, ◌≡◌, ◌<◌, Bool, true, false, cond, Option, Some, None, List, [], ◌∷◌, ◌++◌, length}
use Rattle.std.proofs.Common.{inl, inr, refl, ap, sym, ◌∙◌, subst, append_assoc, arith, length-append, ◌==◌, ◌&&◌, ◌||◌}
use Rattle.std.proofs.Common.{not, nat_cmp}
use Rattle.hotel_model.proofs.Names.{list_any, is_at, insert_entry, Card, Link, CodeRow, FitRow, fit_row, fits, fits_at}
use Rattle.hotel_model.proofs.Names.{begins_fit, notes, at_number, Install, Issue, Refitted, Spare, History, start, ◌▷◌}
use Rattle.hotel_model.proofs.Names.{issued, all_issued, cards, card_of, with_spare, link_of_party, link_to, is_room}
use Rattle.hotel_model.proofs.Names.{rows_of, Rows, IsSound, Reached}
use Rattle.hotel_model.proofs.OfTables.Tests.{eq_from, eq_self, not_lower, not_both}
use Rattle.hotel_model.proofs.OfTables.RowTests.{found_passes, or_first, or_later, none_more}
use Rattle.hotel_model.proofs.OfTables.TableKeys.{row_inserted, row_kept, row_added}
use Rattle.hotel_model.proofs.{OfTables.Grown.may_follow, Invariants.CodePlaces.codes_have_places}
use Rattle.hotel_model.proofs.{Invariants.CodePlaces.fresh_has_no_row}
use Rattle.hotel_model.proofs.{Invariants.RoomLinks.cards_have_links, Invariants.CardParties.parties_have_cards}
use Rattle.hotel_model.proofs.{Invariants.OpenLocks.there_by_codes, Invariants.OpenLocks.not_empty}
use Rattle.hotel_model.proofs.{Invariants.FitsKept.fits_installed, Invariants.FitsKept.fits_refitted}
use Rattle.hotel_model.proofs.{Invariants.FitsOf.none_begins_at}

-- where a card's new code stands, no fit begins
abbrev pub LinksBeginNoFit : History → Type 0
LinksBeginNoFit h = (n : ℕ) (card : Card) (row : CodeRow) → at_number (cards h) n ≡ Some card
    → at_number (all_issued h) card.link.new_code ≡ Some row → begins_fit (rows_of h) row.room row.place ≡ false

any_found : (p : ℕ × Card → Bool) (es : List (ℕ × Card)) (n : ℕ) (card : Card)
    → at_number es n ≡ Some card → ((m : ℕ) → p (m, card) ≡ true) → list_any p es ≡ true
any_found p [] n card e t = cc
any_found p (x ∷ es) n card e t = by (is_at (nat_cmp n) x.0) e (any_found p es n card)
  where
    by : (b : Bool) → cond b (Some x.1) (at_number es n) ≡ Some card
        → (at_number es n ≡ Some card → ((m : ℕ) → p (m, card) ≡ true) → list_any p es ≡ true)
        → (p x || list_any p es) ≡ true
    by true f ih = let same : x.1 ≡ card = cc in or_first (p x) _ (ap (λ z. p (x.0, z)) same ∙ t x.0)
    by false f ih = or_later (p x) _ (ih f t)

not_first : (a b : Bool) → not (a && b) ≡ true → b ≡ true → a ≡ false
not_first true true e t = not_both false e refl
not_first true false e t = not_both false t refl
not_first false b e t = refl

none_at_start : (t : Rows) → IsSound t → LinksBeginNoFit (start t)
none_at_start t s n card row e f =
    let rule = found_passes (λ (x : ℕ × CodeRow). not (begins_fit t x.1.room x.1.place
    && list_any (λ (c : ℕ × Card). c.1.link.new_code == x.0) t.cards)) t.codes card.link.new_code row s.card_fits f in
    not_first (begins_fit t row.room row.place) _ rule (any_found
    (λ (c : ℕ × Card). c.1.link.new_code == card.link.new_code) t.cards n card e (λ m. eq_self card.link.new_code))

-- the row of a card's new code: its room is there, and it stands among its codes
its_row : (h : History) → Reached h → (n : ℕ) (card : Card) → at_number (cards h) n ≡ Some card
    → (row : CodeRow) × (at_number (all_issued h) card.link.new_code ≡ Some row) × (is_room h row.room ≡ true)
    × (row.place < length (issued h row.room))
its_row h ok n card e =
    let l = cards_have_links h ok n card e in
    let prefix : List ℕ = l.1.0 ++ card.link.old_code ∷ [] in
    let f : issued h l.0 ≡ prefix ++ card.link.new_code ∷ l.1.1 =
    l.1.2 ∙ sym (append_assoc l.1.0 (card.link.old_code ∷ []) (card.link.new_code ∷ l.1.1)) in
    let m = ap (λ (zs : List ℕ). length zs) f in (
      record { room = l.0; place = length prefix },
      codes_have_places h ok l.0 prefix card.link.new_code l.1.1 f,
      there_by_codes h ok l.0 (λ none. not_empty prefix card.link.new_code l.1.1 (sym f ∙ none)),
      omega (arith, m, length-append prefix (card.link.new_code ∷ l.1.1)),
    )

one_row : (o : Option CodeRow) (a b : CodeRow) → o ≡ Some a → o ≡ Some b → a ≡ b
one_row o a b e f = let w : Some a ≡ Some b = sym e ∙ f in cc

-- what a history's cards have goes on where a code was issued
kept_row : (h : History) → Reached h → (n new : ℕ) (card : Card) (row added : CodeRow)
    → at_number (cards h) n ≡ Some card → at_number (all_issued h) new ≡ None
    → at_number (insert_entry nat_cmp (all_issued h) new added) card.link.new_code ≡ Some row
    → (at_number (all_issued h) card.link.new_code ≡ Some row) × (is_room h row.room ≡ true)
    × (row.place < length (issued h row.room))
kept_row h ok n new card row added e fresh f =
    let was = its_row h ok n card e in
    let same = one_row (at_number (insert_entry nat_cmp (all_issued h) new added) card.link.new_code) was.0 row
    (row_kept (all_issued h) new added was.0 card.link.new_code fresh was.1) f in
    subst (λ (x : CodeRow). (at_number (all_issued h) card.link.new_code ≡ Some x) × (is_room h x.room ≡ true)
    × (x.place < length (issued h x.room))) same (was.1, was.2, was.3)

spared : (o : Option Link) (h : History) (party number n : ℕ) (card : Card) (row : CodeRow)
    → Reached h → LinksBeginNoFit h → ((link : Link)
    → o ≡ Some link → (m : ℕ) × (c : Card) × (at_number (cards h) m ≡ Some c) × (c.link ≡ link) × (c.party ≡ party))
    → at_number (with_spare number party o (cards h)) n ≡ Some card
    → at_number (all_issued h) card.link.new_code ≡ Some row → begins_fit (rows_of h) row.room row.place ≡ false
spared (Some link) h party number n card row ok ih own e f =
    elim (row_inserted (cards h) number (card_of number party link) card n e) [
      | inl p ↦
          let c = own link refl in
          let same : c.1.link.new_code ≡ card.link.new_code =
          ap (λ (l : Link). l.new_code) (c.3 ∙ ap (λ (k : Card). k.link) p.1) in
          ih c.0 c.1 row c.2 (ap (at_number (all_issued h)) same ∙ f)
      | inr e' ↦ ih n card row e' f
    ]
spared None h party number n card row ok ih own e f = ih n card row e f

-- No card's new code begins a fit.
pub links_begin_none : (h : History) → Reached h → LinksBeginNoFit h
links_begin_none (start t) ok n card row e f = none_at_start t ok n card row e f
links_begin_none (h ▷ Install room kind code) ok n card row e f =
    let needs = may_follow h (Install room kind code) ok in
    let k = kept_row h ok.0 n code card row _ e (fresh_has_no_row h code needs.2) f in
    ap (λ fs. list_any (λ (x : FitRow). x.place == row.place) fs) (fits_installed h room code kind row.room ok)
    ∙ none_more (room == row.room) (λ (x : FitRow). x.place == row.place) (fits_at (fits h) row.room)
    (fit_row room 1 0 0) (links_begin_none h ok.0 n card row e k.0)
    (λ t. not_both (is_room h row.room) k.1 (ap (is_room h) (sym (eq_from room row.room t)) ∙ needs.1))
links_begin_none (h ▷ Refitted room fit code) ok n card row e f =
    let needs = may_follow h (Refitted room fit code) ok in
    let k = kept_row h ok.0 n code card row _ e (fresh_has_no_row h code needs.3) f in
    ap (λ fs. list_any (λ (x : FitRow). x.place == row.place) fs) (fits_refitted h room fit code row.room ok)
    ∙ none_more (room == row.room) (λ (x : FitRow). x.place == row.place) (fits_at (fits h) row.room)
    (fit_row room fit (length (issued h room)) (length (notes h room))) (links_begin_none h ok.0 n card row e k.0)
    (λ t. not_lower (length (issued h room)) row.place
    (subst (λ z. row.place < length (issued h z)) (sym (eq_from room row.room t)) k.2))
links_begin_none (h ▷ Issue party room number code) ok n card row e f =
    let needs = may_follow h (Issue party room number code) ok in
    elim (row_inserted (cards h) number (card_of number party (link_to h room code)) card n e) [
      | inl p ↦
          let new : code ≡ card.link.new_code = ap (λ (k : Card). k.link.new_code) p.1 in
          let added : CodeRow = record { room = room; place = length (issued h room) } in
          let same : added ≡ row = one_row (at_number (insert_entry nat_cmp (all_issued h) code added) code) added row
          (row_added (all_issued h) code added)
          (ap (at_number (insert_entry nat_cmp (all_issued h) code added)) new ∙ f) in
          subst (λ (x : CodeRow). begins_fit (rows_of h) x.room x.place ≡ false) same
          (none_begins_at h ok.0 room (length (issued h room)) (omega arith))
      | inr e' ↦ links_begin_none h ok.0 n card row e'
          (kept_row h ok.0 n code card row _ e' (fresh_has_no_row h code needs.6) f).0
    ]
links_begin_none (h ▷ Spare party number) ok n card row e f =
    spared (link_of_party h party) h party number n card row ok.0 (links_begin_none h ok.0)
    (parties_have_cards h ok.0 party) e f
links_begin_none (h ▷ _) ok n card row e f = links_begin_none h ok.0 n card row e f
