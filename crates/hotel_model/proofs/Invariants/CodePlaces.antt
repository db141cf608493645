-- Each code stands at one place of one room.
use Rattle.std.proofs.Common.{ℕ, ◌≡◌, Bool, true, false, Some, None, List, [], ◌∷◌, ◌++◌, length, inl, inr, refl, ap}
use Rattle.std.proofs.Common.{sym, ◌∙◌, append_assoc, ◌==◌, nat_cmp}
use Rattle.hotel_model.proofs.Names.{insert_entry, CodeRow, when, and_last, at_number, Install, Issue, Refitted}
use Rattle.hotel_model.proofs.Names.{History, start, ◌▷◌, issued, all_issued, issued_codes, is_fresh, Reached}
use Rattle.hotel_model.proofs.Names.{NoCodeTwice}
use Rattle.keycard_rules.specs.Words.{is_one_of}
use Rattle.hotel_model.proofs.{Facts.CodeFacts.CodesHavePlaces, Facts.CodeFacts.PlacesHaveCodes, OfTables.Tests.eq_from}
use Rattle.hotel_model.proofs.{OfTables.Tests.eq_self, OfTables.Tests.not_true}
use Rattle.hotel_model.proofs.OfTables.TableKeys.{row_inserted, row_kept, row_added, no_key}
use Rattle.hotel_model.proofs.{OfTables.CodeLists.snoc_split, OfTables.CodeLists.cut_alike, OfTables.Grown.may_follow}
use Rattle.hotel_model.proofs.Starts.StartCodes.{places_at_start, rows_at_start}

-- a fresh code has no row
pub fresh_has_no_row : (h : History) (code : ℕ) → is_fresh h code ≡ true → at_number (all_issued h) code ≡ None
fresh_has_no_row h code e = no_key (all_issued h) code (not_true (is_one_of code (issued_codes h)) e)

-- where the next code of a room comes to stand
abbrev pub next_place : History → ℕ → CodeRow
next_place h room = record { room = room; place = length (issued h room) }

-- one more code at a room
placed_more : (b : Bool) (h : History) (room new r : ℕ)
    → (b ≡ true → room ≡ r) → at_number (all_issued h) new ≡ None → CodesHavePlaces h
    → (before : List ℕ) (code : ℕ) (later : List ℕ) → when b (and_last new) (issued h r) ≡ before ++ code ∷ later
    → at_number (insert_entry nat_cmp (all_issued h) new (next_place h room)) code
    ≡ Some (record { room = r; place = length before })
placed_more true h room new r here fresh ih before code later e =
    elim (snoc_split (issued h r) new before code later e) [
      | inl p ↦
          let v = next_place h room in
          let w : v ≡ record { room = r; place = length before } =
          ap (next_place h) (here refl) ∙ ap
          (λ (zs : List ℕ). let x : CodeRow = record { room = r; place = length zs } in x) (sym p.0) in
          ap (at_number (insert_entry nat_cmp (all_issued h) new v)) p.1
          ∙ row_added (all_issued h) new v ∙ ap (λ z. Some z) w
      | inr p ↦ row_kept (all_issued h) new _ _ code fresh (ih r before code p.0 p.1)
    ]
placed_more false h room new r here fresh ih before code later e =
    row_kept (all_issued h) new _ _ code fresh (ih r before code later e)

pub codes_have_places : (h : History) → Reached h → CodesHavePlaces h
codes_have_places (start t) ok r before code later e = places_at_start t ok r before code later e
codes_have_places (h ▷ Install room kind new) ok r before code later e =
    let fresh = fresh_has_no_row h new (may_follow h (Install room kind new) ok).2 in
    placed_more (room == r) h room new r (eq_from room r) fresh (codes_have_places h ok.0) before code later e
codes_have_places (h ▷ Issue party room number new) ok r before code later e =
    let fresh = fresh_has_no_row h new (may_follow h (Issue party room number new) ok).6 in
    placed_more (room == r) h room new r (eq_from room r) fresh (codes_have_places h ok.0) before code later e
codes_have_places (h ▷ Refitted room fit new) ok r before code later e =
    let fresh = fresh_has_no_row h new (may_follow h (Refitted room fit new) ok).3 in
    placed_more (room == r) h room new r (eq_from room r) fresh (codes_have_places h ok.0) before code later e
codes_have_places (h ▷ _) ok r before code later e = codes_have_places h ok.0 r before code later e

-- two places of one code are one
pub same_place : (h : History) → Reached h → (r s code : ℕ) (before later before' later' : List ℕ)
    → issued h r ≡ before ++ code ∷ later → issued h s ≡ before' ++ code ∷ later'
    → (r ≡ s) × (before ≡ before') × (later ≡ later')
same_place h ok r s code before later before' later' e f =
    let p = codes_have_places h ok r before code later e in
    let q = codes_have_places h ok s before' code later' f in
    let w : Some (let x : CodeRow = record { room = r; place = length before } in
    x) ≡ Some (record { room = s; place = length before' }) = sym p ∙ q in
    let rooms : r ≡ s = ap (λ o. elim o [ Some x ↦ x.room | None ↦ 0 ]) w in
    let lengths : length before ≡ length before' = ap (λ o. elim o [ Some x ↦ x.place | None ↦ 0 ]) w in
    let c = cut_alike before before' (code ∷ later) (code ∷ later') lengths (sym e ∙ ap (issued h) rooms ∙ f) in
    let t : later ≡ later' = cc in
    (rooms, c.0, t)

pub no_code_twice : (h : History) → Reached h → NoCodeTwice h
no_code_twice h ok r s code before later before' later' e f =
    let p = same_place h ok r s code before later before' later' e f in (p.0, p.1)

still_there : (b : Bool) (new code : ℕ) (codes before later : List ℕ)
    → codes ≡ before ++ code ∷ later → (later' : List ℕ) × (when b (and_last new) codes ≡ before ++ code ∷ later')
still_there true new code codes before later e =
    (later ++ new ∷ [], ap (λ zs. zs ++ new ∷ []) e ∙ append_assoc before (code ∷ later) (new ∷ []))
still_there false new code codes before later e = (later, e)

stands_more : (h : History) (room new code : ℕ) (row : CodeRow)
    → PlacesHaveCodes h → at_number (insert_entry nat_cmp (all_issued h) new (next_place h room)) code ≡ Some row
    → (before : List ℕ) × (later : List ℕ) × (when (room == row.room) (and_last new) (issued h row.room)
    ≡ before ++ code ∷ later) × (length before ≡ row.place)
stands_more h room new code row ih e =
    elim (row_inserted (all_issued h) new (next_place h room) row code e) [
      | inl p ↦
          let q : room ≡ row.room = ap (λ (x : CodeRow). x.room) p.1 in
          let l : length (issued h room) ≡ row.place = ap (λ (x : CodeRow). x.place) p.1 in (
            issued h row.room,
            [],
            ap (λ z. when (z == row.room) (and_last new) (issued h row.room)) q
                ∙ ap (λ b. when b (and_last new) (issued h row.room)) (eq_self row.room)
                ∙ ap (λ z. issued h row.room ++ z ∷ []) (sym p.0),
            ap (λ z. length (issued h z)) (sym q) ∙ l,
          )
      | inr e' ↦
          let p = ih code row e' in
          let q = still_there (room == row.room) new code (issued h row.room) p.0 p.1 p.2 in
          (p.0, q.0, q.1, p.3)
    ]

pub places_have_codes : (h : History) → Reached h → PlacesHaveCodes h
places_have_codes (start t) ok code row e = rows_at_start t ok code row e
places_have_codes (h ▷ Install room kind new) ok code row e =
    stands_more h room new code row (places_have_codes h ok.0) e
places_have_codes (h ▷ Issue party room number new) ok code row e =
    stands_more h room new code row (places_have_codes h ok.0) e
places_have_codes (h ▷ Refitted room fit new) ok code row e =
    stands_more h room new code row (places_have_codes h ok.0) e
places_have_codes (h ▷ _) ok code row e = places_have_codes h ok.0 code row e
