-- A room has codes exactly where it is there.
use Rattle.std.proofs.Common.{ℕ, ◌≡◌, Bool, true, false, List, [], ◌∷◌, ◌++◌, inl, inr, refl, ap, sym, ◌∙◌, ◌==◌, ◌&&◌}
use Rattle.hotel_model.proofs.Names.{when, and_last, without, before, after, Install, Issue, Refitted, held, Entered}
use Rattle.hotel_model.proofs.Names.{Recoded, History, start, ◌▷◌, issued, passed, awaited, turns, rooms, is_room}
use Rattle.hotel_model.proofs.Names.{Reached}
use Rattle.hotel_model.proofs.Facts.CodeFacts.{HasCodes, RoomsHaveCodes, OthersHaveNone}
use Rattle.hotel_model.proofs.{OfTables.Tests.eq_from, OfTables.Tests.or_true, OfTables.Tests.or_false}
use Rattle.hotel_model.proofs.{OfTables.Tests.not_both, OfTables.TableKeys.key_inserted}
use Rattle.hotel_model.proofs.{Invariants.HomeRooms.comes_to_room, OfTables.Grown.may_follow, OfTables.Grown.not_here}
use Rattle.hotel_model.proofs.{Starts.StartLedger.rooms_have_codes_at_start}
use Rattle.hotel_model.proofs.{Starts.StartLedger.others_have_none_at_start}

-- one more code at another room
no_code_here : (b : Bool) (h : History) (code r : ℕ)
    → b ≡ false → issued h r ≡ [] → when b (and_last code) (issued h r) ≡ []
no_code_here b h code r f e = ap (λ t. when t (and_last code) (issued h r)) f ∙ e

issue_elsewhere : (h : History) (room code r : ℕ)
    → is_room h room ≡ true → is_room h r ≡ false → (issued h r ≡ []) × (passed h r ≡ []) × (awaited h r ≡ [])
    → (when (room == r) (and_last code) (issued h r) ≡ []) × (passed h r ≡ [])
    × (when (room == r) (and_last code) (awaited h r) ≡ [])
issue_elsewhere h room code r t f none =
    let b = not_here (room == r) h room r (eq_from room r) t f in
    (no_code_here (room == r) h code r b none.0, none.1, ap (λ x. when x (and_last code) (awaited h r)) b ∙ none.2)

-- Where a room isn't there no code was issued, none was passed, and none is awaited.
pub others_have_none : (h : History) → Reached h → OthersHaveNone h
others_have_none (start t) ok r e = others_have_none_at_start t ok r e
others_have_none (h ▷ Install room kind code) ok r e =
    let f = or_false (room == r) (is_room h r) (sym (key_inserted (rooms h) room kind r) ∙ e) in
    let none = others_have_none h ok.0 r f.1 in
    (no_code_here (room == r) h code r f.0 none.0, none.1, none.2)
others_have_none (h ▷ Issue party room number code) ok r e =
    issue_elsewhere h room code r (comes_to_room h party room ok.0 (may_follow h (Issue party room number code) ok).0)
    e (others_have_none h ok.0 r e)
others_have_none (h ▷ Refitted room fit code) ok r e =
    let none = others_have_none h ok.0 r e in
    let b = not_here (room == r) h room r (eq_from room r) (may_follow h (Refitted room fit code) ok).0 e in (
      no_code_here (room == r) h code r b none.0,
      ap (λ x. when x (λ codes. codes ++ held h room ∷ awaited h room) (passed h r)) b ∙ none.1,
      ap (λ x. when x (λ (codes : List ℕ). []) (awaited h r)) b ∙ none.2,
    )
others_have_none (h ▷ Entered room fit count number link at) ok r e =
    let none = others_have_none h ok.0 r e in
    let b =
    not_here (room == r) h room r (eq_from room r) (may_follow h (Entered room fit count number link at) ok).1 e in (
      none.0,
      ap (λ x. when (x && turns h room link) (and_last link.old_code) (passed h r)) b ∙ none.1,
      ap (λ x. when (x && turns h room link) (without link.new_code) (awaited h r)) b ∙ none.2,
    )
others_have_none (h ▷ Recoded room fit count from to at) ok r e =
    let none = others_have_none h ok.0 r e in
    let b =
    not_here (room == r) h room r (eq_from room r) (may_follow h (Recoded room fit count from to at) ok).1 e in (
      none.0,
      ap (λ x. when x (λ codes. codes ++ from ∷ before to (awaited h r)) (passed h r)) b ∙ none.1,
      ap (λ x. when x (after to) (awaited h r)) b ∙ none.2,
    )
others_have_none (h ▷ _) ok r e = others_have_none h ok.0 r e

first_or_more : (xs : List ℕ) (c : ℕ) → HasCodes (xs ++ c ∷ [])
first_or_more [] c = (c, [], refl)
first_or_more (x ∷ xs) c = (x, xs ++ c ∷ [], refl)

still_codes : (b : Bool) (c : ℕ) (xs : List ℕ) → HasCodes xs → HasCodes (when b (and_last c) xs)
still_codes true c xs has = first_or_more xs c
still_codes false c xs has = has

first_code : (b : Bool) (c : ℕ) (xs : List ℕ) → b ≡ true → HasCodes (when b (and_last c) xs)
first_code true c xs t = first_or_more xs c
first_code false c xs t = not_both false t refl

-- A room that is there has a code.
pub rooms_have_codes : (h : History) → Reached h → RoomsHaveCodes h
rooms_have_codes (start t) ok r e = rooms_have_codes_at_start t ok r e
rooms_have_codes (h ▷ Install room kind code) ok r e =
    elim (or_true (room == r) (is_room h r) (sym (key_inserted (rooms h) room kind r) ∙ e)) [
      | inl t ↦ first_code (room == r) code (issued h r) t
      | inr t ↦ still_codes (room == r) code (issued h r) (rooms_have_codes h ok.0 r t)
    ]
rooms_have_codes (h ▷ Issue party room number code) ok r e =
    still_codes (room == r) code (issued h r) (rooms_have_codes h ok.0 r e)
rooms_have_codes (h ▷ Refitted room fit code) ok r e =
    still_codes (room == r) code (issued h r) (rooms_have_codes h ok.0 r e)
rooms_have_codes (h ▷ _) ok r e = rooms_have_codes h ok.0 r e
