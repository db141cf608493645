-- The steps of an issue make the change.
use Rattle.std.proofs.Common.{◌≡◌, ◌+◌, inl, inr, refl, sym, ap, ap₂, ◌∙◌, List, [], ◌∷◌, ℕ, false, Option, None}
use Rattle.std.proofs.Common.{Some, eqb, is_eq, nat_cmp}
use Rattle.std.proofs.lemmas.Bool.{cases_Bool}
use Rattle.keycard_rules.specs.declared.card.Card.{Card}
use Rattle.hotel_model.specs.declared.rows.RoomRow.{RoomRow}
use Rattle.hotel_model.specs.declared.change.Change.TheVariants as change
use Rattle.hotel_model.specs.Words.{said_of}
use Rattle.hotel_model.specs.Rows.{Rows, at_number}
use Rattle.hotel_model.specs.Refinement.Change.{made, codes_of, room_changed, without_party, freed_by}
use Rattle.hotel_statements.specs.Steps.{code_given, card_given}
use Rattle.hotel_statements.proofs.Made.Rooms.{changed_alike, said}

abbrev codes_at : ℕ → List (ℕ × RoomRow) → ℕ
codes_at room es = said_of (at_number es room) 0 (λ row. row.codes)

abbrev set_codes : ℕ → ℕ → RoomRow → RoomRow
set_codes party codes row = record row { codes = codes; secured = false; party = Some party }

-- one more code than the room has
one_more : (room party codes : ℕ) (es : List (ℕ × RoomRow))
    → codes_at room es ≡ codes → room_changed room (set_codes party (codes + 1)) es
    ≡ room_changed room (λ row. set_codes party (row.codes + 1) row) es
one_more room party codes es is = changed_alike room (set_codes party (codes + 1))
    (λ row. set_codes party (row.codes + 1) row) es
    (λ row there. ap (λ n. set_codes party (n + 1) row) (said (λ row. row.codes) es room codes row is there))

-- who leaves a room does not move its codes
codes_stay : (room left : ℕ) (es : List (ℕ × RoomRow)) → codes_at room (without_party left es) ≡ codes_at room es
codes_stay room left [] = refl
codes_stay room left (e ∷ es) = elim (cases_Bool (eqb e.0 left)) [
  | inl at ↦ elim (cases_Bool (is_eq (nat_cmp room e.0))) [
    | inl found ↦ rw (at, found) refl
    | inr lost ↦ rw (at, lost) refl
  ]
  | inr other ↦ elim (cases_Bool (is_eq (nat_cmp room e.0))) [
    | inl found ↦ rw (other, found) refl
    | inr lost ↦ rw (other, lost) (codes_stay room left es)
  ]
]

codes_kept : (room : ℕ) (leaves : Option ℕ) (es : List (ℕ × RoomRow))
    → codes_at room (freed_by leaves es) ≡ codes_at room es
codes_kept room None es = refl
codes_kept room (Some left) es = codes_stay room left es

pub issue_is : (card : Card) (room : ℕ) (leaves : Option ℕ) (codes : ℕ) (rows : Rows) → codes_of rows room ≡ codes
    → card_given card room (codes + 1) (code_given leaves card.link.new_code
    (record { room = room; place = codes }) rows) ≡ made (change.Issue card room leaves) rows
issue_is card room leaves codes rows is =
    let at = made (change.Issue card room leaves) rows in
    ap₂ (λ rooms place. record at {
      rooms = rooms;
      codes = Rattle.std.specs.BTreeMap.insert_entry nat_cmp rows.codes card.link.new_code
          (record { room = room; place = place });
    })
    (one_more room card.party codes (freed_by leaves rows.rooms) (codes_kept room leaves rows.rooms ∙ is)) (sym is)
