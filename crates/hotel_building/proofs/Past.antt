-- A card with a new code, given before some notes of its room or after them: the room is alike, and the notes may
-- follow.
use Rattle.std.proofs.Common.{ℕ, ◌≡◌, ◌+◌, Bool, true, false, Some, None, List, [], ◌∷◌, ◌++◌, refl, ap, sym, ◌∙◌}
use Rattle.std.proofs.Common.{subst, ◌==◌, ◌&&◌, inl, inr, append_assoc, not, Option, length}
use Rattle.hotel_model.proofs.Names.{when, and_last, after, without, last_of, is_one_of, are_none, at_number, keys_of}
use Rattle.hotel_model.proofs.Names.{Note, Act, Link, Event, Issue, History, ◌▷◌, turns, awaited}
use Rattle.hotel_model.proofs.Names.{secured, inside, issued, all_issued, is_fresh, next_card, is_card, has_link}
use Rattle.hotel_model.proofs.Names.{Reached}
use Rattle.hotel_model.specs.declared.rows.CodeRow.{CodeRow}
use Rattle.keycard_rules.specs.declared.note.Act.TheVariants as act
use Rattle.hotel_model.proofs.Facts.Follow.{MayFollow}
use Rattle.hotel_model.proofs.OfTables.Tests.{eq_from, eq_self, not_both, either_way}
use Rattle.hotel_model.proofs.OfTables.RowTests.{any_before}
use Rattle.hotel_model.proofs.OfTables.CodeLists.{last_more}
use Rattle.hotel_model.proofs.Invariants.CodePlaces.{fresh_has_no_row, codes_have_places}
use Rattle.hotel_model.proofs.Invariants.LedgerOrder.{link_seen}
use Rattle.hotel_building.specs.Building.{event_by, event_of}
use Rattle.hotel_building.proofs.Quiet.{SameCommands, same_books, noted_quiet}
use Rattle.hotel_building.proofs.Taken.{reached_noted}
use Rattle.hotel_building.proofs.Grows.{grows_same, grows_issue, card_stays}
use Rattle.hotel_building.proofs.Alike.{Alike, alike_self, alike_on, alike_back, alike_all, Ordered, ordered_more}
use Rattle.hotel_building.proofs.Alike.{after_all}
use Rattle.hotel_building.proofs.Replays.{Replays, replays_along, without_last, after_last}

-- the new code is none that a card of the note brings; a recoding's is awaited
abbrev pub IsPast : History → ℕ → ℕ → Act → Type 0
IsPast h r code (act.Entered number link) = (code == link.new_code) ≡ false
IsPast h r code (act.Left number link) = Unit {0}
IsPast h r code (act.Recoded from to) = is_one_of to (awaited h r) ≡ true

-- an entry, and the awaited codes
entry_awaits : (b t : Bool) (new code : ℕ) (codes : List ℕ) → (code == new) ≡ false
    → when (b && t) (without new) (when b (and_last code) codes)
    ≡ when b (and_last code) (when (b && t) (without new) codes)
entry_awaits true true new code codes f = without_last new code codes f
entry_awaits true false new code codes f = refl
entry_awaits false t new code codes f = refl

recoding_awaits : (b : Bool) (to code : ℕ) (codes : List ℕ) → is_one_of to codes ≡ true
    → when b (after to) (when b (and_last code) codes) ≡ when b (and_last code) (when b (after to) codes)
recoding_awaits true to code codes t = after_last to code codes t
recoding_awaits false to code codes t = refl

-- an entry with an earlier code doesn't secure the room
entry_secures : (b none was : Bool) (new code : ℕ) (codes : List ℕ) → b ≡ true → (code == new) ≡ false
    → when (b && (new == last_of (when b (and_last code) codes)) && none) (λ _. true) (when b (λ _. false) was)
    ≡ when b (λ _. false) (when (b && (new == last_of codes) && none) (λ _. true) was)
entry_secures true none was new code codes t f =
    ap (λ c. when ((new == c) && none) (λ _. true) false) (last_more codes code)
    ∙ ap (λ b. when (b && none) (λ _. true) false) (other new code f)
  where
    other : (a c : ℕ) → (c == a) ≡ false → (a == c) ≡ false
    other a c f = elim (either_way (a == c)) [
      | inl t ↦ not_both (c == a) (ap (λ z. c == z) (eq_from a c t) ∙ eq_self c) f
      | inr g ↦ g
    ]
entry_secures false none was new code codes t f = not_both false t refl

-- a note of a room, and a card with a new code there
note_past : (h : History) (party r number code : ℕ) (note : Note) (a : Act)
    → IsPast h r code a → (let x : Note = record note { room = r } in
    Alike r (h ▷ Issue party r number code ▷ event_by x a) (h ▷ event_by x a ▷ Issue party r number code))
note_past h party r number code note (act.Entered card link) f = record {
  same_held = refl;
  same_awaited = entry_awaits (r == r) (turns h r link) link.new_code code (awaited h r) f;
  same_secured = entry_secures (r == r) (are_none (inside h r)) (secured h r) link.new_code code (issued h r)
      (eq_self r) f;
  same_inside = λ n. refl;
  same_notes = refl;
  same_codes = refl;
  same_lock = refl;
}
note_past h party r number code note (act.Left card link) f = record {
  same_held = refl;
  same_awaited = refl;
  same_secured = refl;
  same_inside = λ n. refl;
  same_notes = refl;
  same_codes = refl;
  same_lock = refl;
}
note_past h party r number code note (act.Recoded from to) f = record {
  same_held = refl;
  same_awaited = recoding_awaits (r == r) to code (awaited h r) f;
  same_secured = refl;
  same_inside = λ n. refl;
  same_notes = refl;
  same_codes = refl;
  same_lock = refl;
}

-- a code of a card that is there isn't fresh
not_fresh : (h : History) → Reached h → (number code : ℕ) (link : Link) → is_card h number ≡ true
    → has_link h number link ≡ true → is_fresh h code ≡ true → (code == link.new_code) ≡ false
not_fresh h ok number code link there has fresh = elim (either_way (code == link.new_code)) [
  | inl t ↦
      let l = link_seen h number link ok there has in
      let found = codes_have_places h ok l.0 (l.1.0 ++ link.old_code ∷ []) link.new_code l.1.1
      (l.1.2 ∙ sym (append_assoc l.1.0 (link.old_code ∷ []) (link.new_code ∷ l.1.1))) in
      let none = ap (at_number (all_issued h)) (sym (eq_from code link.new_code t)) ∙ fresh_has_no_row h code fresh in
      let w : ◌≡◌ {A = Option CodeRow} (Some _) None = sym found ∙ none in absurd (let v = w in cc)
  | inr f ↦ f
]

-- a note that may follow is past a fresh code
is_past : (h : History) → Reached h → (r code : ℕ) (note : Note) (a : Act) → note.room ≡ r
    → is_fresh h code ≡ true → MayFollow h (event_by note a) → IsPast h r code a
is_past h ok r code note (act.Entered number link) e fresh m = not_fresh h ok number code link m.2 m.3 fresh
is_past h ok r code note (act.Left number link) e fresh m = tt
is_past h ok r code note (act.Recoded from to) e fresh m = ap (λ z. is_one_of to (awaited h z)) (sym e) ∙ m.3

-- and it may follow the card
follows_card : (h : History) → Reached h → (party r number code : ℕ) → number ≡ next_card h → (note : Note) (a : Act)
    → MayFollow h (event_by note a) → MayFollow (h ▷ Issue party r number code) (event_by note a)
follows_card h ok party r number code next note (act.Entered card link) m =
    let grown = grows_issue h ok party r number code next in
    let c = card_stays h (h ▷ Issue party r number code) grown card link m.2 m.3 in
    (m.0, m.1, c.0, c.1, m.4, m.5)
follows_card h ok party r number code next note (act.Left card link) m =
    let grown = grows_issue h ok party r number code next in
    let c = card_stays h (h ▷ Issue party r number code) grown card link m.2 m.3 in
    (m.0, m.1, c.0, c.1, m.4, m.5)
follows_card h ok party r number code next note (act.Recoded from to) m =
    (m.0, m.1, m.2, still (r == note.room) (awaited h note.room) m.3, m.4)
  where
    still : (b : Bool) (codes : List ℕ) → is_one_of to codes ≡ true → is_one_of to (when b (and_last code) codes) ≡ true
    still true codes t = any_before (λ c. c == to) codes (code ∷ []) t
    still false codes t = t

same_after : (h : History) (party r number code : ℕ) (note : Note) (a : Act)
    → SameCommands (h ▷ event_by note a ▷ Issue party r number code) (h ▷ Issue party r number code ▷ event_by note a)
same_after h party r number code note (act.Entered card link) = refl
same_after h party r number code note (act.Left card link) = refl
same_after h party r number code note (act.Recoded from to) = refl

-- Some notes of a room, and a card with a new code there.
pub notes_past : (h : History) → Reached h → Ordered h → (party r number code : ℕ) (xs : List Note)
    → is_fresh h code ≡ true → number ≡ next_card h → Replays r h xs
    → Replays r (h ▷ Issue party r number code) xs
    × Alike r (after_all (h ▷ Issue party r number code) xs) (after_all h xs ▷ Issue party r number code)
notes_past h ok s party r number code [] fresh next p = (tt, alike_self r (h ▷ Issue party r number code))
notes_past h ok s party r number code (x ∷ xs) fresh next p =
    let card : Event = Issue party r number code in
    let note = event_of x in
    let books = same_books (h ▷ note) h (noted_quiet h x) in
    let ih = notes_past (h ▷ note) (reached_noted h ok x p.1 p.2) (ordered_more h note s) party r number code xs
    (ap (λ cs. not (is_one_of code (keys_of cs))) books.same_codes ∙ fresh)
    (next ∙ ap (λ cs. length cs + 1) (sym books.same_cards)) p.3 in
    let swap : Alike r (h ▷ card ▷ note) (h ▷ note ▷ card) =
    subst (λ z. let y : Note = record x { room = z } in Alike r (h ▷ card ▷ event_of y) (h ▷ event_of y ▷ card))
    (sym p.0)
    (note_past h party r number code x x.act (is_past h ok r code x x.act p.0 fresh p.1)) in
    let s' = ordered_more (h ▷ card) note s in
    let s'' = ordered_more (h ▷ note) card (ordered_more h note s) in (
      (
        p.0,
        follows_card h ok party r number code next x x.act p.1,
        p.2,
        replays_along r (h ▷ note ▷ card) (h ▷ card ▷ note) xs s'' s' (alike_back r _ _ swap)
            (grows_same _ _ (same_after h party r number code x x.act)) ih.0,
      ),
      alike_on r _ _ _ (alike_all (h ▷ card ▷ note) (h ▷ note ▷ card) xs r s' s'' swap) ih.1,
    )
