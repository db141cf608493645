-- A note of a room changes nothing that the notes of another one turn on.
use Rattle.std.proofs.Common.{◌≡◌, ℕ, Bool, true, false, List, [], ◌∷◌, refl, ap, sym, ◌∙◌, ◌==◌, ◌&&◌, if◌then◌else◌}
use Rattle.std.proofs.Common.{Ordering, Less, Equal, Greater}
use Rattle.hotel_books.proofs.Names.{insert_key, match_ordering, is_at, remove_key, Note, answer_to, told, reported}
use Rattle.hotel_books.proofs.Names.{cards, is_begun, is_room, present_fit, insiders, inside, those_in, History, ◌▷◌}
use Rattle.hotel_books.proofs.Names.{awaited, turns, held, Standing, Copy, Conflicting, OfOldFit, Next, After, notes}
use Rattle.hotel_books.proofs.Names.{standing, and_last, pair_cmp, when, without, after}
use Rattle.keycard_rules.specs.declared.note.Act.{Act}
use Rattle.keycard_rules.specs.declared.note.Act.TheVariants as act
use Rattle.hotel_model.specs.declared.command.Command.TheVariants as command
use Rattle.hotel_model.proofs.{OfTables.Pairs.pair_is, OfTables.Tests.and_true, OfTables.Tests.eq_from}
use Rattle.hotel_audit.specs.FilesCounted.{event_by, event_of}

-- two histories agree on all that the notes of a room turn on
pub record SameAt (h k : History) (r : ℕ) : Type 0 where
  pub begun : is_begun k ≡ is_begun h
  pub room : is_room k r ≡ is_room h r
  pub fit : present_fit k r ≡ present_fit h r
  pub cards : cards k ≡ cards h
  pub held : held k r ≡ held h r
  pub awaited : awaited k r ≡ awaited h r
  pub inside : inside k r ≡ inside h r
  pub notes : notes k r ≡ notes h r

other_by : (o : Ordering) (room number r : ℕ) (e : ℕ × ℕ) (es : List (ℕ × ℕ))
    → (room == r) ≡ false → those_in (insert_key pair_cmp es (room, number)) r ≡ those_in es r
    → those_in (match_ordering o ((room, number) ∷ e ∷ es) (e ∷ es) (e ∷ insert_key pair_cmp es (room, number))) r
    ≡ those_in (e ∷ es) r
other_by Less room number r e es f ih = ap (λ b. when b (λ numbers. number ∷ numbers) (those_in (e ∷ es) r)) f
other_by Equal room number r e es f ih = refl
other_by Greater room number r e es f ih = ap (λ ns. when (e.0 == r) (λ numbers. e.1 ∷ numbers) ns) ih

-- who is inside a room, after a card came into another one
other_came : (es : List (ℕ × ℕ)) (room number r : ℕ)
    → (room == r) ≡ false → those_in (insert_key pair_cmp es (room, number)) r ≡ those_in es r
other_came [] room number r f = ap (λ b. when b (λ numbers. number ∷ numbers) []) f
other_came (e ∷ es) room number r f =
    other_by (pair_cmp (room, number) e) room number r e es f (other_came es room number r f)

-- who is inside a room, after a card left another one
other_left : (es : List (ℕ × ℕ)) (room number r : ℕ)
    → (room == r) ≡ false → those_in (remove_key (is_at (pair_cmp (room, number))) es) r ≡ those_in es r
other_left [] room number r f = refl
other_left (e ∷ es) room number r f = by (is_at (pair_cmp (room, number)) e) refl (other_left es room number r f)
  where
    by : (b : Bool) → is_at (pair_cmp (room, number)) e ≡ b
        → those_in (remove_key (is_at (pair_cmp (room, number))) es) r ≡ those_in es r
        → those_in (if b then es else e ∷ remove_key (is_at (pair_cmp (room, number))) es) r ≡ those_in (e ∷ es) r
    by true q ih =
        let its_room : e.0 ≡ room =
        eq_from e.0 room (and_true (e.0 == room) (e.1 == number) (sym (pair_is room number e) ∙ q)).0 in
        let other : (e.0 == r) ≡ false = ap (λ z. z == r) its_room ∙ f in
        sym (ap (λ b. when b (λ numbers. e.1 ∷ numbers) (those_in es r)) other)
    by false q ih = ap (λ ns. when (e.0 == r) (λ numbers. e.1 ∷ numbers) ns) ih

other_by_act : (h : History) (note : Note) (what : Act) (r : ℕ)
    → (note.room == r) ≡ false → SameAt h (h ▷ event_by note what) r
other_by_act h note (act.Entered number link) r f = record {
  begun = refl;
  room = refl;
  fit = refl;
  cards = refl;
  held = ap (λ b. when b (λ _. link.new_code) (held h r)) f;
  awaited = ap (λ b. when (b && turns h note.room link) (without link.new_code) (awaited h r)) f;
  inside = other_came (insiders h) note.room number r f;
  notes = ap (λ b. when b (and_last (record note { act = act.Entered number link })) (notes h r)) f;
}
other_by_act h note (act.Left number link) r f = record {
  begun = refl;
  room = refl;
  fit = refl;
  cards = refl;
  held = refl;
  awaited = refl;
  inside = other_left (insiders h) note.room number r f;
  notes = ap (λ b. when b (and_last (record note { act = act.Left number link })) (notes h r)) f;
}
other_by_act h note (act.Recoded from to) r f = record {
  begun = refl;
  room = refl;
  fit = refl;
  cards = refl;
  held = ap (λ b. when b (λ _. to) (held h r)) f;
  awaited = ap (λ b. when b (after to) (awaited h r)) f;
  inside = refl;
  notes = ap (λ b. when b (and_last (record note { act = act.Recoded from to })) (notes h r)) f;
}

-- the event of a note leaves other rooms as they are
pub other_room : (h : History) (note : Note) (r : ℕ) → (note.room == r) ≡ false → SameAt h (h ▷ event_of note) r
other_room h note r f = other_by_act h note note.act r f

told_same : (h k : History) (note : Note) (what : Act) → SameAt h k note.room → told k note what ≡ told h note what
told_same h k note (act.Entered number link) s = rw (s.cards, s.held) refl
told_same h k note (act.Left number link) s = rw (s.cards, s.inside) refl
told_same h k note (act.Recoded from to) s = rw (s.held, s.awaited) refl

reported_same : (h k : History) (note : Note) (st : Standing)
    → SameAt h k note.room → reported k note st ≡ reported h note st
reported_same h k note Copy s = refl
reported_same h k note Conflicting s = refl
reported_same h k note OfOldFit s = refl
reported_same h k note (After expected) s = refl
reported_same h k note Next s = told_same h k note note.act s

-- histories that agree on a room answer its notes alike
pub answered_same : (h k : History) (ahead : List ℕ) (note : Note)
    → SameAt h k note.room → answer_to k ahead (command.Reported note) ≡ answer_to h ahead (command.Reported note)
unfolding answer_to
answered_same h k ahead note s = rw (s.begun, s.room, s.fit, s.notes, reported_same h k note (standing h note) s) refl
