-- A note of a lock, lifted.
use Rattle.std.proofs.Common.{ℕ, ◌≡◌, ◌+◌, ◌≤◌, Bool, true, false, cond, Option, Some, None, [], ◌∷◌, refl, ap, sym}
use Rattle.std.proofs.Common.{◌∙◌, length, ◌==◌, ◌&&◌, ◌-◌, nat_le, arith, is_some}
use Rattle.hotel_model.proofs.Names.{Link, Act, Note, turn, NoRoom, NoCard, CardDiffers, LockShut, NotInside}
use Rattle.hotel_model.proofs.Names.{HeldDiffers, NotAwaited, Conflict, Gap, OldFit, NoFit, when, said_of, is_one_of}
use Rattle.hotel_model.proofs.Names.{History, ◌▷◌, current, cards, held, awaited, inside, secured, are_none, Copy}
use Rattle.hotel_model.proofs.Names.{Conflicting, Next, After, notes, notes_of, notes_before, present_fit, same_note}
use Rattle.hotel_model.proofs.Names.{rows_of, is_room, is_card, has_link, opens, card_at, note_at, inside_at, needs}
use Rattle.hotel_model.proofs.Names.{accepted, said, refused, told, reported, Moment, moment_of, comes, told_on}
use Rattle.hotel_model.proofs.Names.{untaken_on, reported_on, held_on, said_code_at, place_on, lock_place_of}
use Rattle.hotel_model.proofs.Names.{secured_on}
use Rattle.hotel_model.proofs.Names.{secured_after_on, is_awaited_on, has_link_on, Reached, Lifts, as_change}
use Rattle.keycard_rules.specs.declared.note.Act.TheVariants as act
use Rattle.hotel_model.specs.{declared.change.InsideMove.InsideMove, declared.change.InsideMove.TheVariants.Same}
use Rattle.hotel_model.specs.{declared.change.InsideMove.TheVariants.Goes}
use Rattle.hotel_model.specs.declared.change.Change.TheVariants as change
use Rattle.hotel_model.specs.declared.command.Command.TheVariants as command
use Rattle.hotel_model.specs.declared.reply.Reply.TheVariants as reply
use Rattle.hotel_model.specs.Event as event
use Rattle.hotel_model.specs.Cases.{holds}
use Rattle.hotel_model.proofs.{Lifted.LiftFacts.CodesFound, OfTables.Tests.eq_self, OfTables.Numbered.is_there}
use Rattle.hotel_model.proofs.{OfTables.RoomNumbers.room_there}
use Rattle.hotel_model.proofs.Lifted.NotesFound.{standing_on, standing_by_lookup}
use Rattle.hotel_model.proofs.{Invariants.NotesOfFits.notes_for, OfTables.Tests.eq_from}
use Rattle.hotel_model.proofs.{Lifted.LiftTools.lifts_by, Lifted.LiftTools.alike, Lifted.LiftTools.same_unless}
use Rattle.hotel_model.proofs.{Lifted.LiftTools.after_checks, Lifted.LiftTools.needed, Lifted.LiftEasy.room_is_there}
use Rattle.hotel_model.proofs.Lifted.LiftRooms.{codes_said, place_said, secured_said, fit_said}

-- the code that the row of a room says its lock holds
held_said : (h : History) (room : ℕ) → CodesFound h → is_room h room ≡ true → held_on (rows_of h) room ≡ held h room
held_said h room found e =
    ap (said_code_at (rows_of h) room) (place_said h room e) ∙ ap (λ o. said_of o 0 (λ code. code)) (found.held room e)

secured_by : (none last s : Bool) → cond (none && last) true s ≡ when (last && none) (λ _. true) s
secured_by true true s = refl
secured_by true false s = refl
secured_by false true s = refl
secured_by false false s = refl

-- whether the room is secured after an entry
secured_entered : (h : History) (room fit count number : ℕ) (link : Link) (at : Moment) → CodesFound h
    → is_room h room ≡ true → is_card h number ≡ true → has_link h number link ≡ true → opens h room link ≡ true
    → secured_after_on (rows_of h) room link ≡ secured (h ▷ event.Entered room fit count number link at) room
secured_entered h room fit count number link at found r k l o =
    let none : Bool = are_none (inside h room) in
    ap (λ n. cond (none && (place_on (rows_of h) link.new_code + 1 == n)) true (secured_on (rows_of h) room))
    (codes_said h room r)
    ∙ ap (λ b. cond (none && b) true (secured_on (rows_of h) room)) (found.entered_current room number link r k l o)
    ∙ ap (λ s. cond (none && (link.new_code == current h room)) true s) (secured_said h room r)
    ∙ secured_by none (link.new_code == current h room) (secured h room)
    ∙ ap (λ b. when (b && (link.new_code == current h room) && none) (λ _. true) (secured h room)) (sym (eq_self room))

-- notes that leave their room alike
taken_alike : (note : Note) (place place' : ℕ) (s s' : Bool) (insides : InsideMove) → place ≡ place' → s ≡ s'
    → accepted reply.Taken (change.Noted note place s insides)
    ≡ accepted reply.Taken (change.Noted note place' s' insides)
taken_alike note place place' s s' insides p q = ap (λ z. accepted reply.Taken (change.Noted note z s insides)) p
    ∙ ap (λ z. accepted reply.Taken (change.Noted note place' z insides)) q

-- what the next note of a room says
told_lifts : (h : History) (note : Note) (its_act : Act) → CodesFound h → is_room h note.room ≡ true
    → (let n : Note = record note { act = its_act } in told_on (rows_of h) n its_act ≡ as_change h (told h n its_act))
told_lifts h note (act.Entered number link) found r =
    let n : Note = record note { act = act.Entered number link } in
    let e : event.Event = event.Entered note.room note.fit note.count number link (moment_of note) in
    let rows = rows_of h in
    same_unless
    (needs (is_some (card_at rows number)) NoCard ∷ needs (has_link_on rows number link) CardDiffers
    ∷ needs (is_some (turn (held_on rows note.room) link)) LockShut ∷ [])
    (needs (is_card h number) NoCard ∷ needs (has_link h number link) CardDiffers
    ∷ needs (opens h note.room link) LockShut ∷ [])
    (accepted reply.Taken (change.Noted n (place_on rows link.new_code) (secured_after_on rows note.room link)
    (comes (is_one_of number (inside_at rows note.room)) number)))
    (as_change h (accepted reply.Taken e)) (
      ap (λ b. needs b NoCard) (is_there (cards h) number),
      λ k. (
        refl,
        λ l. (
          ap (λ code. needs (is_some (turn code link)) LockShut) (held_said h note.room found r),
          λ o. let there = needed (is_card h number) NoCard k in
              let seen = needed (has_link h number link) CardDiffers l in
              let opened = needed (opens h note.room link) LockShut o in
              taken_alike n _ _ _ _ (comes (is_one_of number (inside h note.room)) number)
              (found.entered_place note.room note.fit note.count number link (moment_of note) r there seen opened)
              (secured_entered h note.room note.fit note.count number link (moment_of note) found r there seen opened),
        ),
      ),
    )
    ∙ after_checks h (needs (is_card h number) NoCard ∷ needs (has_link h number link) CardDiffers
    ∷ needs (opens h note.room link) LockShut ∷ []) (accepted reply.Taken e)
told_lifts h note (act.Left number link) found r =
    let n : Note = record note { act = act.Left number link } in
    let e : event.Event = event.Left note.room note.fit note.count number link (moment_of note) in
    let rows = rows_of h in
    same_unless
    (needs (is_some (card_at rows number)) NoCard ∷ needs (has_link_on rows number link) CardDiffers
    ∷ needs (is_one_of number (inside_at rows note.room)) NotInside ∷ [])
    (needs (is_card h number) NoCard ∷ needs (has_link h number link) CardDiffers
    ∷ needs (is_one_of number (inside h note.room)) NotInside ∷ [])
    (accepted reply.Taken (change.Noted n (lock_place_of rows note.room) (secured_on rows note.room) (Goes number)))
    (as_change h (accepted reply.Taken e)) (
      ap (λ b. needs b NoCard) (is_there (cards h) number),
      λ _. (
        refl,
        λ _. (refl, λ _. taken_alike n _ _ _ _ (Goes number) (place_said h note.room r) (secured_said h note.room r)),
      ),
    )
    ∙ after_checks h (needs (is_card h number) NoCard ∷ needs (has_link h number link) CardDiffers
    ∷ needs (is_one_of number (inside h note.room)) NotInside ∷ []) (accepted reply.Taken e)
told_lifts h note (act.Recoded from to) found r =
    let n : Note = record note { act = act.Recoded from to } in
    let e : event.Event = event.Recoded note.room note.fit note.count from to (moment_of note) in
    let rows = rows_of h in
    same_unless
    (needs (held_on rows note.room == from) HeldDiffers ∷ needs (is_awaited_on rows note.room to) NotAwaited ∷ [])
    (needs (holds h note.room from) HeldDiffers ∷ needs (is_one_of to (awaited h note.room)) NotAwaited ∷ [])
    (accepted reply.Taken (change.Noted n (place_on rows to) (secured_on rows note.room) Same))
    (as_change h (accepted reply.Taken e)) (
      ap (λ code. needs (code == from) HeldDiffers) (held_said h note.room found r),
      λ f. (
        ap (λ b. needs b NotAwaited) (found.awaited note.room to r),
        λ a. taken_alike n _ _ _ _ Same
            (found.recoded_place note.room note.fit note.count from to (moment_of note) r
            (needed (holds h note.room from) HeldDiffers f) (needed (is_one_of to (awaited h note.room)) NotAwaited a))
            (secured_said h note.room r),
      ),
    )
    ∙ after_checks h (needs (holds h note.room from) HeldDiffers ∷ needs (is_one_of to (awaited h note.room)) NotAwaited
    ∷ []) (accepted reply.Taken e)

kept_by : (b : Bool) (h : History) (note : Note)
    → cond b (said reply.Seen) (refused Conflict) ≡ as_change h (reported h note (cond b Copy Conflicting))
kept_by true h note = refl
kept_by false h note = refl

next_by : (b : Bool) (h : History) (note : Note) (n : ℕ) → CodesFound h → is_room h note.room ≡ true
    → cond b (told_on (rows_of h) note note.act) (refused (Gap n))
    ≡ as_change h (reported h note (cond b Next (After n)))
next_by true h note n found r = told_lifts h note note.act found r
next_by false h note n found r = refl

-- how many notes of the present fit its row says
taken_said : (h : History) → Reached h → (room fit : ℕ)
    → (fit == present_fit h room) ≡ true → length (notes h room) - notes_before h room ≡ length (notes_of h room fit)
taken_said h ok room fit e =
    let n = (notes_for h ok room).1 in
    let m : length (notes h room) - notes_before h room ≡ length (notes_of h room (present_fit h room)) = omega arith in
    m ∙ ap (λ z. length (notes_of h room z)) (sym (eq_from fit (present_fit h room) e))

-- a note that wasn't taken, by whether it is of the present fit
untaken_by : (b : Bool) (h : History) (note : Note) (taken : ℕ) → Reached h → CodesFound h → is_room h note.room ≡ true
    → (b ≡ true → taken ≡ length (notes_of h note.room note.fit))
    → cond b (cond (note.count == taken + 1) (told_on (rows_of h) note note.act) (refused (Gap (taken + 1))))
    (refused OldFit) ≡ as_change h (reported h note (standing_on b None (length (notes_of h note.room note.fit)) note))
untaken_by true h note taken ok found r n =
    ap (λ z. cond (note.count == z + 1) (told_on (rows_of h) note note.act) (refused (Gap (z + 1)))) (n refl)
    ∙ next_by (note.count == length (notes_of h note.room note.fit) + 1) h note
    (length (notes_of h note.room note.fit) + 1) found r
untaken_by false h note taken ok found r n = refl

kept_of : (b : Bool) (h : History) (note kept : Note) (taken : ℕ)
    → cond (same_note kept note) (said reply.Seen) (refused Conflict)
    ≡ as_change h (reported h note (standing_on b (Some kept) taken note))
kept_of true h note kept taken = kept_by (same_note kept note) h note
kept_of false h note kept taken = kept_by (same_note kept note) h note

-- a note, by the one of its fit and count
reported_lifts : (h : History) (note : Note) (kept : Option Note)
    → Reached h → CodesFound h → is_room h note.room ≡ true
    → reported_on (rows_of h) note kept ≡ as_change h (reported h note
    (standing_on (note.fit == present_fit h note.room) kept (length (notes_of h note.room note.fit)) note))
reported_lifts h note (Some kept) ok found r =
    kept_of (note.fit == present_fit h note.room) h note kept (length (notes_of h note.room note.fit))
reported_lifts h note None ok found r =
    ap (λ o. said_of o (refused NoRoom) (untaken_on (rows_of h) note)) (room_there h note.room r).2
    ∙ untaken_by (note.fit == present_fit h note.room) h note
    (length (notes h note.room) - notes_before h note.room) ok found r (taken_said h ok note.room note.fit)

pub note_lifts : (h : History) (note : Note)
    → Reached h → CodesFound h → 1 ≤ note.count → Lifts h (command.Reported note)
note_lifts h note ok found n ahead =
    lifts_by h ahead (command.Reported note)
    (alike refl λ _. alike (ap (λ b. needs b NoRoom) (room_is_there h note.room)) λ r.
    alike (ap (λ m. needs (nat_le note.fit m) NoFit) (fit_said h note.room (needed (is_room h note.room) NoRoom r)))
    λ _.
    reported_lifts h note (note_at (rows_of h) note.room note.fit note.count) ok found
    (needed (is_room h note.room) NoRoom r)
    ∙ ap (λ s. as_change h (reported h note s))
    (sym (standing_by_lookup h note ok (needed (is_room h note.room) NoRoom r) n)))
