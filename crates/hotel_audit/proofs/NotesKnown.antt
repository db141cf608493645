-- A note that was taken stays so, and is seen when it comes again, also when its room has a later fit.
use Rattle.std.proofs.Common.{◌≡◌, ◌∙◌, ℕ, zero, suc, Bool, true, false, List, [], ◌∷◌, ◌++◌, Option, Some, None}
use Rattle.std.proofs.Common.{length, drop, filter, sym, refl, subst, ap, arith, eq-eqb, ◌==◌, ◌+◌, ◌-◌, nat_le}
use Rattle.std.proofs.Common.{is_some, option_map, if◌then◌else◌}
use Rattle.hotel_books.proofs.Names.{Stream, Note, words, answer_to, moment_of, told, reported, is_begun, is_card}
use Rattle.hotel_books.proofs.Names.{is_room, has_link, opens, inside, awaited, Event, Begun, NextDay, Install, Refitted}
use Rattle.hotel_books.proofs.Names.{note_of, History, ◌▷◌, Copy, Conflicting, Next, After, notes, notes_of, with_note}
use Rattle.hotel_books.proofs.Names.{same_note, same_link, is_fit, present_fit, standing, standing_among, Outcome}
use Rattle.hotel_books.proofs.Names.{accepted, grown, needs, said, unless, Runs, Steps, StepsIf, answered, is_failed}
use Rattle.hotel_books.proofs.Names.{day, and_last, is_one_of, when}
use Rattle.std.proofs.lemmas.Bool.{eqb-true}
use Rattle.std.proofs.lemmas.Bool.Decides.{nat_tests}
use Rattle.std.proofs.lemmas.List.Elements.{filter-append}
use Rattle.std.proofs.Math.Seq.{drop-append_seam}
use Rattle.keycard_rules.specs.{declared.card.Link.Link, declared.note.Act.Act}
use Rattle.keycard_rules.specs.declared.note.Act.TheVariants as act
use Rattle.hotel_model.specs.{declared.command.Command.Command, declared.reply.Reply.Reply}
use Rattle.hotel_model.specs.{declared.reply.Refusal.Refusal, Cases.holds, Notes.same_act}
use Rattle.hotel_model.specs.declared.command.Command.TheVariants as command
use Rattle.hotel_model.specs.declared.reply.Reply.TheVariants as reply
use Rattle.hotel_model.specs.declared.reply.Refusal.TheVariants.{NotBegun, NoRoom, NoFit, NoCard, CardDiffers, LockShut}
use Rattle.hotel_model.specs.declared.reply.Refusal.TheVariants.{NotInside, HeldDiffers, NotAwaited}
use Rattle.hotel_model.specs.Event as event
use Rattle.hotel_model.proofs.{Facts.Follow.MayFollow, Invariants.Following.answers_follow}
use Rattle.hotel_model.proofs.{Invariants.HomeRooms.not_added, OfTables.Tests.eq_from, OfTables.Tests.not_both}

-- the first of these notes is the note
abbrev pub BeginsWith : List Note → Note → Type 0
BeginsWith [] note = ⊥
BeginsWith (kept ∷ more) note = same_note kept note ≡ true

-- a business day is set, the room is there and has had the note's fit, and the note was taken
pub record Knows (h : History) (note : Note) : Type 0 where
  pub begun : is_begun h ≡ true
  pub room : is_room h note.room ≡ true
  pub fit : is_fit h note.room note.fit ≡ true
  pub kept : BeginsWith (drop (note.count - 1) (notes_of h note.room note.fit)) note

begun_more : (h : History) (e : Event) → is_begun h ≡ true → is_begun (h ▷ e) ≡ true
begun_more h (Begun first) b = refl
begun_more h NextDay b = by (day h) b
  where
    by : (d : Option ℕ) → is_some d ≡ true → is_some (option_map (λ n. n + 1) d) ≡ true
    by None q = q
    by (Some n) q = refl
begun_more h _ b = b

room_more : (h : History) (e : Event) (r : ℕ) → is_room h r ≡ true → is_room (h ▷ e) r ≡ true
room_more h (Install room kind code) r there = by (is_room (h ▷ Install room kind code) r) refl
  where
    by : (b : Bool) → is_room (h ▷ Install room kind code) r ≡ b → is_room (h ▷ Install room kind code) r ≡ true
    by true q = q
    by false q = let none = (not_added h room r code kind q).1 in cc (there, none)
room_more h _ r there = there

le_more : (a b : ℕ) → nat_le a b ≡ true → nat_le a (b + 1) ≡ true
le_more a b l = grind (arith, nat_tests)

-- a fit that the room has had, it has had later on
fit_more : (h : History) (e : Event) (r fit : ℕ) → MayFollow h e → is_room h r ≡ true → is_fit h r fit ≡ true
    → is_fit (h ▷ e) r fit ≡ true
fit_more h (Install room kind code) r fit may there had = by (room == r) refl
  where
    by : (b : Bool) → (room == r) ≡ b → nat_le fit (when b (λ _. 1) (present_fit h r)) ≡ true
    by true q = not_both (is_room h r) there (ap (is_room h) (sym (eq_from room r q)) ∙ may.1)
    by false q = had
fit_more h (Refitted room number code) r fit may there had = by (room == r) refl
  where
    by : (b : Bool) → (room == r) ≡ b → nat_le fit (when b (λ _. number) (present_fit h r)) ≡ true
    by true q =
        let next : number ≡ present_fit h r + 1 = may.2 ∙ ap (λ z. present_fit h z + 1) (eq_from room r q) in
        ap (nat_le fit) next ∙ le_more fit (present_fit h r) had
    by false q = had
fit_more h _ r fit may there had = had

begins_longer : (k : ℕ) (xs ys : List Note) (note : Note)
    → BeginsWith (drop k xs) note → BeginsWith (drop k (xs ++ ys)) note
begins_longer zero [] ys note b = absurd b
begins_longer zero (x ∷ xs) ys note b = b
begins_longer (suc k) [] ys note b = absurd b
begins_longer (suc k) (x ∷ xs) ys note b = begins_longer k xs ys note b

-- the notes of a fit
abbrev pub under : ℕ → List Note → List Note
under fit taken = filter (λ (n : Note). n.fit == fit) taken

kept_more : (o : Option Note) (r fit k : ℕ) (taken : List Note) (note : Note)
    → BeginsWith (drop k (under fit taken)) note → BeginsWith (drop k (under fit (with_note r o taken))) note
kept_more None r fit k taken note b = b
kept_more (Some n) r fit k taken note b = by (n.room == r)
  where
    by : (t : Bool) → BeginsWith (drop k (under fit (when t (and_last n) taken))) note
    by true =
        subst (λ xs. BeginsWith (drop k xs) note) (sym (filter-append (λ (x : Note). x.fit == fit) taken (n ∷ [])))
        (begins_longer k (under fit taken) (under fit (n ∷ [])) note b)
    by false = b

knows_more : (h : History) (e : Event) (note : Note) → MayFollow h e → Knows h note → Knows (h ▷ e) note
knows_more h e note may k = record {
  begun = begun_more h e k.begun;
  room = room_more h e note.room k.room;
  fit = fit_more h e note.room note.fit may k.room k.fit;
  kept = kept_more (note_of e) note.room note.fit (note.count - 1) (notes h note.room) note k.kept;
}

knows_grown : (h : History) (ahead : List ℕ) (c : Command) (o : Option Event) (note : Note)
    → (answer_to h ahead c).happens ≡ o → Knows h note → Knows (grown h o) note
knows_grown h ahead c None note q k = k
knows_grown h ahead c (Some e) note q k = knows_more h e note (answers_follow h ahead c e q) k

knows_after : (b : Bool) (h : History) (s : Stream) (c : Command) (reply : Reply) (h' : History) (s' : Stream)
    (note : Note) → StepsIf b h s c reply h' s' → Knows h note → Knows h' note
knows_after true h s c reply h' s' note d k = subst (λ z. Knows z note) (sym d.0) k
knows_after false h s c reply h' s' note d k =
    subst (λ z. Knows z note) (sym d.1) (knows_grown h (words 64 s) c (answered h s c).happens note refl k)

-- what was taken stays so along a run
pub knows_along : (h h' : History) (s s' : Stream) (commands : List Command) (replies : List Reply) (note : Note)
    → Runs h s commands replies h' s' → Knows h note → Knows h' note
knows_along h h' s s' [] [] note r k = subst (λ z. Knows z note) (sym r.0) k
knows_along h h' s s' (c ∷ commands) (p ∷ replies) note r k =
    knows_along r.0 h' r.1 s' commands replies note r.3 (knows_after (is_failed p) h s c p r.0 r.1 note r.2 k)
knows_along h h' s s' [] (p ∷ replies) note r k = absurd r
knows_along h h' s s' (c ∷ commands) [] note r k = absurd r

-- a note that was taken is answered Seen
pub known_seen : (h : History) (ahead : List ℕ) (note : Note)
    → Knows h note → answer_to h ahead (command.Reported note) ≡ said reply.Seen
unfolding answer_to
known_seen h ahead note k = rw (k.begun, k.room, k.fit) (by (drop (note.count - 1) its) k.kept)
  where
    its : List Note
    its = notes_of h note.room note.fit

    by : (xs : List Note) → BeginsWith xs note
        → reported h note (standing_among (note.fit == present_fit h note.room) (length its) note xs) ≡ said reply.Seen
    by [] b = absurd b
    by (kept ∷ more) b = rw b refl

same_link_itself : (l : Link) → same_link l l ≡ true
same_link_itself l = rw (eq-eqb l.old_code l.old_code refl, eq-eqb l.new_code l.new_code refl) refl

same_act_itself : (a : Act) → same_act a a ≡ true
same_act_itself (act.Entered n l) = rw (eq-eqb n n refl, same_link_itself l) refl
same_act_itself (act.Left n l) = rw (eq-eqb n n refl, same_link_itself l) refl
same_act_itself (act.Recoded from to) = rw (eq-eqb from from refl, eq-eqb to to refl) refl

pub same_note_itself : (n : Note) → same_note n n ≡ true
same_note_itself n =
    rw (
      eq-eqb n.room n.room refl,
      eq-eqb n.fit n.fit refl,
      eq-eqb n.count n.count refl,
      same_act_itself n.act,
      eq-eqb n.day n.day refl,
      eq-eqb n.second n.second refl,
    ) refl

-- the next note of a fit is its last one afterwards
next_kept : (note : Note) (taken : List Note) → note.count ≡ length (under note.fit taken) + 1
    → BeginsWith (drop (note.count - 1) (under note.fit (with_note note.room (Some note) taken))) note
next_kept note taken next =
    let at : note.count - 1 ≡ length (under note.fit taken) = omega arith in
    let this : under note.fit (note ∷ []) ≡ note ∷ [] = rw (eq-eqb note.fit note.fit refl) refl in
    let last : under note.fit (taken ++ note ∷ []) ≡ under note.fit taken ++ note ∷ [] =
    filter-append (λ (x : Note). x.fit == note.fit) taken (note ∷ []) ∙ ap (λ xs. under note.fit taken ++ xs) this in
    rw (at, eq-eqb note.room note.room refl, last, drop-append_seam (under note.fit taken) (note ∷ []))
    (same_note_itself note)

-- the note is the next one of its room's present fit, a business day is set, and the room is there
pub record IsNextAt (h : History) (note : Note) : Type 0 where
  pub begun : is_begun h ≡ true
  pub room : is_room h note.room ≡ true
  pub fit : is_fit h note.room note.fit ≡ true
  pub next : note.count ≡ length (notes_of h note.room note.fit) + 1

-- a note that was taken as the next one is known
knows_next : (h : History) (e : Event) (note : Note) → note_of e ≡ Some note
    → present_fit (h ▷ e) note.room ≡ present_fit h note.room → IsNextAt h note → Knows (h ▷ e) note
knows_next h e note of fits n = record {
  begun = begun_more h e n.begun;
  room = room_more h e note.room n.room;
  fit = ap (nat_le note.fit) fits ∙ n.fit;
  kept = rw of (next_kept note (notes h note.room) n.next);
}

-- the reply is Taken or Seen
abbrev pub IsTaken : Reply → Type 0
IsTaken reply.Taken = Unit {0}
IsTaken reply.Seen = Unit {0}
IsTaken _ = ⊥

-- what comes of checks is what comes otherwise, where it isn't a refusal
unless_taken : (checks : List (Option Refusal)) (o p : Outcome Event) → p ≡ unless checks o → IsTaken p.reply → p ≡ o
unless_taken [] o p e t = e
unless_taken (Some why ∷ checks) o p e t = absurd (rw e at t)
unless_taken (None ∷ checks) o p e t = unless_taken checks o p e t

needs_taken : (begun room fit : Bool) (o : Outcome Event)
    → IsTaken (unless (needs begun NotBegun ∷ needs room NoRoom ∷ needs fit NoFit ∷ []) o).reply
    → (begun ≡ true) × (room ≡ true) × (fit ≡ true) × IsTaken o.reply
needs_taken true true true o t = (refl, refl, refl, t)
needs_taken true true false o t = absurd t
needs_taken true false fit o t = absurd t
needs_taken false room fit o t = absurd t

knows_told : (h : History) (note : Note) (what : Act) (o : Outcome Event) → what ≡ note.act → IsNextAt h note
    → o ≡ told h note what → IsTaken o.reply → Knows (grown h o.happens) note
knows_told h note (act.Entered number link) o w n e t =
    let ev = event.Entered note.room note.fit note.count number link (moment_of note) in
    let same = unless_taken (needs (is_card h number) NoCard ∷ needs (has_link h number link) CardDiffers
    ∷ needs (opens h note.room link) LockShut ∷ []) (accepted reply.Taken ev) o e t in
    rw same (knows_next h ev note (ap (λ a. Some (record note { act = a })) w) refl n)
knows_told h note (act.Left number link) o w n e t =
    let ev = event.Left note.room note.fit note.count number link (moment_of note) in
    let same = unless_taken (needs (is_card h number) NoCard ∷ needs (has_link h number link) CardDiffers
    ∷ needs (is_one_of number (inside h note.room)) NotInside ∷ []) (accepted reply.Taken ev) o e t in
    rw same (knows_next h ev note (ap (λ a. Some (record note { act = a })) w) refl n)
knows_told h note (act.Recoded from to) o w n e t =
    let ev = event.Recoded note.room note.fit note.count from to (moment_of note) in
    let same = unless_taken (needs (holds h note.room from) HeldDiffers
    ∷ needs (is_one_of to (awaited h note.room)) NotAwaited ∷ []) (accepted reply.Taken ev) o e t in
    rw same (knows_next h ev note (ap (λ a. Some (record note { act = a })) w) refl n)

knows_reported : (h : History) (note : Note) (o : Outcome Event) → is_begun h ≡ true → is_room h note.room ≡ true
    → is_fit h note.room note.fit ≡ true → o ≡ reported h note (standing h note) → IsTaken o.reply
    → Knows (grown h o.happens) note
knows_reported h note o begun room fit e t = by (drop (note.count - 1) its) refl
  where
    its : List Note
    its = notes_of h note.room note.fit

    is_present : Bool
    is_present = note.fit == present_fit h note.room

    seen : (b : Bool) (kept : Note) (more : List Note) → drop (note.count - 1) its ≡ kept ∷ more
        → same_note kept note ≡ b → o ≡ reported h note (if b then Copy else Conflicting)
        → Knows (grown h o.happens) note
    seen true kept more d q f =
        let k : Knows h note = record { begun = begun; room = room; fit = fit; kept = rw d q } in
        rw f k
    seen false kept more d q f = absurd (rw f at t)

    next : (b : Bool) → (note.count == length its + 1) ≡ b
        → o ≡ reported h note (if b then Next else After (length its + 1)) → Knows (grown h o.happens) note
    next true q f =
        let n = eqb-true note.count (length its + 1) q in
        knows_told h note note.act o refl (record { begun = begun; room = room; fit = fit; next = n }) f t
    next false q f = absurd (rw f at t)

    further : (b : Bool) → o ≡ reported h note (standing_among b (length its) note []) → Knows (grown h o.happens) note
    further true f = next (note.count == length its + 1) refl f
    further false f = absurd (rw f at t)

    by : (xs : List Note) → drop (note.count - 1) its ≡ xs → Knows (grown h o.happens) note
    by (kept ∷ more) d = seen (same_note kept note) kept more d refl (rw d at e)
    by [] d = further is_present (rw d at e)

-- a note whose reply is Taken or Seen was taken
knows_answered : (h : History) (ahead : List ℕ) (note : Note)
    → IsTaken (answer_to h ahead (command.Reported note)).reply
    → Knows (grown h (answer_to h ahead (command.Reported note)).happens) note
unfolding answer_to
knows_answered h ahead note t =
    let o = reported h note (standing h note) in
    let checked = needs_taken (is_begun h) (is_room h note.room) (is_fit h note.room note.fit) o t in
    rw (checked.0, checked.1, checked.2)
    (knows_reported h note (reported h note (standing h note)) checked.0 checked.1 checked.2 refl checked.3)

pub knows_step : (h : History) (s : Stream) (note : Note) (given : Reply) (h' : History) (s' : Stream)
    → IsTaken given → Steps h s (command.Reported note) given h' s' → Knows h' note
knows_step h s note reply.Taken h' s' t d =
    subst (λ z. Knows z note) (sym d.1) (knows_answered h (words 64 s) note (subst (λ r. IsTaken r) d.0 tt))
knows_step h s note reply.Seen h' s' t d =
    subst (λ z. Knows z note) (sym d.1) (knows_answered h (words 64 s) note (subst (λ r. IsTaken r) d.0 tt))
knows_step h s note _ h' s' t d = absurd t
