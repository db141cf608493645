-- What an accepted event needs.
use Rattle.std.proofs.Common.{ℕ, ◌≡◌, List, [], ◌∷◌, Bool, true, false, Option, Some, None, refl, ap, subst, nat_lt}
use Rattle.std.proofs.Common.{option_map, not, cond, length, drop, ◌+◌, ◌-◌, ◌==◌, is_some, inl, inr}
use Rattle.hotel_model.proofs.Names.{at_number, said_of, own_room, room_of, stays, Command, Refusal, KindFull, NoCard}
use Rattle.hotel_model.proofs.Names.{CardDiffers, LockShut, NotInside, HeldDiffers, NotAwaited, Act, inside, awaited}
use Rattle.hotel_model.proofs.Names.{Note, Event, History, is_fresh, issued_codes, draw_from, code_of}
use Rattle.hotel_model.proofs.Names.{Outcome, accepted, unless, needs, bars, answer_to, checks, effect, reported, told}
use Rattle.hotel_model.proofs.Names.{moment_of, is_begun, today, is_kind, is_room, is_party, is_booked, is_in_house}
use Rattle.hotel_model.proofs.Names.{is_of_kind, is_taken, is_card, has_link, opens, next_card, first_full, Standing}
use Rattle.hotel_model.proofs.Names.{Copy, Conflicting, Next, After, standing, standing_among, notes_of, present_fit}
use Rattle.hotel_model.proofs.Names.{next_fit, same_note}
use Rattle.hotel_model.specs.declared.command.Command.TheVariants as command
use Rattle.hotel_model.specs.declared.reply.Reply.TheVariants as reply
use Rattle.keycard_rules.specs.declared.note.Act.TheVariants as act
use Rattle.hotel_model.specs.Event as event
use Rattle.keycard_rules.specs.Words.{is_one_of}
use Rattle.hotel_model.specs.Cases.{holds}
use Rattle.hotel_model.proofs.{Facts.Follow.MayFollow, OfTables.Tests.eq_from, OfTables.StayStates.stands_booked}
use Rattle.hotel_model.proofs.{OfTables.StayStates.stands_home}

-- none of the checks refused
abbrev pub AllPass : List (Option Refusal) → Type 0
AllPass [] = Unit {0}
AllPass (c ∷ cs) = (c ≡ None) × AllPass cs

pub passed_all : (checks : List (Option Refusal)) (o : Outcome Event) (e : Event)
    → (unless checks o).happens ≡ Some e → AllPass checks × (o.happens ≡ Some e)
passed_all [] o e h = (tt, h)
passed_all (Some refusal ∷ checks) o e h = cc
passed_all (None ∷ checks) o e h = let p = passed_all checks o e h in ((refl, p.0), p.1)

pub needed : (b : Bool) (r : Refusal) → needs b r ≡ None → b ≡ true
needed true r h = refl
needed false r h = cc

pub barred : (b : Bool) (r : Refusal) → bars b r ≡ None → b ≡ false
barred false r h = refl
barred true r h = cc

pub from_draw : (o : Option ℕ) (f : ℕ → Event) (e : Event)
    → option_map f o ≡ Some e → (code : ℕ) × (o ≡ Some code) × (f code ≡ e)
from_draw (Some code) f e h = (code, refl, cc)
from_draw None f e h = cc

fresh_case : (h : History) (word : ℕ) (later : List ℕ) (c n : ℕ) (b : Bool)
    → is_one_of (code_of word) (issued_codes h) ≡ b
    → ((draw_from (issued_codes h) later).code ≡ Some c → is_fresh h c ≡ true)
    → (cond b (record (draw_from (issued_codes h) later) { examined = n })
    (record { code = Some (code_of word); examined = 1 })).code
    ≡ Some c → is_fresh h c ≡ true
fresh_case h word later c n false f ih e =
    let q : code_of word ≡ c = cc in subst (λ x. is_fresh h x ≡ true) q (ap not f)
fresh_case h word later c n true f ih e = ih e

-- a drawn code is fresh
pub drawn_fresh : (h : History) (ahead : List ℕ) (c : ℕ)
    → (draw_from (issued_codes h) ahead).code ≡ Some c → is_fresh h c ≡ true
unfolding draw_from
drawn_fresh h [] c e = cc
drawn_fresh h (word ∷ later) c e =
    fresh_case h word later c _ (is_one_of (code_of word) (issued_codes h)) refl (drawn_fresh h later c) e

pub same_event : {a b : Event} → Some a ≡ Some b → a ≡ b
same_event h = cc

no_refusal : (o : Option ℕ) → option_map KindFull o ≡ None → o ≡ None
no_refusal None h = refl
no_refusal (Some d) h = cc

if_next : (b : Bool) (n : ℕ) → cond b Next (After n) ≡ Next → b ≡ true
if_next true n h = refl
if_next false n h = cc

not_next : (b : Bool) → cond b Copy Conflicting ≡ Next → ⊥
not_next true h = cc
not_next false h = cc

-- The next note is of the present lock, and has the next count.
pub next_count : (present : Bool) (taken : ℕ) (note : Note) (kept : List Note)
    → standing_among present taken note kept ≡ Next → (present ≡ true) × (note.count ≡ taken + 1)
next_count true taken note [] h =
    (refl, eq_from note.count (taken + 1) (if_next (note.count == taken + 1) (taken + 1) h))
next_count false taken note [] h = cc
next_count present taken note (k ∷ ks) h = absurd (not_next (same_note k note) h)

by_act : (h : History) (note : Note) (its_act : Act) (e : Event)
    → note.count ≡ length (notes_of h note.room note.fit) + 1 → is_room h note.room ≡ true
    → note.fit ≡ present_fit h note.room → (told h note its_act).happens ≡ Some e → MayFollow h e
by_act h note (act.Entered number link) e n r l q =
    let p = passed_all (needs (is_card h number) NoCard ∷ needs (has_link h number link) CardDiffers
    ∷ needs (opens h note.room link) LockShut ∷ [])
    (accepted reply.Taken (event.Entered note.room note.fit note.count number link (moment_of note))) e q in
    subst (λ x. MayFollow h x) (same_event p.1) (
      n,
      r,
      needed (is_card h number) _ p.0.0,
      needed (has_link h number link) _ p.0.1.0,
      needed (opens h note.room link) _ p.0.1.1.0,
      l,
    )
by_act h note (act.Left number link) e n r l q =
    let p = passed_all (needs (is_card h number) NoCard ∷ needs (has_link h number link) CardDiffers
    ∷ needs (is_one_of number (inside h note.room)) NotInside ∷ [])
    (accepted reply.Taken (event.Left note.room note.fit note.count number link (moment_of note))) e q in
    subst (λ x. MayFollow h x) (same_event p.1) (
      n,
      r,
      needed (is_card h number) _ p.0.0,
      needed (has_link h number link) _ p.0.1.0,
      needed (is_one_of number (inside h note.room)) _ p.0.1.1.0,
      l,
    )
by_act h note (act.Recoded from to) e n r l q =
    let p =
    passed_all (needs (holds h note.room from) HeldDiffers ∷ needs (is_one_of to (awaited h note.room)) NotAwaited ∷ [])
    (accepted reply.Taken (event.Recoded note.room note.fit note.count from to (moment_of note))) e q in
    subst (λ x. MayFollow h x) (same_event p.1)
    (n, r, needed (holds h note.room from) _ p.0.0, needed (is_one_of to (awaited h note.room)) _ p.0.1.0, l)

by_standing : (h : History) (note : Note) (s : Standing) (e : Event)
    → standing h note ≡ s → is_room h note.room ≡ true → (reported h note s).happens ≡ Some e → MayFollow h e
by_standing h note Next e f r q =
    let taken = notes_of h note.room note.fit in
    let n = next_count (note.fit == present_fit h note.room) (length taken) note (drop (note.count - 1) taken) f in
    by_act h note note.act e n.1 r (eq_from note.fit (present_fit h note.room) n.0) q
by_standing h note _ e f r q = cc

-- the number that is there
pub some_number : (o : Option ℕ) → is_some o ≡ true → o ≡ Some (said_of o 0 (λ n. n))
some_number (Some n) h = refl
some_number None h = cc

follows_if : (h : History) (ahead : List ℕ) (command : Command) (e : Event)
    → AllPass (checks h command) → (effect h ahead command).happens ≡ Some e → MayFollow h e
follows_if h ahead (command.Begin day) e p q = subst (λ x. MayFollow h x) (same_event q) (barred (is_begun h) _ p.0)
follows_if h ahead (command.AddKind kind) e p q =
    subst (λ x. MayFollow h x) (same_event q) (needed (is_begun h) _ p.0, barred (is_kind h kind) _ p.1.0)
follows_if h ahead (command.AddRoom room kind) e p q =
    let d = from_draw (draw_from (issued_codes h) ahead).code (λ code. event.Install room kind code) e q in
    subst (λ x. MayFollow h x) d.2
    (needed (is_kind h kind) _ p.1.0, barred (is_room h room) _ p.1.1.0, drawn_fresh h ahead d.0 d.1)
follows_if h ahead (command.Reserve guest kind arrive nights) e p q =
    subst (λ x. MayFollow h x) (same_event q)
    (needed (is_kind h kind) _ p.1.0, refl, nights, refl, no_refusal (first_full h kind arrive nights) p.1.1.1.1.0)
follows_if h ahead (command.Cancel party) e p q =
    subst (λ x. MayFollow h x) (same_event q) (needed (is_party h party) _ p.1.0, needed (is_booked h party) _ p.1.1.0)
follows_if h ahead (command.CheckIn party room) e p q =
    let d = from_draw (draw_from (issued_codes h) ahead).code (λ code. event.Issue party room (next_card h) code) e q in
    subst (λ x. MayFollow h x) d.2 (
      inl (needed (is_room h room) _ p.1.0),
      needed (is_party h party) _ p.1.1.0,
      stands_booked (at_number (stays h) party) (needed (is_booked h party) _ p.1.1.1.0),
      inl (needed (is_of_kind h room party) _ p.1.1.1.1.1.1.0),
      inl (barred (is_taken h room) _ p.1.1.1.1.1.1.1.0),
      refl,
      drawn_fresh h ahead d.0 d.1,
    )
follows_if h ahead (command.Spare party) e p q = subst (λ x. MayFollow h x) (same_event q)
    (needed (is_party h party) _ p.1.0, needed (is_in_house h party) _ p.1.1.0, refl)
follows_if h ahead (command.Reissue party) e p q =
    let d = from_draw (draw_from (issued_codes h) ahead).code
    (λ code. event.Issue party (own_room h party) (next_card h) code) e q in
    let housed = needed (is_in_house h party) _ p.1.1.0 in
    let home : room_of h party ≡ Some (own_room h party) = some_number (room_of h party) housed in
    subst (λ x. MayFollow h x) d.2 (
      inr home,
      needed (is_party h party) _ p.1.0,
      stands_home (at_number (stays h) party) housed,
      inr home,
      inr home,
      refl,
      drawn_fresh h ahead d.0 d.1,
    )
follows_if h ahead (command.Transfer party room) e p q =
    let d = from_draw (draw_from (issued_codes h) ahead).code (λ code. event.Issue party room (next_card h) code) e q in
    subst (λ x. MayFollow h x) d.2 (
      inl (needed (is_room h room) _ p.1.0),
      needed (is_party h party) _ p.1.1.0,
      stands_home (at_number (stays h) party) (needed (is_in_house h party) _ p.1.1.1.0),
      inl (needed (is_of_kind h room party) _ p.1.1.1.1.0),
      inl (barred (is_taken h room) _ p.1.1.1.1.1.1.0),
      refl,
      drawn_fresh h ahead d.0 d.1,
    )
follows_if h ahead (command.CheckOut party) e p q = subst (λ x. MayFollow h x) (same_event q)
    (needed (is_party h party) _ p.1.0, needed (is_in_house h party) _ p.1.1.0)
follows_if h ahead (command.Refit room) e p q =
    let d =
    from_draw (draw_from (issued_codes h) ahead).code (λ code. event.Refitted room (next_fit h room) code) e q in
    subst (λ x. MayFollow h x) d.2
    (needed (is_room h room) _ p.1.0, barred (is_taken h room) _ p.1.1.0, refl, drawn_fresh h ahead d.0 d.1)
follows_if h ahead command.NextDay e p q =
    subst (λ x. MayFollow h x) (same_event q) (needed (is_begun h) _ p.0, needed (nat_lt (today h) 36524) _ p.1.0)
follows_if h ahead (command.Reported note) e p q =
    by_standing h note (standing h note) e refl (needed (is_room h note.room) _ p.1.0) q

pub answers_follow : (h : History) (ahead : List ℕ) (command : Command) (e : Event)
    → (answer_to h ahead command).happens ≡ Some e → MayFollow h e
unfolding answer_to
answers_follow h ahead command e eq =
    let p = passed_all (checks h command) (effect h ahead command) e eq in follows_if h ahead command e p.0 p.1
