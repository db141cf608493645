-- Cards and stays have numbers up to the greatest, and a room has few codes.
use Rattle.std.proofs.Common.{ℕ, ◌≡◌, ◌+◌, ◌≤◌, ◌<◌, Bool, true, false, Option, Some, None, List, [], ◌∷◌, length, refl}
use Rattle.std.proofs.Common.{ap, subst, arith, length-append, ◌==◌, nat_le, option_map, nat_cmp}
use Rattle.hotel_model.proofs.Names.{insert_entry, Card, Link, Act, Note, draw_from, Command, Refusal, NoCard}
use Rattle.hotel_model.proofs.Names.{CardDiffers, LockShut, NotInside, HeldDiffers, NotAwaited, when, and_last}
use Rattle.hotel_model.proofs.Names.{is_one_of, Event, History, start, ◌▷◌, issued, issued_codes, cards, card_of}
use Rattle.hotel_model.proofs.Names.{with_spare, link_of_party, link_to, inside, awaited, stays, Standing, Next}
use Rattle.hotel_model.proofs.Names.{standing, is_card, has_link, opens, next_card, next_fit, fits_used_up, FitRow}
use Rattle.hotel_model.proofs.Names.{fit_row, fits, fits_at, notes, own_room, parties_used_up, cards_used_up, accepted}
use Rattle.hotel_model.proofs.Names.{needs, bars, answer_to, checks, effect, reported, told, moment_of, Reached}
use Rattle.std.proofs.lemmas.Bool.{leb-false}
use Rattle.keycard_rules.specs.declared.note.Act.TheVariants as act
use Rattle.hotel_nights.specs.declared.stay.StayState.TheVariants as state
use Rattle.hotel_model.specs.declared.command.Command.TheVariants as command
use Rattle.hotel_model.specs.declared.reply.Reply.TheVariants as reply
use Rattle.hotel_model.specs.Event as event
use Rattle.hotel_model.specs.Cases.{holds}
use Rattle.hotel_model.proofs.{Facts.CodeFacts.CardsFit, Facts.CodeFacts.StaysFit, Facts.CodeFacts.CodesFit}
use Rattle.hotel_model.proofs.{Invariants.Following.AllPass, Invariants.Following.passed_all}
use Rattle.hotel_model.proofs.{OfTables.Counting.counts_more, OfTables.CodeLists.length_more}
use Rattle.hotel_model.proofs.{Invariants.Numbering.cards_count, Invariants.Numbering.stays_count}
use Rattle.hotel_model.proofs.{Invariants.Numbering.same_length, Invariants.FitsKept.fits_installed}
use Rattle.hotel_model.proofs.{Invariants.FitsKept.fits_refitted}
use Rattle.hotel_model.proofs.{OfTables.Grown.may_follow, Starts.StartNumbers.cards_fit_at_start}
use Rattle.hotel_model.proofs.{Starts.StartNumbers.stays_fit_at_start, Starts.StartLedger.codes_fit_at_start}

-- an event that uses a number finds one left
abbrev pub HasNumber : History → Event → Type 0
HasNumber h (event.Reserved party guest kind arrive depart) = parties_used_up h ≡ false
HasNumber h (event.Issue party room number code) = cards_used_up h ≡ false
HasNumber h (event.Spare party number) = cards_used_up h ≡ false
HasNumber h (event.Refitted room fit code) = fits_used_up h room ≡ false
HasNumber h _ = Unit {0}

same_event : {a b : Event} → Some a ≡ Some b → a ≡ b
same_event h = cc

barred : (b : Bool) (r : Refusal) → bars b r ≡ None → b ≡ false
barred false r h = refl
barred true r h = cc

drawn_event : (o : Option ℕ) (f : ℕ → Event) (e : Event) → option_map f o ≡ Some e → (code : ℕ) × (f code ≡ e)
drawn_event (Some code) f e h = (code, cc)
drawn_event None f e h = cc

by_act : (h : History) (note : Note) (its_act : Act) (e : Event)
    → (told h note its_act).happens ≡ Some e → HasNumber h e
by_act h note (act.Entered number link) e q =
    let p = passed_all (needs (is_card h number) NoCard ∷ needs (has_link h number link) CardDiffers
    ∷ needs (opens h note.room link) LockShut ∷ [])
    (accepted reply.Taken (event.Entered note.room note.fit note.count number link (moment_of note))) e q in
    subst (λ x. HasNumber h x) (same_event p.1) tt
by_act h note (act.Left number link) e q =
    let p = passed_all (needs (is_card h number) NoCard ∷ needs (has_link h number link) CardDiffers
    ∷ needs (is_one_of number (inside h note.room)) NotInside ∷ [])
    (accepted reply.Taken (event.Left note.room note.fit note.count number link (moment_of note))) e q in
    subst (λ x. HasNumber h x) (same_event p.1) tt
by_act h note (act.Recoded from to) e q =
    let p =
    passed_all (needs (holds h note.room from) HeldDiffers ∷ needs (is_one_of to (awaited h note.room)) NotAwaited ∷ [])
    (accepted reply.Taken (event.Recoded note.room note.fit note.count from to (moment_of note))) e q in
    subst (λ x. HasNumber h x) (same_event p.1) tt

by_standing : (h : History) (note : Note) (s : Standing) (e : Event)
    → (reported h note s).happens ≡ Some e → HasNumber h e
by_standing h note Next e q = by_act h note note.act e q
by_standing h note _ e q = cc

number_if : (h : History) (ahead : List ℕ) (command : Command) (e : Event)
    → AllPass (checks h command) → (effect h ahead command).happens ≡ Some e → HasNumber h e
number_if h ahead (command.Begin day) e p q = subst (λ x. HasNumber h x) (same_event q) tt
number_if h ahead (command.AddKind kind) e p q = subst (λ x. HasNumber h x) (same_event q) tt
number_if h ahead (command.AddRoom room kind) e p q =
    let d = drawn_event (draw_from (issued_codes h) ahead).code (λ code. event.Install room kind code) e q in
    subst (λ x. HasNumber h x) d.1 tt
number_if h ahead (command.Reserve guest kind arrive nights) e p q =
    subst (λ x. HasNumber h x) (same_event q) (barred (parties_used_up h) _ p.1.1.1.1.1.0)
number_if h ahead (command.Cancel party) e p q = subst (λ x. HasNumber h x) (same_event q) tt
number_if h ahead (command.CheckIn party room) e p q =
    let d =
    drawn_event (draw_from (issued_codes h) ahead).code (λ code. event.Issue party room (next_card h) code) e q in
    subst (λ x. HasNumber h x) d.1 (barred (cards_used_up h) _ p.1.1.1.1.1.1.1.1.0)
number_if h ahead (command.Spare party) e p q =
    subst (λ x. HasNumber h x) (same_event q) (barred (cards_used_up h) _ p.1.1.1.0)
number_if h ahead (command.Reissue party) e p q =
    let d = drawn_event (draw_from (issued_codes h) ahead).code
    (λ code. event.Issue party (own_room h party) (next_card h) code) e q in
    subst (λ x. HasNumber h x) d.1 (barred (cards_used_up h) _ p.1.1.1.0)
number_if h ahead (command.Transfer party room) e p q =
    let d =
    drawn_event (draw_from (issued_codes h) ahead).code (λ code. event.Issue party room (next_card h) code) e q in
    subst (λ x. HasNumber h x) d.1 (barred (cards_used_up h) _ p.1.1.1.1.1.1.1.0)
number_if h ahead (command.CheckOut party) e p q = subst (λ x. HasNumber h x) (same_event q) tt
number_if h ahead (command.Refit room) e p q =
    let d =
    drawn_event (draw_from (issued_codes h) ahead).code (λ code. event.Refitted room (next_fit h room) code) e q in
    subst (λ x. HasNumber h x) d.1 (barred (fits_used_up h room) _ p.1.1.1.0)
number_if h ahead command.NextDay e p q = subst (λ x. HasNumber h x) (same_event q) tt
number_if h ahead (command.Reported note) e p q = by_standing h note (standing h note) e q

-- what the last event used was left
pub has_number : (h : History) (e : Event) → Reached (h ▷ e) → HasNumber h e
unfolding answer_to
has_number h e ok = let p = passed_all (checks h ok.2) (effect h ok.1 ok.2) e ok.3 in number_if h ok.1 ok.2 e p.0 p.1

fits_more : (n m : ℕ) → m ≡ n + 1 → nat_le 9999999 n ≡ false → m ≤ 9999999
fits_more n m e f = let lt : n < 9999999 = leb-false 9999999 n f in omega arith

-- how many cards there are with one more
pub one_more_card : (h : History) → Reached h → (number : ℕ) (card : Card)
    → number ≡ next_card h → length (insert_entry nat_cmp (cards h) number card) ≡ length (cards h) + 1
one_more_card h ok number card n = (counts_more (cards h) number card (cards_count h ok) n).1

spare_fits : (o : Option Link) (h : History) (party number : ℕ) → Reached h → number ≡ next_card h
    → cards_used_up h ≡ false → length (cards h) ≤ 9999999 → length (with_spare number party o (cards h)) ≤ 9999999
spare_fits (Some link) h party number ok n left few =
    fits_more (length (cards h)) _ (one_more_card h ok number (card_of number party link) n) left
spare_fits None h party number ok n left few = few

-- There are at most as many cards as numbers.
pub cards_fit : (h : History) → Reached h → CardsFit h
cards_fit (start t) ok = cards_fit_at_start t ok
cards_fit (h ▷ event.Issue party room number code) ok =
    fits_more (length (cards h)) _ (one_more_card h ok.0 number (card_of number party (link_to h room code))
    (may_follow h (event.Issue party room number code) ok).5) (has_number h (event.Issue party room number code) ok)
cards_fit (h ▷ event.Spare party number) ok =
    spare_fits (link_of_party h party) h party number ok.0 (may_follow h (event.Spare party number) ok).2
    (has_number h (event.Spare party number) ok) (cards_fit h ok.0)
cards_fit (h ▷ _) ok = cards_fit h ok.0

-- There are at most as many stays as numbers.
pub stays_fit : (h : History) → Reached h → StaysFit h
stays_fit (start t) ok = stays_fit_at_start t ok
stays_fit (h ▷ event.Reserved party guest kind arrive depart) ok =
    fits_more (length (stays h)) _
    (counts_more (stays h) party (record {
      party = party;
      guest = guest;
      kind = kind;
      arrive = arrive;
      depart = depart;
      state = state.Booked;
    }) (stays_count h ok.0) (may_follow h (event.Reserved party guest kind arrive depart) ok).1).1
    (has_number h (event.Reserved party guest kind arrive depart) ok)
stays_fit (h ▷ event.Cancelled party) ok =
    let few = stays_fit h ok.0 in let same = same_length party state.Cancelled (stays h) in omega arith
stays_fit (h ▷ event.Issue party room number code) ok =
    let few = stays_fit h ok.0 in let same = same_length party (state.InHouse room) (stays h) in omega arith
stays_fit (h ▷ event.CheckOut party) ok =
    let few = stays_fit h ok.0 in let same = same_length party state.Done (stays h) in omega arith
stays_fit (h ▷ _) ok = stays_fit h ok.0

-- a code that begins a fit
begun_fits : (b : Bool) (codes : List ℕ) (code n : ℕ) (fs fs' : List FitRow) (row : FitRow)
    → fs' ≡ when b (and_last row) fs → length codes ≤ n + length fs
    → length (when b (and_last code) codes) ≤ n + length fs'
begun_fits true codes code n fs fs' row e few =
    let l = length_more codes code in let m = ap (λ (gs : List FitRow). length gs) e in
    omega (arith, m, length-append fs (row ∷ []))
begun_fits false codes code n fs fs' row e few = let m = ap (λ (gs : List FitRow). length gs) e in omega arith

next_fits : (b : Bool) (codes : List ℕ) (code n m k : ℕ)
    → m ≡ n + 1 → length codes ≤ n + k → length (when b (and_last code) codes) ≤ m + k
next_fits true codes code n m k e few = let l = length_more codes code in omega arith
next_fits false codes code n m k e few = omega arith

with_spare_more : (o : Option Link) (h : History) (party number : ℕ)
    → Reached h → number ≡ next_card h → length (cards h) ≤ length (with_spare number party o (cards h))
with_spare_more (Some link) h party number ok n =
    let e = one_more_card h ok number (card_of number party link) n in omega arith
with_spare_more None h party number ok n = omega arith

-- A room has at most as many codes as there are cards, and those that its fits begin with.
pub codes_fit : (h : History) → Reached h → CodesFit h
codes_fit (start t) ok r = codes_fit_at_start t ok r
codes_fit (h ▷ event.Install room kind code) ok r =
    begun_fits (room == r) (issued h r) code (length (cards h)) (fits_at (fits h) r) _ (fit_row room 1 0 0)
    (fits_installed h room code kind r ok) (codes_fit h ok.0 r)
codes_fit (h ▷ event.Refitted room fit code) ok r =
    begun_fits (room == r) (issued h r) code (length (cards h)) (fits_at (fits h) r) _ (fit_row room fit
    (length (issued h room)) (length (notes h room))) (fits_refitted h room fit code r ok) (codes_fit h ok.0 r)
codes_fit (h ▷ event.Issue party room number code) ok r =
    next_fits (room == r) (issued h r) code (length (cards h)) _ (length (fits_at (fits h) r))
    (one_more_card h ok.0 number (card_of number party (link_to h room code))
    (may_follow h (event.Issue party room number code) ok).5) (codes_fit h ok.0 r)
codes_fit (h ▷ event.Spare party number) ok r =
    let few = codes_fit h ok.0 r in
    let more =
    with_spare_more (link_of_party h party) h party number ok.0 (may_follow h (event.Spare party number) ok).2 in
    omega arith
codes_fit (h ▷ _) ok r = codes_fit h ok.0 r
