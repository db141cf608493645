-- Notes: their counts, and that what they say fits their rooms.
use Rattle.std.proofs.Common.{ℕ, ◌≡◌, ◌<◌, ◌≤◌, ◌+◌, ◌==◌, Bool, true, false, cond, Option, Some, None, List, [], ◌∷◌}
use Rattle.std.proofs.Common.{◌++◌, length, refl, is_eq, ap, sym, ◌∙◌, subst, append_assoc, arith, length-append, ◌&&◌}
use Rattle.std.proofs.Common.{is_some, nat_le}
use Rattle.hotel_model.proofs.Names.{Card, Link, Act, Note, IsTimed, CodeRow, is_one_of, before, after, at_number}
use Rattle.hotel_model.proofs.Names.{Event, Moment, Entered, Left, Recoded, note_of, History, ◌▷◌, issued, all_issued}
use Rattle.hotel_model.proofs.Names.{cards, held, passed, awaited, same_link, rows_of, is_room, Reached, is_day}
use Rattle.hotel_model.proofs.Names.{code_is, are_neighbours, stands_at, comes_later, has_link_at, act_fits, note_fits}
use Rattle.hotel_model.proofs.Names.{notes_fit, is_of_fit, notes_of_fits, notes_counted, notes, notes_before}
use Rattle.hotel_model.proofs.Names.{present_fit, all_notes, fits, fit_at, FitRow, fit_row, start, Install, Refitted}
use Rattle.hotel_model.proofs.Names.{is_at, lookup, insert_entry, pair_cmp, said_of, list_all, note_from}
use Rattle.keycard_rules.specs.declared.note.Act.TheVariants as act
use Rattle.hotel_model.proofs.{Facts.CodeFacts.IsLinkOf, OfTables.Tests.eq_from, OfTables.Tests.eq_self}
use Rattle.hotel_model.proofs.{OfTables.Tests.and_true, OfTables.Tests.not_both, OfTables.Grown.may_follow}
use Rattle.hotel_model.proofs.{Invariants.EventRanges.last_in_range, OfTables.CodeLists.parted}
use Rattle.hotel_model.proofs.{Invariants.CodePlaces.codes_have_places}
use Rattle.hotel_model.proofs.{Invariants.LedgerOrder.ledger_holds, Invariants.LedgerOrder.card_seen}
use Rattle.hotel_model.proofs.{Invariants.LedgerOrder.link_seen, Invariants.OpenLocks.link_of_room}
use Rattle.hotel_model.proofs.{RowsAfter.HasRows.room_has_row, Lifted.LiftEasy.room_is_there, OfTables.RowTests.both}
use Rattle.hotel_model.proofs.{SoundRows.RowsPass.notes_pass}
use Rattle.hotel_model.proofs.{OfTables.Tests.le_tested, OfTables.Tests.lt_tested, SoundRows.SoundRoomRows.each_room_is}
use Rattle.hotel_model.proofs.{SoundRows.SoundRoomRows.eq_tested}
use Rattle.hotel_model.proofs.SoundRows.SoundLinks.{said_some, link_stands, same_self}
use Rattle.hotel_model.proofs.SoundRows.SoundInside.{insiders_seen, one_card}
use Rattle.hotel_model.proofs.{Invariants.HomeRooms.room_goes_on, Invariants.Kept.code_is_on}
use Rattle.hotel_model.proofs.{Invariants.Kept.card_is_on}
use Rattle.hotel_model.proofs.{OfTables.NotesListed.notes_numbered, OfTables.NotesListed.is_within}
use Rattle.hotel_model.proofs.{OfTables.NotesListed.within_goes_on, OfTables.NotesListed.one_more_note}
use Rattle.hotel_model.proofs.{Starts.StartRows.rows_of_start}
use Rattle.hotel_model.proofs.{Invariants.FitsKept.is_kept_fit, Invariants.FitsKept.fits_kept}
use Rattle.hotel_model.proofs.{Invariants.FitsKept.no_fit_found, Invariants.FitsOf.fits_of}
use Rattle.hotel_model.proofs.{Invariants.FitsOf.present_found, Invariants.FitsOf.next_fit_free}
use Rattle.hotel_model.proofs.{Invariants.NotesOfFits.next_number}
use Rattle.hotel_model.proofs.{OfTables.Inserted.found_inserted, OfTables.Pairs.pair_cmp_total}
use Rattle.hotel_model.proofs.{OfTables.Pairs.same_pair, OfTables.RowTests.found_passes_by}
use Rattle.hotel_model.proofs.{OfTables.RowTests.all_weaker, Starts.StartRules.said_true}
use Rattle.hotel_model.proofs.{Starts.StartNotes.numbers_within_at_start}

-- The numbers of each room's notes are 1 to how many there are.
pub notes_are_counted : (h : History) → Reached h → notes_counted (rows_of h) ≡ true
notes_are_counted h ok =
    each_room_is h ok _
    (λ r kind e. let n = notes_numbered h ok r in both _ _ n.0 (eq_tested _ _ n.1))

-- a link that stands at a room goes on standing there
stands_on : (h : History) (event : Event) (room : ℕ) (link : Link)
    → Reached (h ▷ event) → stands_at (rows_of h) room link ≡ true → stands_at (rows_of (h ▷ event)) room link ≡ true
stands_on h event room link ok t =
    code_is_on h event link.old_code (λ old. code_is (rows_of h) link.new_code (are_neighbours room old))
    (λ old. code_is (rows_of (h ▷ event)) link.new_code (are_neighbours room old)) ok
    (λ old u. code_is_on h event link.new_code (are_neighbours room old) (are_neighbours room old) ok (λ new v. v) u) t

has_link_on : (h : History) (event : Event) (room number : ℕ) (link : Link) → Reached (h ▷ event)
    → has_link_at (rows_of h) room number link ≡ true → has_link_at (rows_of (h ▷ event)) room number link ≡ true
has_link_on h event room number link ok t =
    card_is_on h event number (λ card. same_link card.link link && stands_at (rows_of h) room link)
    (λ card. same_link card.link link && stands_at (rows_of (h ▷ event)) room link) ok
    (λ card u. let p = and_true (same_link card.link link) (stands_at (rows_of h) room link) u in
    both _ _ p.0 (stands_on h event room link ok p.1)) t

-- what a note says goes on to fit
act_on : (h : History) (event : Event) (room : ℕ) (its_act : Act) → Reached (h ▷ event)
    → act_fits (rows_of h) room its_act ≡ true → act_fits (rows_of (h ▷ event)) room its_act ≡ true
act_on h event room (act.Entered number link) ok t = has_link_on h event room number link ok t
act_on h event room (act.Left number link) ok t = has_link_on h event room number link ok t
act_on h event room (act.Recoded from to) ok t =
    code_is_on h event from (λ first. code_is (rows_of h) to (comes_later room first))
    (λ first. code_is (rows_of (h ▷ event)) to (comes_later room first)) ok
    (λ first u. code_is_on h event to (comes_later room first) (comes_later room first) ok (λ second v. v) u) t

note_on : (h : History) (event : Event) (e : (ℕ × ℕ) × Note)
    → Reached (h ▷ event) → note_fits (rows_of h) e ≡ true → note_fits (rows_of (h ▷ event)) e ≡ true
note_on h event e ok t =
    let a = and_true _ (nat_le e.1.second 86399) t in
    let b = and_true _ (is_day e.1.day) a.0 in
    let c = and_true _ (act_fits (rows_of h) e.0.0 e.1.act) b.0 in
    let d = and_true _ (is_some (at_number (rows_of h).rooms e.0.0)) c.0 in
    let there : is_room h e.0.0 ≡ true = sym (room_is_there h e.0.0) ∙ d.1 in
    both _ _ (both _ _ (both _ _ (both _ _ d.0 (room_has_row (h ▷ event) e.0.0 (room_goes_on h event e.0.0 there)))
    (act_on h event e.0.0 e.1.act ok c.1)) b.1) a.1

-- a note fits where its room is there, what it says fits, and its time is one
new_fits : (h : History) (note : Note) (number : ℕ)
    → is_room h note.room ≡ true → act_fits (rows_of h) note.room note.act ≡ true → IsTimed note.day note.second
    → note_fits (rows_of h) ((note.room, number), note) ≡ true
new_fits h note number there fits timed =
    both _ _ (both _ _ (both _ _ (both _ _ (eq_self note.room) (room_has_row h note.room there)) fits)
    (le_tested note.day 36524 timed.0)) (le_tested note.second 86399 timed.1)

-- a card with the link of a room
link_fits : (h : History) → Reached h → (room number : ℕ) (link : Link) (card : Card)
    → at_number (cards h) number ≡ Some card → card.link ≡ link → IsLinkOf (issued h room) link
    → has_link_at (rows_of h) room number link ≡ true
link_fits h ok room number link card e same l =
    said_some (at_number (cards h) number) card
    (λ (x : Card). same_link x.link link && stands_at (rows_of h) room link) e
    (both _ _ (ap (λ z. same_link z link) same ∙ same_self link) (link_stands h ok room link l))

-- a code that the lock awaits comes after the one that it holds
recoding_fits : (h : History) → Reached h → (room from to : ℕ) → is_room h room ≡ true → held h room ≡ from
    → is_one_of to (awaited h room) ≡ true → act_fits (rows_of h) room (act.Recoded from to) ≡ true
recoding_fits h ok room from to there holds waits =
    let same = ledger_holds h ok room there in
    let parts = parted to (awaited h room) waits in
    let past = passed h room in
    let between = before to (awaited h room) in
    let rest = after to (awaited h room) in
    let e : issued h room ≡ past ++ from ∷ awaited h room = sym same ∙ ap (λ z. past ++ z ∷ awaited h room) holds in
    let f : issued h room ≡ (past ++ from ∷ between) ++ to ∷ rest =
    e ∙ ap (λ zs. past ++ from ∷ zs) (sym parts) ∙ sym (append_assoc past (from ∷ between) (to ∷ rest)) in
    let first : CodeRow = record { room = room; place = length past } in
    let second : CodeRow = record { room = room; place = length (past ++ from ∷ between) } in
    let later : length past < length (past ++ from ∷ between) = omega (arith, length-append past (from ∷ between)) in
    said_some (at_number (all_issued h) from) first (λ x. code_is (rows_of h) to (comes_later room x))
    (codes_have_places h ok room past from (awaited h room) e)
    (said_some (at_number (all_issued h) to) second (comes_later room first)
    (codes_have_places h ok room (past ++ from ∷ between) to rest f)
    (both _ _ (both _ _ (eq_self room) (eq_self room))
    (lt_tested (length past) (length (past ++ from ∷ between)) later)))

entered_fits : (h : History) (room fit count number : ℕ) (link : Link) (at : Moment)
    → Reached (h ▷ Entered room fit count number link at) → act_fits (rows_of h) room (act.Entered number link) ≡ true
entered_fits h room fit count number link at ok =
    let n = may_follow h (Entered room fit count number link at) ok in
    let c = card_seen h number link n.2 n.3 in
    link_fits h ok.0 room number link c.0 c.1 c.2
    (link_of_room h ok.0 room link n.1 (link_seen h number link ok.0 n.2 n.3) n.4)

left_fits : (h : History) (room fit count number : ℕ) (link : Link) (at : Moment)
    → Reached (h ▷ Left room fit count number link at) → act_fits (rows_of h) room (act.Left number link) ≡ true
left_fits h room fit count number link at ok =
    let n = may_follow h (Left room fit count number link at) ok in
    let c = card_seen h number link n.2 n.3 in
    let s = insiders_seen h ok.0 room number n.4 in
    let same : s.1.link ≡ link =
    ap (λ (x : Card). x.link) (one_card (at_number (cards h) number) s.1 c.0 s.2 c.1) ∙ c.2 in
    let l : IsLinkOf (issued h room) s.1.link = (s.3.0, s.3.1, s.3.2) in
    link_fits h ok.0 room number link c.0 c.1 c.2 (subst (IsLinkOf (issued h room)) same l)

one_fits : (h : History) (event : Event) (note : Note) → Reached (h ▷ event) → note_of event ≡ Some note
    → note_fits (rows_of (h ▷ event)) ((note.room, length (notes h note.room) + 1), note) ≡ true
one_fits h (Entered room fit count number link at) note ok e =
    let event : Event = Entered room fit count number link at in
    let its : Note = note_from room fit count (act.Entered number link) at in
    let w : its ≡ note = cc in
    subst (λ (n : Note). note_fits (rows_of (h ▷ event)) ((n.room, length (notes h n.room) + 1), n) ≡ true) w
    (new_fits (h ▷ event) its (length (notes h room) + 1) (may_follow h event ok).1
    (entered_fits h room fit count number link at ok) (last_in_range h event ok).1)
one_fits h (Left room fit count number link at) note ok e =
    let event : Event = Left room fit count number link at in
    let its : Note = note_from room fit count (act.Left number link) at in
    let w : its ≡ note = cc in
    subst (λ (n : Note). note_fits (rows_of (h ▷ event)) ((n.room, length (notes h n.room) + 1), n) ≡ true) w
    (new_fits (h ▷ event) its (length (notes h room) + 1) (may_follow h event ok).1
    (left_fits h room fit count number link at ok) (last_in_range h event ok).1)
one_fits h (Recoded room fit count from to at) note ok e =
    let event : Event = Recoded room fit count from to at in
    let its : Note = note_from room fit count (act.Recoded from to) at in
    let w : its ≡ note = cc in
    let n = may_follow h event ok in
    subst (λ (n : Note). note_fits (rows_of (h ▷ event)) ((n.room, length (notes h n.room) + 1), n) ≡ true) w
    (new_fits (h ▷ event) its (length (notes h room) + 1) n.1
    (recoding_fits h ok.0 room from to n.1 (eq_from (held h room) from n.2) n.3) (last_in_range h event ok).1)
one_fits h _ note ok e = cc

-- What each note says fits its room.
pub notes_all_fit : (h : History) → Reached h → notes_fit (rows_of h) ≡ true
notes_all_fit h ok = notes_pass (λ h e. note_fits (rows_of h) e) (λ h event e ok. note_on h event e ok)
    (λ s ok. ap (λ rows. list_all (note_fits rows) s.notes) (rows_of_start s ok) ∙ ok.note_fits) one_fits h ok

-- the room of a fit that is found is there
fit_has_room : (h : History) → Reached h → (r g : ℕ) (f : FitRow) → fit_at (rows_of h) r g ≡ Some f → is_room h r ≡ true
fit_has_room h ok r g f e =
    let t = found_passes_by pair_cmp same_pair (is_kept_fit h) (fits h) (r, g) f (fits_kept h ok) e in
    let p = and_true ((f.room == r) && (f.fit == g) && is_room h r) (nat_le g (present_fit h r)) t in
    (and_true ((f.room == r) && (f.fit == g)) (is_room h r) p.0).1

-- a fit that is found is found where another one is added
fit_kept : (es : List ((ℕ × ℕ) × FitRow)) (k q : ℕ × ℕ) (v w : FitRow) → lookup (is_at (pair_cmp k)) es ≡ None
    → lookup (is_at (pair_cmp q)) es ≡ Some w → lookup (is_at (pair_cmp q)) (insert_entry pair_cmp es k v) ≡ Some w
fit_kept es k q v w none e = found_inserted pair_cmp_total es k v q ∙ by (is_eq (pair_cmp q k)) refl
  where
    by : (b : Bool) → is_eq (pair_cmp q k) ≡ b → cond b (Some v) (lookup (is_at (pair_cmp q)) es) ≡ Some w
    by true s = absurd (let x : ◌≡◌ {A = Option FitRow} None (Some w) = sym none
        ∙ ap (λ z. lookup (is_at (pair_cmp z)) es) (sym (same_pair q k s)) ∙ e in cc)
    by false s = e

-- what holds of the next fit goes on to hold where one is added
next_kept : (es : List ((ℕ × ℕ) × FitRow)) (k q : ℕ × ℕ) (v : FitRow) (t : FitRow → Bool)
    → (q ≡ k → t v ≡ true) → said_of (lookup (is_at (pair_cmp q)) es) true t ≡ true
    → said_of (lookup (is_at (pair_cmp q)) (insert_entry pair_cmp es k v)) true t ≡ true
next_kept es k q v t new e =
    ap (λ o. said_of o true t) (found_inserted pair_cmp_total es k v q) ∙ by (is_eq (pair_cmp q k)) refl
  where
    by : (b : Bool)
        → is_eq (pair_cmp q k) ≡ b → said_of (cond b (Some v) (lookup (is_at (pair_cmp q)) es)) true t ≡ true
    by true s = new (same_pair q k s)
    by false s = e

-- a note that is of its fit goes on so where a fit is added
of_fit_kept : (h : History) → Reached h → (k : ℕ × ℕ) (v : FitRow) (e : (ℕ × ℕ) × Note)
    → lookup (is_at (pair_cmp k)) (fits h) ≡ None
    → ((f : FitRow) → fit_at (rows_of h) e.0.0 e.1.fit ≡ Some f → (e.0.0, e.1.fit + 1) ≡ k
    → nat_le e.0.1 v.before ≡ true)
    → is_of_fit (rows_of h) e ≡ true
    → (nat_le 1 e.1.count && said_of (lookup (is_at (pair_cmp (e.0.0, e.1.fit))) (insert_entry pair_cmp (fits h) k v))
    false (λ f. e.0.1 == f.before + e.1.count)
    && said_of (lookup (is_at (pair_cmp (e.0.0, e.1.fit + 1))) (insert_entry pair_cmp (fits h) k v)) true
    (λ next. nat_le e.0.1 next.before)) ≡ true
of_fit_kept h ok k v e none new t =
    let p = and_true
    (nat_le 1 e.1.count && said_of (fit_at (rows_of h) e.0.0 e.1.fit) false (λ f. e.0.1 == f.before + e.1.count))
    (said_of (fit_at (rows_of h) e.0.0 (e.1.fit + 1)) true (λ next. nat_le e.0.1 next.before)) t in
    let q = and_true (nat_le 1 e.1.count)
    (said_of (fit_at (rows_of h) e.0.0 e.1.fit) false (λ f. e.0.1 == f.before + e.1.count)) p.0 in
    let f = said_true (fit_at (rows_of h) e.0.0 e.1.fit) (λ f. e.0.1 == f.before + e.1.count) q.1 in
    both _ _ (both _ _ q.0 (said_some _ f.0 (λ (x : FitRow). e.0.1 == x.before + e.1.count)
    (fit_kept (fits h) k (e.0.0, e.1.fit) v f.0 none f.1) f.2))
    (next_kept (fits h) k (e.0.0, e.1.fit + 1) v (λ (next : FitRow). nat_le e.0.1 next.before) (new f.0 f.1) p.1)

-- a note is of its fit, and its number isn't above how many its room has
abbrev is_of_fit_within : History → (ℕ × ℕ) × Note → Bool
is_of_fit_within h e = is_of_fit (rows_of h) e && is_within h e

of_fit_on : (h : History) (event : Event) (e : (ℕ × ℕ) × Note) → Reached (h ▷ event) → is_of_fit (rows_of h) e ≡ true
    → is_within h e ≡ true → is_of_fit (rows_of (h ▷ event)) e ≡ true
of_fit_on h (Install room kind code) e ok t w =
    let none = (may_follow h (Install room kind code) ok).1 in
    of_fit_kept h ok.0 (room, 1) (fit_row room 1 0 0) e (no_fit_found h ok.0 room none)
    (λ f g same. not_both (is_room h room)
    (ap (λ (z : ℕ × ℕ). is_room h z.0) (sym same) ∙ fit_has_room h ok.0 e.0.0 e.1.fit f g) none) t
of_fit_on h (Refitted room fit code) e ok t w =
    let n = may_follow h (Refitted room fit code) ok in
    of_fit_kept h ok.0 (room, fit) (fit_row room fit (length (issued h room)) (length (notes h room))) e
    (ap (fit_at (rows_of h) room) n.2 ∙ next_fit_free h ok.0 room n.0)
    (λ f g same. ap (λ (z : ℕ × ℕ). nat_le e.0.1 (length (notes h z.0))) (sym same) ∙ w) t
of_fit_on h _ e ok t w = t

-- the next note of a room is of its present fit
next_of_fit : (h : History) (ok : Reached h) (note : Note)
    → is_room h note.room ≡ true → note.fit ≡ present_fit h note.room → 1 ≤ note.count
    → notes_before h note.room + note.count ≡ length (notes h note.room) + 1
    → is_of_fit (rows_of h) ((note.room, length (notes h note.room) + 1), note) ≡ true
next_of_fit h ok note there same least number =
    let f = (fits_of h ok note.room there).last in
    let before : f.0.before ≡ notes_before h note.room = f.3 in
    let n : length (notes h note.room) + 1 ≡ f.0.before + note.count = omega arith in
    both _ _ (both _ _ (le_tested 1 note.count least)
    (said_some (fit_at (rows_of h) note.room note.fit) f.0 (λ (x : FitRow). length (notes h note.room) + 1 == x.before
    + note.count) (ap (fit_at (rows_of h) note.room) same ∙ present_found h ok note.room there) (eq_tested _ _ n)))
    (ap (λ o. said_of o true (λ (next : FitRow). nat_le (length (notes h note.room) + 1) next.before))
    (ap (λ z. fit_at (rows_of h) note.room (z + 1)) same ∙ next_fit_free h ok note.room there))

new_within : (h : History) (event : Event) (note : Note)
    → note_of event ≡ Some note → is_within (h ▷ event) ((note.room, length (notes h note.room) + 1), note) ≡ true
new_within h event note e = let l = one_more_note h event note e in le_tested _ _ (omega arith)

one_of_fit : (h : History) (event : Event) (note : Note) → Reached (h ▷ event) → note_of event ≡ Some note
    → is_of_fit_within (h ▷ event) ((note.room, length (notes h note.room) + 1), note) ≡ true
one_of_fit h (Entered room fit count number link at) note ok e =
    let event : Event = Entered room fit count number link at in
    let its : Note = note_from room fit count (act.Entered number link) at in
    let w : its ≡ note = cc in
    let n = may_follow h event ok in
    both _ _ (subst (λ (x : Note). is_of_fit (rows_of h) ((x.room, length (notes h x.room) + 1), x) ≡ true) w
    (next_of_fit h ok.0 its n.1 n.5 (last_in_range h event ok).0.0 (next_number h ok.0 room fit count n.0 n.5)))
    (new_within h event note e)
one_of_fit h (Left room fit count number link at) note ok e =
    let event : Event = Left room fit count number link at in
    let its : Note = note_from room fit count (act.Left number link) at in
    let w : its ≡ note = cc in
    let n = may_follow h event ok in
    both _ _ (subst (λ (x : Note). is_of_fit (rows_of h) ((x.room, length (notes h x.room) + 1), x) ≡ true) w
    (next_of_fit h ok.0 its n.1 n.5 (last_in_range h event ok).0.0 (next_number h ok.0 room fit count n.0 n.5)))
    (new_within h event note e)
one_of_fit h (Recoded room fit count from to at) note ok e =
    let event : Event = Recoded room fit count from to at in
    let its : Note = note_from room fit count (act.Recoded from to) at in
    let w : its ≡ note = cc in
    let n = may_follow h event ok in
    both _ _ (subst (λ (x : Note). is_of_fit (rows_of h) ((x.room, length (notes h x.room) + 1), x) ≡ true) w
    (next_of_fit h ok.0 its n.1 n.4 (last_in_range h event ok).0.0 (next_number h ok.0 room fit count n.0 n.4)))
    (new_within h event note e)
one_of_fit h _ note ok e = cc

both_all : {X : Type 0} (t u : X → Bool) (xs : List X)
    → list_all t xs ≡ true → list_all u xs ≡ true → list_all (λ x. t x && u x) xs ≡ true
both_all t u [] a b = refl
both_all t u (x ∷ xs) a b =
    let p = and_true (t x) (list_all t xs) a in let q = and_true (u x) (list_all u xs) b in
    both _ _ (both _ _ p.0 q.0) (both_all t u xs p.1 q.1)

-- Each note has the fit and the count of its number.
pub notes_all_of_fits : (h : History) → Reached h → notes_of_fits (rows_of h) ≡ true
notes_all_of_fits h ok =
    all_weaker (is_of_fit_within h) (is_of_fit (rows_of h))
    (λ e t. (and_true (is_of_fit (rows_of h) e) (is_within h e) t).0) (all_notes h)
    (notes_pass is_of_fit_within
    (λ h event e ok t. let p = and_true (is_of_fit (rows_of h) e) (is_within h e) t in
    both _ _ (of_fit_on h event e ok p.0 p.1) (within_goes_on h event e p.1))
    (λ s ok. both_all (is_of_fit (rows_of (start s))) (is_within (start s)) s.notes (ap (λ rows. list_all
    (is_of_fit rows) s.notes) (rows_of_start s ok) ∙ ok.note_of_fit) (numbers_within_at_start s ok))
    one_of_fit h ok)
