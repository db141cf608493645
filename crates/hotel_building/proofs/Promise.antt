-- What is promised of each building that can be.
use Rattle.std.proofs.Common.{ℕ, ◌+◌, ◌≡◌, ◌≤◌, ◌⊎◌, Bool, true, false, cond, Some, List, [], ◌∷◌, ◌++◌, length}
use Rattle.std.proofs.Common.{refl, ap, sym, ◌∙◌, subst, arith, append_assoc, length-append, ◌==◌, ◌&&◌, inl}
use Rattle.std.proofs.Common.{inr, is_some}
use Rattle.std.proofs.Common.{Contains, drop}
use Rattle.std.proofs.lemmas.List.{length-drop}
use Rattle.hotel_model.proofs.Names.{Contains-append_right, position_or_len, when, without, after, last_of, is_one_of}
use Rattle.hotel_model.proofs.Names.{are_none, keys_of}
use Rattle.hotel_model.proofs.Names.{at_number, turn, Card, Link, Note, Act, History, ◌▷◌, held, awaited, passed}
use Rattle.hotel_model.proofs.Names.{issued}
use Rattle.hotel_model.proofs.Names.{current, cards, newest_link, secured, registered, inside, is_room, turns, Reached}
use Rattle.keycard_rules.specs.declared.note.Act.TheVariants as act
use Rattle.hotel_model.proofs.OfTables.Tests.{or_true}
use Rattle.hotel_model.proofs.OfTables.RowTests.{or_first}
use Rattle.hotel_model.proofs.OfTables.CodeLists.{last_more, last_split}
use Rattle.hotel_model.proofs.{Invariants.CodePlaces.same_place, Invariants.LedgerOrder.ledger_holds}
use Rattle.hotel_model.proofs.{Invariants.RoomLinks.cards_have_links, Invariants.NewestLinks.newest_of_card}
use Rattle.hotel_model.proofs.Invariants.OpenLocks.{opened_by, link_of_room, opens_own_room, newest_opens}
use Rattle.hotel_model.proofs.Invariants.SecuredRooms.{secured_rooms_fit, safe_room}
use Rattle.hotel_model.proofs.Invariants.CardParties.{cards_one_party, guests_have_cards}
use Rattle.hotel_model.proofs.Invariants.InsideRooms.{one_of_these}
use Rattle.hotel_model.proofs.Invariants.Assurance.{assured}
use Rattle.hotel_building.specs.Building.{Building, Door, door, desk, at_once, event_by, event_of, Reachable}
use Rattle.hotel_building.specs.Promises.{IsAs, TrueNotesAreTaken, IsCaughtUp, Opens, IsGuests, SecuredIsSo}
use Rattle.hotel_building.specs.Promises.{SecuredIsNeverStale, OpeningIsNoFalsePromise, OpensItsOwnRoom, NewestShutsOut}
use Rattle.hotel_building.specs.Promises.{NewestOpens}
use Rattle.hotel_building.specs.Promises.{ShutOutIsNeverStale, LockIsAmong, PromisedAt, PromisedOf, Promised}
use Rattle.hotel_building.proofs.Quiet.{SameCommands, same_books}
use Rattle.hotel_building.proofs.Answers.{same_answer, same_lists}
use Rattle.hotel_building.proofs.Inside.{is_in}
use Rattle.hotel_building.proofs.Taken.{taken}
use Rattle.hotel_building.proofs.Alike.{Alike, after_all}
use Rattle.hotel_building.proofs.Replays.{Replays}
use Rattle.hotel_building.proofs.Agrees.{Agrees, agrees_along}
use Rattle.hotel_building.proofs.Whole.{RoomIs, room_of, counted, whole}

-- ---- notes

pub true_notes : (b : Building) (t : History) (r : ℕ) → RoomIs b t r → TrueNotesAreTaken b r
true_notes b t r w note later ahead e =
    let p = subst (Replays r (desk b)) e w.here.replays in taken (desk b) w.desk_ok note p.1 ahead

still_secured : (b c : Bool) → c ≡ true → when b (λ _. true) c ≡ true
still_secured true c e = refl
still_secured false c e = e

-- a note leaves a secured room secured
note_secures : (h : History) (r : ℕ) (note : Note) (a : Act) → secured h r ≡ true
    → secured (h ▷ event_by note a) r ≡ true
note_secures h r note (act.Entered number link) e =
    still_secured ((note.room == r) && (link.new_code == current h note.room) && are_none (inside h note.room))
    (secured h r) e
note_secures h r note (act.Left number link) e = e
note_secures h r note (act.Recoded from to) e = e

notes_secure : (h : History) (r : ℕ) (xs : List Note) → secured h r ≡ true → secured (after_all h xs) r ≡ true
notes_secure h r [] e = e
notes_secure h r (x ∷ xs) e = notes_secure (h ▷ event_of x) r xs (note_secures h r x x.act e)

secured_fresh : (b : Building) (t : History) (r : ℕ) → RoomIs b t r → SecuredIsNeverStale b t r
secured_fresh b t r w e = sym w.here.alike.same_secured ∙ notes_secure (desk b) r (door b r).unread e

fewer_without : (n : ℕ) (xs : List ℕ) → length (without n xs) ≤ length xs
fewer_without n [] = omega arith
fewer_without n (x ∷ xs) = by (x == n) (fewer_without n xs)
  where
    by : (b : Bool) → length (without n xs) ≤ length xs → length (cond b xs (x ∷ without n xs)) ≤ length (x ∷ xs)
    by true l = omega arith
    by false l = omega arith

fewer_after : (n : ℕ) (xs : List ℕ) → length (after n xs) ≤ length xs
fewer_after n xs =
    let l = length-drop (position_or_len (λ m. m == n) xs + 1) xs in omega (arith, l)

fewer_when : (b : Bool) (f : List ℕ → List ℕ) (xs : List ℕ) → length (f xs) ≤ length xs
    → length (when b f xs) ≤ length xs
fewer_when true f xs l = l
fewer_when false f xs l = omega arith

-- after a note a lock awaits no more codes than before
note_awaits : (h : History) (r : ℕ) (note : Note) (a : Act)
    → length (awaited (h ▷ event_by note a) r) ≤ length (awaited h r)
note_awaits h r note (act.Entered number link) =
    fewer_when ((note.room == r) && turns h note.room link) (without link.new_code) (awaited h r)
    (fewer_without link.new_code (awaited h r))
note_awaits h r note (act.Left number link) = omega arith
note_awaits h r note (act.Recoded from to) =
    fewer_when (note.room == r) (after to) (awaited h r) (fewer_after to (awaited h r))

notes_await : (h : History) (r : ℕ) (xs : List Note) → length (awaited (after_all h xs) r) ≤ length (awaited h r)
notes_await h r [] = omega arith
notes_await h r (x ∷ xs) =
    let l = note_awaits h r x x.act in let m = notes_await (h ▷ event_of x) r xs in omega arith

-- so does the lock at the door, by what the desk knows
awaits_no_more : (b : Building) (t : History) (r : ℕ) → RoomIs b t r
    → length (awaited t r) ≤ length (awaited (desk b) r)
awaits_no_more b t r w =
    subst (λ (cs : List ℕ). length cs ≤ length (awaited (desk b) r)) w.here.alike.same_awaited
    (notes_await (desk b) r (door b r).unread)

none_if_short : (cs : List ℕ) → length cs ≤ 0 → cs ≡ []
none_if_short [] l = refl
none_if_short (c ∷ cs) l = absurd (omega arith)

none_awaited : (b : Building) (t : History) (r : ℕ) → RoomIs b t r → awaited (desk b) r ≡ [] → awaited t r ≡ []
none_awaited b t r w e =
    none_if_short (awaited t r)
    (subst (λ (cs : List ℕ). length (awaited t r) ≤ length cs) e (awaits_no_more b t r w))

-- ---- caught up

-- a door is as a history says
is_as : (h : History) (r : ℕ) (o : Door) → Agrees h r o → IsAs h r o
is_as h r o g = (
  sym g.its_held,
  λ n. (
    λ c. elim (or_true (is_one_of n o.inside) (is_one_of n o.slipped)
        (sym (g.its_inside n) ∙ one_of_these (inside h r) n c)) [
          | inl t ↦ inl (is_in n o.inside t)
          | inr t ↦ inr (is_in n o.slipped t)
        ],
    λ c. is_in n (inside h r) (g.its_inside n ∙ counted n o c),
  ),
)

caught_up : (b : Building) (t : History) (r : ℕ) → RoomIs b t r → IsCaughtUp b t r
caught_up b t r w e =
    let i = w.here in
    let alike = subst (λ xs. Alike r (after_all (desk b) xs) t) e i.alike in (
      is_as (desk b) r (door b r) (agrees_along r (desk b) t (door b r) alike i.agrees),
      alike.same_awaited,
      alike.same_secured,
    )

-- ---- cards that open

-- where no code is awaited, the lock holds the current one
holds_current : (h : History) → Reached h → (r : ℕ) → is_room h r ≡ true → awaited h r ≡ [] → held h r ≡ current h r
holds_current h ok r there none =
    sym (ap last_of (sym (ledger_holds h ok r there) ∙ ap (λ zs. passed h r ++ held h r ∷ zs) none)
    ∙ last_more (passed h r) (held h r))

-- and a card that opens has the newest link
opens_newest : (h : History) → Reached h → (r n : ℕ) (card : Card) → is_room h r ≡ true
    → at_number (cards h) n ≡ Some card → awaited h r ≡ [] → is_some (turn (held h r) card.link) ≡ true
    → newest_link h r ≡ Some card.link
opens_newest h ok r n card there has none opens =
    let link = card.link in
    let same = ledger_holds h ok r there in
    let l = link_of_room h ok r link there (cards_have_links h ok n card has) opens in
    elim (opened_by (held h r) link opens) [
      | inl q ↦
          let e : issued h r ≡ passed h r ++ link.new_code ∷ awaited h r =
          sym same ∙ ap (λ z. passed h r ++ z ∷ awaited h r) q in
          let f = l.2 ∙ sym (append_assoc l.0 (link.old_code ∷ []) (link.new_code ∷ l.1)) in
          let p = (same_place h ok r r link.new_code (passed h r) (awaited h r)
          (l.0 ++ link.old_code ∷ []) l.1 e f).2 in
          newest_of_card h ok r l.0 n card link has refl
          (l.2 ∙ ap (λ zs. l.0 ++ link.old_code ∷ link.new_code ∷ zs) (sym p ∙ none))
      | inr q ↦
          let e : issued h r ≡ passed h r ++ link.old_code ∷ awaited h r =
          sym same ∙ ap (λ z. passed h r ++ z ∷ awaited h r) q in
          let p = (same_place h ok r r link.old_code (passed h r) (awaited h r) l.0
          (link.new_code ∷ l.1) e l.2).2 in
          absurd (let w : ◌≡◌ {A = List ℕ} [] (link.new_code ∷ l.1) = sym none ∙ p in cc)
    ]

-- a card with the newest link of a registered party's room is this party's
is_guests : (h : History) → Reached h → (r party n : ℕ) (card : Card) → registered h r ≡ Some party
    → at_number (cards h) n ≡ Some card → newest_link h r ≡ Some card.link → card.party ≡ party
is_guests h ok r party n card reg has newest =
    let guest = guests_have_cards h ok r party reg in
    let same : Some card.link ≡ Some guest.0 = sym newest ∙ guest.1 in
    let link : card.link ≡ guest.0 = cc in
    let new : card.link.new_code ≡ guest.2.1.link.new_code = ap (λ (z : Link). z.new_code) (link ∙ sym guest.2.3) in
    cards_one_party h ok n guest.2.0 card guest.2.1 has guest.2.2 new ∙ guest.2.4

-- what opens a door opens the lock as all notes have it
opens_by_all : (b : Building) (t : History) (r : ℕ) → RoomIs b t r → (card : Card) → Opens b r card
    → (at_number (cards t) card.number ≡ Some card) × (is_some (turn (held t r) card.link) ≡ true)
opens_by_all b t r w card o = (
  ap (λ cs. at_number cs card.number) (sym (same_books (desk b) t w.same).same_cards) ∙ o.0,
  ap (λ z. is_some (turn z card.link)) (sym w.here.agrees.its_held) ∙ o.1,
)

room_by_all : (b : Building) (t : History) (r : ℕ) → RoomIs b t r → is_room (desk b) r ≡ true → is_room t r ≡ true
room_by_all b t r w there =
    ap (λ rs. is_one_of r (keys_of rs)) (sym (same_books (desk b) t w.same).same_rooms) ∙ there

same_current : (b : Building) (t : History) (r : ℕ) → RoomIs b t r → current t r ≡ current (desk b) r
same_current b t r w = ap last_of (sym ((same_books (desk b) t w.same).same_issued r))

own_room : (b : Building) (t : History) (r : ℕ) → RoomIs b t r → OpensItsOwnRoom b r
own_room b t r w card there o =
    let books = same_books (desk b) t w.same in
    let k = opens_by_all b t r w card o in
    let own = opens_own_room t w.all_ok r card.number card (room_by_all b t r w there) k.0 k.1 in (
      subst (λ cs. Contains cs card.link.old_code) (sym (books.same_issued r)) own.0,
      subst (λ cs. Contains cs card.link.new_code) (sym (books.same_issued r)) own.1,
    )

opening : (b : Building) (t : History) (r : ℕ) → RoomIs b t r → OpeningIsNoFalsePromise b r
opening b t r w link e short =
    let books = same_books (desk b) t w.same in
    let more = awaits_no_more b t r w in
    ap (λ z. is_some (turn z link)) w.here.agrees.its_held
    ∙ (newest_opens t w.all_ok r link (sym (books.same_newest r) ∙ e)).1 (omega arith)

-- where all notes await no code, each card that opens is the registered party's, and the newest
guests_open : (b : Building) (t : History) (r : ℕ) → RoomIs b t r → is_room (desk b) r ≡ true → awaited t r ≡ []
    → (card : Card) → Opens b r card → IsGuests b r card
guests_open b t r w there none card o =
    let books = same_books (desk b) t w.same in
    let k = opens_by_all b t r w card o in
    let newest = opens_newest t w.all_ok r card.number card (room_by_all b t r w there) k.0 none k.1 in (
      books.same_newest r ∙ newest,
      λ party reg. is_guests t w.all_ok r party card.number card (sym (books.same_registered r) ∙ reg) k.0 newest,
    )

shut_out : (b : Building) (t : History) (r : ℕ) → RoomIs b t r → ShutOutIsNeverStale b r
shut_out b t r w there e =
    let none = none_awaited b t r w e in (
      w.here.agrees.its_held ∙ holds_current t w.all_ok r (room_by_all b t r w there) none ∙ same_current b t r w,
      guests_open b t r w there none,
    )

-- the current code, where codes are awaited, is the last of them
current_is_last : (h : History) → Reached h → (r : ℕ) → is_room h r ≡ true → (a : ℕ) (cs : List ℕ)
    → awaited h r ≡ a ∷ cs → current h r ≡ last_of (a ∷ cs)
current_is_last h ok r there a cs q =
    let s = last_split a cs in
    ap last_of (sym (ledger_holds h ok r there) ∙ ap (λ zs. passed h r ++ held h r ∷ zs) (q ∙ s.1)
    ∙ sym (append_assoc (passed h r) (held h r ∷ s.0) (last_of (a ∷ cs) ∷ [])))
    ∙ last_more (passed h r ++ held h r ∷ s.0) _

-- a lock that holds the current code awaits none
none_left : (h : History) → Reached h → (r : ℕ) → is_room h r ≡ true → held h r ≡ current h r → (cs : List ℕ)
    → awaited h r ≡ cs → awaited h r ≡ []
none_left h ok r there e [] q = q
none_left h ok r there e (a ∷ cs) q =
    let s = last_split a cs in
    let led : issued h r ≡ passed h r ++ held h r ∷ awaited h r = sym (ledger_holds h ok r there) in
    let cut : issued h r ≡ (passed h r ++ held h r ∷ s.0) ++ last_of (a ∷ cs) ∷ [] =
    led ∙ ap (λ zs. passed h r ++ held h r ∷ zs) (q ∙ s.1)
    ∙ sym (append_assoc (passed h r) (held h r ∷ s.0) (last_of (a ∷ cs) ∷ [])) in
    let cut' : issued h r ≡ (passed h r ++ held h r ∷ s.0) ++ held h r ∷ [] =
    cut ∙ ap (λ z. (passed h r ++ held h r ∷ s.0) ++ z ∷ []) (sym (e ∙ current_is_last h ok r there a cs q)) in
    (same_place h ok r r (held h r) (passed h r) (awaited h r) (passed h r ++ held h r ∷ s.0) [] led cut').2

-- where the lock holds the current code, all notes await none
none_behind : (b : Building) (t : History) (r : ℕ) → RoomIs b t r → is_room (desk b) r ≡ true
    → (door b r).lock.held ≡ current (desk b) r → awaited t r ≡ []
none_behind b t r w there e =
    let here : held t r ≡ current t r = sym w.here.agrees.its_held ∙ e ∙ sym (same_current b t r w) in
    none_left t w.all_ok r (room_by_all b t r w there) here (awaited t r) refl

newest_shuts_out : (b : Building) (t : History) (r : ℕ) → RoomIs b t r → NewestShutsOut b r
newest_shuts_out b t r w there e = guests_open b t r w there (none_behind b t r w there e)

newest_opens_it : (b : Building) (t : History) (r : ℕ) → RoomIs b t r → NewestOpens b r
newest_opens_it b t r w there e link n =
    let books = same_books (desk b) t w.same in
    let none = ap (λ (cs : List ℕ). length cs) (none_behind b t r w there e) in
    ap (λ z. is_some (turn z link)) w.here.agrees.its_held
    ∙ (newest_opens t w.all_ok r link (sym (books.same_newest r) ∙ n)).1 (omega arith)

current_by : (b : Building) (t : History) (r : ℕ) → RoomIs b t r → is_room (desk b) r ≡ true → (cs : List ℕ)
    → awaited t r ≡ cs → ((door b r).lock.held ≡ current (desk b) r) ⊎ Contains (awaited t r) (current (desk b) r)
current_by b t r w there [] q =
    inl (w.here.agrees.its_held ∙ holds_current t w.all_ok r (room_by_all b t r w there) q ∙ same_current b t r w)
current_by b t r w there (a ∷ cs) q =
    let s = last_split a cs in
    let last = current_is_last t w.all_ok r (room_by_all b t r w there) a cs q in
    let c : Contains (s.0 ++ last_of (a ∷ cs) ∷ []) (last_of (a ∷ cs)) =
    Contains-append_right s.0 (last_of (a ∷ cs) ∷ []) (last_of (a ∷ cs)) (0, omega arith, refl) in
    inr (subst (λ z. Contains (awaited t r) z) (sym last ∙ same_current b t r w)
    (subst (λ zs. Contains zs (last_of (a ∷ cs))) (sym (q ∙ s.1)) c))

-- of one list cut at two places, the second cut not before the first, the first of the later part is in the earlier one
later_in : (ps qs : List ℕ) (x y : ℕ) (xs ys : List ℕ) → ps ++ x ∷ xs ≡ qs ++ y ∷ ys → length ys ≤ length xs
    → Contains (x ∷ xs) y
later_in [] qs x y xs ys e l =
    subst (λ zs. Contains zs y) (sym e) (Contains-append_right qs (y ∷ ys) y (0, omega arith, refl))
later_in (p ∷ ps) [] x y xs ys e l =
    let n = ap (λ (zs : List ℕ). length zs) e in absurd (omega (arith, n, length-append ps (x ∷ xs)))
later_in (p ∷ ps) (q ∷ qs) x y xs ys e l = later_in ps qs x y xs ys (ap (λ zs. drop 1 zs) e) l

lock_is_among : (b : Building) (t : History) (r : ℕ) → RoomIs b t r → LockIsAmong b r
lock_is_among b t r w there =
    let books = same_books (desk b) t w.same in
    subst (λ z. Contains (held (desk b) r ∷ awaited (desk b) r) z) (sym w.here.agrees.its_held)
    (later_in (passed (desk b) r) (passed t r) (held (desk b) r) (held t r) (awaited (desk b) r)
    (awaited t r) (ledger_holds (desk b) w.desk_ok r there ∙ books.same_issued r
    ∙ sym (ledger_holds t w.all_ok r (room_by_all b t r w there))) (awaits_no_more b t r w))

-- ---- secured rooms

secured_so : (b : Building) (t : History) (r : ℕ) → RoomIs b t r → SecuredIsSo b r
secured_so b t r w party s reg =
    let books = same_books (desk b) t w.same in
    let all = secured_fresh b t r w s in
    let home = sym (books.same_registered r) ∙ reg in
    let safe = safe_room t w.all_ok r party all home in
    let fits = secured_rooms_fit t w.all_ok r all in
    let i = w.here in (
      i.agrees.its_held ∙ safe.0 ∙ same_current b t r w,
      λ n c.
          let c' = is_in n (inside t r) (i.agrees.its_inside n ∙ or_first _ _ (one_of_these (door b r).inside n c)) in
          let k = safe.1 n c' in
          (k.0, ap (λ cs. at_number cs n) books.same_cards ∙ k.1, books.same_newest r ∙ k.2, k.3),
      λ card o.
          let k = opens_by_all b t r w card o in
          let newest = opens_newest t w.all_ok r card.number card fits.0 k.0 fits.1 k.1 in
          (books.same_newest r ∙ newest, is_guests t w.all_ok r party card.number card home k.0 newest),
    )

-- ---- all of them

pub promised_at : (b : Building) (t : History) (r : ℕ) → RoomIs b t r → PromisedAt b t r
promised_at b t r w = record {
  all_are_so = is_as t r (door b r) w.here.agrees;
  true_notes = true_notes b t r w;
  caught_up = caught_up b t r w;
  secured_is_so = secured_so b t r w;
  secured_is_fresh = secured_fresh b t r w;
  opening = opening b t r w;
  own_room = own_room b t r w;
  newest_shuts_out = newest_shuts_out b t r w;
  newest_opens = newest_opens_it b t r w;
  shut_out = shut_out b t r w;
  lock_is_among = lock_is_among b t r w;
  setting_helps = λ there. current_by b t r w there (awaited t r) refl;
}

pub promised_of : (b : Building) (t : History) → Reached (desk b) → Reached t → SameCommands (desk b) t → PromisedOf b t
promised_of b t ok ok' same =
    let books = same_books (desk b) t same in
    record {
      desk_reached = ok;
      desk_assured = assured (desk b) ok;
      all_reached = ok';
      all_assured = assured t ok';
      answers = λ ahead c staff. same_answer (desk b) t books ahead c staff;
      lists = same_lists (desk b) t books;
    }

pub promised : (b : Building) → Reachable b → Promised b
promised b ok =
    let w = whole b ok in record {
      of_both = promised_of b (at_once b) w.desk_ok w.all_ok w.same;
      at_rooms = λ r. promised_at b (at_once b) r (room_of b w r);
    }
