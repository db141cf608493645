-- The notes of a history that can be reached have their values in their ranges: those of sound rows.
use Rattle.std.proofs.Common.{◌≡◌, ◌∙◌, ◌+◌, ◌-◌, ◌<◌, ◌≤◌, ℕ, zero, suc, Bool, true, false, cond, List, [], ◌∷◌, ◌++◌}
use Rattle.std.proofs.Common.{Option, Some, None, All, length, drop, refl, ap, sym, subst, arith, ◌==◌, ◌&&◌, nat_le}
use Rattle.std.proofs.Common.{is_some, nat_cmp, nat_lt}
use Rattle.std.proofs.lemmas.List.Elements.{All-cons, All-nil}
use Rattle.hotel_books.proofs.Names.{CodeRow, FitRow, History, IsSound, Note, Reached, RoomRow, Rows, at_number}
use Rattle.hotel_books.proofs.Names.{count_up, fit_at, fits, fits_at, is_at, is_fit, is_of_fit, is_room, keys_of}
use Rattle.hotel_books.proofs.Names.{list_all, lookup, notes, notes_at, notes_before_each, pair_cmp, rows_of, said_of}
use Rattle.hotel_books.proofs.Names.{same_link, when}
use Rattle.keycard_rules.specs.declared.{card.Card.Card, card.Link.Link, code.TheConstants.CODES, note.Act.Act}
use Rattle.keycard_rules.specs.declared.note.Act.TheVariants as act
use Rattle.hotel_model.specs.Ranges.{IsCode, IsCount, IsFit, IsRoomNumber}
use Rattle.hotel_model.specs.{SoundCards.are_neighbours, SoundCards.code_is, SoundCards.stands_at}
use Rattle.hotel_model.specs.{SoundFits.rise_by_few, SoundNotes.act_fits, SoundNotes.comes_later}
use Rattle.hotel_model.specs.{SoundNotes.has_link_at, SoundNotes.note_fits, SoundRooms.is_day}
use Rattle.hotel_model.proofs.Invariants.FitsKept.{fit_found, fits_kept, numbers_of_fits}
use Rattle.hotel_model.proofs.Invariants.FitsOf.{fits_of}
use Rattle.hotel_model.proofs.Lifted.LiftEasy.{room_is_there}
use Rattle.hotel_model.proofs.OfTables.AtRoom.{first_in, keys_at, none_in, some_left}
use Rattle.hotel_model.proofs.OfTables.NotesListed.{is_within, notes_are_listed, numbers_within}
use Rattle.hotel_model.proofs.OfTables.{Pairs.pair_is, RowTests.all_mapped, RowTests.found_passes}
use Rattle.hotel_model.proofs.OfTables.TableKeys.{same_number}
use Rattle.hotel_model.proofs.OfTables.Tests.{and_true, eq_from, le_from, le_tested, lt_from}
use Rattle.hotel_model.proofs.{SoundRows.AllSound.rows_sound, Starts.StartRules.said_true, Starts.StartRules.some_of}
use Rattle.hotel_lock.specs.ReadBack.{IsAct, IsLink, IsNote}

-- ---- a room, a card and codes of sound rows

room_in_range : (t : Rows) → IsSound t → (room : ℕ) → is_some (at_number t.rooms room) ≡ true → IsRoomNumber room
room_in_range t s room there =
    let row = some_of (at_number t.rooms room) there in
    let passed = found_passes (λ (e : ℕ × RoomRow). (e.1.room == e.0) && nat_le 1 e.0 && nat_le e.0 9999) t.rooms room
    row.0 s.room_number row.1 in
    let high = and_true _ (nat_le room 9999) passed in
    let low = and_true _ (nat_le 1 room) high.0 in
    (le_from 1 room low.1, le_from room 9999 high.1)

code_in_range : (t : Rows) → IsSound t → (code : ℕ) (test : CodeRow → Bool) → code_is t code test ≡ true → IsCode code
code_in_range t s code test e =
    let row = said_true (at_number t.codes code) test e in
    let all = sym (all_mapped (λ n. nat_lt n CODES) (λ (x : ℕ × CodeRow). x.0) t.codes) ∙ s.code_range in
    lt_from code CODES (found_passes (λ (x : ℕ × CodeRow). nat_lt x.0 CODES) t.codes code row.0 all row.1)

codes_in_range : (t : Rows) → IsSound t → (first second : ℕ) (test : CodeRow → CodeRow → Bool)
    → code_is t first (λ row. code_is t second (test row)) ≡ true → IsCode first × IsCode second
codes_in_range t s first second test e =
    let row = said_true (at_number t.codes first) (λ row. code_is t second (test row)) e in
    (code_in_range t s first (λ row. code_is t second (test row)) e, code_in_range t s second (test row.0) row.2)

-- a row that is found has one of the numbers, where they go up
numbered : {X : Type 0} (n : ℕ) (es : List (ℕ × X)) (q : ℕ) (v : X) → count_up n (keys_of es) ≡ true
    → at_number es q ≡ Some v → (n ≤ q) × (q < n + length es)
numbered n [] q v up e = cc
numbered n (x ∷ es) q v up e =
    let p = and_true (x.0 == n) (count_up (n + 1) (keys_of es)) up in
    by (is_at (nat_cmp q) x.0) refl (eq_from x.0 n p.0) e (numbered (n + 1) es q v p.1)
  where
    by : (b : Bool) → is_at (nat_cmp q) x.0 ≡ b → x.0 ≡ n → cond b (Some x.1) (at_number es q) ≡ Some v
        → (at_number es q ≡ Some v → (n + 1 ≤ q) × (q < n + 1 + length es)) → (n ≤ q) × (q < n + length (x ∷ es))
    by true s here g later = let same : q ≡ x.0 = same_number q x.0 s in (omega arith, omega arith)
    by false s here g later =
        let l = later g in
        let low = l.0 in
        let high = l.1 in
        (omega arith, omega arith)

card_in_range : (t : Rows) → IsSound t → (number : ℕ) (card : Card) → at_number t.cards number ≡ Some card
    → IsCount number
card_in_range t s number card e =
    let most = and_true _ (nat_le (length t.cards) 9999999) s.card_number in
    let up = and_true _ (count_up 1 (keys_of t.cards)) most.0 in
    let here = numbered 1 t.cards number card up.1 e in
    let high = here.1 in
    let few = le_from (length t.cards) 9999999 most.1 in
    (here.0, omega arith)

act_in_range : (t : Rows) → IsSound t → (room : ℕ) (what : Act) → act_fits t room what ≡ true → IsAct what
act_in_range t s room what fits = by what fits
  where
    carded : (number : ℕ) (link : Link) → has_link_at t room number link ≡ true → IsCount number × IsLink link
    carded number link f =
        let test : Card → Bool = λ card. same_link card.link link && stands_at t room link in
        let card = said_true (at_number t.cards number) test f in
        let stands = and_true (same_link card.0.link link) (stands_at t room link) card.2 in (
          card_in_range t s number card.0 card.1,
          codes_in_range t s link.old_code link.new_code (are_neighbours room) stands.1,
        )

    by : (what : Act) → act_fits t room what ≡ true → IsAct what
    by (act.Entered number link) f = carded number link f
    by (act.Left number link) f = carded number link f
    by (act.Recoded from to) f = codes_in_range t s from to (comes_later room) f

-- ---- the fit of a note, and its count

-- no fit that is found has a number below the first
not_below : (r n : ℕ) (es : List ((ℕ × ℕ) × FitRow)) (q : ℕ) (f : FitRow) → count_up n (keys_at es r) ≡ true
    → lookup (is_at (pair_cmp (r, q))) es ≡ Some f → n ≤ q
not_below r n [] q f up e = cc
not_below r n (x ∷ es) q f up e =
    by (x.0.0 == r) (x.0.1 == q) refl
    (sym (ap (λ b. cond b (Some x.1) (lookup (is_at (pair_cmp (r, q))) es)) (pair_is r q x.0)) ∙ e) up
    (not_below r n es q f) (not_below r (n + 1) es q f)
  where
    by : (b c : Bool) → (x.0.1 == q) ≡ c → cond (b && c) (Some x.1) (lookup (is_at (pair_cmp (r, q))) es) ≡ Some f
        → count_up n (when b (λ ns. x.0.1 ∷ ns) (keys_at es r)) ≡ true
        → (count_up n (keys_at es r) ≡ true → lookup (is_at (pair_cmp (r, q))) es ≡ Some f → n ≤ q)
        → (count_up (n + 1) (keys_at es r) ≡ true → lookup (is_at (pair_cmp (r, q))) es ≡ Some f → n + 1 ≤ q) → n ≤ q
    by true true s g u same next =
        let p = and_true (x.0.1 == n) (count_up (n + 1) (keys_at es r)) u in
        let here : x.0.1 ≡ q = eq_from x.0.1 q s in
        let first : x.0.1 ≡ n = eq_from x.0.1 n p.0 in
        omega arith
    by true false s g u same next =
        let p = and_true (x.0.1 == n) (count_up (n + 1) (keys_at es r)) u in
        let later = next p.1 g in
        omega arith
    by false c s g u same next = same u g

-- so many notes were taken before the next fit, or, where there is none, at all
abbrev up_to : ℕ → Option FitRow → ℕ
up_to taken next = said_of next taken (λ (f : FitRow). f.before)

-- a fit has no more notes than a lock can count
few_of_fit : (fs : List FitRow) (taken k : ℕ) (f : FitRow) → rise_by_few (notes_before_each fs ++ taken ∷ []) ≡ true
    → first_in (drop k fs) ≡ Some f → up_to taken (first_in (drop (suc k) fs)) - f.before ≤ 9999999
few_of_fit [] taken k f few e = absurd (let w : ◌≡◌ {A = Option FitRow} None (Some f) = sym (none_in k) ∙ e in cc)
few_of_fit (x ∷ []) taken zero f few e =
    let same = ap (up_to 0) e in
    let l = le_from (taken - x.before) 9999999 (and_true (nat_le (taken - x.before) 9999999) true few).0 in
    omega arith
few_of_fit (x ∷ []) taken (suc k) f few e =
    absurd (let w : ◌≡◌ {A = Option FitRow} None (Some f) = sym (none_in k) ∙ e in cc)
few_of_fit (x ∷ y ∷ fs) taken zero f few e =
    let same = ap (up_to 0) e in
    let p = and_true (nat_le (y.before - x.before) 9999999)
    (rise_by_few (notes_before_each (y ∷ fs) ++ taken ∷ [])) few in
    let l = le_from (y.before - x.before) 9999999 p.0 in
    omega arith
few_of_fit (x ∷ y ∷ fs) taken (suc k) f few e =
    let p = and_true (nat_le (y.before - x.before) 9999999)
    (rise_by_few (notes_before_each (y ∷ fs) ++ taken ∷ [])) few in
    few_of_fit (y ∷ fs) taken k f p.1 e

no_later : (number taken : ℕ) (next : Option FitRow) → number ≤ taken
    → said_of next true (λ (f : FitRow). nat_le number f.before) ≡ true → number ≤ up_to taken next
no_later number taken None within e = within
no_later number taken (Some f) within e = le_from number f.before e

fit_and_count : (h : History) → Reached h → (r number : ℕ) (note : Note) → is_room h r ≡ true
    → is_of_fit (rows_of h) ((r, number), note) ≡ true → number ≤ length (notes h r)
    → IsFit note.fit × IsCount note.count × (is_fit h r note.fit ≡ true)
fit_and_count h ok r number note there of_fit within =
    let s = fits_of h ok r there in
    let fs = fits_at (fits h) r in
    let before_next : FitRow → Bool = λ f. nat_le number f.before in
    let its_number : FitRow → Bool = λ f. number == f.before + note.count in
    let parts = and_true _ (said_of (fit_at (rows_of h) r (note.fit + 1)) true before_next) of_fit in
    let counted = and_true (nat_le 1 note.count) (said_of (fit_at (rows_of h) r note.fit) false its_number) parts.0 in
    let its = said_true (fit_at (rows_of h) r note.fit) its_number counted.1 in
    let up = ap (λ ns. count_up 1 ns) (numbers_of_fits h r (fits h) (fits_kept h ok)) ∙ s.numbers in
    let low : 1 ≤ note.fit = not_below r 1 (fits h) note.fit its.0 up its.1 in
    let place : note.fit ≡ (note.fit - 1) + 1 = omega arith in
    let at : first_in (drop (note.fit - 1) fs) ≡ Some its.0 =
    sym (fit_found h ok r (note.fit - 1) s.numbers) ∙ sym (ap (fit_at (rows_of h) r) place) ∙ its.1 in
    let next : suc (note.fit - 1) ≡ note.fit = omega arith in
    let few = few_of_fit fs (length (notes h r)) (note.fit - 1) its.0 s.few at in
    let few_here = subst (λ z. up_to (length (notes h r)) (first_in (drop z fs)) - its.0.before ≤ 9999999) next few in
    let later = ap (λ o. said_of o true before_next) (sym (fit_found h ok r note.fit s.numbers)) ∙ parts.1 in
    let last = no_later number (length (notes h r)) (first_in (drop note.fit fs)) within later in
    let same : number ≡ its.0.before + note.count = eq_from number (its.0.before + note.count) its.2 in
    let in_list = some_left (note.fit - 1) fs its.0 at in
    let many = s.many in
    let most = s.most in
    ((low, omega arith), (le_from 1 note.count counted.0, omega arith), le_tested note.fit _ (omega arith))

-- ---- all of a note

-- A note of a room: it is this room's, which is there and has had its fit, and its values are in their ranges.
pub record IsOf (h : History) (r : ℕ) (note : Note) : Type 0 where
  pub same : note.room ≡ r
  pub there : is_room h r ≡ true
  pub fit : is_fit h r note.fit ≡ true
  pub values : IsNote note

note_is_of : (h : History) → Reached h → (r number : ℕ) (note : Note)
    → note_fits (rows_of h) ((r, number), note) ≡ true → is_of_fit (rows_of h) ((r, number), note) ≡ true
    → is_within h ((r, number), note) ≡ true → IsOf h r note
note_is_of h ok r number note fits of_fit within =
    let sound = rows_sound h ok in
    let second = and_true _ (nat_le note.second 86399) fits in
    let day = and_true _ (is_day note.day) second.0 in
    let its_act = and_true _ (act_fits (rows_of h) r note.act) day.0 in
    let room = and_true (note.room == r) (is_some (at_number (rows_of h).rooms r)) its_act.0 in
    let same : note.room ≡ r = eq_from note.room r room.0 in
    let there : is_room h r ≡ true = sym (room_is_there h r) ∙ room.1 in
    let counted = fit_and_count h ok r number note there of_fit (le_from number (length (notes h r)) within) in
    record {
      same = same;
      there = there;
      fit = counted.2;
      values = record {
        room = subst IsRoomNumber (sym same) (room_in_range (rows_of h) sound r room.1);
        fit = counted.0;
        count = counted.1;
        act = act_in_range (rows_of h) sound r note.act its_act.1;
        timed = (le_from note.day 36524 day.1, le_from note.second 86399 second.1);
      };
    }

-- what three tests of all notes tell of those of a room
told_of : (P : Note → Type 0) (r : ℕ) (t u v : (ℕ × ℕ) × Note → Bool)
    → ((n : ℕ) (note : Note) → t ((r, n), note) ≡ true → u ((r, n), note) ≡ true → v ((r, n), note) ≡ true → P note)
    → (es : List ((ℕ × ℕ) × Note)) → list_all t es ≡ true → list_all u es ≡ true → list_all v es ≡ true
    → All P (notes_at es r)
told_of P r t u v its [] a b c = All-nil P
told_of P r t u v its (e ∷ es) a b c =
    let p = and_true (t e) (list_all t es) a in
    let q = and_true (u e) (list_all u es) b in
    let s = and_true (v e) (list_all v es) c in
    by (e.0.0 == r) refl p.0 q.0 s.0 (told_of P r t u v its es p.1 q.1 s.1)
  where
    at : (w : (ℕ × ℕ) × Note → Bool) → (e.0.0 == r) ≡ true → w e ≡ true → w ((r, e.0.1), e.1) ≡ true
    at w here h = subst (λ z. w ((z, e.0.1), e.1) ≡ true) (eq_from e.0.0 r here) h

    by : (b : Bool) → (e.0.0 == r) ≡ b → t e ≡ true → u e ≡ true → v e ≡ true → All P (notes_at es r)
        → All P (when b (λ ns. e.1 ∷ ns) (notes_at es r))
    by true here a b c rest =
        All-cons P e.1 (notes_at es r) (its e.0.1 e.1 (at t here a) (at u here b) (at v here c)) rest
    by false here a b c rest = rest

-- each note of a room is so
pub notes_are_of : (h : History) → Reached h → (r : ℕ) → All (IsOf h r) (notes h r)
notes_are_of h ok r =
    let sound = rows_sound h ok in
    subst (λ ns. All (IsOf h r) ns) (notes_are_listed h ok r)
    (told_of (IsOf h r) r (note_fits (rows_of h)) (is_of_fit (rows_of h)) (is_within h) (note_is_of h ok r)
    (rows_of h).notes sound.note_fits sound.note_of_fit (numbers_within h ok))
