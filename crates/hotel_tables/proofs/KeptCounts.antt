-- The counts beside the tables are those of the rows, after a change as before it.
use Rattle.std.proofs.Common.{ℕ, ◌≡◌, ◌+◌, ◌-◌, ◌<◌, ◌≤◌, ◌^◌, Bool, true, false, Option, Some, None, List, [], ◌∷◌}
use Rattle.std.proofs.Common.{◌⊎◌, inl, inr, length, IsSome, refl, ap, sym, ◌∙◌, subst, arith, nat_le}
use Rattle.std.specs.Prelude.{◌==◌, ◌&&◌, ◌||◌, bytes_eq}
use Rattle.std.specs.List.{AllByRecursion, list_any, list_all}
use Rattle.std.specs.List.Sorted.{IsStrictlySortedBy}
use Rattle.std.specs.Ordering.{nat_cmp, match_ordering}
use Rattle.std.specs.declared.cmp.Ordering.{Ordering}
use Rattle.std.specs.declared.cmp.Ordering.TheVariants.{Less, Equal, Greater}
use Rattle.std.specs.Cmp.Lexicographic.{slice_cmp}
use Rattle.std.specs.BTreeSet.{insert_key}
use Rattle.std.specs.Map.{keys_of, values_of}
use Rattle.std.proofs.lemmas.Bool.{false≢true}
use Rattle.std.proofs.lemmas.Bool.Decides.{nat_tests}
use Rattle.std.proofs.lemmas.Slice.Eq.{bytes_eq-Decides}
use Rattle.keycard_rules.specs.declared.numbers.TheConstants.{LAST_NUMBER, LAST_ROOM}
use Rattle.hotel_nights.specs.declared.stay.Stay.{Stay}
use Rattle.hotel_nights.specs.declared.stay.StayState.{StayState}
use Rattle.hotel_nights.specs.declared.stay.StayState.TheVariants as state
use Rattle.hotel_nights.specs.FullNight.{is_standing}
use Rattle.hotel_model.specs.declared.rows.RoomRow.{RoomRow}
use Rattle.hotel_model.specs.declared.change.Change.{Change}
use Rattle.hotel_model.specs.declared.change.Change.TheVariants as change
use Rattle.hotel_model.specs.Rows.{Rows, has_kind}
use Rattle.hotel_model.specs.Stays.{in_state}
use Rattle.hotel_model.specs.{Refinement.Lookups.stay_at, Rows.rooms_of_kind}
use Rattle.hotel_model.specs.Refinement.Change.{made, new_row, freed_by}
use Rattle.hotel_model.specs.Refinement.Fits.{HasItsRows, Fits}
use Rattle.hotel_books.specs.KindRooms.{is_there, rooms_in}
use Rattle.hotel_books.specs.NightIndex.{counted, CountsNights}
use Rattle.hotel_books.specs.KindRooms.{HaveRoomNumbers, RoomsKnown}
use Rattle.hotel_books.specs.NightIndex.{CountsNightsOf}
use Rattle.hotel_model.proofs.OfTables.Tests.{and_true, or_true}
use Rattle.hotel_model.proofs.OfTables.RowTests.{or_later}
use Rattle.hotel_model.proofs.OfTables.KeysInOrder.{AllAfter, InOrder}
use Rattle.hotel_model.proofs.OfTables.StayCounts.{count_inserted}
use Rattle.hotel_books.proofs.OfNights.NightsStanding.{counts_fit, stands_more, stands_less, stands_on}
use Rattle.hotel_books.proofs.OfNights.RoomsByKind.{few_rooms, known_changed, known_left}
use Rattle.hotel_model.proofs.Starts.StartCodes.{orders}
use Rattle.hotel_model.proofs.Starts.StartNumbers.{stays_fit_at_start}
use Rattle.hotel_tables.specs.TableBooks.{IsCounted}
use Rattle.hotel_tables.proofs.MayMake.{refitted}
use Rattle.hotel_tables.specs.Counted.{booked_by, ended_by, nights_of, CountsMore, CountsLess, KeepsRooms, HasItsKind}
use Rattle.hotel_tables.specs.Counted.{CountsItsRoom}

-- ---- the counts of sound rows are few

abbrev numbered : ℕ × RoomRow → Bool
numbered e = (e.1.room == e.0) && nat_le 1 e.0 && nat_le e.0 LAST_ROOM

numbers_of : (es : List (ℕ × RoomRow)) → list_all numbered es ≡ true → HaveRoomNumbers es
numbers_of [] h = tt
numbers_of (e ∷ es) h =
    let p = and_true (numbered e) (list_all numbered es) h in
    let q = and_true ((e.1.room == e.0) && nat_le 1 e.0) (nat_le e.0 LAST_ROOM) p.0 in
    let r = and_true (e.1.room == e.0) (nat_le 1 e.0) q.0 in
    let low : 1 ≤ e.0 = grind (arith, nat_tests) in
    let high : e.0 ≤ LAST_ROOM = grind (arith, nat_tests) in
    ((low, high), numbers_of es p.1)

after_of : (k : ℕ) (ks : List ℕ) → AllAfter nat_cmp k ks → AllByRecursion (λ y. nat_cmp k y ≡ Less) ks
after_of k [] a = tt
after_of k (y ∷ ys) a = (a.0, after_of k ys a.1)

sorted_of : (ks : List ℕ) → InOrder nat_cmp ks → IsStrictlySortedBy nat_cmp ks
unfolding IsStrictlySortedBy
sorted_of [] s = tt
sorted_of (k ∷ ks) s = (after_of k ks s.0, sorted_of ks s.1)

module _ {kinds : List (List ℕ × ℕ)} {nights : List ((List ℕ × ℕ) × List ℕ)} {rows : Rows}
    (c : IsCounted kinds nights rows) where
  rooms_known : RoomsKnown kinds rows.rooms
  rooms_known = record { counts = c.rooms; numbers = numbers_of rows.rooms c.sound.room_number }

  pub few_of_kind : (kind : List ℕ) → rooms_in kinds kind < 2 ^ 32 - 1
  few_of_kind kind =
      few_rooms kinds rows.rooms kind rooms_known (sorted_of (keys_of rows.rooms) (orders rows c.sound).rooms)

  pub few_at_night : (kind : List ℕ) (d : ℕ) → counted nights kind d < 2 ^ 63
  few_at_night kind d =
      let fit : length rows.stays ≤ LAST_NUMBER = stays_fit_at_start rows c.sound in
      counts_fit nights rows.stays kind d c.stays (omega (arith, fit))

  -- nothing was changed: of the kinds and nights no more is known, and of the rows nothing
  pub counted_still : (kinds' : List (List ℕ × ℕ)) (nights' : List ((List ℕ × ℕ) × List ℕ))
      → KeepsRooms kinds kinds' → CountsMore None nights nights' → IsCounted kinds' nights' rows
  counted_still kinds' nights' keeps same = record {
    sound = c.sound;
    known = λ kind t. keeps.there kind (c.known kind t);
    rooms = λ kind. keeps.rooms kind ∙ c.rooms kind;
    stays = λ kind d. let is = same kind d (few_at_night kind d) in let was = c.stays kind d in omega (arith, is, was);
  }

  -- what was added is taken back
  pub counted_back : (stay : Option Stay) (kinds' : List (List ℕ × ℕ)) (mid nights' : List ((List ℕ × ℕ) × List ℕ))
      → KeepsRooms kinds kinds' → CountsMore stay nights mid → CountsLess stay mid nights'
      → IsCounted kinds' nights' rows
  counted_back stay kinds' mid nights' keeps more less = counted_still kinds' nights' keeps
      (λ kind d few. let m = more kind d few in let l = less kind d in omega (arith, m, l))

-- ---- kinds

any_by : {K : Type 0} (cmp : K → K → Ordering) (t : K → Bool) (o : Ordering) (k x : K) (xs : List K)
    → (list_any t (insert_key cmp xs k) ≡ true → (t k ≡ true) ⊎ (list_any t xs ≡ true))
    → list_any t (match_ordering o (k ∷ x ∷ xs) (x ∷ xs) (x ∷ insert_key cmp xs k)) ≡ true
    → (t k ≡ true) ⊎ (list_any t (x ∷ xs) ≡ true)
any_by cmp t Less k x xs ih h = or_true (t k) (list_any t (x ∷ xs)) h
any_by cmp t Equal k x xs ih h = inr h
any_by cmp t Greater k x xs ih h =
    elim (or_true (t x) (list_any t (insert_key cmp xs k)) h) [
      | inl here ↦ inr (ap (λ b. b || list_any t xs) here)
      | inr later ↦ elim (ih later) [ inl new ↦ inl new | inr old ↦ inr (or_later (t x) (list_any t xs) old) ]
    ]

-- a key that passes, with one added, is that one or was there
any_of_inserted : {K : Type 0} (cmp : K → K → Ordering) (t : K → Bool) (k : K) (xs : List K)
    → list_any t (insert_key cmp xs k) ≡ true → (t k ≡ true) ⊎ (list_any t xs ≡ true)
any_of_inserted cmp t k [] h = or_true (t k) false h
any_of_inserted cmp t k (x ∷ xs) h = any_by cmp t (cmp k x) k x xs (any_of_inserted cmp t k xs) h

kind_known : (kinds : List (List ℕ × ℕ)) (rows : Rows) (added : List ℕ)
    → ((kind : List ℕ) → has_kind rows kind ≡ true → is_there kinds kind ≡ true) → is_there kinds added ≡ true
    → (kind : List ℕ) → list_any (λ k. bytes_eq k kind) (insert_key (slice_cmp nat_cmp) rows.kinds added) ≡ true
    → is_there kinds kind ≡ true
kind_known kinds rows added known there kind h =
    elim (any_of_inserted (slice_cmp nat_cmp) (λ k. bytes_eq k kind) added rows.kinds h) [
      | inl new ↦ subst (λ k. is_there kinds k ≡ true) ((bytes_eq-Decides added kind).0 new) there
      | inr old ↦ known kind old
    ]

-- ---- a change that was made

-- the kinds of the rows are known, where each that was there is, and the kinds are the same
abbrev KnowsKinds : List (List ℕ × ℕ) → Rows → Type 0
KnowsKinds kinds rows = (kind : List ℕ) → has_kind rows kind ≡ true → is_there kinds kind ≡ true

kinds_known_after : (change : Change) (rows : Rows) (mid later : List (List ℕ × ℕ))
    → KnowsKinds mid rows → HasItsKind change mid → CountsItsRoom change mid later → KnowsKinds later (made change rows)
kinds_known_after (change.Kind kind) rows mid later known there same k h =
    subst (λ kinds. is_there kinds k ≡ true) (sym same) (kind_known mid rows kind known there k h)
kinds_known_after (change.Room room kind code) rows mid later known there one k h =
    ap (λ ks. list_any (λ x. bytes_eq x k) ks) one.kinds ∙ known k h
kinds_known_after _ rows mid later known there same k h =
    subst (λ kinds. is_there kinds k ≡ true) (sym same) (known k h)

-- as many rooms of each kind are counted as there are
abbrev CountsRooms : List (List ℕ × ℕ) → Rows → Type 0
CountsRooms kinds rows = (kind : List ℕ) → rooms_in kinds kind ≡ rooms_of_kind rows.rooms kind

rooms_after : (change : Change) (rows : Rows) (mid later : List (List ℕ × ℕ)) → RoomsKnown mid rows.rooms
    → KnowsKinds mid rows → ((kind : List ℕ) → rooms_in mid kind < 2 ^ 32 - 1) → HasItsRows change rows
    → CountsItsRoom change mid later → CountsRooms later (made change rows)
rooms_after (change.Room room kind code) rows mid later known kinds few fits one k =
    let added = count_inserted (λ (r : RoomRow). bytes_eq r.kind k) rows.rooms room (new_row room kind) fits.1 in
    let was = known.counts k in
    let is = one.rooms (kinds kind fits.0) (few kind) k in
    omega (arith, added, was, is)
rooms_after (change.Issue card room leaves) rows mid later known kinds few fits same k =
    ap (λ ks. rooms_in ks k) same
    ∙ (known_changed (λ row. record row { codes = row.codes + 1; secured = false; party = Some card.party })
    (λ row. refl) mid room (freed_by leaves rows.rooms) (known_left leaves mid rows.rooms known)).counts k
rooms_after (change.CheckedOut party room) rows mid later known kinds few fits same k =
    ap (λ ks. rooms_in ks k) same
    ∙ (known_changed (λ row. record row { party = None }) (λ row. refl) mid room rows.rooms known).counts k
rooms_after (change.Refit room code fit) rows mid later known kinds few fits same k =
    ap (λ ks. rooms_in ks k) same ∙ (known_changed (refitted fit) (λ row. refl) mid room rows.rooms known).counts k
rooms_after (change.Noted note place secured insides) rows mid later known kinds few fits same k =
    ap (λ ks. rooms_in ks k) same
    ∙ (known_changed (λ row. record row { lock_place = place; secured = secured; notes = row.before + note.count })
    (λ row. refl) mid note.room rows.rooms known).counts k
rooms_after _ rows mid later known kinds few fits same k = ap (λ ks. rooms_in ks k) same ∙ known.counts k

-- one stay is counted more and one less
abbrev Turns : Option Stay → Option Stay → List ((List ℕ × ℕ) × List ℕ) → List ((List ℕ × ℕ) × List ℕ) → Type 0
Turns more less old new = (kind : List ℕ) (d : ℕ)
    → counted new kind d ≡ counted old kind d + nights_of more kind d - nights_of less kind d

stands_still : (old new : List ((List ℕ × ℕ) × List ℕ)) (stays : List Stay)
    → CountsNights old stays → Turns None None old new → CountsNights new stays
stands_still old new stays h u kind d = let is = u kind d in let was = h kind d in omega (arith, is, was)

stands_ended : (o : Option Stay) (party : ℕ) (s : StayState) (rows : Rows) (old new : List ((List ℕ × ℕ) × List ℕ))
    → stay_at rows party ≡ o → IsSome o → is_standing s ≡ false → CountsNightsOf old rows.stays
    → Turns None o old new → CountsNightsOf new (in_state party s rows.stays)
stands_ended None party s rows old new e there ends h u = absurd (false≢true there)
stands_ended (Some stay) party s rows old new e there ends h u =
    stands_less old new rows.stays party s stay h e ends (λ kind d. let is = u kind d in omega (arith, is))

stays_after : (change : Change) (rows : Rows) (old new : List ((List ℕ × ℕ) × List ℕ))
    → HasItsRows change rows → CountsNightsOf old rows.stays
    → Turns (booked_by change) (ended_by change rows) old new → CountsNightsOf new (made change rows).stays
stays_after (change.Reserved stay) rows old new fits h u =
    stands_more old new rows.stays stay.party stay h fits.2 (λ kind d. let is = u kind d in omega (arith, is))
stays_after (change.Cancelled party) rows old new fits h u =
    stands_ended (stay_at rows party) party state.Cancelled rows old new refl fits refl h u
stays_after (change.CheckedOut party room) rows old new fits h u =
    stands_ended (stay_at rows party) party state.Done rows old new refl fits.0 refl h u
stays_after (change.Issue card room leaves) rows old new fits h u =
    stands_on new rows.stays card.party (state.InHouse room)
    (stands_still old new (values_of rows.stays) h u) fits.5 refl
stays_after _ rows old new fits h u = stands_still old new (values_of rows.stays) h u

-- The counts after a change that was made.
pub counted_after : (change : Change) (rows : Rows) (kinds kinds' kinds'' : List (List ℕ × ℕ))
    (nights nights' nights'' : List ((List ℕ × ℕ) × List ℕ)) → IsCounted kinds nights rows → Fits change rows
    → KeepsRooms kinds kinds' → HasItsKind change kinds' → CountsMore (booked_by change) nights nights'
    → CountsItsRoom change kinds' kinds'' → CountsLess (ended_by change rows) nights' nights''
    → IsCounted kinds'' nights'' (made change rows)
counted_after change rows kinds kinds' kinds'' nights nights' nights'' c fits keeps there more one less =
    let known : KnowsKinds kinds' rows = λ kind t. keeps.there kind (c.known kind t) in
    let counts : CountsRooms kinds' rows = λ kind. keeps.rooms kind ∙ c.rooms kind in
    let few : (kind : List ℕ) → rooms_in kinds' kind < 2 ^ 32 - 1 =
    λ kind. subst (λ n. n < 2 ^ 32 - 1) (sym (keeps.rooms kind)) (few_of_kind c kind) in
    let rooms_are : RoomsKnown kinds' rows.rooms = record { counts = counts; numbers = (rooms_known c).numbers } in
    record {
      sound = fits.1;
      known = kinds_known_after change rows kinds' kinds'' known there one;
      rooms = rooms_after change rows kinds' kinds'' rooms_are known few fits.0 one;
      stays = stays_after change rows nights nights'' fits.0 c.stays
          (λ kind d. let m = more kind d (few_at_night c kind d) in let l = less kind d in omega (arith, m, l));
    }
