-- What is read of a desk's tables: each plain row is one that the books write, they have the rows of the tables, and
-- where these are sound no table is damaged.
use Rattle.std.proofs.Common.{◌≡◌, ℕ, ℤ, pos, negsuc, Bool, true, false, cond, ◌&&◌, not, refl, sym, ap, subst, ◌∙◌}
use Rattle.std.proofs.Common.{List, [], ◌∷◌, map, length, Option, None, Some, Ordering, Less, Equal, Greater}
use Rattle.std.proofs.Common.{nat_cmp, is_eq, is_lt, true≢false, arith, inl, inr, Vec}
use Rattle.std.specs.Prelude.{nat_le, nat_lt, ◌==◌, is_some}
use Rattle.std.specs.List.{AllByRecursion, list_all}
use Rattle.std.specs.List.Sorted.{IsPermutation, IsSorted}
use Rattle.std.specs.Ordering.{int_cmp, ordering_reverse, ordering_then}
use Rattle.std.specs.Cmp.{IsTotalOrder, nat_cmp_is}
use Rattle.std.specs.Cmp.Lexicographic.{slice_cmp}
use Rattle.std.specs.Map.{keys_of}
use Rattle.std.specs.declared.alloc.Global.{Global}
use Rattle.std.proofs.lemmas.Bool.{cases_Bool, false≢true, ltb-true, ltb-false}
use Rattle.std.proofs.lemmas.Cmp.{nat_cmp_total, nat_list_cmp_total}
use Rattle.sqlite_value.specs.declared.value.Value.{Value}
use Rattle.sqlite_value.specs.declared.value.Value.TheVariants.{Null, Int}
use Rattle.sqlite_rules.specs.Edit.{id_in}
use Rattle.sqlite.specs.Order.{Row, column}
use Rattle.sqlite.specs.Tree.{Trees, IsAscending}
use Rattle.sqlite.proofs.Callers.{one_permutation}
use Rattle.sqlite_keyed.proofs.ListLemmas.{all_map, all_unmap, ascending_weaker}
use Rattle.sqlite_keyed.proofs.SortLemmas.{IsPermutation-sort_by}
use Rattle.keycard_rules.specs.declared.note.Act.{Act}
use Rattle.keycard_rules.specs.declared.note.Act.TheVariants.{Entered, Left, Recoded}
use Rattle.hotel_nights.specs.declared.stay.StayState.{StayState}
use Rattle.hotel_nights.specs.declared.stay.StayState.TheVariants.{Booked, InHouse, Done, Cancelled}
use Rattle.hotel_model.specs.Words.{pair_cmp}
use Rattle.hotel_model.specs.Stays.{room_of_state}
use Rattle.hotel_model.specs.Sound.{IsSound, keys_in_order}
use Rattle.hotel_model.specs.SoundRooms.{are_in_order}
use Rattle.hotel_model.proofs.OfTables.Pairs.{pair_cmp_total}
use Rattle.hotel_model.proofs.OfTables.Tests.{and_true}
use Rattle.hotel_model.proofs.OfTables.RowTests.{both}
use Rattle.hotel_rows.specs.declared.stored.PlainKind.{PlainKind}
use Rattle.hotel_rows.specs.declared.stored.PlainRoom.{PlainRoom}
use Rattle.hotel_rows.specs.declared.stored.PlainStay.{PlainStay}
use Rattle.hotel_rows.specs.declared.stored.PlainCode.{PlainCode}
use Rattle.hotel_rows.specs.declared.stored.PlainCard.{PlainCard}
use Rattle.hotel_rows.specs.declared.stored.PlainInside.{PlainInside}
use Rattle.hotel_rows.specs.declared.stored.PlainNote.{PlainNote}
use Rattle.hotel_rows.specs.declared.stored.PlainFit.{PlainFit}
use Rattle.hotel_rows.specs.declared.stored.Stored.{Stored}
use Rattle.hotel_rows.specs.declared.open_fault.OpenFault.{OpenFault}
use Rattle.hotel_rows.specs.declared.open_fault.OpenFault.TheVariants as fault
use Rattle.hotel_statements.specs.Trees.{meta_tree, kind_tree, room_tree, stay_tree, code_tree, card_tree, inside_tree}
use Rattle.hotel_statements.specs.Trees.{note_tree}
use Rattle.hotel_statements.specs.Trees.{fit_tree}
use Rattle.hotel_statements.specs.Values.{int, maybe_int}
use Rattle.hotel_statements.specs.Columns.{meta_columns, meta_of, meta_written, room_columns, room_of, room_written}
use Rattle.hotel_statements.specs.Columns.{kind_columns, kind_of, kind_written}
use Rattle.hotel_statements.specs.Columns.{bit_of, stay_columns, stay_of, stay_written, state_number}
use Rattle.hotel_statements.specs.Columns.{code_columns, code_of, code_written, card_columns, card_of, card_written}
use Rattle.hotel_statements.specs.Columns.{inside_columns, inside_of, inside_written, note_columns, note_of}
use Rattle.hotel_statements.specs.Columns.{note_written, act_number, act_card, fit_columns, fit_of, fit_written}
use Rattle.hotel_rows.specs.Stored.{number_of, kind_text, room_entry, stay_entry, code_entry, card_entry, inside_pair}
use Rattle.hotel_rows.specs.Stored.{note_entry, fit_entry, first_fit, fits_of, rows_of}
use Rattle.hotel_rows.specs.Damage as damage
use Rattle.hotel_rows.specs.Damage.{columns_fit}
use Rattle.hotel_statements.specs.declared.version.Version.{Version}
use Rattle.hotel_statements.specs.declared.version.Version.TheVariants.{First, Second}
use Rattle.hotel_statements.specs.Tables.{AreTablesOf, IsFitTable, IsWrittenAs, by_key, number_of_version}
use Rattle.hotel_statements.specs.Tables.{rows_of_version}
use Rattle.hotel_statements.specs.WholeTables.{AreFitRows}
use Rattle.hotel_statements.specs.PlainRows.{maybe, is_natural, may_be_natural, room_shown, room_natural, stay_shown}
use Rattle.hotel_statements.specs.PlainRows.{stay_natural, code_shown, code_natural, card_shown, card_natural}
use Rattle.hotel_statements.specs.PlainRows.{inside_shown, inside_natural, note_shown, note_natural, fit_shown}
use Rattle.hotel_statements.specs.PlainRows.{kind_shown, fit_natural, ArePlainRows}
use Rattle.hotel_statements.specs.PlainRows.{kind_natural, kind_order, room_order, stay_order, code_order, card_order}
use Rattle.hotel_statements.specs.PlainRows.{inside_order, note_order, fit_order}
use Rattle.hotel_tables.specs.Opening.{AreStored, HasMetaRow, FaultFits, IsOfCall, fits_natural}
use Rattle.hotel_tables.specs.Opening.{all_natural}
use Rattle.hotel_tables.specs.Reopening.{ReadUndamaged}
use Rattle.hotel_statements.proofs.Keyed.{key_total}
use Rattle.hotel_statements.proofs.InOrder.{IsInOrder, in_order_of}
use Rattle.hotel_statements.proofs.Naturals.{room_good, stay_good, code_good, card_good, inside_good, note_good}
use Rattle.hotel_statements.proofs.Naturals.{fit_good}
use Rattle.hotel_statements.proofs.Perm.{every_shuffled}
use Rattle.hotel_statements.proofs.ReadBack.{plain_apart}
use Rattle.hotel_tables.proofs.Opened.{are_desk, naturals, entries_of, each, each_two, all_kinds}
use Rattle.hotel_statements.proofs.Answers.{fused}
use Rattle.hotel_rows.proofs.OfJoined.{keys_with_fit, keys_under_fit}
use Rattle.hotel_rows.proofs.OfDamage.Undamaged.{undamaged_is_sound}

-- ---- a column that the books wrote

number_is : (n : ℤ) (m : ℕ) → Int n ≡ int m → n ≡ pos m
number_is n m e = ap id_in e

natural : (n : ℤ) (m : ℕ) → Int n ≡ int m → is_natural n ≡ true
natural n m e = ap is_natural (number_is n m e)

may_natural : (o : Option ℤ) (p : Option ℕ) → maybe o ≡ maybe_int p → may_be_natural o ≡ true
may_natural None p e = refl
may_natural (Some n) None e = absurd (let w : ◌≡◌ {A = Value} (Int n) Null = e in cc)
may_natural (Some n) (Some m) e = natural n m e

bit_fits : (n : ℤ) (b : Bool) → Int n ≡ int (bit_of b) → nat_le (number_of n) 1 ≡ true
bit_fits n b e = ap (λ m. nat_le (number_of m) 1) (number_is n (bit_of b) e) ∙ small b
  where
    small : (b : Bool) → nat_le (bit_of b) 1 ≡ true
    small true = refl
    small false = refl

state_fits : (n : ℤ) (room : Option ℤ) (s : StayState)
    → Int n ≡ int (state_number s) → maybe room ≡ maybe_int (room_of_state s)
    → (nat_le (number_of n) 3 && cond (is_some room) (number_of n == 1) (not (number_of n == 1))) ≡ true
state_fits n room s e r = ap (λ m. nat_le (number_of m) 3
    && cond (is_some room) (number_of m == 1) (not (number_of m == 1))) (number_is n (state_number s) e) ∙ fits room s r
  where
    fits : (room : Option ℤ) (s : StayState) → maybe room ≡ maybe_int (room_of_state s)
        → (nat_le (state_number s) 3 && cond (is_some room) (state_number s == 1) (not (state_number s == 1))) ≡ true
    fits None Booked r = refl
    fits None (InHouse room) r = absurd (let w : ◌≡◌ {A = Value} Null (int room) = r in cc)
    fits None Done r = refl
    fits None Cancelled r = refl
    fits (Some k) Booked r = absurd (let w : ◌≡◌ {A = Value} (Int k) Null = r in cc)
    fits (Some k) (InHouse room) r = refl
    fits (Some k) Done r = absurd (let w : ◌≡◌ {A = Value} (Int k) Null = r in cc)
    fits (Some k) Cancelled r = absurd (let w : ◌≡◌ {A = Value} (Int k) Null = r in cc)

act_fits : (n : ℤ) (card : Option ℤ) (a : Act) → Int n ≡ int (act_number a) → maybe card ≡ maybe_int (act_card a)
    → (nat_le (number_of n) 2 && cond (is_some card) (nat_le (number_of n) 1) (number_of n == 2)) ≡ true
act_fits n card a e r = ap (λ m. nat_le (number_of m) 2
    && cond (is_some card) (nat_le (number_of m) 1) (number_of m == 2)) (number_is n (act_number a) e) ∙ fits card a r
  where
    fits : (card : Option ℤ) (a : Act) → maybe card ≡ maybe_int (act_card a)
        → (nat_le (act_number a) 2 && cond (is_some card) (nat_le (act_number a) 1) (act_number a == 2)) ≡ true
    fits None (Entered card link) r = absurd (let w : ◌≡◌ {A = Value} Null (int card) = r in cc)
    fits None (Left card link) r = absurd (let w : ◌≡◌ {A = Value} Null (int card) = r in cc)
    fits None (Recoded from to) r = refl
    fits (Some k) (Entered card link) r = refl
    fits (Some k) (Left card link) r = refl
    fits (Some k) (Recoded from to) r = absurd (let w : ◌≡◌ {A = Value} (Int k) Null = r in cc)

-- ---- a plain row that the books wrote

abbrev IsPlainRow : {L X : Type 0} → (Row → X) → (X → Row) → (L → Row) → L → Type 0
IsPlainRow of written shown l = shown l ≡ written (of (shown l))

room_plain : (l : PlainRoom) → IsPlainRow room_of room_written room_shown l → room_natural l ≡ true
room_plain l e =
    both _ _ (both _ _ (both _ _ (both _ _ (both _ _ (natural l.room _ (ap (λ (v : Row). column v 0) e))
    (natural l.lock_place _ (ap (λ (v : Row). column v 2) e)))
    (natural l.codes _ (ap (λ (v : Row). column v 3) e))) (natural l.secured _ (ap (λ (v : Row). column v 4) e)))
    (may_natural l.party _ (ap (λ (v : Row). column v 5) e)))
    (natural l.notes _ (ap (λ (v : Row). column v 6) e))

room_fits : (l : PlainRoom) → IsPlainRow room_of room_written room_shown l → damage.are_room_columns l ≡ true
room_fits l e = bit_fits l.secured (room_of (room_shown l)).1.secured (ap (λ (v : Row). column v 4) e)

stay_plain : (l : PlainStay) → IsPlainRow stay_of stay_written stay_shown l → stay_natural l ≡ true
stay_plain l e =
    both _ _ (both _ _ (both _ _ (both _ _ (natural l.party _ (ap (λ (v : Row). column v 0) e))
    (natural l.arrive _ (ap (λ (v : Row). column v 3) e)))
    (natural l.depart _ (ap (λ (v : Row). column v 4) e))) (natural l.state _ (ap (λ (v : Row). column v 5) e)))
    (may_natural l.room _ (ap (λ (v : Row). column v 6) e))

stay_fits : (l : PlainStay) → IsPlainRow stay_of stay_written stay_shown l → damage.are_stay_columns l ≡ true
stay_fits l e = state_fits l.state l.room (stay_of (stay_shown l)).1.state (ap (λ (v : Row). column v 5) e)
    (ap (λ (v : Row). column v 6) e)

code_plain : (l : PlainCode) → IsPlainRow code_of code_written code_shown l → code_natural l ≡ true
code_plain l e =
    both _ _ (both _ _ (natural l.code _ (ap (λ (v : Row). column v 0) e))
    (natural l.room _ (ap (λ (v : Row). column v 1) e))) (natural l.place _ (ap (λ (v : Row). column v 2) e))

card_plain : (l : PlainCard) → IsPlainRow card_of card_written card_shown l → card_natural l ≡ true
card_plain l e =
    both _ _ (both _ _ (both _ _ (natural l.number _ (ap (λ (v : Row). column v 0) e))
    (natural l.party _ (ap (λ (v : Row). column v 1) e)))
    (natural l.old_code _ (ap (λ (v : Row). column v 2) e))) (natural l.new_code _ (ap (λ (v : Row). column v 3) e))

inside_plain : (l : PlainInside) → IsPlainRow inside_of inside_written inside_shown l → inside_natural l ≡ true
inside_plain l e =
    both _ _ (natural l.room _ (ap (λ (v : Row). column v 0) e)) (natural l.card _ (ap (λ (v : Row). column v 1) e))

note_plain : (l : PlainNote) → IsPlainRow note_of note_written note_shown l → note_natural l ≡ true
note_plain l e =
    both _ _ (both _ _ (both _ _ (both _ _ (both _ _ (both _ _
    (both _ _ (natural l.room _ (ap (λ (v : Row). column v 0) e)) (natural l.n _ (ap (λ (v : Row). column v 1) e)))
    (natural l.act _ (ap (λ (v : Row). column v 2) e))) (may_natural l.card _ (ap (λ (v : Row). column v 3) e)))
    (natural l.first_code _ (ap (λ (v : Row). column v 4) e)))
    (natural l.second_code _ (ap (λ (v : Row). column v 5) e))) (natural l.day _ (ap (λ (v : Row). column v 6) e)))
    (natural l.second _ (ap (λ (v : Row). column v 7) e))

note_fits : (l : PlainNote) → IsPlainRow note_of note_written note_shown l → damage.are_note_columns l ≡ true
note_fits l e = act_fits l.act l.card (note_of (note_shown l)).1.act (ap (λ (v : Row). column v 2) e)
    (ap (λ (v : Row). column v 3) e)

fit_plain : (l : PlainFit) → IsPlainRow fit_of fit_written fit_shown l → fit_natural l ≡ true
fit_plain l e =
    let room = natural l.room _ (ap (λ (v : Row). column v 0) e) in
    let fit = natural l.fit _ (ap (λ (v : Row). column v 1) e) in
    let place = natural l.place _ (ap (λ (v : Row). column v 2) e) in
    both _ _ (both _ _ (both _ _ room fit) place) (natural l.before _ (ap (λ (v : Row). column v 3) e))

-- ---- all plain rows of a table

are_plain_rows : {L X : Type 0} (columns : Row → Row) (of : Row → X) (written : X → Row) (shown : L → Row)
    (plain_rows : List L) (rows : List Row)
    → AllByRecursion (IsWrittenAs columns of written) rows → ArePlainRows columns shown plain_rows rows
    → AllByRecursion (IsPlainRow of written shown) plain_rows
are_plain_rows columns of written shown plain_rows rows good same =
    all_unmap (λ (v : Row). v ≡ written (of v)) shown plain_rows
    (every_shuffled (λ (v : Row). v ≡ written (of v)) (map columns rows) (map shown plain_rows) same
    (all_map (λ (v : Row). v ≡ written (of v)) columns rows good))

all_pass : {L : Type 0} (P : L → Type 0) (test : L → Bool) → ((l : L) → P l → test l ≡ true) → (ls : List L)
    → AllByRecursion P ls → list_all test ls ≡ true
all_pass P test f [] h = refl
all_pass P test f (l ∷ ls) h = both (test l) (list_all test ls) (f l h.0) (all_pass P test f ls h.1)

-- no number is below 0, and each column is of its range
record AreWritten (s : Stored) : Type 0 where
  natural : all_natural s ≡ true
  fit : columns_fit s ≡ true

fits_pass : (version : Version) (fits : Option (Vec PlainFit Global)) (db : Trees)
    → IsFitTable version (db fit_tree) → AreFitRows version fits db → fits_natural fits ≡ true
fits_pass First None db good are = refl
fits_pass First (Some fits) db good are =
    absurd (let w : ◌≡◌ {A = Option (Vec PlainFit Global)} (Some fits) None = are in cc)
fits_pass Second None db good are = absurd are
fits_pass Second (Some fits) db good are =
    all_pass _ fit_natural fit_plain fits.items
    (are_plain_rows fit_columns fit_of fit_written fit_shown fits.items (db fit_tree) good.good are.0)

are_written : {version : Version} (s : Stored) (db : Trees) → AreTablesOf version db
    → AreStored version s db → AreWritten s
are_written {version} s db t a =
    let metas : AllByRecursion (λ (v : Row). v ≡ meta_written (meta_of v)) (map meta_columns (db meta_tree)) =
    all_map (λ (v : Row). v ≡ meta_written (meta_of v)) meta_columns (db meta_tree) t.meta.good in
    let meta = (subst (AllByRecursion (λ (v : Row). v ≡ meta_written (meta_of v))) a.meta metas).0 in
    let day : may_be_natural s.day ≡ true = may_natural s.day _ (ap (λ (v : Row). column v 2) meta) in
    let rooms = are_plain_rows room_columns room_of room_written room_shown s.room.items (db room_tree) t.room.good
    a.rooms.0 in
    let stays = are_plain_rows stay_columns stay_of stay_written stay_shown s.stay.items (db stay_tree) t.stay.good
    a.stays.0 in
    let codes = are_plain_rows code_columns code_of code_written code_shown s.code.items (db code_tree) t.code.good
    a.codes.0 in
    let cards = are_plain_rows card_columns card_of card_written card_shown s.card.items (db card_tree) t.card.good
    a.cards.0 in
    let inside = are_plain_rows inside_columns inside_of inside_written inside_shown s.inside.items (db inside_tree)
    t.inside.good a.inside.0 in
    let notes = are_plain_rows note_columns note_of note_written note_shown s.note.items (db note_tree) t.note.good
    a.notes.0 in
    let room = all_pass _ room_natural room_plain s.room.items rooms in
    let stay = all_pass _ stay_natural stay_plain s.stay.items stays in
    let code = all_pass _ code_natural code_plain s.code.items codes in
    let card = all_pass _ card_natural card_plain s.card.items cards in
    let within = all_pass _ inside_natural inside_plain s.inside.items inside in
    let note = all_pass _ note_natural note_plain s.note.items notes in
    let fit = fits_pass version s.fit db t.fit a.fits in
    record {
      natural =
          let first = both _ _ (both _ _ (both _ _ day room) stay) code in
          both _ _ (both _ _ (both _ _ (both _ _ first card) within) note) fit;
      fit = both _ _ (both _ _ (all_pass _ damage.are_room_columns room_fits s.room.items rooms)
          (all_pass _ damage.are_stay_columns stay_fits s.stay.items stays))
          (all_pass _ damage.are_note_columns note_fits s.note.items notes);
    }

-- ---- the order of the keys

same_numbers : (m n : ℕ) → int_cmp (pos m) (pos n) ≡ nat_cmp m n
same_numbers m n = nat_cmp_is m n (int_cmp (pos m) (pos n)) (elim (cases_Bool (nat_lt m n)) [
  | inl below ↦ rw below (ltb-true m n below)
  | inr not_below ↦ elim (cases_Bool (nat_lt n m)) [
    | inl above ↦ rw (not_below, above) (ltb-true n m above)
    | inr not_above ↦ rw (not_below, not_above)
        (let low = ltb-false m n not_below in let high = ltb-false n m not_above in omega (arith, low, high))
  ]
])

same_order : (a b : ℤ) → is_natural a ≡ true → is_natural b ≡ true → int_cmp a b ≡ nat_cmp (number_of a) (number_of b)
same_order (pos m) (pos n) h k = same_numbers m n
same_order (pos m) (negsuc n) h k = absurd (false≢true k)
same_order (negsuc m) b h k = absurd (false≢true h)

same_pairs : (a b c d : ℤ) → is_natural a ≡ true → is_natural b ≡ true → is_natural c ≡ true → is_natural d ≡ true
    → ordering_then (int_cmp a c) (int_cmp b d) ≡ pair_cmp (number_of a, number_of b) (number_of c, number_of d)
same_pairs a b c d p q r s = λ i. ordering_then (same_order a c p r i) (same_order b d q s i)

below : (o : Ordering) → is_lt (ordering_reverse o) ≡ false → is_eq o ≡ false → is_lt o ≡ true
below Less not_after apart = refl
below Equal not_after apart = absurd (true≢false apart)
below Greater not_after apart = absurd (true≢false not_after)

rise_by : {L K : Type 0} (order : L → L → Ordering) (cmp : K → K → Ordering) (total : IsTotalOrder cmp) (key : L → K)
    (test : L → Bool) → ((a b : L) → test a ≡ true → test b ≡ true → order a b ≡ cmp (key a) (key b))
    → (ls : List L) → list_all test ls ≡ true → IsInOrder order ls
    → IsAscending (λ a b. is_eq (cmp (key a) (key b)) ≡ false) ls → are_in_order cmp (map key ls) ≡ true
rise_by order cmp total key test same [] all ordered apart = refl
rise_by order cmp total key test same (a ∷ []) all ordered apart = refl
rise_by order cmp total key test same (a ∷ b ∷ ls) all ordered apart =
    let first = and_true (test a) (list_all test (b ∷ ls)) all in
    let second = and_true (test b) (list_all test ls) first.1 in
    let turned : ordering_reverse (cmp (key a) (key b)) ≡ order b a =
    sym (total.antisymm (key b) (key a)) ∙ sym (same b a second.0 first.0) in
    both _ _ (below (cmp (key a) (key b)) (ap is_lt turned ∙ ordered.0) apart.0.0)
    (rise_by order cmp total key test same (b ∷ ls) first.1 ordered.1 apart.1)

keys_are : {K V L : Type 0} (entry : L → K × V) (ls : List L) → keys_of (map entry ls) ≡ map (λ l. (entry l).0) ls
keys_are entry [] = refl
keys_are entry (l ∷ ls) = ap (λ ks. (entry l).0 ∷ ks) (keys_are entry ls)

entries_rise : {L K V : Type 0} (order : L → L → Ordering) (cmp : K → K → Ordering) (total : IsTotalOrder cmp)
    (entry : L → K × V) (test : L → Bool)
    → ((a b : L) → test a ≡ true → test b ≡ true → order a b ≡ cmp (entry a).0 (entry b).0)
    → (ls : List L) → list_all test ls ≡ true → IsSorted order ls
    → IsAscending (λ a b. is_eq (cmp (entry a).0 (entry b).0) ≡ false) ls
    → are_in_order cmp (keys_of (map entry ls)) ≡ true
entries_rise order cmp total entry test same ls all sorted apart =
    ap (are_in_order cmp) (keys_are entry ls)
    ∙ rise_by order cmp total (λ l. (entry l).0) test same ls all (in_order_of order ls sorted) apart

then_equal : (o : Ordering) → o ≡ ordering_then o Equal
then_equal Less = refl
then_equal Equal = refl
then_equal Greater = refl

-- of rooms that rise, the fits that they began with rise too
begun_rise : (rooms : List PlainRoom)
    → are_in_order pair_cmp (map (λ (l : PlainRoom). (number_of l.room, 1)) rooms) ≡ true
    → are_in_order pair_cmp (keys_of (map fit_entry (map first_fit rooms))) ≡ true
begun_rise rooms up =
    ap (are_in_order pair_cmp)
    (keys_are fit_entry (map first_fit rooms) ∙ fused (λ l. (fit_entry l).0) first_fit rooms) ∙ up

of_fit : (l : PlainFit) → fit_natural l ≡ true → (is_natural l.room ≡ true) × (is_natural l.fit ≡ true)
of_fit l h =
    let c = and_true _ (is_natural l.before) h in
    let b = and_true _ (is_natural l.place) c.0 in
    and_true (is_natural l.room) (is_natural l.fit) b.0

fit_keys_rise : (version : Version) (rooms : List PlainRoom) (fits : Option (Vec PlainFit Global)) (db : Trees)
    → IsFitTable version (db fit_tree) → AreFitRows version fits db → fits_natural fits ≡ true
    → are_in_order pair_cmp (map (λ (l : PlainRoom). (number_of l.room, 1)) rooms) ≡ true
    → are_in_order pair_cmp (keys_of (entries_of rooms fits)) ≡ true
fit_keys_rise version rooms None db t are natural first = begun_rise rooms first
fit_keys_rise First rooms (Some fits) db t are natural first =
    absurd (let w : ◌≡◌ {A = Option (Vec PlainFit Global)} (Some fits) None = are in cc)
fit_keys_rise Second rooms (Some fits) db t are natural first =
    entries_rise fit_order pair_cmp pair_cmp_total fit_entry fit_natural
    (λ x y h k. let p = of_fit x h in let q = of_fit y k in same_pairs x.room x.fit y.room y.fit p.0 p.1 q.0 q.1)
    fits.items natural are.1
    (plain_apart (by_key pair_cmp) (key_total pair_cmp_total) fit_columns fit_of fit_written fit_shown fit_entry
    fits.items (db fit_tree) t are.0 (each fit_natural _ fit_good fits.items natural))

keys_rise : {version : Version} (s : Stored) (db : Trees) → AreTablesOf version db → AreStored version s db
    → columns_fit s ≡ true → all_natural s ≡ true → keys_in_order (rows_of s) ≡ true
keys_rise {version} s db t a columns natural =
    let n = naturals s natural in
    let f2 = and_true _ (list_all damage.are_note_columns s.note.items) columns in
    let f1 =
    and_true (list_all damage.are_room_columns s.room.items) (list_all damage.are_stay_columns s.stay.items) f2.0 in
    let kinds = rise_by kind_order (slice_cmp nat_cmp) nat_list_cmp_total kind_text kind_natural (λ x y h k. refl)
    s.kind.items (kinds_natural s.kind.items) (in_order_of kind_order s.kind.items a.kinds.1)
    (plain_apart (slice_cmp nat_cmp) nat_list_cmp_total kind_columns kind_of kind_written kind_shown kind_text
    s.kind.items (db kind_tree) t.kind a.kinds.0 (all_kinds s.kind.items)) in
    let rooms_apart = plain_apart (by_key nat_cmp) (key_total nat_cmp_total) room_columns room_of room_written
    room_shown room_entry s.room.items (db room_tree) t.room a.rooms.0
    (each_two room_natural damage.are_room_columns _ room_good s.room.items n.rooms f1.0) in
    let rooms = entries_rise room_order nat_cmp nat_cmp_total room_entry room_natural
    (λ x y h k. same_order x.room y.room (of_room x h) (of_room y k)) s.room.items n.rooms a.rooms.1 rooms_apart in
    let stays = entries_rise stay_order nat_cmp nat_cmp_total stay_entry stay_natural
    (λ x y h k. same_order x.party y.party (of_stay x h) (of_stay y k)) s.stay.items n.stays a.stays.1
    (plain_apart (by_key nat_cmp) (key_total nat_cmp_total) stay_columns stay_of stay_written stay_shown stay_entry
    s.stay.items (db stay_tree) t.stay a.stays.0
    (each_two stay_natural damage.are_stay_columns _ stay_good s.stay.items n.stays f1.1)) in
    let codes = entries_rise code_order nat_cmp nat_cmp_total code_entry code_natural
    (λ x y h k. same_order x.code y.code (of_code x h) (of_code y k)) s.code.items n.codes a.codes.1
    (plain_apart (by_key nat_cmp) (key_total nat_cmp_total) code_columns code_of code_written code_shown code_entry
    s.code.items (db code_tree) t.code a.codes.0 (each code_natural _ code_good s.code.items n.codes)) in
    let cards = entries_rise card_order nat_cmp nat_cmp_total card_entry card_natural
    (λ x y h k. same_order x.number y.number (of_card x h) (of_card y k)) s.card.items n.cards a.cards.1
    (plain_apart (by_key nat_cmp) (key_total nat_cmp_total) card_columns card_of card_written card_shown card_entry
    s.card.items (db card_tree) t.card a.cards.0 (each card_natural _ card_good s.card.items n.cards)) in
    let inside = rise_by inside_order pair_cmp pair_cmp_total inside_pair inside_natural
    (λ x y h k. let p = and_true (is_natural x.room) (is_natural x.card) h in let q = and_true (is_natural y.room)
    (is_natural y.card) k in same_pairs x.room x.card y.room y.card p.0 p.1 q.0 q.1)
    s.inside.items n.inside (in_order_of inside_order s.inside.items a.inside.1)
    (plain_apart pair_cmp pair_cmp_total inside_columns inside_of inside_written inside_shown inside_pair s.inside.items
    (db inside_tree) t.inside a.inside.0 (each inside_natural _ inside_good s.inside.items n.inside)) in
    let notes = entries_rise note_order pair_cmp pair_cmp_total note_entry note_natural
    (λ x y h k. let p = of_note x h in let q = of_note y k in same_pairs x.room x.n y.room y.n p.0 p.1 q.0 q.1)
    s.note.items n.notes a.notes.1
    (plain_apart (by_key pair_cmp) (key_total pair_cmp_total) note_columns note_of note_written note_shown note_entry
    s.note.items (db note_tree) t.note a.notes.0
    (each_two note_natural damage.are_note_columns _ note_good s.note.items n.notes f2.1)) in
    let began = rise_by room_order pair_cmp pair_cmp_total (λ (l : PlainRoom). (number_of l.room, 1)) room_natural
    (λ x y h k.
    then_equal (int_cmp x.room y.room)
    ∙ same_pairs x.room (pos 1) y.room (pos 1) (of_room x h) refl (of_room y k) refl)
    s.room.items n.rooms (in_order_of room_order s.room.items a.rooms.1)
    (ascending_weaker _ _ (λ x y other. ap is_eq (sym (then_equal (nat_cmp (number_of x.room) (number_of y.room))))
    ∙ other) s.room.items rooms_apart) in
    let fits = fit_keys_rise version s.room.items s.fit db t.fit a.fits n.fits began in
    let joined_rooms = ap (are_in_order nat_cmp) (keys_with_fit (fits_of s) (map room_entry s.room.items)) ∙ rooms in
    let joined_notes = ap (are_in_order pair_cmp) (keys_under_fit (fits_of s) (map note_entry s.note.items)) ∙ notes in
    let first = both _ _ (both _ _ (both _ _ kinds joined_rooms) codes) stays in
    both _ _ (both _ _ (both _ _ (both _ _ first cards) inside) joined_notes) fits
  where
    kinds_natural : (ls : List PlainKind) → list_all kind_natural ls ≡ true
    kinds_natural [] = refl
    kinds_natural (l ∷ ls) = kinds_natural ls

    of_room : (l : PlainRoom) → room_natural l ≡ true → is_natural l.room ≡ true
    of_room l h =
        let e = and_true _ (is_natural l.notes) h in
        let d = and_true _ (may_be_natural l.party) e.0 in
        let c = and_true _ (is_natural l.secured) d.0 in
        let b = and_true _ (is_natural l.codes) c.0 in
        (and_true (is_natural l.room) (is_natural l.lock_place) b.0).0

    of_stay : (l : PlainStay) → stay_natural l ≡ true → is_natural l.party ≡ true
    of_stay l h =
        let d = and_true _ (may_be_natural l.room) h in
        let c = and_true _ (is_natural l.state) d.0 in
        let b = and_true _ (is_natural l.depart) c.0 in
        (and_true (is_natural l.party) (is_natural l.arrive) b.0).0

    of_code : (l : PlainCode) → code_natural l ≡ true → is_natural l.code ≡ true
    of_code l h = let b = and_true _ (is_natural l.place) h in (and_true (is_natural l.code) (is_natural l.room) b.0).0

    of_card : (l : PlainCard) → card_natural l ≡ true → is_natural l.number ≡ true
    of_card l h =
        let c = and_true _ (is_natural l.new_code) h in
        let b = and_true _ (is_natural l.old_code) c.0 in
        (and_true (is_natural l.number) (is_natural l.party) b.0).0

    of_note : (l : PlainNote) → note_natural l ≡ true → (is_natural l.room ≡ true) × (is_natural l.n ≡ true)
    of_note l h =
        let g = and_true _ (is_natural l.second) h in
        let f = and_true _ (is_natural l.day) g.0 in
        let e = and_true _ (is_natural l.second_code) f.0 in
        let d = and_true _ (is_natural l.first_code) e.0 in
        let c = and_true _ (may_be_natural l.card) d.0 in
        let b = and_true _ (is_natural l.act) c.0 in
        and_true (is_natural l.room) (is_natural l.n) b.0

-- ---- the row of meta

has_row : {version : Version} (db : Trees) → AreTablesOf version db → HasMetaRow version db
has_row {version} db t =
    let n = number_of_version version in
    let cmp = by_key {K = ℕ} {V = ℕ × Option ℕ} nat_cmp in
    let shuffled : IsPermutation ((1, (n, t.meta_row.0)) ∷ []) (map (λ r. meta_of (meta_columns r)) (db meta_tree)) =
    subst (λ es. IsPermutation es (map (λ r. meta_of (meta_columns r)) (db meta_tree))) t.meta_row.1
    (IsPermutation-sort_by cmp (key_total nat_cmp_total) (map (λ r. meta_of (meta_columns r)) (db meta_tree))) in
    only n t.meta_row.0 (db meta_tree) t.meta.good (one_permutation (1, (n, t.meta_row.0)) _ shuffled)
  where
    told : List (ℕ × (ℕ × Option ℕ)) → ℕ
    told [] = 0
    told (e ∷ es) = e.1.0

    first : List (ℕ × (ℕ × Option ℕ)) → ℕ
    first [] = 0
    first (e ∷ es) = e.0

    only : (n : ℕ) (day : Option ℕ) (rows : List Row)
        → AllByRecursion (IsWrittenAs meta_columns meta_of meta_written) rows
        → map (λ r. meta_of (meta_columns r)) rows ≡ (1, (n, day)) ∷ []
        → (row : Row) × (rows ≡ row ∷ []) × (column (meta_columns row) 0 ≡ Int (pos 1))
        × (column (meta_columns row) 1 ≡ Int (pos n))
    only n day [] good e = absurd (let w = ap length e in omega (arith, w))
    only n day (r ∷ []) good e = (
      r,
      refl,
      ap (λ (v : Row). column v 0) good.0 ∙ ap (λ n. int n) (ap first e),
      ap (λ (v : Row). column v 1) good.0 ∙ ap (λ n. int n) (ap told e),
    )
    only n day (r ∷ q ∷ rows) good e = absurd (let w = ap length e in omega (arith, w))

-- ---- the whole

pub read_undamaged : ReadUndamaged
read_undamaged version db t = (
  has_row db t,
  λ s a.
      let w = are_written s db t a in
      let desk = are_desk s db a (t.inside_numbered, t.inside_ids) (keys_rise s db t a w.fit w.natural) w.fit
      w.natural in
      (sym desk.rows, λ sound. (undamaged_is_sound s).1 (subst IsSound desk.rows sound, w.fit)),
)

-- a fault of sound tables is one of a call
pub of_a_call : (failed : Type 0) (version : Version) (db : Trees) (why : OpenFault) → AreTablesOf version db
    → IsSound (rows_of_version version db) → FaultFits failed version db why → IsOfCall why
of_a_call failed version db fault.Memory t sound fits = tt
of_a_call failed version db fault.Store t sound fits = tt
of_a_call failed version db fault.NotADesk t sound fits = fits (read_undamaged version db t).0
of_a_call failed version db (fault.Damaged name) t sound fits =
    let none = ((read_undamaged version db t).1 fits.0 fits.1).1 sound in
    let both_are : ◌≡◌ {A = Option _} None (Some name) = sym none ∙ fits.2 in
    cc
