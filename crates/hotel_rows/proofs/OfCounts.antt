-- The rooms of each kind and the nights of the stays, counted row by row.
use Rattle.std.proofs.Common.{◌≡◌, refl, sym, ap, subst, ◌∙◌, List, [], ◌∷◌, map, ℕ, true, false, Bool, Option, None}
use Rattle.std.proofs.Common.{Some, arith, ◌+◌, ◌<◌, length, take, get_or, inl, inr, cond}
use Rattle.std.specs.Prelude.{◌||◌, bytes_eq, string_bytes, not, is_some, nat_le, ◌-◌}
use Rattle.std.proofs.lemmas.Bool.Decides.{nat_tests}
use Rattle.std.proofs.lemmas.Bool.{cases_Bool}
use Rattle.std.proofs.lemmas.List.Folds.{list_any_more}
use Rattle.std.proofs.lemmas.List.Sums.{count_by_more_yes, count_by_more_no}
use Rattle.std.proofs.lemmas.Slice.Eq.{bytes_eq-Decides}
use Rattle.std.specs.List.{list_any, count_by}
use Rattle.std.specs.Map.{values_of}
use Rattle.hotel_nights.specs.declared.stay.Stay.{Stay}
use Rattle.hotel_nights.specs.Block.{one_if}
use Rattle.hotel_nights.specs.FullNight.{takes, nights_taken, first_day, is_full}
use Rattle.hotel_model.specs.declared.rows.RoomRow.{RoomRow}
use Rattle.hotel_books.specs.NightIndex.{CountsNights, counted}
use Rattle.hotel_books.specs.KindRooms.{is_there, rooms_in}
use Rattle.hotel_model.proofs.OfTables.StayCounts.{count_first}
use Rattle.hotel_model.proofs.OfTables.Tests.{or_true}
use Rattle.hotel_rows.specs.declared.stored.PlainKind.{PlainKind}
use Rattle.hotel_rows.specs.declared.stored.PlainRoom.{PlainRoom}
use Rattle.hotel_rows.specs.declared.stored.PlainStay.{PlainStay}
use Rattle.hotel_rows.specs.declared.stored.Stored.{Stored}
use Rattle.hotel_rows.specs.declared.counts.Counts.{Counts}
use Rattle.hotel_rows.specs.Stored.{number_of, room_row, stay_row, kind_text, room_entry, stay_entry}
use Rattle.hotel_rows.specs.RowTests.{is_room_of_kind, has_night}
use Rattle.hotel_rows.specs.Counts.{IsCountedOf, KnowsKinds, names_kind}
pub mod Countable
pub mod Untold

pub counted_rooms : (kind : List ℕ) (ls : List PlainRoom) → count_by (is_room_of_kind kind) ls
    ≡ count_by (λ (row : RoomRow). bytes_eq row.kind kind) (values_of (map room_entry ls))
counted_rooms kind [] = refl
counted_rooms kind (l ∷ ls) =
    count_first (is_room_of_kind kind) l ls
    ∙ ap (λ n. one_if (is_room_of_kind kind l) + n) (counted_rooms kind ls)
    ∙ sym (count_first (λ (row : RoomRow). bytes_eq row.kind kind) (room_row l) (values_of (map room_entry ls)))

pub count_stays : (kind : List ℕ) (n : ℕ) (ls : List PlainStay)
    → count_by (λ l. takes kind n (stay_row l)) ls ≡ count_by (takes kind n) (values_of (map stay_entry ls))
count_stays kind n [] = refl
count_stays kind n (l ∷ ls) =
    count_first (λ l. takes kind n (stay_row l)) l ls
    ∙ ap (λ m. one_if (takes kind n (stay_row l)) + m) (count_stays kind n ls)
    ∙ sym (count_first (takes kind n) (stay_row l) (values_of (map stay_entry ls)))

-- one more stay is counted
pub more_stays : (before after : List ((List ℕ × ℕ) × List ℕ)) (ls : List PlainStay) (i : ℕ)
    (d : PlainStay) (stay : Stay) → i < length ls
    → CountsNights before (values_of (map stay_entry (take i ls))) → stay ≡ stay_row (get_or ls i d)
    → ((kind : List ℕ) (n : ℕ) → counted after kind n ≡ counted before kind n + one_if (takes kind n stay))
    → CountsNights after (values_of (map stay_entry (take (i + 1) ls)))
unfolding nights_taken
more_stays before after ls i d stay low stands is adds kind n =
    let p : PlainStay → Bool = λ l. takes kind n (stay_row l) in
    let was : counted before kind n ≡ count_by p (take i ls) = stands kind n ∙ sym (count_stays kind n (take i ls)) in
    let step : count_by p (take (i + 1) ls) ≡ count_by p (take i ls) + one_if (p (get_or ls i d)) =
    count_next p ls i d low in
    adds kind n ∙ ap (λ (s : Stay). counted before kind n + one_if (takes kind n s)) is
    ∙ ap (λ m. m + one_if (p (get_or ls i d))) was ∙ sym step ∙ count_stays kind n (take (i + 1) ls)
  where
    count_next : (p : PlainStay → Bool) (ls : List PlainStay) (i : ℕ) (d : PlainStay)
        → i < length ls → count_by p (take (i + 1) ls) ≡ count_by p (take i ls) + one_if (p (get_or ls i d))
    count_next p ls i d low = elim (cases_Bool (p (get_or ls i d))) [
      | inl yes_is ↦ rw yes_is (count_by_more_yes p ls i d low yes_is)
      | inr no_is ↦ let e = count_by_more_no p ls i d low no_is in rw no_is (omega (arith, e))
    ]

-- a kind that the rows name, as the rows of the books have it
pub named_kind : (kind : List ℕ) (plain_rows : List PlainKind)
    → names_kind kind plain_rows ≡ list_any (λ k. bytes_eq k kind) (map kind_text plain_rows)
named_kind kind [] = refl
named_kind kind (l ∷ ls) = ap (λ b. bytes_eq (kind_text l) kind || b) (named_kind kind ls)

-- one more kind is known
pub one_more_known : (before after : List (List ℕ × ℕ)) (plain_rows : List PlainKind) (i : ℕ) (d : PlainKind)
    → i < length plain_rows → KnowsKinds before (take i plain_rows)
    → is_there after (kind_text (get_or plain_rows i d)) ≡ true
    → ((k : List ℕ) → is_there before k ≡ true → is_there after k ≡ true) → KnowsKinds after (take (i + 1) plain_rows)
one_more_known before after plain_rows i d low known there others kind named =
    elim (or_true _ _ (sym (list_any_more (λ plain. bytes_eq (kind_text plain) kind) plain_rows i d low) ∙ named)) [
      | inl old ↦ others kind (known kind old)
      | inr new ↦ subst (λ k. is_there after k ≡ true)
          ((bytes_eq-Decides (kind_text (get_or plain_rows i d)) kind).0 new) there
    ]

-- ---- the first night of a stay, by the counts

pub night_told : (s : Stored) (counts : Counts) (plain : PlainStay) (kind : List ℕ) (arrive more to : ℕ)
    (full : Option ℕ) → IsCountedOf s counts → kind ≡ string_bytes plain.kind
    → arrive ≡ number_of plain.arrive → more ≡ rooms_in counts.kinds kind + 1 → to ≡ arrive + 1
    → full ≡ first_day (is_full (values_of (map stay_entry s.stay.items)) kind more) arrive (to - arrive)
    → not (is_some full) ≡ has_night s plain
unfolding first_day nights_taken
night_told s counts plain kind arrive more to full h same from rooms next is =
    let one : to - arrive ≡ 1 = omega (arith, next) in
    let taken = count_by (takes kind arrive) (values_of (map stay_entry s.stay.items)) in
    let first : full ≡ cond (nat_le more taken) (Some arrive) None =
    is ∙ ap (first_day (is_full (values_of (map stay_entry s.stay.items)) kind more) arrive) one in
    let told : not (is_some full) ≡ nat_le taken (rooms_in counts.kinds kind) =
    ap (λ o. not (is_some o)) first ∙ by (nat_le more taken) refl in
    let counted_here : nat_le taken (rooms_in counts.kinds kind) ≡ nat_le (count_by
    (λ (l : PlainStay). takes kind arrive (stay_row l)) s.stay.items) (count_by (is_room_of_kind kind) s.room.items) =
    λ i. nat_le (sym (count_stays kind arrive s.stay.items) i) (h.0 kind i) in
    told ∙ counted_here ∙ λ i. nat_le (count_by (λ (l : PlainStay). takes (same i) (from i) (stay_row l)) s.stay.items)
    (count_by (is_room_of_kind (same i)) s.room.items)
  where
    by : (b : Bool) → nat_le more (count_by (takes kind arrive) (values_of (map stay_entry s.stay.items))) ≡ b
        → not (is_some (cond b (Some arrive) None))
        ≡ nat_le (count_by (takes kind arrive) (values_of (map stay_entry s.stay.items))) (rooms_in counts.kinds kind)
    by true e = grind (arith, nat_tests)
    by false e = grind (arith, nat_tests)
