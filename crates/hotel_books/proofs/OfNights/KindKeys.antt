-- Kinds as keys, and the counts at them.
use Rattle.std.proofs.Common.{ℕ, ◌≡◌, ◌+◌, Bool, true, false, cond, Option, Some, None, List, [], ◌∷◌, refl, ap, sym}
use Rattle.std.proofs.Common.{◌∙◌, ◌||◌, bytes_eq, is_some, nat_cmp, Ordering, Less, Equal, Greater}
use Rattle.hotel_books.proofs.Names.{match_ordering, slice_cmp, is_at, insert_entry, insert_key, lookup, keys_of}
use Rattle.hotel_books.proofs.Names.{bytes_eq-Decides, one_if, is_there, rooms_in}
use Rattle.std.specs.Option.{unwrap_or}
use Rattle.std.specs.List.{list_any}
use Rattle.std.specs.Ordering.{nat_cmp, match_ordering, is_eq}
use Rattle.std.specs.declared.cmp.Ordering.{Ordering}
use Rattle.std.specs.declared.cmp.Ordering.TheVariants.{Less, Equal, Greater}
use Rattle.std.specs.Cmp.Lexicographic.{slice_cmp}
use Rattle.std.specs.BTreeMap.{is_at, insert_entry}
use Rattle.std.specs.BTreeSet.{insert_key}
use Rattle.std.specs.Map.{lookup, keys_of}
use Rattle.std.proofs.lemmas.Map.Text.{is_eq-slice_cmp}
use Rattle.std.proofs.lemmas.Slice.Eq.{bytes_eq-Decides}
use Rattle.hotel_nights.specs.Block.{one_if}
use Rattle.hotel_books.specs.KindRooms.{is_there, rooms_in}
use Rattle.hotel_books.proofs.OfTables.MapEntries.{same_bool, known_by}
use Rattle.hotel_model.proofs.OfTables.RowTests.{or_later}
use Rattle.hotel_model.proofs.SoundRows.SoundKinds.{any_key_inserted}
use Rattle.std.proofs.Common.{inl, inr}
use Rattle.std.proofs.lemmas.Bool.{cases_Bool}
use Rattle.hotel_books.proofs.OfNights.NightCounts.{taken_in, more_by}

bytes_turned : (xs ys : List ℕ) → bytes_eq xs ys ≡ bytes_eq ys xs
bytes_turned xs ys =
    same_bool (bytes_eq xs ys) (bytes_eq ys xs) (λ h. (bytes_eq-Decides ys xs).1 (sym ((bytes_eq-Decides xs ys).0 h)))
    (λ h. (bytes_eq-Decides xs ys).1 (sym ((bytes_eq-Decides ys xs).0 h)))

-- a kind is among the keys where the map has it
pub known_kind : (counts : List (List ℕ × ℕ)) (kind : List ℕ)
    → is_some (lookup (is_at (slice_cmp nat_cmp kind)) counts) ≡ is_there counts kind
known_kind [] kind = refl
known_kind (e ∷ es) kind =
    known_by (is_at (slice_cmp nat_cmp kind) e.0) e.1 (lookup (is_at (slice_cmp nat_cmp kind)) es)
    (is_there es kind) (known_kind es kind)
    ∙ ap (λ b. b || is_there es kind) (is_eq-slice_cmp kind e.0 ∙ bytes_turned kind e.0)

-- an entry's key stands among the keys in order
pub keys_inserted : {K X : Type 0} (cmp : K → K → Ordering) (k : K) (v : X) (es : List (K × X))
    → keys_of (insert_entry cmp es k v) ≡ insert_key cmp (keys_of es) k
keys_inserted cmp k v [] = refl
keys_inserted cmp k v (e ∷ es) = by (cmp k e.0) (keys_inserted cmp k v es)
  where
    by : (o : Ordering) → keys_of (insert_entry cmp es k v) ≡ insert_key cmp (keys_of es) k
        → keys_of (match_ordering o ((k, v) ∷ e ∷ es) ((e.0, v) ∷ es) (e ∷ insert_entry cmp es k v))
        ≡ match_ordering o (k ∷ e.0 ∷ keys_of es) (e.0 ∷ keys_of es) (e.0 ∷ insert_key cmp (keys_of es) k)
    by Less h = refl
    by Equal h = refl
    by Greater h = ap (λ ks. e.0 ∷ ks) h

itself_by : (o : Ordering) (kind k : List ℕ) (ks : List (List ℕ))
    → slice_cmp nat_cmp kind k ≡ o → list_any (λ x. bytes_eq x kind) (insert_key (slice_cmp nat_cmp) ks kind) ≡ true
    → list_any (λ x. bytes_eq x kind) (match_ordering o (kind ∷ k ∷ ks) (k ∷ ks)
    (k ∷ insert_key (slice_cmp nat_cmp) ks kind)) ≡ true
itself_by Less kind k ks e ih =
    ap (λ b. b || list_any (λ x. bytes_eq x kind) (k ∷ ks)) ((bytes_eq-Decides kind kind).1 refl)
itself_by Equal kind k ks e ih =
    ap (λ b. b || list_any (λ x. bytes_eq x kind) ks) (bytes_turned k kind ∙ sym (is_eq-slice_cmp kind k) ∙ ap is_eq e)
itself_by Greater kind k ks e ih = or_later (bytes_eq k kind) _ ih

-- a kind that was added is there
pub there_itself : (ks : List (List ℕ)) (kind : List ℕ)
    → list_any (λ x. bytes_eq x kind) (insert_key (slice_cmp nat_cmp) ks kind) ≡ true
there_itself [] kind = ap (λ b. b || false) ((bytes_eq-Decides kind kind).1 refl)
there_itself (k ∷ ks) kind = itself_by (slice_cmp nat_cmp kind k) kind k ks refl (there_itself ks kind)

-- a kind that was made known is there, and so are those that were
pub known_there : (kind : List ℕ) (old new : List (List ℕ × ℕ)) → (is_there old kind ≡ true → new ≡ old)
    → (is_there old kind ≡ false → keys_of new ≡ insert_key (slice_cmp nat_cmp) (keys_of old) kind)
    → (is_there new kind ≡ true) × ((k : List ℕ) → is_there old k ≡ true → is_there new k ≡ true)
known_there kind old new same added = elim (cases_Bool (is_there old kind)) [
  | inl there ↦ (ap (λ ks. is_there ks kind) (same there) ∙ there, λ k was. ap (λ ks. is_there ks k) (same there) ∙ was)
  | inr not_there ↦ (
    ap (λ ks. list_any (λ x. bytes_eq x kind) ks) (added not_there) ∙ there_itself (keys_of old) kind,
    λ k was.
        ap (λ ks. list_any (λ x. bytes_eq x k) ks) (added not_there)
        ∙ any_key_inserted (slice_cmp nat_cmp) (λ x. bytes_eq x k) kind (keys_of old) was,
  )
]

-- ---- the count of one kind changed

-- the list has the value at a kind, and at each other what was there
abbrev pub SetsKind : List (List ℕ × ℕ) → List (List ℕ × ℕ) → List ℕ → ℕ → Type 0
SetsKind before after kind n = (q : List ℕ) → lookup (is_at (slice_cmp nat_cmp q)) after
    ≡ cond (is_at (slice_cmp nat_cmp kind) q) (Some n) (lookup (is_at (slice_cmp nat_cmp q)) before)

set_at : (before after : List (List ℕ × ℕ)) (kind : List ℕ) (n : ℕ) → SetsKind before after kind n → (k : List ℕ)
    → rooms_in after k ≡ cond (bytes_eq kind k) n (rooms_in before k)
set_at before after kind n u k =
    ap (λ o. unwrap_or o 0) (u k)
    ∙ taken_in 0 (is_at (slice_cmp nat_cmp kind) k) (Some n) (lookup (is_at (slice_cmp nat_cmp k)) before)
    ∙ ap (λ b. cond b n (rooms_in before k)) (is_eq-slice_cmp kind k)

same_kind : (counts : List (List ℕ × ℕ)) (kind k : List ℕ)
    → bytes_eq kind k ≡ true → rooms_in counts kind ≡ rooms_in counts k
same_kind counts kind k t = ap (rooms_in counts) ((bytes_eq-Decides kind k).0 t)

pub one_more_room : (before after : List (List ℕ × ℕ)) (kind : List ℕ)
    → SetsKind before after kind (rooms_in before kind + 1) → (k : List ℕ)
    → rooms_in after k ≡ rooms_in before k + one_if (bytes_eq kind k)
one_more_room before after kind u k =
    set_at before after kind (rooms_in before kind + 1) u k
    ∙ more_by (bytes_eq kind k) (rooms_in before kind) (rooms_in before k) (same_kind before kind k)

kept_by : (b : Bool) (x y : ℕ) → (b ≡ true → x ≡ y) → cond b x y ≡ y
kept_by true x y e = e refl
kept_by false x y e = refl

none_in : (o : Option ℕ) → is_some o ≡ false → unwrap_or o 0 ≡ 0
none_in None e = refl
none_in (Some n) e = absurd (let w : ◌≡◌ {A = Bool} true false = e in cc)

-- a new kind has no rooms
pub none_of_new : (counts : List (List ℕ × ℕ)) (kind : List ℕ) → is_there counts kind ≡ false → rooms_in counts kind ≡ 0
none_of_new counts kind new = none_in (lookup (is_at (slice_cmp nat_cmp kind)) counts) (known_kind counts kind ∙ new)

pub new_kind : (before after : List (List ℕ × ℕ)) (kind : List ℕ)
    → is_there before kind ≡ false → SetsKind before after kind 0 → (k : List ℕ) → rooms_in after k ≡ rooms_in before k
new_kind before after kind new u k =
    set_at before after kind 0 u k ∙ kept_by (bytes_eq kind k) 0 (rooms_in before k)
    (λ t. sym (none_of_new before kind new) ∙ same_kind before kind k t)
