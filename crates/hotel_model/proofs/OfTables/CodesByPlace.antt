-- The table of codes has each room's codes at the places 0 and on, in the order of issue.
use Rattle.std.proofs.Common.{ℕ, ◌≡◌, ◌<◌, ◌+◌, Bool, true, false, cond, Some, None, List, [], ◌∷◌, ◌++◌, length, refl}
use Rattle.std.proofs.Common.{ap, sym, ◌∙◌, subst, arith, length-append, ◌==◌, ◌&&◌, not, nat_cmp, Ordering, Less}
use Rattle.std.proofs.Common.{Equal, Greater, count_by}
use Rattle.hotel_model.proofs.Names.{match_ordering, is_at, insert_entry, list_all, keys_of, values_of, nat_tests}
use Rattle.hotel_model.proofs.Names.{nat_cmp_total, exact_unsigned, CodeRow, when, and_last, at_number, codes_by_place}
use Rattle.hotel_model.proofs.Names.{Install, Issue, Refitted, History, start, ◌▷◌, issued, all_issued, Reached}
use Rattle.hotel_model.proofs.Names.{count_up}
use Rattle.hotel_model.proofs.{OfTables.Tests.eq_from, OfTables.Tests.eq_self, OfTables.Tests.and_true}
use Rattle.hotel_model.proofs.{OfTables.TableKeys.is_at_self, OfTables.Grown.may_follow}
use Rattle.hotel_model.proofs.{OfTables.Counting.comes_last, OfTables.Counting.counts_on}
use Rattle.hotel_model.proofs.{OfTables.CodeLists.length_more}
use Rattle.hotel_model.proofs.Invariants.CodePlaces.{places_have_codes, fresh_has_no_row, next_place}
use Rattle.hotel_model.proofs.{OfTables.KeysInOrder.InOrder, OfTables.KeysInOrder.in_order_inserted}
use Rattle.hotel_model.proofs.{OfTables.KeysInOrder.keys_inserted, OfTables.SameTables.added_in_any_order}
use Rattle.hotel_model.proofs.{OfTables.RowTests.all_found, SoundRows.SoundKeys.codes_in_order}
use Rattle.hotel_model.proofs.{OfTables.StayCounts.count_inserted}
use Rattle.hotel_model.proofs.Starts.StartCodes.{places_count_up, listed_at_start}

-- the row isn't at this place of the room
abbrev pub is_elsewhere : ℕ → ℕ → ℕ × CodeRow → Bool
is_elsewhere room place e = not ((e.1.room == room) && (e.1.place == place))

placed_in_order : (es : List (ℕ × CodeRow)) (r : ℕ) → InOrder nat_cmp (keys_of (codes_by_place es r))
placed_in_order [] r = tt
placed_in_order (e ∷ es) r = by (e.1.room == r) (placed_in_order es r)
  where
    by : (b : Bool) → InOrder nat_cmp (keys_of (codes_by_place es r))
        → InOrder nat_cmp (keys_of (when b (λ placed. insert_entry nat_cmp placed e.1.place e.0) (codes_by_place es r)))
    by true i =
        subst (InOrder nat_cmp) (sym (keys_inserted nat_cmp e.1.place e.0 (codes_by_place es r)))
        (in_order_inserted nat_cmp nat_cmp_total e.1.place (keys_of (codes_by_place es r)) i)
    by false i = i

-- two codes of a room, at two places, added in either order
either_order : (a b : Bool) (j k : ℕ) (v w : ℕ) (placed : List (ℕ × ℕ))
    → (a ≡ true → b ≡ true → j ≡ k → ⊥) → InOrder nat_cmp (keys_of placed)
    → when a (λ es. insert_entry nat_cmp es j v) (when b (λ es. insert_entry nat_cmp es k w) placed)
    ≡ when b (λ es. insert_entry nat_cmp es k w) (when a (λ es. insert_entry nat_cmp es j v) placed)
either_order true true j k v w placed apart i = added_in_any_order placed k j w v (λ e. apart refl refl (sym e)) i
either_order true false j k v w placed apart i = refl
either_order false true j k v w placed apart i = refl
either_order false false j k v w placed apart i = refl

not_here : (e : ℕ × CodeRow) (r place : ℕ)
    → is_elsewhere r place e ≡ true → (e.1.room == r) ≡ true → e.1.place ≡ place → ⊥
not_here e r place t here same =
    by (e.1.room == r) (e.1.place == place) here (ap (λ z. z == place) same ∙ eq_self place) t
  where
    by : (a b : Bool) → a ≡ true → b ≡ true → not (a && b) ≡ true → ⊥
    by true true p q n = let w : ◌≡◌ {A = Bool} false true = n in cc
    by true false p q n = let w : ◌≡◌ {A = Bool} false true = q in cc
    by false b p q n = let w : ◌≡◌ {A = Bool} false true = p in cc

placed_by : (o : Ordering) (e : ℕ × CodeRow) (es : List (ℕ × CodeRow)) (code : ℕ) (row : CodeRow) (r : ℕ)
    → nat_cmp code e.0 ≡ o → at_number (e ∷ es) code ≡ None
    → ((row.room == r) ≡ true → list_all (is_elsewhere r row.place) (e ∷ es) ≡ true)
    → (at_number es code ≡ None → codes_by_place (insert_entry nat_cmp es code row) r
    ≡ when (row.room == r) (λ placed. insert_entry nat_cmp placed row.place code) (codes_by_place es r))
    → codes_by_place (match_ordering o ((code, row) ∷ e ∷ es) ((e.0, row) ∷ es)
    (e ∷ insert_entry nat_cmp es code row)) r
    ≡ when (row.room == r) (λ placed. insert_entry nat_cmp placed row.place code) (codes_by_place (e ∷ es) r)
placed_by Less e es code row r c n apart ih = refl
placed_by Equal e es code row r c n apart ih =
    let here : is_at (nat_cmp code) e.0 ≡ true =
    ap (λ z. is_at (nat_cmp code) z) (sym (exact_unsigned code e.0 c)) ∙ is_at_self code in
    let found : ◌≡◌ (Some e.1) None = ap (λ b. cond b (Some e.1) (at_number es code)) (sym here) ∙ n in cc
placed_by Greater e es code row r c n apart ih =
    let elsewhere : is_at (nat_cmp code) e.0 ≡ false =
    ap (λ o. elim o [ Less ↦ false | Equal ↦ true | Greater ↦ false ]) c in
    ap (λ placed. when (e.1.room == r) (λ z. insert_entry nat_cmp z e.1.place e.0) placed)
    (ih (ap (λ b. cond b (Some e.1) (at_number es code)) (sym elsewhere) ∙ n))
    ∙ either_order (e.1.room == r) (row.room == r) e.1.place row.place e.0 code (codes_by_place es r)
    (λ t u. not_here e r row.place (and_true (is_elsewhere r row.place e) (list_all (is_elsewhere r row.place) es)
    (apart u)).0 t) (placed_in_order es r)

-- the codes by place, with a new code at a new place more
placed_more : (es : List (ℕ × CodeRow)) (code : ℕ) (row : CodeRow) (r : ℕ)
    → at_number es code ≡ None → ((row.room == r) ≡ true → list_all (is_elsewhere r row.place) es ≡ true)
    → codes_by_place (insert_entry nat_cmp es code row) r
    ≡ when (row.room == r) (λ placed. insert_entry nat_cmp placed row.place code) (codes_by_place es r)
placed_more [] code row r n apart = refl
placed_more (e ∷ es) code row r n apart =
    placed_by (nat_cmp code e.0) e es code row r refl n apart
    (λ m. placed_more es code row r m
    (λ t. (and_true (is_elsewhere r row.place e) (list_all (is_elsewhere r row.place) es) (apart t)).1))

below_is_elsewhere : (a : Bool) (place next : ℕ) → (a ≡ true → place < next) → not (a && (place == next)) ≡ true
below_is_elsewhere true place next f =
    let lt = f refl in let apart : (place == next) ≡ false = grind (arith, nat_tests) in ap not apart
below_is_elsewhere false place next f = refl

within : (before : List ℕ) (code : ℕ) (later codes : List ℕ) (place : ℕ)
    → codes ≡ before ++ code ∷ later → length before ≡ place → place < length codes
within before code later codes place e l =
    let n = ap (λ (zs : List ℕ). length zs) e in omega (arith, n, length-append before (code ∷ later))

-- no code stands at a room's next place
next_is_free : (h : History) → Reached h → (r : ℕ)
    → list_all (is_elsewhere r (length (issued h r))) (all_issued h) ≡ true
next_is_free h ok r =
    all_found nat_cmp nat_cmp_total (is_elsewhere r (length (issued h r))) (all_issued h) (codes_in_order h ok)
    (λ code row e. below_is_elsewhere (row.room == r) row.place (length (issued h r))
    (λ t. let p = places_have_codes h ok code row e in
    subst (λ z. row.place < length (issued h z)) (eq_from row.room r t)
    (within p.0 code p.1 (issued h row.room) row.place p.2 p.3)))

-- these codes are at the places 0 and on
abbrev pub ArePlaced : List (ℕ × ℕ) → List ℕ → Type 0
ArePlaced placed codes = (count_up 0 (keys_of placed) ≡ true) × (values_of placed ≡ codes)

values_more : (es : List (ℕ × ℕ)) (k v : ℕ) → values_of (es ++ (k, v) ∷ []) ≡ values_of es ++ v ∷ []
values_more [] k v = refl
values_more (e ∷ es) k v = ap (λ zs. e.1 ∷ zs) (values_more es k v)

length_values : (es : List (ℕ × ℕ)) → length (values_of es) ≡ length es
length_values [] = refl
length_values (e ∷ es) = let n = length_values es in omega arith

one_placed : (b : Bool) (placed : List (ℕ × ℕ)) (codes : List ℕ) (place code : ℕ)
    → (b ≡ true → place ≡ length codes) → ArePlaced placed codes
    → ArePlaced (when b (λ es. insert_entry nat_cmp es place code) placed) (when b (and_last code) codes)
one_placed true placed codes place code n a =
    let l = length_values placed in
    let m : length (values_of placed) ≡ length codes = ap (λ (zs : List ℕ). length zs) a.1 in
    let k : place ≡ length codes = n refl in
    let next : place ≡ 0 + length placed = omega arith in
    let last = comes_last 0 placed place code a.0 next in (
      ap (λ zs. count_up 0 (keys_of zs)) last ∙ counts_on 0 placed place code a.0 next,
      ap (λ zs. values_of zs) last ∙ values_more placed place code ∙ ap (λ zs. zs ++ code ∷ []) a.1,
    )
one_placed false placed codes place code n a = a

issue_placed : (h : History) (room code r : ℕ)
    → Reached h → at_number (all_issued h) code ≡ None → ArePlaced (codes_by_place (all_issued h) r) (issued h r)
    → ArePlaced (codes_by_place (insert_entry nat_cmp (all_issued h) code (next_place h room)) r)
    (when (room == r) (and_last code) (issued h r))
issue_placed h room code r ok fresh a =
    subst (λ placed. ArePlaced placed (when (room == r) (and_last code) (issued h r)))
    (sym (placed_more (all_issued h) code (next_place h room) r fresh
    (λ t. subst (λ z. list_all (is_elsewhere z (length (issued h room))) (all_issued h) ≡ true)
    (eq_from room r t) (next_is_free h ok room))))
    (one_placed (room == r) (codes_by_place (all_issued h) r) (issued h r) (length (issued h room)) code
    (λ t. ap (λ z. length (issued h z)) (eq_from room r t)) a)

-- Each room's codes stand at the places 0 and on, in the order of issue.
pub codes_are_placed : (h : History) → Reached h → (r : ℕ) → ArePlaced (codes_by_place (all_issued h) r) (issued h r)
codes_are_placed (start t) ok r = (places_count_up t ok r, refl)
codes_are_placed (h ▷ Install room kind code) ok r = issue_placed h room code r ok.0
    (fresh_has_no_row h code (may_follow h (Install room kind code) ok).2) (codes_are_placed h ok.0 r)
codes_are_placed (h ▷ Issue party room number code) ok r = issue_placed h room code r ok.0
    (fresh_has_no_row h code (may_follow h (Issue party room number code) ok).6) (codes_are_placed h ok.0 r)
codes_are_placed (h ▷ Refitted room fit code) ok r = issue_placed h room code r ok.0
    (fresh_has_no_row h code (may_follow h (Refitted room fit code) ok).3) (codes_are_placed h ok.0 r)
codes_are_placed (h ▷ _) ok r = codes_are_placed h ok.0 r

one_listed : (b : Bool) (codes : List ℕ) (code n : ℕ)
    → n ≡ length codes → cond b 1 0 + n ≡ length (when b (and_last code) codes)
one_listed true codes code n e = let l = length_more codes code in omega arith
one_listed false codes code n e = omega arith

issue_listed : (h : History) (room code r : ℕ) → at_number (all_issued h) code ≡ None
    → count_by (λ (row : CodeRow). row.room == r) (values_of (all_issued h)) ≡ length (issued h r)
    → count_by (λ (row : CodeRow). row.room == r) (values_of (insert_entry nat_cmp (all_issued h) code
    (next_place h room))) ≡ length (when (room == r) (and_last code) (issued h r))
issue_listed h room code r fresh ih =
    count_inserted (λ (row : CodeRow). row.room == r) (all_issued h) code (next_place h room) fresh
    ∙ one_listed (room == r) (issued h r) code _ ih

-- The table has as many codes of each room as were issued there.
pub codes_are_listed : (h : History) → Reached h → (r : ℕ)
    → count_by (λ (row : CodeRow). row.room == r) (values_of (all_issued h)) ≡ length (issued h r)
codes_are_listed (start t) ok r = listed_at_start t ok r
codes_are_listed (h ▷ Install room kind code) ok r = issue_listed h room code r
    (fresh_has_no_row h code (may_follow h (Install room kind code) ok).2) (codes_are_listed h ok.0 r)
codes_are_listed (h ▷ Issue party room number code) ok r = issue_listed h room code r
    (fresh_has_no_row h code (may_follow h (Issue party room number code) ok).6) (codes_are_listed h ok.0 r)
codes_are_listed (h ▷ Refitted room fit code) ok r = issue_listed h room code r
    (fresh_has_no_row h code (may_follow h (Refitted room fit code) ok).3) (codes_are_listed h ok.0 r)
codes_are_listed (h ▷ _) ok r = codes_are_listed h ok.0 r
