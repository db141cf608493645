-- The codes of sound rows: each is found by its number and at its place, and no other code stands there.
use Rattle.std.proofs.Common.{ℕ, ◌≡◌, Bool, true, false, cond, Option, Some, None, List, [], ◌∷◌, length, map, filter}
use Rattle.std.proofs.Common.{refl, ap, ap₂, sym, ◌∙◌, subst, arith, Less, nat_cmp, true≢false}
use Rattle.std.specs.Prelude.{◌&&◌, ◌==◌}
use Rattle.std.specs.List.{AllByRecursion}
use Rattle.std.specs.Option.{option_to_list}
use Rattle.std.specs.BTreeMap.{is_at}
use Rattle.std.proofs.lemmas.Bool.Decides.{nat_tests}
use Rattle.std.proofs.lemmas.Cmp.{nat_cmp_total}
use Rattle.std.proofs.lemmas.List.Elements.{filter_passes, recursion_from_All}
use Rattle.sqlite_keyed.proofs.ListLemmas.{all_both}
use Rattle.sqlite.specs.Tree.{IsAscending}
use Rattle.hotel_model.specs.declared.rows.CodeRow.{CodeRow}
use Rattle.hotel_model.specs.declared.rows.RoomRow.{RoomRow}
use Rattle.hotel_model.specs.Words.{said_of}
use Rattle.hotel_model.specs.Rows.{Rows, at_number, codes_by_place, codes_at}
use Rattle.hotel_model.specs.Sound.{IsSound}
use Rattle.hotel_model.specs.Refinement.Lookups.{code_at, first_code_at}
use Rattle.hotel_model.proofs.OfTables.Tests.{eq_from, eq_self, same_bool, and_true}
use Rattle.hotel_model.proofs.OfTables.TableKeys.{is_at_self, same_number}
use Rattle.hotel_model.proofs.Starts.StartCodes.{orders, counted}
use Rattle.hotel_model.proofs.Starts.StartPlaces.{is_placed}
use Rattle.hotel_model.proofs.Starts.StartSplits.{SplitsAt, split_at, length_values}
use Rattle.hotel_model.proofs.Starts.StartSearch.{found_is_row, found_at_start}
use Rattle.hotel_statements.specs.Tables.{by_key}
use Rattle.hotel_statements.proofs.{Found.one_entry, Lists.stands_at, Perm.filter_alike}

-- each entry is found by its key
pub finds_itself : {V : Type 0} (es : List (ℕ × V))
    → IsAscending (λ a b. by_key nat_cmp a b ≡ Less) es → AllByRecursion (λ (e : ℕ × V). at_number es e.0 ≡ Some e.1) es
finds_itself [] up = tt
finds_itself {V} (e ∷ es) up = (
  ap (λ b. cond b (Some e.1) (at_number es e.0)) (is_at_self e.0),
  all_both _ _ (λ (x : ℕ × V). at_number (e ∷ es) x.0 ≡ Some x.1) (λ x less found.
      ap (λ b. cond b (Some e.1) (at_number es x.0)) (other x.0 less) ∙ found) es up.0 (finds_itself es up.1),
)
  where
    other : (k : ℕ) → nat_cmp e.0 k ≡ Less → is_at (nat_cmp k) e.0 ≡ false
    other k less = grind (arith, nat_tests, less)

-- each that is kept passes
pub filter_passing : {X : Type 0} (p : X → Bool) (xs : List X) → AllByRecursion (λ x. p x ≡ true) (filter p xs)
filter_passing p xs = recursion_from_All _ _ (filter_passes p xs)

module _ (rows : Rows) (sound : IsSound rows) (rises : IsAscending (λ a b. by_key nat_cmp a b ≡ Less) rows.codes) where
  abbrev Placed : Type 0
  Placed = ℕ × CodeRow

  abbrev pub Found : Placed → Type 0
  Found e = at_number rows.codes e.0 ≡ Some e.1

  pub each_found : AllByRecursion Found rows.codes
  each_found = finds_itself rows.codes rises

  module _ (room : ℕ) (row : RoomRow) (there : at_number rows.rooms room ≡ Some row) where
    as_many : length (codes_by_place rows.codes room) ≡ row.codes
    as_many = sym (length_values (codes_by_place rows.codes room)) ∙ (counted rows sound room row there).many

    -- a code of the room is one of its list, after as many others as its place says
    pub splits : (e : Placed) → Found e → e.1.room ≡ room → SplitsAt (codes_at rows room) e.0 e.1.place
    splits e found here =
        let n = counted rows sound room row there in
        split_at (codes_by_place rows.codes room) e.1.place e.0 n.up
        (is_placed rows.codes room e.0 e.1 (as_many ∙ sym n.listed) here found)

    -- and it is what is found at its place
    pub code_found : (e : Placed) → Found e → e.1.room ≡ room → code_at rows room e.1.place ≡ Some e.0
    code_found e found here =
        let at = splits e found here in
        subst (λ p. first_code_at rows.codes room p ≡ Some e.0) at.3 (found_at_start rows sound room at.0 e.0 at.1 at.2)

    stands_found : (place : ℕ) (e : Placed)
        → Found e → stands_at room place e ≡ true → code_at rows room place ≡ Some e.0
    stands_found place e found is =
        let parts = and_true (e.1.room == room) (e.1.place == place) is in
        subst (λ p. code_at rows room p ≡ Some e.0) (eq_from e.1.place place parts.1)
        (code_found e found (eq_from e.1.room room parts.0))

    found_stands : (place code : ℕ) → code_at rows room place ≡ Some code → (e : Placed)
        → Found e → is_at (nat_cmp code) e.0 ≡ true → stands_at room place e ≡ true
    found_stands place code at e found is =
        let same : code ≡ e.0 = same_number code e.0 is in
        let here : CodeRow = record { room = room; place = place } in
        let both : Some here ≡ Some e.1 = sym (found_is_row rows.codes room place code (orders rows sound).codes at)
        ∙ ap (at_number rows.codes) same ∙ found in
        let row_is : here ≡ e.1 = cc in
        subst (λ (x : CodeRow). ((x.room == room) && (x.place == place)) ≡ true) row_is
        (ap₂ (λ a b. a && b) (eq_self room) (eq_self place))

    -- a code stands at a place exactly where it is the one that is found there
    pub stands_as : (place : ℕ) (o : Option ℕ) → code_at rows room place ≡ o → (e : Placed)
        → Found e → stands_at room place e ≡ said_of o false (λ code. is_at (nat_cmp code) e.0)
    stands_as place (Some code) at e found =
        same_bool _ _ (λ is.
        let both : Some code ≡ Some e.0 = sym at ∙ stands_found place e found is in
        let same : code ≡ e.0 = cc in
        subst (λ c. is_at (nat_cmp c) e.0 ≡ true) (sym same) (is_at_self e.0)) (found_stands place code at e found)
    stands_as place None at e found =
        same_bool _ _ (λ is. absurd (let both : Some e.0 ≡ None = sym (stands_found place e found is) ∙ at in cc))
        (λ is. absurd (true≢false (sym is)))

    none_stand : (xs : List Placed) → filter (λ _. false) xs ≡ []
    none_stand [] = refl
    none_stand (x ∷ xs) = none_stand xs

    one_key : (code : ℕ) (fs : List Placed) (v : CodeRow)
        → map (λ (e : Placed). e.1) fs ≡ v ∷ [] → AllByRecursion (λ (e : Placed). is_at (nat_cmp code) e.0 ≡ true) fs
        → map (λ (e : Placed). e.0) fs ≡ code ∷ []
    one_key code [] v is all = absurd cc
    one_key code (e ∷ []) v is all = ap (λ k. k ∷ []) (sym (same_number code e.0 all.0))
    one_key code (e ∷ f ∷ fs) v is all = absurd cc

    -- the codes that stand at a place are the one that is found there
    pub standing : (place : ℕ) → map (λ (e : Placed). e.0) (filter (stands_at room place) rows.codes)
        ≡ option_to_list (code_at rows room place)
    standing place = go (code_at rows room place) refl
      where
        go : (o : Option ℕ) → code_at rows room place ≡ o
            → map (λ (e : Placed). e.0) (filter (stands_at room place) rows.codes) ≡ option_to_list o
        go None at =
            let all =
            all_both Found Found _ (λ e found _. stands_as place None at e found) rows.codes each_found each_found in
            ap (map (λ (e : Placed). e.0))
            (filter_alike (stands_at room place) (λ _. false) rows.codes all ∙ none_stand rows.codes)
        go (Some code) at =
            let key = λ (e : Placed). is_at (nat_cmp code) e.0 in
            let all = all_both Found Found (λ e. stands_at room place e ≡ key e)
            (λ e found _. stands_as place (Some code) at e found) rows.codes each_found each_found in
            let here : CodeRow = record { room = room; place = place } in
            let found : map (λ (e : Placed). e.1) (filter key rows.codes) ≡ here ∷ [] =
            one_entry nat_cmp nat_cmp_total code rows.codes rises
            ∙ ap option_to_list (found_is_row rows.codes room place code (orders rows sound).codes at) in
            ap (map (λ (e : Placed). e.0)) (filter_alike (stands_at room place) key rows.codes all)
            ∙ one_key code (filter key rows.codes) here found (filter_passing key rows.codes)
