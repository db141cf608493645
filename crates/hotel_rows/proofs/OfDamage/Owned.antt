-- Cards of one link have one party exactly where each has that of the first of them.
use Rattle.std.proofs.Common.{◌≡◌, ℕ, Bool, true, false, cond, ◌==◌, ◌&&◌, List, [], ◌∷◌, Option, Some, None, refl, sym}
use Rattle.std.proofs.Common.{ap, ap₂, subst, ◌∙◌}
use Rattle.std.specs.Prelude.{is_some, not, ◌||◌}
use Rattle.std.specs.List.{list_all}
use Rattle.std.specs.BTreeMap.{is_at}
use Rattle.std.specs.Map.{lookup}
use Rattle.keycard_rules.specs.declared.card.Link.{Link}
use Rattle.hotel_model.specs.Words.{is_that, pair_cmp, said_of}
use Rattle.hotel_model.specs.Cards.{same_link}
use Rattle.hotel_books.proofs.OfTables.MapEntries.{eq_from, eq_self, eq_turned, pair_is, same_bool}
use Rattle.hotel_model.proofs.OfTables.RowTests.{all_weaker}
use Rattle.hotel_model.proofs.OfTables.Tests.{and_true}
use Rattle.hotel_model.proofs.SoundRows.SoundLinks.{same_self}
use Rattle.hotel_rows.specs.declared.stored.PlainCard.{PlainCard}
use Rattle.hotel_rows.specs.declared.stored.Stored.{Stored}
use Rattle.hotel_rows.specs.Stored.{number_of, link_row}
use Rattle.hotel_rows.specs.LastCards.{link_pair}
use Rattle.hotel_rows.specs.LinkOwners.{owner_in, OwnersOf, is_own}
use Rattle.hotel_rows.specs.RowTests.{agree, agrees}
use Rattle.hotel_rows.proofs.OfDamage.RowsTogether.{all_and}

-- a card more, before the others
pub owners_more : (before after : List ((ℕ × ℕ) × ℕ)) (plain : PlainCard) (plain_rows : List PlainCard)
    → OwnersOf before plain_rows
    → ((q : ℕ × ℕ) → lookup (is_at (pair_cmp q)) after
    ≡ cond (is_at (pair_cmp (link_pair plain)) q) (Some (number_of plain.party)) (lookup (is_at (pair_cmp q)) before))
    → OwnersOf after (plain ∷ plain_rows)
owners_more before after plain plain_rows is put old new =
    put (old, new)
    ∙ ap (λ b. cond b (Some (number_of plain.party)) (lookup (is_at (pair_cmp (old, new))) before))
    (pair_is (number_of plain.old_code) (number_of plain.new_code) (old, new)
    ∙ ap₂ (λ a b. a && b) (eq_turned old (number_of plain.old_code)) (eq_turned new (number_of plain.new_code)))
    ∙ ap (λ o. cond (same_link (link_row plain) (record { old_code = old; new_code = new }))
    (Some (number_of plain.party)) o) (is old new)

links_equal : (a b : Link) → same_link a b ≡ true → a ≡ b
links_equal a b h =
    let p = and_true (a.old_code == b.old_code) (a.new_code == b.new_code) h in
    ap₂ (λ x y. record { old_code = x; new_code = y }) (eq_from a.old_code b.old_code p.0)
    (eq_from a.new_code b.new_code p.1)

one_that : (o : Option ℕ) (m n : ℕ) → is_that o m ≡ true → is_that o n ≡ true → (m == n) ≡ true
one_that (Some x) m n g h = ap (λ z. m == z) (sym (eq_from x n h) ∙ eq_from x m g) ∙ eq_self m
one_that None m n g h = absurd (let w : ◌≡◌ {A = Bool} false true = g in cc)

agree_by : (b : Bool) (plain_rows : List PlainCard) (c o : PlainCard)
    → same_link (link_row c) (link_row o) ≡ b → is_own plain_rows c ≡ true → is_own plain_rows o ≡ true
    → (not b || (number_of c.party == number_of o.party)) ≡ true
agree_by false plain_rows c o e g h = refl
agree_by true plain_rows c o e g h =
    one_that (owner_in plain_rows (link_row c)) (number_of c.party) (number_of o.party) g
    (subst (λ link. is_that (owner_in plain_rows link) (number_of o.party) ≡ true)
    (sym (links_equal (link_row c) (link_row o) e)) h)

own_agree : (plain_rows : List PlainCard)
    → list_all (is_own plain_rows) plain_rows ≡ true → list_all (λ c. list_all (agree c) plain_rows) plain_rows ≡ true
own_agree plain_rows all =
    all_weaker (is_own plain_rows) (λ c. list_all (agree c) plain_rows)
    (λ c own. all_weaker (is_own plain_rows) (agree c) (λ o other. agree_by
    (same_link (link_row c) (link_row o)) plain_rows c o refl own other) plain_rows all) plain_rows all

known_by : (b : Bool) (p : ℕ) (o : Option ℕ) → is_some o ≡ true → is_some (cond b (Some p) o) ≡ true
known_by true p o h = refl
known_by false p o h = h

known : (plain_rows : List PlainCard) → list_all (λ c. is_some (owner_in plain_rows (link_row c))) plain_rows ≡ true
known [] = refl
known (l ∷ ls) =
    let head : is_some (owner_in (l ∷ ls) (link_row l)) ≡ true =
    ap (λ b. is_some (cond b (Some (number_of l.party)) (owner_in ls (link_row l)))) (same_self (link_row l)) in
    let rest = all_weaker (λ c. is_some (owner_in ls (link_row c))) (λ c. is_some (owner_in (l ∷ ls) (link_row c)))
    (λ c h. known_by (same_link (link_row l) (link_row c)) (number_of l.party) (owner_in ls (link_row c)) h) ls
    (known ls) in
    ap (λ b. b && list_all (λ c. is_some (owner_in (l ∷ ls) (link_row c))) ls) head ∙ rest

turned_link : (a b : Link) → same_link a b ≡ same_link b a
turned_link a b = ap₂ (λ x y. x && y) (eq_turned a.old_code b.old_code) (eq_turned a.new_code b.new_code)

found_by : (b : Bool) (c l : PlainCard) (ls : List PlainCard) → same_link (link_row l) (link_row c) ≡ b
    → agree c l ≡ true → (is_some (owner_in ls (link_row c)) ≡ true → is_own ls c ≡ true)
    → is_some (cond b (Some (number_of l.party)) (owner_in ls (link_row c))) ≡ true
    → is_that (cond b (Some (number_of l.party)) (owner_in ls (link_row c))) (number_of c.party) ≡ true
found_by true c l ls e ok ih h =
    eq_turned (number_of l.party) (number_of c.party)
    ∙ subst (λ b. (not b || (number_of c.party == number_of l.party)) ≡ true)
    (turned_link (link_row c) (link_row l) ∙ e) ok
found_by false c l ls e ok ih h = ih h

found_own : (c : PlainCard) (ls : List PlainCard)
    → list_all (agree c) ls ≡ true → is_some (owner_in ls (link_row c)) ≡ true → is_own ls c ≡ true
found_own c [] all h = absurd (let w : ◌≡◌ {A = Bool} false true = h in cc)
found_own c (l ∷ ls) all h =
    let p = and_true (agree c l) (list_all (agree c) ls) all in
    found_by (same_link (link_row l) (link_row c)) c l ls refl p.0 (found_own c ls p.1) h

agree_own : (plain_rows : List PlainCard) → list_all (λ c. list_all (agree c) plain_rows) plain_rows ≡ true
    → list_all (is_own plain_rows) plain_rows ≡ true
agree_own plain_rows all =
    let both_all = sym (all_and (λ c. list_all (agree c) plain_rows) (λ c. is_some (owner_in plain_rows (link_row c)))
    plain_rows (list_all (λ c. is_some (owner_in plain_rows (link_row c))) plain_rows) refl)
    ∙ ap (λ b. b && list_all (λ c. is_some (owner_in plain_rows (link_row c))) plain_rows) all ∙ known plain_rows in
    all_weaker (λ c. list_all (agree c) plain_rows && is_some (owner_in plain_rows (link_row c))) (is_own plain_rows)
    (λ c h. let p = and_true (list_all (agree c) plain_rows) (is_some (owner_in plain_rows (link_row c))) h in
    found_own c plain_rows p.0 p.1) plain_rows both_all

pub own_and_agree : (s : Stored) → list_all (is_own s.card.items) s.card.items ≡ list_all (agrees s) s.card.items
own_and_agree s = same_bool _ _ (own_agree s.card.items) (agree_own s.card.items)

-- ---- the cards of a newest link

-- all cards of a link are of a party
abbrev are_of : Link → ℕ → PlainCard → Bool
are_of newest p c = not (same_link newest (link_row c)) || (number_of c.party == p)

own_in : (plain_rows cs : List PlainCard) (newest : Link) (q : ℕ) → list_all (is_own plain_rows) cs ≡ true
    → owner_in cs newest ≡ Some q → is_that (owner_in plain_rows newest) q ≡ true
own_in plain_rows [] newest q all e = absurd (let w : ◌≡◌ {A = Option ℕ} None (Some q) = e in cc)
own_in plain_rows (c ∷ cs) newest q all e =
    let p = and_true (is_own plain_rows c) (list_all (is_own plain_rows) cs) all in
    own_by (same_link (link_row c) newest) refl e p.0 (own_in plain_rows cs newest q p.1)
  where
    own_by : (b : Bool) → same_link (link_row c) newest ≡ b
        → cond b (Some (number_of c.party)) (owner_in cs newest) ≡ Some q → is_own plain_rows c ≡ true
        → (owner_in cs newest ≡ Some q → is_that (owner_in plain_rows newest) q ≡ true)
        → is_that (owner_in plain_rows newest) q ≡ true
    own_by true g f own ih =
        let is : number_of c.party ≡ q = let w : ◌≡◌ {A = Option ℕ} (Some (number_of c.party)) (Some q) = f in cc in
        subst (λ n. is_that (owner_in plain_rows newest) n ≡ true) is (subst
        (λ link. is_that (owner_in plain_rows link) (number_of c.party) ≡ true) (links_equal (link_row c) newest g) own)
    own_by false g f own ih = ih f

rest_by : (o : Option ℕ) (m p : ℕ) (b : Bool)
    → ((q : ℕ) → o ≡ Some q → (q == m) ≡ true) → (m == p) ≡ b → (b && said_of o true (λ q. q == p)) ≡ b
rest_by (Some q) m p true f e = ap (λ n. n == p) (eq_from q m (f q refl)) ∙ e
rest_by None m p true f e = refl
rest_by o m p false f e = refl

owned_in : (plain_rows cs : List PlainCard) (newest : Link) (p : ℕ) → list_all (is_own plain_rows) cs ≡ true
    → list_all (are_of newest p) cs ≡ said_of (owner_in cs newest) true (λ q. q == p)
owned_in plain_rows [] newest p all = refl
owned_in plain_rows (c ∷ cs) newest p all =
    let h = and_true (is_own plain_rows c) (list_all (is_own plain_rows) cs) all in
    ap (λ b. (not b || (number_of c.party == p)) && list_all (are_of newest p) cs) (turned_link newest (link_row c))
    ∙ owned_by (same_link (link_row c) newest) refl h.0 (owned_in plain_rows cs newest p h.1)
    (λ q e. own_in plain_rows cs newest q h.1 e)
  where
    owned_by : (b : Bool) → same_link (link_row c) newest ≡ b → is_own plain_rows c ≡ true
        → list_all (are_of newest p) cs ≡ said_of (owner_in cs newest) true (λ q. q == p)
        → ((q : ℕ) → owner_in cs newest ≡ Some q → is_that (owner_in plain_rows newest) q ≡ true)
        → ((not b || (number_of c.party == p)) && list_all (are_of newest p) cs)
        ≡ said_of (cond b (Some (number_of c.party)) (owner_in cs newest)) true (λ q. q == p)
    owned_by true g own ih known_own =
        ap (λ z. (number_of c.party == p) && z) ih
        ∙ rest_by (owner_in cs newest) (number_of c.party) p (number_of c.party == p)
        (λ q e. one_that (owner_in plain_rows newest) q (number_of c.party) (known_own q e) (subst (λ link.
        is_that (owner_in plain_rows link) (number_of c.party) ≡ true) (links_equal (link_row c) newest g) own)) refl
    owned_by false g own ih known_own = ih

all_free : (cs : List PlainCard) → list_all (λ (c : PlainCard). true) cs ≡ true
all_free [] = refl
all_free (c ∷ cs) = all_free cs

-- the cards of the newest of links are of a party exactly where its first card is
pub owned_newest : (plain_rows : List PlainCard) (last : Option Link) (p : ℕ)
    → list_all (is_own plain_rows) plain_rows ≡ true
    → list_all (λ c. not (said_of last false (λ newest. same_link newest (link_row c)))
    || (number_of c.party == p)) plain_rows
    ≡ said_of last true (λ newest. said_of (owner_in plain_rows newest) true (λ q. q == p))
owned_newest plain_rows (Some newest) p all = owned_in plain_rows plain_rows newest p all
owned_newest plain_rows None p all = all_free plain_rows

pub agreeing_own : (s : Stored) → list_all (agrees s) s.card.items ≡ true
    → list_all (is_own s.card.items) s.card.items ≡ true
agreeing_own s h = own_and_agree s ∙ h
