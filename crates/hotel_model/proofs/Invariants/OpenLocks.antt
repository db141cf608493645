-- Which cards open a lock.
use Rattle.std.proofs.Common.{ℕ, ◌≡◌, ◌≤◌, Bool, true, false, cond, Some, None, List, [], ◌∷◌, ◌++◌, length, ◌⊎◌, inl}
use Rattle.std.proofs.Common.{inr, refl, ap, sym, ◌∙◌, subst, append_assoc, arith, length-append, ◌==◌, ◌||◌, is_some}
use Rattle.std.proofs.Common.{Contains}
use Rattle.hotel_model.proofs.Names.{Contains-append_right, Link, turn, History, issued, newest_link, held, passed}
use Rattle.hotel_model.proofs.Names.{awaited, is_room, Reached, OpensOwnRoom, NewestOpens}
use Rattle.hotel_model.proofs.{Facts.CodeFacts.IsLink, Facts.CodeFacts.IsLinkOf, OfTables.Tests.eq_from}
use Rattle.hotel_model.proofs.{OfTables.Tests.eq_self, OfTables.Tests.not_both, OfTables.Tests.either_way}
use Rattle.hotel_model.proofs.{OfTables.CodeLists.cut_alike, Invariants.RoomCodes.others_have_none}
use Rattle.hotel_model.proofs.{Invariants.CodePlaces.same_place}
use Rattle.hotel_model.proofs.{Invariants.RoomLinks.cards_have_links, Invariants.RoomLinks.newest_are_last}
use Rattle.hotel_model.proofs.{Invariants.LedgerOrder.ledger_holds}

one_holds : (a b : Bool) (new : ℕ) → is_some (cond (a || b) (Some new) None) ≡ true → (a ≡ true) ⊎ (b ≡ true)
one_holds true b new e = inl refl
one_holds false true new e = inr refl
one_holds false false new e = not_both false e refl

-- a lock opens where it holds one of the link's codes
pub opened_by : (code : ℕ) (link : Link)
    → is_some (turn code link) ≡ true → (code ≡ link.new_code) ⊎ (code ≡ link.old_code)
opened_by code link e =
    elim (one_holds (code == link.new_code) (code == link.old_code) link.new_code e) [
      | inl t ↦ inl (eq_from code link.new_code t)
      | inr t ↦ inr (eq_from code link.old_code t)
    ]

opens_new : (code : ℕ) (link : Link) → code ≡ link.new_code → is_some (turn code link) ≡ true
opens_new code link e = ap (λ b. is_some (cond (b || (code == link.old_code)) (Some link.new_code) None))
    (ap (λ z. z == link.new_code) e ∙ eq_self link.new_code)

or_last : (a b : Bool) (new : ℕ) → b ≡ true → is_some (cond (a || b) (Some new) None) ≡ true
or_last true b new t = refl
or_last false true new t = refl
or_last false false new t = not_both false t refl

opens_old : (code : ℕ) (link : Link) → code ≡ link.old_code → is_some (turn code link) ≡ true
opens_old code link e = or_last (code == link.new_code) (code == link.old_code) link.new_code
    (ap (λ z. z == link.old_code) e ∙ eq_self link.old_code)

-- The link of a card that opens a room's lock is two neighbours of this room's codes.
pub link_of_room : (h : History) → Reached h → (r : ℕ) (link : Link)
    → is_room h r ≡ true → IsLink h link → is_some (turn (held h r) link) ≡ true → IsLinkOf (issued h r) link
link_of_room h ok r link there l opens =
    let same = ledger_holds h ok r there in
    elim (opened_by (held h r) link opens) [
      | inl q ↦
          let e : issued h r ≡ passed h r ++ link.new_code ∷ awaited h r =
          sym same ∙ ap (λ z. passed h r ++ z ∷ awaited h r) q in
          let f = l.1.2 ∙ sym (append_assoc l.1.0 (link.old_code ∷ []) (link.new_code ∷ l.1.1)) in
          let p =
          same_place h ok r l.0 link.new_code (passed h r) (awaited h r) (l.1.0 ++ link.old_code ∷ []) l.1.1 e f in
          subst (λ z. IsLinkOf (issued h z) link) (sym p.0) l.1
      | inr q ↦
          let e : issued h r ≡ passed h r ++ link.old_code ∷ awaited h r =
          sym same ∙ ap (λ z. passed h r ++ z ∷ awaited h r) q in
          let p =
          same_place h ok r l.0 link.old_code (passed h r) (awaited h r) l.1.0 (link.new_code ∷ l.1.1) e l.1.2 in
          subst (λ z. IsLinkOf (issued h z) link) (sym p.0) l.1
    ]

is_in : (prefix : List ℕ) (c : ℕ) (back : List ℕ) → Contains (prefix ++ c ∷ back) c
is_in prefix c back = Contains-append_right prefix (c ∷ back) c (0, omega arith, refl)

pub opens_own_room : (h : History) → Reached h → OpensOwnRoom h
opens_own_room h ok r number card there has opens =
    let l = link_of_room h ok r card.link there (cards_have_links h ok number card has) opens in (
      subst (λ zs. Contains zs card.link.old_code) (sym l.2) (is_in l.0 card.link.old_code (card.link.new_code ∷ l.1)),
      subst (λ zs. Contains zs card.link.new_code)
          (append_assoc l.0 (card.link.old_code ∷ []) (card.link.new_code ∷ l.1) ∙ sym l.2)
          (is_in (l.0 ++ card.link.old_code ∷ []) card.link.new_code l.1),
    )

-- a room with codes is there
pub there_by_codes : (h : History) → Reached h → (r : ℕ) → (issued h r ≡ [] → ⊥) → is_room h r ≡ true
there_by_codes h ok r some =
    elim (either_way (is_room h r)) [
      | inl t ↦ t
      | inr f ↦ absurd (some (others_have_none h ok r f).0)
    ]

-- a list with a code isn't empty
pub not_empty : (prefix : List ℕ) (a : ℕ) (back : List ℕ) → prefix ++ a ∷ back ≡ [] → ⊥
not_empty [] a back e = cc
not_empty (x ∷ xs) a back e = cc

-- a room with a newest link is there
pub there_by_link : (h : History) → Reached h → (r : ℕ) (link : Link) → newest_link h r ≡ Some link → is_room h r ≡ true
there_by_link h ok r link e =
    let l = newest_are_last h ok r link e in
    there_by_codes h ok r (λ n. not_empty l.0 link.old_code (link.new_code ∷ []) (sym l.1 ∙ n))

-- the last or the last but one of some codes opens to a link of the last two
opens_if : (later ps prefix : List ℕ) (code : ℕ) (link : Link)
    → ps ++ code ∷ later ≡ prefix ++ link.old_code ∷ link.new_code ∷ [] → length later ≤ 1
    → is_some (turn code link) ≡ true
opens_if [] ps prefix code link e short =
    let f : ps ++ code ∷ [] ≡ (prefix ++ link.old_code ∷ []) ++ link.new_code ∷ [] =
    e ∙ sym (append_assoc prefix (link.old_code ∷ []) (link.new_code ∷ [])) in
    let n = ap (λ (zs : List ℕ). length zs) f in
    let m : length ps ≡ length (prefix ++ link.old_code ∷ []) =
    omega (arith, n, length-append ps (code ∷ []), length-append (prefix ++ link.old_code ∷ []) (link.new_code ∷ [])) in
    let p = (cut_alike ps (prefix ++ link.old_code ∷ []) (code ∷ []) (link.new_code ∷ []) m f).1 in
    opens_new code link cc
opens_if (x ∷ []) ps prefix code link e short =
    let n = ap (λ (zs : List ℕ). length zs) e in
    let m : length ps ≡ length prefix =
    omega (arith, n, length-append ps (code ∷ x ∷ []), length-append prefix (link.old_code ∷ link.new_code ∷ [])) in
    let p = (cut_alike ps prefix (code ∷ x ∷ []) (link.old_code ∷ link.new_code ∷ []) m e).1 in
    opens_old code link cc
opens_if (x ∷ y ∷ later) ps prefix code link e short = absurd (omega arith)

pub newest_opens : (h : History) → Reached h → NewestOpens h
newest_opens h ok r link e =
    let l = newest_are_last h ok r link e in
    let same = ledger_holds h ok r (there_by_link h ok r link e) in (
      λ opens. elim (opened_by (held h r) link opens) [
        | inl q ↦
            let f : issued h r ≡ passed h r ++ link.new_code ∷ awaited h r =
            sym same ∙ ap (λ z. passed h r ++ z ∷ awaited h r) q in
            let g = l.1 ∙ sym (append_assoc l.0 (link.old_code ∷ []) (link.new_code ∷ [])) in
            let p = ap (λ (zs : List ℕ). length zs)
            (same_place h ok r r link.new_code (passed h r) (awaited h r) (l.0 ++ link.old_code ∷ []) [] f g).2 in
            omega arith
        | inr q ↦
            let f : issued h r ≡ passed h r ++ link.old_code ∷ awaited h r =
            sym same ∙ ap (λ z. passed h r ++ z ∷ awaited h r) q in
            let p = ap (λ (zs : List ℕ). length zs)
            (same_place h ok r r link.old_code (passed h r) (awaited h r) l.0 (link.new_code ∷ []) f l.1).2 in
            omega arith
      ],
      λ short. opens_if (awaited h r) (passed h r) l.0 (held h r) link (same ∙ l.1) short,
    )
