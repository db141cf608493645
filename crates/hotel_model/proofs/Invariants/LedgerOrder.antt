-- The ledger of each room's codes.
use Rattle.std.proofs.Common.{ℕ, ◌≡◌, Bool, true, false, cond, Option, Some, None, List, [], ◌∷◌, ◌++◌, refl, ap, sym}
use Rattle.std.proofs.Common.{◌∙◌, subst, append_assoc, ◌==◌, ◌&&◌, ◌||◌, is_some}
use Rattle.hotel_model.proofs.Names.{Card, Link, turn, when, and_last, is_one_of, before, after, without, said_of}
use Rattle.hotel_model.proofs.Names.{at_number, Install, Issue, Refitted, Entered, Recoded, History, start, ◌▷◌, issued}
use Rattle.hotel_model.proofs.Names.{cards, held, passed, awaited, turns, rooms, same_link, is_room, is_card, has_link}
use Rattle.hotel_model.proofs.Names.{opens, Reached, LedgerHolds, TakesTheFirst}
use Rattle.hotel_model.proofs.{Facts.CodeFacts.IsLink, OfTables.Tests.eq_from, OfTables.Tests.not_both}
use Rattle.hotel_model.proofs.{OfTables.Tests.or_second}
use Rattle.hotel_model.proofs.{OfTables.TableKeys.key_inserted, OfTables.TableKeys.row_of_key}
use Rattle.hotel_model.proofs.{OfTables.CodeLists.first_out, OfTables.CodeLists.parted, OfTables.Grown.may_follow}
use Rattle.hotel_model.proofs.{Invariants.RoomCodes.others_have_none, Invariants.CodePlaces.same_place}
use Rattle.hotel_model.proofs.{Invariants.RoomLinks.cards_have_links, Starts.StartLedger.ledger_at_start}
use Rattle.hotel_model.proofs.Starts.StartRules.{link_is}

-- the ledger of one room
abbrev pub InOrder : History → ℕ → Type 0
InOrder h r = passed h r ++ held h r ∷ awaited h r ≡ issued h r

install_case : (b : Bool) (h : History) (code r : ℕ)
    → (b ≡ true → (issued h r ≡ []) × (passed h r ≡ []) × (awaited h r ≡ [])) → (b ≡ false → InOrder h r)
    → passed h r ++ when b (λ _. code) (held h r) ∷ awaited h r ≡ when b (and_last code) (issued h r)
install_case true h code r none same =
    let n = none refl in
    ap (λ zs. zs ++ code ∷ awaited h r) n.1 ∙ ap (λ zs. code ∷ zs) n.2 ∙ ap (λ zs. zs ++ code ∷ []) (sym n.0)
install_case false h code r none same = same refl

issue_case : (b : Bool) (h : History) (code r : ℕ)
    → InOrder h r → passed h r ++ held h r ∷ when b (and_last code) (awaited h r) ≡ when b (and_last code) (issued h r)
issue_case true h code r same =
    sym (append_assoc (passed h r) (held h r ∷ awaited h r) (code ∷ [])) ∙ ap (λ zs. zs ++ code ∷ []) same
issue_case false h code r same = same

pub holds_new : (a b : Bool) (new : ℕ) → b ≡ false → is_some (cond (a || b) (Some new) None) ≡ true → a ≡ true
holds_new true b new n e = refl
holds_new false true new n e = not_both true refl n
holds_new false false new n e = not_both false e refl

-- a new lock passes all codes before its own
refit_case : (b : Bool) (h : History) (room r code : ℕ) → (b ≡ true → room ≡ r) → InOrder h r
    → when b (λ codes. codes ++ held h room ∷ awaited h room) (passed h r) ++ when b (λ _.
    code) (held h r) ∷ when b (λ (codes : List ℕ). []) (awaited h r) ≡ when b (and_last code) (issued h r)
refit_case true h room r code here same =
    ap (λ z. (passed h r ++ held h z ∷ awaited h z) ++ code ∷ []) (here refl) ∙ ap (λ zs. zs ++ code ∷ []) same
refit_case false h room r code here same = same

-- where an entry turns the lock, the awaited codes begin with the link's new one
pub first_awaited : (h : History) (r : ℕ) (link : Link) → Reached h → held h r ≡ link.old_code → InOrder h r
    → IsLink h link → (later : List ℕ) × (awaited h r ≡ link.new_code ∷ later)
first_awaited h r link ok e same l =
    let f : issued h r ≡ passed h r ++ link.old_code ∷ awaited h r =
    sym same ∙ ap (λ z. passed h r ++ z ∷ awaited h r) e in
    (l.1.1, (same_place h ok r l.0 link.old_code (passed h r) (awaited h r) l.1.0 (link.new_code ∷ l.1.1) f l.1.2).2)

-- an entry that opened the lock
turned_case : (t : Bool) (h : History) (r : ℕ) (link : Link)
    → Reached h → (held h r == link.old_code) ≡ t → InOrder h r → IsLink h link → is_some (turn (held h r) link) ≡ true
    → when t (and_last link.old_code) (passed h r) ++ link.new_code ∷ when t (without link.new_code) (awaited h r)
    ≡ issued h r
turned_case true h r link ok t same l a =
    let e = eq_from (held h r) link.old_code t in
    let p = first_awaited h r link ok e same l in
    append_assoc (passed h r) (link.old_code ∷ []) (link.new_code ∷ without link.new_code (awaited h r))
    ∙ ap (λ zs. passed h r ++ link.old_code ∷ link.new_code ∷ zs) (ap (without link.new_code) p.1
    ∙ first_out link.new_code p.0)
    ∙ ap (λ zs. passed h r ++ link.old_code ∷ zs) (sym p.1) ∙ ap (λ z. passed h r ++ z ∷ awaited h r) (sym e) ∙ same
turned_case false h r link ok t same l a =
    let e = eq_from (held h r) link.new_code
    (holds_new (held h r == link.new_code) (held h r == link.old_code) link.new_code t a) in
    ap (λ z. passed h r ++ z ∷ awaited h r) (sym e) ∙ same

-- an entry at a room keeps the order of its codes
pub entered_case : (b : Bool) (h : History) (room r : ℕ) (link : Link)
    → (b ≡ true → room ≡ r) → Reached h → InOrder h r → IsLink h link → opens h room link ≡ true
    → when (b && turns h room link) (and_last link.old_code) (passed h r) ++ when b (λ _.
    link.new_code) (held h r) ∷ when (b && turns h room link) (without link.new_code) (awaited h r) ≡ issued h r
entered_case true h room r link here ok same l a =
    turned_case (turns h room link) h r link ok (ap (λ z. turns h z link) (sym (here refl))) same l
    (ap (λ z. opens h z link) (sym (here refl)) ∙ a)
entered_case false h room r link here ok same l a = same

recoded_case : (b : Bool) (h : History) (room r from to : ℕ)
    → (b ≡ true → room ≡ r) → InOrder h r → held h room ≡ from → is_one_of to (awaited h room) ≡ true
    → when b (λ codes. codes ++ from ∷ before to (awaited h r)) (passed h r) ++ when b (λ _.
    to) (held h r) ∷ when b (after to) (awaited h r) ≡ issued h r
recoded_case true h room r from to here same e a =
    let parts = parted to (awaited h r) (ap (λ z. is_one_of to (awaited h z)) (sym (here refl)) ∙ a) in
    append_assoc (passed h r) (from ∷ before to (awaited h r)) (to ∷ after to (awaited h r))
    ∙ ap (λ zs. passed h r ++ from ∷ zs) parts
    ∙ ap (λ z. passed h r ++ z ∷ awaited h r) (sym e ∙ ap (held h) (here refl)) ∙ same
recoded_case false h room r from to here same e a = same

has_by : (o : Option Card) (card : Card) (link : Link)
    → o ≡ Some card → said_of o false (λ k. same_link k.link link) ≡ true → same_link card.link link ≡ true
has_by o card link e t = ap (λ x. said_of x false (λ k. same_link k.link link)) (sym e) ∙ t

-- the card that a lock reports
pub card_seen : (h : History) (number : ℕ) (link : Link) → is_card h number ≡ true → has_link h number link ≡ true
    → (card : Card) × (at_number (cards h) number ≡ Some card) × (card.link ≡ link)
card_seen h number link there has =
    let row = row_of_key (cards h) number there in
    (row.0, row.1, link_is row.0.link link (has_by (at_number (cards h) number) row.0 link row.1 has))

-- its link is one
pub link_seen : (h : History) (number : ℕ) (link : Link)
    → Reached h → is_card h number ≡ true → has_link h number link ≡ true → IsLink h link
link_seen h number link ok there has =
    let c = card_seen h number link there has in subst (IsLink h) c.2 (cards_have_links h ok number c.0 c.1)

-- At each room the passed codes, the held one and the awaited ones are the issued ones, in order.
pub ledger_holds : (h : History) → Reached h → LedgerHolds h
ledger_holds (start t) ok r f = ledger_at_start t ok r f
ledger_holds (h ▷ Install room kind code) ok r f =
    install_case (room == r) h code r
    (λ t. others_have_none h ok.0 r
    (ap (is_room h) (sym (eq_from room r t)) ∙ (may_follow h (Install room kind code) ok).1))
    (λ n. ledger_holds h ok.0 r (or_second (room == r) (is_room h r) n (sym (key_inserted (rooms h) room kind r) ∙ f)))
ledger_holds (h ▷ Issue party room number code) ok r f = issue_case (room == r) h code r (ledger_holds h ok.0 r f)
ledger_holds (h ▷ Refitted room fit code) ok r f =
    refit_case (room == r) h room r code (eq_from room r) (ledger_holds h ok.0 r f)
ledger_holds (h ▷ Entered room fit count number link at) ok r f =
    let needs = may_follow h (Entered room fit count number link at) ok in
    entered_case (room == r) h room r link (eq_from room r) ok.0 (ledger_holds h ok.0 r f)
    (link_seen h number link ok.0 needs.2 needs.3) needs.4
ledger_holds (h ▷ Recoded room fit count from to at) ok r f =
    let needs = may_follow h (Recoded room fit count from to at) ok in
    recoded_case (room == r) h room r from to (eq_from room r) (ledger_holds h ok.0 r f)
    (eq_from (held h room) from needs.2) needs.3
ledger_holds (h ▷ _) ok r f = ledger_holds h ok.0 r f

-- A code that an entry took out of the awaited ones was their first.
pub takes_the_first : (h : History) → Reached h → TakesTheFirst h
takes_the_first (start t) ok = tt
takes_the_first (h ▷ Entered room fit count number link at) ok =
    let needs = may_follow h (Entered room fit count number link at) ok in (
      takes_the_first h ok.0,
      λ t. first_awaited h room link ok.0 (eq_from (held h room) link.old_code t) (ledger_holds h ok.0 room needs.1)
          (link_seen h number link ok.0 needs.2 needs.3),
    )
takes_the_first (h ▷ _) ok = takes_the_first h ok.0
