-- Each note moved exactly the codes that it records.
use Rattle.std.proofs.Common.{ℕ, ◌≡◌, true, List, refl, ap, sym, ◌∙◌, eq-eqb, ◌==◌}
use Rattle.hotel_model.proofs.Names.{Link, before, after, without, Event, Moment, Entered, Left, Recoded, History}
use Rattle.hotel_model.proofs.Names.{start, ◌▷◌, held, awaited, Reached}
use Rattle.keycard_rules.specs.Chain.{Ledger}
use Rattle.hotel_model.specs.Moved.{EntryMoves, RecodingMoves, Moves, NotesMove}
use Rattle.hotel_model.proofs.{OfTables.Tests.eq_from, OfTables.CodeLists.first_out, OfTables.CodeLists.parted}
use Rattle.hotel_model.proofs.{OfTables.Grown.may_follow}
use Rattle.hotel_model.proofs.Invariants.LedgerOrder.{first_awaited, holds_new, link_seen, ledger_holds}

codes_same : (p q : List ℕ) (x y : ℕ) (a b : List ℕ)
    → p ≡ q → x ≡ y → a ≡ b → (let c : Ledger = record { passed = p; held = x; awaited = a } in c)
    ≡ record { passed = q; held = y; awaited = b }
codes_same p q x y a b e f g = λ i. record { passed = e i; held = f i; awaited = g i }

entry_moves : (h : History) (room fit count number : ℕ) (link : Link) (at : Moment)
    → Reached (h ▷ Entered room fit count number link at)
    → EntryMoves h (h ▷ Entered room fit count number link at) room link
entry_moves h room fit count number link at ok =
    let needs = may_follow h (Entered room fit count number link at) ok in
    let here : (room == room) ≡ true = eq-eqb room room refl in (
      λ t.
          let e = eq_from (held h room) link.old_code t in
          let p = first_awaited h room link ok.0 e (ledger_holds h ok.0 room needs.1)
          (link_seen h number link ok.0 needs.2 needs.3) in (
            p.0,
            codes_same _ _ _ _ _ _ refl e p.1,
            rw (here, t)
                (codes_same _ _ _ _ _ _ refl refl (ap (without link.new_code) p.1 ∙ first_out link.new_code p.0)),
          ),
      λ n.
          let e = eq_from (held h room) link.new_code
          (holds_new (held h room == link.new_code) (held h room == link.old_code) link.new_code n needs.4) in
          (e, rw (here, n) (codes_same _ _ _ _ _ _ refl (sym e) refl)),
    )

recoding_moves : (h : History) (room fit count from to : ℕ) (at : Moment)
    → Reached (h ▷ Recoded room fit count from to at)
    → RecodingMoves h (h ▷ Recoded room fit count from to at) room from to
recoding_moves h room fit count from to at ok =
    let needs = may_follow h (Recoded room fit count from to at) ok in
    let here : (room == room) ≡ true = eq-eqb room room refl in (
      before to (awaited h room),
      after to (awaited h room),
      codes_same _ _ _ _ _ _ refl (eq_from (held h room) from needs.2) (sym (parted to (awaited h room) needs.3)),
      rw here refl,
    )

moves : (h : History) (event : Event) → Reached (h ▷ event) → Moves event h (h ▷ event)
moves h (Entered room fit count number link at) ok =
    (entry_moves h room fit count number link at ok, λ r other. rw other refl)
moves h (Left room fit count number link at) ok = λ r. refl
moves h (Recoded room fit count from to at) ok =
    (recoding_moves h room fit count from to at ok, λ r other. rw other refl)
moves h _ ok = tt

pub notes_move : (h : History) → Reached h → NotesMove h
notes_move (start t) ok = tt
notes_move (h ▷ event) ok = (notes_move h ok.0, moves h event ok)
