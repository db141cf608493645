use Rattle.std.proofs.Common.{◌≡◌, ◌==◌, ◌∷◌, ◌+◌, ℕ, Bool, true, false, List, drop, filter, ap, inl, inr, rules, subst}
use Rattle.std.proofs.Common.{sym, ◌∙◌}
use Rattle.std.proofs.lemmas.Bool.{cases_Bool}
use Rattle.std.proofs.lemmas.List.{drop_more}
use Rattle.hotel_books.proofs.Names.{false≢true}
use Rattle.hotel_books.proofs.OfCode.Walking.{SoFar, as_rest, failing, one_more, passing}
use Rattle.hotel_memory.proofs.card_table.walk_given.Goals.{then-eq+in_ok-take, else-eq}
use Rattle.hotel_memory.proofs.card_table.walk_given.Goals as goal

-- the sink takes the next row if it passes the test
next : {S R : Type 0} (after : S → R → S → Type 0) (p : R → Bool) (rows : List R) (i : ℕ) (row : R) (a b c : S)
    → drop i rows ≡ row ∷ drop (i + 1) rows → SoFar after (filter p rows) (filter p (drop i rows)) a b
    → (p row ≡ true → after b row c) × (p row ≡ false → c ≡ b)
    → SoFar after (filter p rows) (filter p (drop (i + 1) rows)) a c
next after p rows i row a b c more so_far what =
    let rest = filter p (drop (i + 1) rows) in
    elim (cases_Bool (p row)) [
      | inl t ↦ one_more after (filter p rows) row rest a b c
          (as_rest after (filter p rows) (filter p (drop i rows)) (row ∷ rest) a b
          (ap (filter p) more ∙ passing p row (drop (i + 1) rows) t) so_far) (what.0 t)
      | inr f ↦ subst (λ z. SoFar after (filter p rows) rest a z) (sym (what.1 f))
          (as_rest after (filter p rows) (filter p (drop i rows)) rest a b
          (ap (filter p) more ∙ failing p row (drop (i + 1) rows) f) so_far)
    ]

pub loop-card-preserved : goal.loop-card-preserved
loop-card-preserved g c =
    let cards = c.args.cards.now in
    let i = c.loop-card.card-index in
    let card = c.card-item.result in
    let what : ((card.party == c.args.party) ≡ true → g.S.Sink.after c.loop-card.sink card c.if-eq.sink)
    × ((card.party == c.args.party) ≡ false → c.if-eq.sink ≡ c.loop-card.sink) =
    elim c.if-eq.branch [
      | then-eq+in_ok-take w ↦
          let is : (card.party == c.args.party) ≡ true = search rules in (
            λ t. subst (λ z. g.S.Sink.after c.loop-card.sink card z) (sym w.sink-is) w.in_ok-take.ensures.taken,
            λ f. absurd (false≢true (sym f ∙ is)),
          )
      | else-eq w ↦
          let other : (card.party == c.args.party) ≡ false = search rules in (
            λ t. absurd (false≢true (sym other ∙ t)),
            λ f. w.sink-is,
          )
    ] in
    next g.S.Sink.after (λ k. k.party == c.args.party) cards i card _ c.loop-card.sink c.if-eq.sink
    (drop_more cards i card c.loop-card-test.true ∙ ap (λ k. k ∷ drop (i + 1) cards) (sym c.card-item.is))
    c.loop-card.invariant what
