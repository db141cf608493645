-- What the DELETE of a card that leaves a room makes of the rows of a desk.
use Rattle.std.proofs.Common.{◌≡◌, ◌&&◌, not, inl, inr, refl, sym, ap, ap₂, subst, ◌∙◌, List, [], ◌∷◌, ℕ, false}
use Rattle.std.proofs.Common.{Bool, Ok, filter, is_eq}
use Rattle.std.specs.List.{AllByRecursion}
use Rattle.std.specs.BTreeMap.{is_at}
use Rattle.std.specs.Set.{remove_key}
use Rattle.std.proofs.lemmas.Bool.{cases_Bool}
use Rattle.sqlite.specs.Order.{Row, column}
use Rattle.sqlite.specs.State.{State, ExecutesInside}
use Rattle.hotel_model.specs.Words.{pair_cmp}
use Rattle.hotel_model.proofs.OfTables.Pairs.{pair_is, same_pair}
use Rattle.hotel_statements.specs.Values.{int}
use Rattle.hotel_statements.specs.Texts.{delete_inside}
use Rattle.hotel_statements.specs.Tables.{AreApart}
use Rattle.hotel_books.specs.Refinement.Finds.{AnyRows}
use Rattle.hotel_statements.specs.Steps.{IsMidWith, MovesRows, inside_gone}
use Rattle.hotel_statements.proofs.Answers.{passes}
use Rattle.hotel_statements.proofs.Keyed.{column_equals}
use Rattle.hotel_statements.proofs.Keys.{and_true}
use Rattle.hotel_statements.proofs.Perm.{all_left}
use Rattle.hotel_statements.proofs.Statements.Changes as changes
use Rattle.hotel_statements.proofs.Statements.Terms.{by_pair}
use Rattle.hotel_statements.proofs.Made.Gone.{Good, read, gone}

abbrev pub test : ℕ → ℕ → Row → Bool
test room card r = passes (by_pair 1 2) (int room ∷ int card ∷ []) r

pub tested : (room card : ℕ) (r : Row) → Good r → test room card r ≡ is_eq (pair_cmp (room, card) (read r))
tested room card r good =
    let of_room = column_equals (column r 1) (read r).0 room (ap (λ v. column v 0) good) in
    let of_card = column_equals (column r 2) (read r).1 card (ap (λ v. column v 1) good) in
    ap₂ (λ x y. x && y) of_room (and_true _ ∙ of_card) ∙ sym (pair_is room card (read r))

-- the first equal pair is the only one
removed : (k : ℕ × ℕ) (es : List (ℕ × ℕ))
    → AreApart pair_cmp es → filter (λ e. not (is_eq (pair_cmp k e))) es ≡ remove_key (is_at (pair_cmp k)) es
removed k [] apart = refl
removed k (e ∷ es) apart = elim (cases_Bool (is_eq (pair_cmp k e))) [
  | inl is ↦
      let others = subst (λ (a : ℕ × ℕ). AllByRecursion (λ x. is_eq (pair_cmp a x) ≡ false) es)
      (sym (same_pair k e is)) apart.0 in
      rw is (all_left (λ x. is_eq (pair_cmp k x)) es others)
  | inr other ↦ rw other (ap (λ rest. e ∷ rest) (removed k es apart.1))
]

pub gone_step : (old new : State) (room card count : ℕ)
    → ExecutesInside 0 delete_inside (int room ∷ int card ∷ []) old new (Ok count) → IsMidWith AnyRows old
    → MovesRows old new (inside_gone room card)
gone_step old new room card count = gone (by_pair 1 2) (int room ∷ int card ∷ [])
    (λ e. is_eq (pair_cmp (room, card) e)) (remove_key (is_at (pair_cmp (room, card)))) old new count
    changes.delete_inside (λ _ does. does) (tested room card) (removed (room, card))
