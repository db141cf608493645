-- What the DELETE of all cards inside a room makes of the rows of a desk.
use Rattle.std.proofs.Common.{◌≡◌, refl, ap, ◌∙◌, [], ◌∷◌, ℕ, Ok, eqb}
use Rattle.sqlite.specs.Order.{Row, column}
use Rattle.sqlite.specs.State.{State, ExecutesInside}
use Rattle.hotel_model.specs.Guests.{those_elsewhere}
use Rattle.hotel_statements.specs.Values.{int}
use Rattle.hotel_statements.specs.Texts.{delete_insides}
use Rattle.hotel_books.specs.Refinement.Finds.{AnyRows}
use Rattle.hotel_statements.specs.Steps.{IsMidWith, MovesRows, insides_gone}
use Rattle.hotel_statements.proofs.Answers.{passes}
use Rattle.hotel_statements.proofs.Keyed.{column_equals}
use Rattle.hotel_statements.proofs.Keys.{and_true}
use Rattle.hotel_statements.proofs.Statements.Changes as changes
use Rattle.hotel_statements.proofs.Statements.Terms.{column_is}
use Rattle.hotel_statements.proofs.Made.Gone.{Good, read, gone}

tested : (room : ℕ) (r : Row) → Good r → passes (column_is 1 0 ∷ []) (int room ∷ []) r ≡ eqb (read r).0 room
tested room r good = and_true _ ∙ column_equals (column r 1) _ room (ap (λ v. column v 0) good)

pub emptied_step : (old new : State) (room count : ℕ)
    → ExecutesInside 0 delete_insides (int room ∷ []) old new (Ok count) → IsMidWith AnyRows old
    → MovesRows old new (insides_gone room)
emptied_step old new room count = gone (column_is 1 0 ∷ []) (int room ∷ []) (λ e. eqb e.0 room) (those_elsewhere room)
    old new count changes.delete_insides (λ _ does. does) (tested room) (λ es apart. refl)
