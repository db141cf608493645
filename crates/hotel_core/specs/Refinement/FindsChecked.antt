-- What a part of a step checks in the books: the checks pass, or one of them refuses.
use Rattle.std.specs.Prelude.{◌≡◌, false, List, Option, Some, None, Result, Ok, Err}
use Rattle.keycard_rules.specs.{declared.kept.Kept.Ghosts as KeptOf, Leaves.Leaves}
use Rattle.hotel_model.specs.{declared.reply.Refusal.Refusal, Rows.Rows, Run.is_failed}
use Rattle.hotel_model.specs.declared.reply.Reply.TheVariants as reply
use Rattle.hotel_books.specs.Refinement.Finds.{failure_at, first_refusal}
use Rattle.hotel_books.specs.declared.books.Books.{Ghosts as BooksOf}

-- the checks pass, or this is their first refusal, unless memory or the store failed
abbrev pub FoundChecked : List (Option Refusal) → Result (Unit {0}) Refusal → Type 0
FoundChecked checks (Ok done) = first_refusal checks ≡ None
FoundChecked checks (Err why) = is_failed (reply.Refused why) ≡ false → first_refusal checks ≡ Some why

-- Checks of the books from the state old to new, which change no row and leave what a call does; a stop leaves nothing
-- new.
pub record FindsChecked {S : Type 0} (K : KeptOf S) (B : BooksOf S) (checks : Rows → List (Option Refusal))
    (old new : S) (result : Result (Unit {0}) Refusal) : Type 0 where
  pub answer : K.is_clean new → FoundChecked (checks (B.rows old)) result
  pub same : K.is_clean new → B.rows new ≡ B.rows old
  pub leaves : Leaves K old (failure_at result) new
  pub stop : K.leaves_no_more old new
