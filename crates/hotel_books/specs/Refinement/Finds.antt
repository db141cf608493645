-- What a part of a step finds in the books: what stands there, or a refusal where nothing does.
use Rattle.std.specs.Prelude.{ℕ, ◌≡◌, Bool, true, false, List, [], ◌∷◌, Option, Some, None, Result, Ok, Err}
use Rattle.rand_core.specs.Stream.{Stream}
use Rattle.keycard_rules.specs.declared.draw.TheConstants.{MOST_WORDS}
use Rattle.keycard_rules.specs.{Draw.Draw, Draw.words, Draw.past, Draw.draw_from, Draw.MovedAtMost}
use Rattle.keycard_rules.specs.{Rise.Counts, Rise.one_of}
use Rattle.keycard_rules.specs.{Since.Since, Leaves.Leaves, Leaves.StaysClean}
use Rattle.keycard_rules.specs.{declared.issued.LookFault.LookFault}
use Rattle.keycard_rules.specs.{declared.draw.DrawFault.DrawFault, declared.kept.Kept.Ghosts as KeptOf}
use Rattle.keycard_rules.specs.declared.draw.DrawFault.TheVariants as draw
use Rattle.hotel_model.specs.{declared.reply.Reply.Reply, declared.reply.Refusal.Refusal}
use Rattle.hotel_model.specs.declared.reply.Reply.TheVariants as reply
use Rattle.hotel_model.specs.{declared.reply.Refusal.TheVariants.Memory, declared.reply.Refusal.TheVariants.Store}
use Rattle.hotel_model.specs.{declared.reply.Refusal.TheVariants.NoFreshCode, Rows.Rows}
use Rattle.hotel_model.specs.{Refinement.Lookups.codes_in, Run.is_failed}
use Rattle.hotel_books.specs.Books.Failures.{failure_in, refusal_of}
use Rattle.hotel_books.specs.declared.books.Books.{Ghosts as BooksOf}

-- what was looked up, with its fault as a refusal
abbrev pub known : {A : Type 0} → Result A LookFault → Result A Refusal
known (Ok a) = Ok a
known (Err fault) = Err (refusal_of fault)

-- what stands there, or a refusal where nothing does
abbrev pub there_or : {A : Type 0} → Refusal → Result (Option A) LookFault → Result A Refusal
there_or why (Ok (Some a)) = Ok a
there_or why (Ok None) = Err why
there_or why (Err fault) = Err (refusal_of fault)

-- the reply, or the refusal as a reply
abbrev pub reply_of : Result Reply Refusal → Reply
reply_of (Ok answer) = answer
reply_of (Err why) = reply.Refused why

-- memory or the store failed
abbrev pub has_failed : {A : Type 0} → Result A Refusal → Bool
has_failed (Ok a) = false
has_failed (Err why) = is_failed (reply.Refused why)

-- the failure of memory or of the store, if it was one
abbrev pub failure_at : {A : Type 0} → Result A Refusal → Option LookFault
failure_at (Ok a) = None
failure_at (Err why) = failure_in (reply.Refused why)

-- what is wanted was found; or it isn't there and this is the refusal, unless memory or the store failed
abbrev pub Found : {A : Type 0} → Refusal → Option A → Result A Refusal → Type 0
Found why wanted (Ok a) = wanted ≡ Some a
Found why wanted (Err other) = is_failed (reply.Refused other) ≡ false → (wanted ≡ None) × (other ≡ why)

-- A search from the state old to new, which changes no row and leaves what a call does; a failure that it reports is
-- counted, for whole rows, and no other one; a stop leaves nothing new.
pub record Finds {S A : Type 0} (K : KeptOf S) (B : BooksOf S) (are_whole : Rows → Type 0) (why : Refusal)
    (wanted : Rows → Option A) (old new : S) (result : Result A Refusal) : Type 0 where
  pub answer : K.is_clean new → Found why (wanted (B.rows old)) result
  pub same : K.is_clean new → B.rows new ≡ B.rows old
  pub since : Since K old new
  pub vouched : K.is_honest new → has_failed result ≡ false → K.is_clean new
  pub stays : K.is_honest new → StaysClean K old new
  pub counted : K.is_honest new → (has_failed result ≡ true → K.is_clean old → are_whole (B.rows old))
      → Counts (λ why. one_of why (failure_at result)) (K.failures old) (K.failures new)
  pub stop : K.leaves_no_more old new

-- all rows are whole enough
abbrev pub AnyRows : Rows → Type 0
AnyRows rows = Unit {0}

-- what was drawn, with its fault as a refusal
abbrev pub drawn_or : Result ℕ DrawFault → Result ℕ Refusal
drawn_or (Ok code) = Ok code
drawn_or (Err draw.NoFreshCode) = Err NoFreshCode
drawn_or (Err draw.Memory) = Err Memory
drawn_or (Err draw.Store) = Err Store

-- no code was drawn: all words give issued codes; or it failed, and the source moved by at most the words that were
-- examined
abbrev pub DrewNone : Bool → Draw → Stream → Stream → Refusal → Type 0
DrewNone true draw source rest why = MovedAtMost draw.examined source rest
DrewNone false draw source rest why = (why ≡ NoFreshCode) × (draw.code ≡ None) × (rest ≡ past draw.examined source)

-- what a draw comes to: the first fresh code of the next words of the source, or none
abbrev pub Drew : Draw → Stream → Stream → Result ℕ Refusal → Type 0
Drew draw source rest (Ok code) = (draw.code ≡ Some code) × (rest ≡ past draw.examined source)
Drew draw source rest (Err why) = DrewNone (is_failed (reply.Refused why)) draw source rest why

-- A draw over books, which changes no row; a stop leaves nothing new.
pub record DrawsCode {S : Type 0} (K : KeptOf S) (B : BooksOf S) (old new : S) (source rest : Stream)
    (result : Result ℕ Refusal) : Type 0 where
  pub answer : K.is_clean new → Drew (draw_from (codes_in (B.rows old)) (words MOST_WORDS source)) source rest result
  pub same : K.is_clean new → B.rows new ≡ B.rows old
  pub moved : K.is_honest new → has_failed result ≡ true
      → MovedAtMost (draw_from (codes_in (B.rows old)) (words MOST_WORDS source)).examined source rest
  pub leaves : Leaves K old (failure_at result) new
  pub stop : K.leaves_no_more old new
  pub sure : K.never_fails → failure_at result ≡ None

-- the first refusal of these checks
abbrev pub first_refusal : List (Option Refusal) → Option Refusal
first_refusal [] = None
first_refusal (Some why ∷ checks) = Some why
first_refusal (None ∷ checks) = first_refusal checks

-- the checks pass, or this is their first refusal
abbrev pub IsChecked : List (Option Refusal) → Result (Unit {0}) Refusal → Type 0
IsChecked checks (Ok done) = first_refusal checks ≡ None
IsChecked checks (Err why) = (first_refusal checks ≡ Some why) × (is_failed (reply.Refused why) ≡ false)
