-- Books that were not clean as a line began answer no note.
use Rattle.std.proofs.Common.{[], ◌∷◌, Ok, List, subst, sym}
use Rattle.hotel_core.proofs.OfCode.Counting.{untold}
use Rattle.rand_core.specs.Stream.{Stream}
use Rattle.keycard_rules.specs.{Since.Since, declared.kept.Kept.Ghosts as KeptOf, Calls.BeganShut, Calls.Passes}
use Rattle.hotel_books.specs.declared.books.Books.{Ghosts as BooksOf}
use Rattle.keycard_rules.proofs.Sinces.{since_refl, since_then}
use Rattle.hotel_lock.specs.declared.line.Line.{Line}
use Rattle.hotel_audit.specs.declared.answer.LineAnswer.{LineAnswer}
use Rattle.hotel_lock.specs.declared.line.Line.TheVariants as line
use Rattle.hotel_audit.specs.{Import.ImportsLine, Import.LineImported, Shut.ImportsNothing, Shut.IsUnread}
use Rattle.hotel_audit.proofs.NoteReplies.{answered_sure}

-- a source, of which an import takes nothing
pub no_words : Stream
no_words = record { u32_after = λ calls. 0; u64_after = λ calls. 0; bytes_after = λ calls n. [] }

module _ {B : Type 0} (K : KeptOf B) (own : BooksOf B) where
  since_line : (old new : B) (l : Line) (a : LineAnswer) → ImportsLine K own old l (Ok a) new → Since K old new
  since_line old new (line.Unread cause) a went = subst (λ b. Since K old b) (sym went.1) since_refl
  since_line old new (line.Note note) a went = let s = went.3 no_words in s.leaves.since

  pub since_lines : (old new : B) (asked : List (Line × LineAnswer))
      → Passes (LineImported K own) old asked new → Since K old new
  since_lines old new [] p = subst (λ b. Since K old b) (sym p) since_refl
  since_lines old new ((l, a) ∷ asked) p =
      since_then (since_line old p.0 l a p.1) (since_lines p.0 new asked p.2)

  unread_by : (old new : B) (l : Line) (a : LineAnswer)
      → ImportsLine K own old l (Ok a) new → BeganShut K old new → IsUnread l
  unread_by old new (line.Unread cause) a went shut = tt
  unread_by old new (line.Note note) a went shut =
      let s = went.3 no_words in
      absurd (shut.1 (s.leaves.since.was_clean (s.leaves.vouched shut.0 (untold went.0 (answered_sure went.0 a
      went.1)))))

  pub imports_nothing : ImportsNothing K own
  imports_nothing old new [] p shut = tt
  imports_nothing old new ((l, a) ∷ asked) p shut = (
    unread_by old p.0 l a p.1 ((since_lines p.0 new asked p.2).was_honest shut.0, shut.1),
    imports_nothing p.0 new asked p.2 (shut.0, λ clean. shut.1 ((since_line old p.0 l a p.1).was_clean clean)),
  )
