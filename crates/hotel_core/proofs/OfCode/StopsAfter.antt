-- What calls leave to a stop, one after the other.
use Rattle.std.proofs.Common.{◌≡◌, Some, None, [], ◌∷◌, ◌++◌, refl}
use Rattle.hotel_books.proofs.Names.{Stream, Command, Since}
use Rattle.hotel_books.specs.declared.books.Books.{Ghosts as BooksOf}
use Rattle.hotel_books.specs.Books.Stops.{StopsCall, StopsStep, StopsThrough}
use Rattle.keycard_rules.proofs.CallsTogether.{passes_join}
use Rattle.keycard_rules.specs.declared.kept.Kept.{Ghosts as KeptOf}

module _ {S : Type 0} {K : KeptOf S} {B : BooksOf S} where
  -- no call was made
  pub no_stops : {old new : S} → new ≡ old → StopsThrough K B old new
  no_stops same = record { asked = []; through = same }

  -- a command was carried out
  pub stops_once : {old new : S} (source : Stream) (command : Command) → Since K old new
      → StopsStep K B old source command new → StopsThrough K B old new
  stops_once {new = new} source command since stop =
      record { asked = Some (source, command) ∷ []; through = (new, (since, stop), refl) }

  -- books were looked at
  pub stops_idle : {old new : S} → ((a b : S) → K.is_kept a b → B.rows b ≡ B.rows a) → Since K old new
      → (K.is_clean new → K.is_kept old new) → K.leaves_no_more old new → StopsThrough K B old new
  stops_idle {old = old} {new = new} kept_rows since kept stop = record {
    asked = None ∷ [];
    through = (new, (since, (stop, λ clean. kept_rows old new (kept clean))), refl);
  }

  -- calls behind calls
  pub stops_then : {old mid new : S} → StopsThrough K B old mid → StopsThrough K B mid new → StopsThrough K B old new
  stops_then {old = old} {mid = mid} {new = new} first later = record {
    asked = first.asked ++ later.asked;
    through = passes_join (StopsCall K B) old mid new first.asked later.asked first.through later.through;
  }
