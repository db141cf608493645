-- An empty desk is sound, and nothing is counted there.
use Rattle.std.proofs.Common.{◌≡◌, refl, sym, subst, []}
use Rattle.std.proofs.lemmas.Bool.{false≢true}
use Rattle.hotel_model.specs.Rows.{Rows, no_rows}
use Rattle.hotel_model.proofs.SoundRows.NoRows.{none_sound}
use Rattle.hotel_books.proofs.OfNights.NightsStanding.{none_stand}
use Rattle.hotel_tables.specs.TableBooks.{IsCounted}

none_counted : IsCounted [] [] no_rows
none_counted = record {
  sound = none_sound;
  known = λ kind there. absurd (false≢true there);
  rooms = λ kind. refl;
  stays = none_stand;
}

pub empty_counted : (rows : Rows) → rows ≡ no_rows → IsCounted [] [] rows
empty_counted rows is = subst (IsCounted [] []) (sym is) none_counted
