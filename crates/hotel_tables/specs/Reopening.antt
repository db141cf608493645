-- A desk's tables that are read again, and its files that are opened again.
use Rattle.std.specs.Prelude.{◌≡◌, None, IsTrue}
use Rattle.sqlite_disk.specs.declared.Disk.{Ghosts}
use Rattle.sqlite_disk.specs.declared.Files.{Files}
use Rattle.sqlite_store.specs.declared.store.FileStore.{FileStore}
use Rattle.sqlite.specs.Tree.{Trees}
use Rattle.sqlite.specs.Held.{Held}
use Rattle.sqlite.specs.State.{HasCleanDisk, IsLive}
use Rattle.sqlite.specs.Files.{file_state, IsOpened, Finds}
use Rattle.sqlite.specs.Closing.{IsCopied}
use Rattle.hotel_model.specs.Sound.{IsSound}
use Rattle.hotel_rows.specs.declared.stored.Stored.{Stored}
use Rattle.hotel_statements.specs.Books.{IsKept, IsBooks}
use Rattle.hotel_statements.specs.declared.version.Version.{Version}
use Rattle.hotel_statements.specs.Tables.{AreTablesOf, rows_of_version}
use Rattle.hotel_rows.specs.Stored.{rows_of}
use Rattle.hotel_rows.specs.Damage.{first_damaged_of}
use Rattle.hotel_tables.specs.Opening.{AreStored, HasMetaRow, IsAlwaysClean}

-- What is read of the tables of a desk of either version: meta's one row is there, the rows read are those of the
-- tables, and where these are sound no table is damaged.
abbrev pub ReadUndamaged : Type 0
ReadUndamaged = (version : Version) (db : Trees) → AreTablesOf version db
    → HasMetaRow version db
    × ((s : Stored) → AreStored version s db
    → (rows_of s ≡ rows_of_version version db) × (IsSound (rows_of_version version db) → first_damaged_of s ≡ None))

-- Where a close copied the books' last commit into these files and an open found what they hold, the connection has the
-- tables and rows of the books.
abbrev pub FilesKeepBooks : {D : Type 0} → Ghosts D → Type 0
FilesKeepBooks {D} g =
    (old again : Held (FileStore D g)) (files : Files D) → IsBooks (file_state old) → IsLive (file_state old)
    → IsCopied old files → IsOpened again → Finds files again
    → HasCleanDisk (file_state again) → IsKept (file_state again) × IsBooks (file_state again)
    × ((file_state again).now ≡ (file_state old).now)

-- Over disks that return what was written each state of a connection is clean.
abbrev pub FilesAreClean : {D : Type 0} → Ghosts D → Type 0
FilesAreClean {D} g = ((disk : D) → IsTrue (g.is_clean disk)) → IsAlwaysClean {S = FileStore D g} file_state
