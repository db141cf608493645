-- Which names are no paths, and the two files at a path.
use Rattle.std.specs.Prelude.{◌≡◌, ◌⊎◌, ◌||◌, ◌==◌, ℕ, Bool, true, false, List, codes, bytes_eq}
use Rattle.std.specs.List.{starts_with}
use Rattle.sqlite_disk.specs.declared.Files.{Files}
use Rattle.sqlite.specs.declared.error.ErrorCode.TheVariants.{CannotOpen, OutOfMemory, DatabaseBusy}
use Rattle.sqlite.specs.declared.error.Error.{Error}
use Rattle.sqlite.specs.declared.error.Error.TheVariants.{SqliteFailure}

-- SQLite takes the name for a database in memory, or for a URI
abbrev pub is_no_path : List ℕ → Bool
is_no_path name = bytes_eq name (codes ":memory:") || starts_with (λ a b. a == b) name (codes "file:")

-- why no files were opened at a path
abbrev pub IsPathError : Error → Type 0
IsPathError e = (e ≡ SqliteFailure CannotOpen) ⊎ ((e ≡ SqliteFailure OutOfMemory) ⊎ (e ≡ SqliteFailure DatabaseBusy))

-- one is the log and the other the database's file, by a test of which a disk is
abbrev pub AreParts : {D : Type 0} → (Bool → D → Type 0) → Files D → Type 0
AreParts is_part files = is_part true files.log × is_part false files.db
