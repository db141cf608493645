-- What a reading of bytes as CSV can give.
use Rattle.std.specs.Prelude.{◌≡◌, ℕ, List}
use Rattle.csv.specs.Reading.{AreRecords, default_config, strip_bom}
use Rattle.csv.specs.declared.parser.State.TheVariants as st
use Rattle.hotel_lock.specs.AuditFile.{file_records}

-- A reading of the bytes to their end, without the byte order mark, comes to these records.
abbrev pub ReadsAs : List ℕ → List (List (List ℕ)) → Type 0
ReadsAs bytes rows = AreRecords default_config st.StartRecord (strip_bom bytes) rows

-- Each reading gives the file's records.
abbrev pub GivesFileRecords : Type 0
GivesFileRecords = (bytes : List ℕ) (rows : List (List (List ℕ))) → ReadsAs bytes rows → rows ≡ file_records bytes

-- Two readings of the same bytes give the same records.
abbrev pub HasOneReading : Type 0
HasOneReading =
    (bytes : List ℕ) (rows more : List (List (List ℕ))) → ReadsAs bytes rows → ReadsAs bytes more → rows ≡ more
