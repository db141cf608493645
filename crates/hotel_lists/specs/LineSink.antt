-- A sink that gathers the lines of rows and writes many of them by one write.
use Rattle.std.specs.Prelude.{◌≡◌, ℕ, ◌⊎◌, true, List, [], ◌++◌, Option, Result, Ok, Err}
use Rattle.std.specs.Io.KnownBytes.{Appends, Keeps}
use Rattle.hotel_books.specs.declared.books.walks.WalkFault.{WalkFault}
use Rattle.hotel_books.specs.declared.books.walks.WalkFault.TheVariants as walk
use Rattle.hotel_streams.specs.Calls.{NoneForgotten}
use Rattle.hotel_lists.specs.{RowLines.StopsAtLine, declared.line_sink.LineSink.LineSink}

-- It has the same writer and the same calls, of which none was forgotten.
pub record SameEnds {W : Type 0} (old new : LineSink W) : Type 0 where
  pub writer : new.writer.ghost_name ≡ old.writer.ghost_name
  pub calls : new.calls.ghost_name ≡ old.calls.ghost_name
  pub none_forgotten : NoneForgotten old.calls.now new.calls.now

-- It gathered a line, or wrote all that it had gathered and the line.
abbrev pub Gathers : {W : Type 0} → (W → Option (List ℕ)) → LineSink W → LineSink W → List ℕ → Type 0
Gathers contents old new line =
    (Keeps (contents old.writer.now) (contents new.writer.now) × (new.gathered.now ≡ old.gathered.now ++ line))
    ⊎ (Appends (contents old.writer.now) (contents new.writer.now) (old.gathered.now ++ line) × (new.gathered.now ≡ []))

-- It stopped as it was to write these bytes: a write failed, or memory was refused.
abbrev pub StopsAtWrite : {W : Type 0} → (W → Option (List ℕ)) → LineSink W → LineSink W → List ℕ → Type 0
StopsAtWrite contents old new bytes =
    StopsAtLine new.write_failed (contents old.writer.now) (contents new.writer.now) bytes
    × (new.write_failed ≡ true → new.calls.now.write_failed ≡ true)

-- How a walk's end became that of the list: after its last row the sink wrote what it had gathered, or stopped; after
-- another end it was left as it was.
abbrev pub Finishes : {W : Type 0} → (W → Option (List ℕ)) → LineSink W → LineSink W → Result (Unit {0}) WalkFault
    → Result (Unit {0}) WalkFault → Type 0
Finishes contents old new (Err why) result = (result ≡ Err why) × (new ≡ old)
Finishes contents old new (Ok done) (Ok ended) =
    Appends (contents old.writer.now) (contents new.writer.now) old.gathered.now
Finishes contents old new (Ok done) (Err walk.Stopped) = StopsAtWrite contents old new old.gathered.now
Finishes contents old new (Ok done) (Err why) = ⊥
