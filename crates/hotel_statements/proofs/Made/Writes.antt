-- How a statement that writes the rows of one table runs on a desk.
use Rattle.std.proofs.Common.{◌≡◌, ap, subst, List, [], ℕ, None, Ok, false}
use Rattle.sqlite.specs.Order.{Row}
use Rattle.sqlite.specs.Command.{Command}
use Rattle.sqlite.specs.Table.{Table}
use Rattle.sqlite.specs.Does.{Tally, OnRows, WritesRows}
use Rattle.sqlite.specs.Does as calls
use Rattle.sqlite.specs.Rows.{Written, Task}
use Rattle.sqlite.specs.Listing.{understood}
use Rattle.sqlite.specs.Effect.{Database, IsDatabase}
use Rattle.sqlite.specs.State.{State, mode_of, Runs, Writes, ExecutesIn}
use Rattle.sqlite.proofs.Callers.{runs_as, statement_of}
use Rattle.hotel_statements.specs.Schema.{desk_schema}
use Rattle.hotel_statements.proofs.Statements.Terms.{Does}
use Rattle.hotel_statements.proofs.Writing.{went, same_value}

-- a table of the desk: it counts no rows, and no default reads the time
abbrev pub at_place : ℕ → Table → Table
at_place tree t =
    record t { tree = tree; stamps = record { places = []; terms = []; formats = [] }; is_counted = false }

abbrev pub task : State → ℕ → Table → Row → Task
task old tree t params = record {
  limit = old.step_limit;
  keys = (mode_of old).keys;
  schema = desk_schema;
  table = at_place tree t;
  params = params;
}

-- the desk has the table at that tree, so that the command, whatever comes of it, is one on its rows
abbrev pub IsOn : ℕ → Table → List ℕ → Command → State → Row → Type 0
IsOn tree t text command old params = (out : _)
    → calls.Does old.step_limit (mode_of old) params (record old.now { schema = desk_schema }) text None command out
    → OnRows (task old tree t params) (mode_of old) None command old.now.trees out

pub wrote : (old new : State) (tree : ℕ) (t : Table) (text : List ℕ) (params : Row) (command : Command) (count : ℕ)
    → Does text command
    → (Runs old new None command (statement_of text (understood desk_schema text)) params count
    → Writes old new None command (statement_of text (understood desk_schema text)) params count)
    → IsOn tree t (statement_of text (understood desk_schema text)) command old params → old.now.schema ≡ desk_schema
    → ExecutesIn false text params old new (Ok count)
    → (w : Written) × WritesRows (task old tree t params) old.now.trees command (Ok w)
    × (new.now ≡ record { schema = desk_schema; trees = w.trees })
wrote old new tree t text params command count does writes on has h =
    let w = writes (runs_as text params old new desk_schema has command does.is does.plain count h) in
    let whole = subst (λ s. calls.Does old.step_limit (mode_of old) params (record old.now { schema = s })
    (statement_of text (understood desk_schema text)) None command (Ok (w.tally, new.now))) has w.changed in
    let done = went (on (Ok (w.tally, new.now)) whole) in
    (done.0, done.1, ap (λ (p : Tally × Database). p.1) (same_value (went (went done.2).2).2))

-- the trees that it leaves list the schema, and obey it
pub left_sound : (old new : State) (text : List ℕ) (params : Row) (command : Command) (count : ℕ) → Does text command
    → (Runs old new None command (statement_of text (understood desk_schema text)) params count
    → Writes old new None command (statement_of text (understood desk_schema text)) params count)
    → old.now.schema ≡ desk_schema → ExecutesIn false text params old new (Ok count) → IsDatabase new.now
left_sound old new text params command count does writes has h =
    (writes (runs_as text params old new desk_schema has command does.is does.plain count h)).sound
