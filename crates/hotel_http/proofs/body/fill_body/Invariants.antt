-- what was taken stands behind what there was
use Rattle.std.proofs.Common.{◌≡◌, ◌-◌, ◌++◌, List, ℕ, vec_len}
use Rattle.std.specs.Io.KnownBytes.{Consumes}
use Rattle.hotel_streams.specs.Calls.{NoneForgotten}
use Rattle.hotel_http.specs.Body.{ReadsBody}
use Rattle.hotel_http.proofs.body.fill_body.Given as goal

abbrev pub invariant-loop-reader : goal.invariant-loop-reader
invariant-loop-reader g l =
    ((taken : List ℕ) × Consumes (g.R.Read.remaining l.initial.reader) (g.R.Read.remaining l.reader) taken
    × (l.body.items ≡ l.initial.body.items ++ taken))
    × ReadsBody l.initial.body.items l.size (g.R.Read.remaining l.initial.reader) (g.R.Read.remaining l.reader)
    × NoneForgotten l.initial.calls l.calls

abbrev pub decreases-loop-reader : goal.decreases-loop-reader
decreases-loop-reader g l = l.size - vec_len l.body
