-- The fields so far, and those that are left, are those of the form.
use Rattle.std.proofs.Common.{◌≡◌, ◌++◌, map}
use Rattle.form_urlencoded.specs.Parse.{pairs_left}
use Rattle.hotel_http.specs.Form.{decoded, field_read, form_fields}
use Rattle.hotel_http.proofs.form.read_form.Given as goal

abbrev pub invariant-loop-pair : goal.invariant-loop-pair
invariant-loop-pair l =
    map field_read l.fields.items ++ map decoded (pairs_left l.pair-iterator) ≡ form_fields l.body
