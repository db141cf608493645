-- What the head of a request asks for, by its checks in order.
use Rattle.std.specs.Prelude.{ℕ, Bool, ◌&&◌, List, take, map, Option, Some, None, Result, Ok, Err, ◌==◌, nat_lt, codes}
use Rattle.std.specs.Prelude.{if◌then◌else◌, slice_index}
use Rattle.std.specs.List.{position_or_len}
use Rattle.std.specs.Str.{bytes_eq}
use Rattle.keycard_rules.specs.Results.{◌>>=◌}
use Rattle.httparse.specs.{Grammar.RequestHead, Spans.name_and_value}
use Rattle.hotel_http.specs.{Fields.Pair, Fields.framing, Fields.expects_continue, Routes.target_of, Routes.method_of}
use Rattle.hotel_http.specs.{Origins.admitted, declared.origins.Origins.Origins}
use Rattle.hotel_http.specs.{declared.rejection.Method.Method}
use Rattle.hotel_http.specs.{declared.rejection.Method.TheVariants.Get, declared.rejection.Method.TheVariants.Post}
use Rattle.hotel_http.specs.{declared.rejection.Rejection.Rejection}
use Rattle.hotel_http.specs.declared.rejection.Rejection.TheVariants.{BadRequest, NotFound, WrongMethod}
use Rattle.hotel_http.specs.{declared.routes.Target.Target, declared.plan.Plan.Plan}

-- the path of a target: what stands before the first question mark
abbrev pub path_of : List ℕ → List ℕ
path_of target = take (position_or_len (λ b. b == 63) target) target

abbrev pub or_not_found : Option Target → Result Target Rejection
or_not_found None = Err NotFound
or_not_found (Some target) = Ok target

-- what the path asks for, where it begins with a slash and has a route
abbrev pub routed : List ℕ → Result Target Rejection
routed path = if slice_index path 0 == 47 then or_not_found (target_of path) else Err BadRequest

abbrev pub method_name : Method → List ℕ
method_name Get = codes "GET"
method_name Post = codes "POST"

-- what is asked for by its own method
abbrev pub allowed : List ℕ → Target → Result Target Rejection
allowed method target =
    if bytes_eq method (method_name (method_of target)) then Ok target else Err (WrongMethod (method_of target))

-- how many bytes of the body are read: none after a GET
abbrev pub size_read : Method → ℕ → ℕ
size_read Get size = 0
size_read Post size = size

-- The client of HTTP/1.1 waits for a 100 before it sends a body that is read.
abbrev pub is_awaited : ℕ → ℕ → List Pair → Bool
is_awaited minor size fields = minor == 1 && nat_lt 0 size && expects_continue fields

-- What is done with what is asked for.
abbrev pub plan_of : ℕ → List Pair → Target → ℕ → Plan
plan_of minor fields target announced =
    let size = size_read (method_of target) announced in
    record {
      target = target;
      size = size;
      awaited = is_awaited minor size fields;
      ignored = nat_lt size announced;
    }

-- What is asked for, or the first rejection: by the body's fields, then the path, then the method.
unfoldable pub planned : ℕ → List ℕ → List ℕ → List Pair → Result Plan Rejection
planned minor method target fields = do
  announced ← framing fields
  found ← routed (path_of target)
  asked ← allowed method found
  Ok (plan_of minor fields asked announced)

-- What a head asks for, or the first rejection: by its sender, then by what is asked.
unfoldable pub plan_in : Origins → RequestHead → Result Plan Rejection
plan_in origins head = do
  let_in ← admitted origins head.minor (map name_and_value head.fields)
  planned head.minor head.method head.target (map name_and_value head.fields)
