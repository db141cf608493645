-- Which requests are answered, by where they come from.
use Rattle.std.specs.Prelude.{ℕ, Bool, true, false, not, ◌&&◌, ◌||◌, List, [], ◌∷◌, length, take, drop, codes, ◌==◌}
use Rattle.std.specs.Prelude.{if◌then◌else◌, slice_index, Result, Ok, Err}
use Rattle.std.specs.List.{list_all, list_any}
use Rattle.std.specs.Char.{is_ascii_digit}
use Rattle.std.specs.Str.{bytes_eq, str_eq_ignore_ascii_case}
use Rattle.hotel_http.specs.{Fields.Pair, Fields.is_named, Fields.values_named}
use Rattle.hotel_http.specs.{declared.origins.Origins.Origins, declared.rejection.Rejection.Rejection}
use Rattle.hotel_http.specs.declared.origins.Origins.TheVariants.{Any, Local}
use Rattle.hotel_http.specs.declared.rejection.Rejection.TheVariants.{BadRequest, Foreign}

-- HTTP/1.1 has one Host, and HTTP/1.0 at most one
abbrev pub is_host_wrong : ℕ → List (List ℕ) → Bool
is_host_wrong minor [] = minor == 1
is_host_wrong minor (host ∷ []) = false
is_host_wrong minor (host ∷ other ∷ hosts) = true

-- a colon and the digits of a port, or nothing
abbrev pub is_port : List ℕ → Bool
is_port text = length text == 0 || (slice_index text 0 == 58 && list_all is_ascii_digit (drop 1 text))

-- The host has this name, in any case of its letters, with a port or without.
abbrev pub has_name : List ℕ → List ℕ → Bool
has_name name host = str_eq_ignore_ascii_case (take (length name) host) name && is_port (drop (length name) host)

-- the host is this computer
abbrev pub is_local : List ℕ → Bool
is_local host = has_name (codes "localhost") host || has_name (codes "127.0.0.1") host

-- a browser says of a request that no page of another site sends it: the desk's own does, or the user
abbrev pub is_own_fetch : List ℕ → Bool
is_own_fetch site = bytes_eq site (codes "same-origin") || bytes_eq site (codes "none")

-- The field shows that the request comes from a web page: an Origin, a Host that isn't this computer, as a page has
-- whose site's name leads here, or a Sec-Fetch-Site that says so.
abbrev pub is_foreign : Pair → Bool
is_foreign field = is_named (codes "origin") field || (is_named (codes "host") field && not (is_local field.1))
    || (is_named (codes "sec-fetch-site") field && not (is_own_fetch field.1))

-- a request with these fields is refused for where it comes from
unfoldable pub is_refused : Origins → List Pair → Bool
is_refused Any fields = false
is_refused Local fields = list_any is_foreign fields

-- The first rejection of a request by its sender, if there is one: by the number of Host fields, then by its origin.
unfoldable pub admitted : Origins → ℕ → List Pair → Result (Unit {0}) Rejection
admitted origins minor fields =
    if is_host_wrong minor (values_named (codes "host") fields) then Err BadRequest
    else if is_refused origins fields then Err Foreign else Ok tt
