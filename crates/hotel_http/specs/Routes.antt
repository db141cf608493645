-- The routes: which paths there are, and what each asks for.
use Rattle.std.specs.Prelude.{ℕ, List, [], ◌∷◌, Bool, true, false, ◌&&◌, is_none, Option, Some, None, Result, Ok, Err}
use Rattle.std.specs.Prelude.{codes, map, if◌then◌else◌}
use Rattle.std.specs.Borrow.{Bor}
use Rattle.matchit.specs.{Rows.RowsOf, Order.placed, Route.parse_route, Route.Scan, Router.RouteOf, Router.nearest}
use Rattle.matchit.specs.{Router.route_from, Seek.first, declared.error.InsertError.InsertError}
use Rattle.hotel_asks.specs.Verbs.{is_list}
use Rattle.hotel_asks.specs.declared.verbs.Verb.TheVariants as verb
use Rattle.hotel_http.specs.{declared.rejection.Method.Method, declared.rejection.Method.TheVariants.Get}
use Rattle.hotel_http.specs.{declared.rejection.Method.TheVariants.Post, declared.routes.Target.Target}
use Rattle.hotel_http.specs.declared.routes.Target.TheVariants.{Asks, Audit}

-- each path and what it asks for
abbrev pub route_table : List (List ℕ × Target)
route_table =
    (codes "/begin", Asks verb.Begin) ∷
    (codes "/kinds", Asks verb.AddKind) ∷
    (codes "/rooms", Asks verb.AddRoom) ∷
    (codes "/reservations", Asks verb.Reserve) ∷
    (codes "/reservations/{party}/cancel", Asks verb.Cancel) ∷
    (codes "/reservations/{party}/check-in", Asks verb.CheckIn) ∷
    (codes "/reservations/{party}/spare", Asks verb.Spare) ∷
    (codes "/reservations/{party}/reissue", Asks verb.Reissue) ∷
    (codes "/reservations/{party}/transfer", Asks verb.Transfer) ∷
    (codes "/reservations/{party}/check-out", Asks verb.CheckOut) ∷
    (codes "/rooms/{room}/refit", Asks verb.Refit) ∷
    (codes "/next-day", Asks verb.NextDay) ∷
    (codes "/audit", Audit) ∷
    (codes "/arrivals/{day}", Asks verb.Arrivals) ∷
    (codes "/in-house", Asks verb.InHouse) ∷
    (codes "/rooms/{room}/chain", Asks verb.ChainOf) ∷
    (codes "/left-behind", Asks verb.LeftBehind) ∷
    (codes "/rooms/{room}/audit", Asks verb.AuditOf) ∷
    (codes "/business-day", Asks verb.BusinessDay) ∷
    (codes "/room-status", Asks verb.RoomStatus) ∷
    (codes "/inside", Asks verb.Inside) ∷
    (codes "/bookings", Asks verb.Bookings) ∷
    (codes "/availability/{day}/{nights}", Asks verb.Availability) ∷
    (codes "/parties/{party}/cards", Asks verb.CardsGiven) ∷
    (codes "/cards/{card}", Asks verb.CardOf) ∷
    (codes "/locks", Asks verb.Locks) ∷
    []

-- the method of what a path asks for: lists are got
abbrev pub method_of : Target → Method
method_of (Asks verb) = if is_list verb then Get else Post
method_of Audit = Post

-- the rows with one more route; a text that is no route adds none
abbrev pub added : Result Scan InsertError → Target → RowsOf (RouteOf Target) → RowsOf (RouteOf Target)
added (Ok scan) target rows = placed (scan.pattern, route_from scan target) rows
added (Err e) target rows = rows

unfoldable pub with_route : List ℕ → Target → RowsOf (RouteOf Target) → RowsOf (RouteOf Target)
with_route text target rows = added (parse_route text) target rows

-- the rows with more routes, one after the other
abbrev pub with_routes : List (List ℕ × Target) → RowsOf (RouteOf Target) → RowsOf (RouteOf Target)
with_routes [] rows = rows
with_routes (route ∷ routes) rows = with_routes routes (with_route route.0 route.1 rows)

-- whether a text is a route that conflicts with none of the rows
abbrev pub is_free_in : Result Scan InsertError → RowsOf (RouteOf Target) → Bool
is_free_in (Ok scan) rows = is_none (nearest scan.pattern rows)
is_free_in (Err e) rows = false

unfoldable pub is_free : List ℕ → RowsOf (RouteOf Target) → Bool
is_free text rows = is_free_in (parse_route text) rows

-- whether each of the routes conflicts neither with the rows nor with a route before it
abbrev pub are_free : List (List ℕ × Target) → RowsOf (RouteOf Target) → Bool
are_free [] rows = true
are_free (route ∷ routes) rows = is_free route.0 rows && are_free routes (with_route route.0 route.1 rows)

-- routes as they lie in memory
abbrev pub texts : List (Bor (List ℕ) × Target) → List (List ℕ × Target)
texts routes = map (λ route. (route.0.now, route.1)) routes

-- the routes of the desk
unfoldable pub hotel_routes : RowsOf (RouteOf Target)
hotel_routes = with_routes route_table []

abbrev pub target_in : Option (RouteOf Target) → Option Target
target_in None = None
target_in (Some route) = Some route.value

-- what a path asks for
unfoldable pub target_of : List ℕ → Option Target
target_of path = target_in (first hotel_routes path)
