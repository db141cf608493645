-- The numbers and phrases of statuses.
use Rattle.std.specs.Prelude.{ℕ, List, codes}
use Rattle.hotel_http.specs.declared.status.Status.{Status}
use Rattle.hotel_http.specs.declared.status.Status.TheVariants.{Success, BadRequest, Forbidden, NotFound}
use Rattle.hotel_http.specs.declared.status.Status.TheVariants.{MethodNotAllowed, Conflict, ContentTooLarge}
use Rattle.hotel_http.specs.declared.status.Status.TheVariants.{HeadTooLarge, NotImplemented, Unavailable}

-- the number of a status
abbrev pub number_of : Status → ℕ
number_of Success = 200
number_of BadRequest = 400
number_of Forbidden = 403
number_of NotFound = 404
number_of MethodNotAllowed = 405
number_of Conflict = 409
number_of ContentTooLarge = 413
number_of HeadTooLarge = 431
number_of NotImplemented = 501
number_of Unavailable = 503

-- the phrase of a status
abbrev pub phrase_of : Status → List ℕ
phrase_of Success = codes "OK"
phrase_of BadRequest = codes "Bad Request"
phrase_of Forbidden = codes "Forbidden"
phrase_of NotFound = codes "Not Found"
phrase_of MethodNotAllowed = codes "Method Not Allowed"
phrase_of Conflict = codes "Conflict"
phrase_of ContentTooLarge = codes "Content Too Large"
phrase_of HeadTooLarge = codes "Request Header Fields Too Large"
phrase_of NotImplemented = codes "Not Implemented"
phrase_of Unavailable = codes "Service Unavailable"
