-- The bytes of answers.
use Rattle.std.specs.Prelude.{ℕ, List, [], ◌++◌, length, codes, Option, Some, None}
use Rattle.std.specs.Fmt.{decimal}
use Rattle.hotel_model.specs.declared.reply.Reply.{Reply}
use Rattle.hotel_core.specs.Texts.{reply_text}
use Rattle.hotel_model.specs.declared.reply.Reply.TheVariants as reply
use Rattle.hotel_model.specs.declared.reply.Refusal.TheVariants as refusal
use Rattle.hotel_http.specs.{declared.rejection.Method.Method, declared.rejection.Method.TheVariants.Get}
use Rattle.hotel_http.specs.{declared.rejection.Method.TheVariants.Post}
use Rattle.hotel_http.specs.{declared.rejection.Rejection.Rejection, declared.status.Status.Status}
use Rattle.hotel_http.specs.{declared.answer.Media.Media}
use Rattle.hotel_http.specs.declared.rejection.Rejection.TheVariants as rejection
use Rattle.hotel_http.specs.declared.status.Status.TheVariants.{Success, BadRequest, Forbidden, NotFound}
use Rattle.hotel_http.specs.declared.status.Status.TheVariants.{MethodNotAllowed, Conflict, ContentTooLarge}
use Rattle.hotel_http.specs.declared.status.Status.TheVariants.{HeadTooLarge, NotImplemented, Unavailable}
use Rattle.hotel_http.specs.{declared.answer.Media.TheVariants.Plain, declared.answer.Media.TheVariants.Csv}
use Rattle.hotel_http.specs.{Status.number_of, Status.phrase_of}

-- the type of a body
abbrev pub media_type : Media → List ℕ
media_type Plain = codes "text/plain; charset=utf-8"
media_type Csv = codes "text/csv; charset=utf-8"

-- the field that says which method is allowed
abbrev pub allow_field : Option Method → List ℕ
allow_field None = []
allow_field (Some Get) = codes "Allow: GET\r\n"
allow_field (Some Post) = codes "Allow: POST\r\n"

-- the status line of an answer
abbrev pub status_line : Status → List ℕ
status_line status = codes "HTTP/1.1 " ++ decimal (number_of status) ++ codes " " ++ phrase_of status ++ codes "\r\n"

-- the head of an answer whose body has so many bytes
unfoldable pub head_text : Status → Media → Option Method → ℕ → List ℕ
head_text status media allow size =
    status_line status
    ++ codes "Content-Type: " ++ media_type media ++ codes "\r\n"
    ++ codes "Content-Length: " ++ decimal size ++ codes "\r\n"
    ++ allow_field allow
    ++ codes "Connection: close\r\n\r\n"

-- an answer
unfoldable pub answer_text : Status → Media → Option Method → List ℕ → List ℕ
answer_text status media allow body = head_text status media allow (length body) ++ body

-- the text of the reply that there was no memory
abbrev pub memory_text : List ℕ
memory_text = reply_text (reply.Refused refusal.Memory)

-- the status of a rejection
abbrev pub rejection_status : Rejection → Status
rejection_status rejection.BadRequest = BadRequest
rejection_status rejection.HeadTooLarge = HeadTooLarge
rejection_status rejection.Foreign = Forbidden
rejection_status rejection.NotImplemented = NotImplemented
rejection_status rejection.BodyTooLarge = ContentTooLarge
rejection_status rejection.NotFound = NotFound
rejection_status (rejection.WrongMethod allowed) = MethodNotAllowed
rejection_status rejection.Unread = BadRequest
rejection_status rejection.Memory = Unavailable

-- the text of a rejection
abbrev pub rejection_body : Rejection → List ℕ
rejection_body rejection.BadRequest = codes "bad request\n"
rejection_body rejection.HeadTooLarge = codes "head too large\n"
rejection_body rejection.Foreign = codes "foreign\n"
rejection_body rejection.NotImplemented = codes "not implemented\n"
rejection_body rejection.BodyTooLarge = codes "too large\n"
rejection_body rejection.NotFound = codes "not found\n"
rejection_body (rejection.WrongMethod allowed) = codes "method not allowed\n"
rejection_body rejection.Unread = codes "unread\n"
rejection_body rejection.Memory = memory_text

-- the method that is allowed, where another one was asked for
abbrev pub allowed_by : Rejection → Option Method
allowed_by (rejection.WrongMethod allowed) = Some allowed
allowed_by _ = None

-- the answer to a request that is rejected
abbrev pub rejection_answer : Rejection → List ℕ
rejection_answer why = answer_text (rejection_status why) Plain (allowed_by why) (rejection_body why)

-- the status of a reply
abbrev pub reply_status : Reply → Status
reply_status (reply.Refused refusal.Memory) = Unavailable
reply_status (reply.Refused refusal.Store) = Unavailable
reply_status (reply.Refused _) = Conflict
reply_status _ = Success

-- the answer to a command with this reply
abbrev pub reply_answer : Reply → List ℕ
reply_answer given = answer_text (reply_status given) Plain None (reply_text given)

-- the answer that is a list of this text
abbrev pub list_answer : List ℕ → List ℕ
list_answer text = answer_text Success Csv None text
