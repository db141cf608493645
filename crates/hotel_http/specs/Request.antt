-- What a request asks for. All is said of the whole input, and nothing of the pieces in which it came.
use Rattle.std.specs.Prelude.{◌≡◌, ◌<◌, ◌⊎◌, ℕ, Bool, true, false, List, [], ◌++◌, length, take, drop, if◌then◌else◌}
use Rattle.std.specs.Prelude.{map, nat_lt, Option, Some, None, IfSome, Result, Ok, Err}
use Rattle.std.specs.Io.KnownBytes.{Appends, Keeps}
use Rattle.hotel_streams.specs.Reads.{ReadsWhile}
use Rattle.httparse.specs.{Grammar.RequestHead, Spans.name_and_value}
use Rattle.hotel_streams.specs.{Bytes.AppendsPrefix, declared.bytes.ReadFault.ReadFault}
use Rattle.hotel_streams.specs.declared.bytes.ReadFault.TheVariants as more
use Rattle.hotel_http.specs.{declared.origins.Origins.Origins, declared.plan.Plan.Plan}
use Rattle.hotel_http.specs.{declared.rejection.Rejection.Rejection}
use Rattle.hotel_http.specs.{declared.requests.Request.Request, declared.requests.RequestFault.RequestFault}
use Rattle.hotel_http.specs.{declared.requests.Received.Received}
use Rattle.hotel_http.specs.declared.rejection.Rejection.TheVariants as rejection
use Rattle.hotel_http.specs.declared.requests.RequestFault.TheVariants.{Closed, Read, Memory, Write}
use Rattle.keycard_rules.specs.Results.{◌>>=◌}
use Rattle.hotel_http.specs.{declared.tasks.Task.Task, Body.interim_text, Body.interim_where, Head.BeginsWith}
use Rattle.hotel_http.specs.{Head.IsBad, Head.IsTooLarge, Head.WantsHead, Plan.plan_in, Plan.path_of}
use Rattle.hotel_http.specs.Fields.{framing}
use Rattle.hotel_http.specs.Tasks.{task_in, reads_form}

-- What a request comes to: a task with the body that came with it, or why nothing is asked.
abbrev pub Wanted : Type 0
Wanted = Result (Task × List ℕ) Rejection

-- The body behind a head, where all of it came.
abbrev pub body_in : ℕ → List ℕ → Result (List ℕ) Rejection
body_in size rest = if nat_lt (length rest) size then Err rejection.BadRequest else Ok (take size rest)

-- The task with its body, where its values were read.
abbrev pub or_unread : Option Task → List ℕ → Wanted
or_unread None body = Err rejection.Unread
or_unread (Some given) body = Ok (given, body)

-- What a plan asks for with the bytes behind the head: first all of the body, then the values.
abbrev pub meant : Plan → List ℕ → List ℕ → Wanted
meant plan path rest = do
  body ← body_in plan.size rest
  or_unread (task_in plan.target path body) body

-- The body came, and a form of it is read: there may be no memory for that.
abbrev pub MayLackMemory : Plan → List ℕ → Type 0
MayLackMemory plan rest = (nat_lt (length rest) plan.size ≡ false) × (reads_form plan.target ≡ true)

-- It is what the plan asks for, or there was no memory to read the form.
abbrev pub IsMeant : Plan → List ℕ → List ℕ → Wanted → Type 0
IsMeant plan path rest wanted =
    (wanted ≡ meant plan path rest) ⊎ ((wanted ≡ Err rejection.Memory) × MayLackMemory plan rest)

-- It is what a head asks for: the first rejection by the head, or what its plan asks for.
abbrev pub IsAsked : Result Plan Rejection → List ℕ → List ℕ → Wanted → Type 0
IsAsked (Err why) path rest wanted = wanted ≡ Err why
IsAsked (Ok plan) path rest wanted = IsMeant plan path rest wanted

-- The client awaits an interim answer before it sends the body.
abbrev pub awaits : Result Plan Rejection → Bool
awaits (Err why) = false
awaits (Ok plan) = plan.awaited

-- A body is announced, or it isn't known whether one is.
abbrev pub is_some_body : Result ℕ Rejection → Bool
is_some_body (Ok announced) = nat_lt 0 announced
is_some_body (Err unknown) = true

-- More of a request may follow its head that isn't read: a body that is announced, where the head is refused or asks
-- for a list; or what is announced isn't known.
abbrev pub follows_head : Result Plan Rejection → Result ℕ Rejection → Bool
follows_head (Ok plan) announced = plan.ignored
follows_head (Err why) announced = is_some_body announced

-- The input has no head, and this is why.
abbrev pub IsHeadless : List ℕ → Wanted → Type 0
IsHeadless input wanted =
    (IsBad input × (wanted ≡ Err rejection.BadRequest)) ⊎ (IsTooLarge input × (wanted ≡ Err rejection.HeadTooLarge))

-- More bytes of a body are wanted behind these: a plan has a body, of which they are not all.
abbrev pub WantsBody : Result Plan Rejection → List ℕ → Type 0
WantsBody (Err why) rest = ⊥
WantsBody (Ok plan) rest = length rest < plan.size

-- What a request that was read comes to.
abbrev pub wanted_of : Result Request Rejection → Wanted
wanted_of (Ok request) = Ok (request.task, request.body.items)
wanted_of (Err why) = Err why

abbrev pub request_fault_of : ReadFault → RequestFault
request_fault_of more.Read = Read
request_fault_of more.Memory = Memory

-- The body of a plan was read behind these bytes, or not.
abbrev pub EndsBody : Plan → List ℕ → List ℕ → Option (List ℕ) → Option (List ℕ) → Option (List ℕ)
    → Result Received RequestFault → Type 0
EndsBody plan path begun known old new (Ok got) =
    Appends old new (interim_where plan.awaited) × IfSome known
    (λ left. IsMeant plan path (begun ++ left) (wanted_of got.asks))
EndsBody plan path begun known old new (Err Closed) = ⊥
EndsBody plan path begun known old new (Err Write) = (plan.awaited ≡ true) × AppendsPrefix old new interim_text
EndsBody plan path begun known old new (Err Read) = Appends old new (interim_where plan.awaited)
EndsBody plan path begun known old new (Err Memory) = Appends old new (interim_where plan.awaited)

-- Requests that come from these origins alone are answered as they ask.
module _ (origins : Origins) where
  -- More of a request may follow its head that isn't read.
  abbrev pub may_follow : RequestHead → Bool
  may_follow head = follows_head (plan_in origins head) (framing (map name_and_value head.fields))

  -- The input asks for this, with an interim answer before it or not: by its head and what stands behind that; or it
  -- has no head.
  abbrev pub Requests : List ℕ → Bool → Wanted → Type 0
  Requests input awaited wanted =
      ((head : RequestHead) × (rest : List ℕ) × BeginsWith input head rest × (awaited ≡ awaits (plan_in origins head))
      × IsAsked (plan_in origins head) (path_of head.target) rest wanted)
      ⊎ ((awaited ≡ false) × IsHeadless input wanted)

  -- Whether more of this input may follow what is read of it: as its head says; or it has no head.
  abbrev pub MayFollow : List ℕ → Bool → Type 0
  MayFollow input follows =
      ((head : RequestHead) × (rest : List ℕ) × BeginsWith input head rest × (follows ≡ may_follow head))
      ⊎ ((follows ≡ true) × (IsBad input ⊎ IsTooLarge input))

  -- This input has a head, whose client awaits an interim answer or not.
  abbrev pub Awaits : Bool → List ℕ → Type 0
  Awaits awaited input = (head : RequestHead) × (rest : List ℕ) × BeginsWith input head rest
      × (awaits (plan_in origins head) ≡ awaited)

  -- What was read behind bytes that begin with a head: nothing where none was wanted, and nothing more once its body
  -- was there.
  abbrev pub ReadsBehind : RequestHead → ℕ → List ℕ → Option (List ℕ) → Option (List ℕ) → Type 0
  ReadsBehind head len bytes old new =
      Keeps old new ⊎ ReadsWhile (λ came. WantsBody (plan_in origins head) (drop len (bytes ++ came))) old new

  -- More bytes of a request are wanted behind these: of its head, or of the body of its plan. Behind a head that is
  -- rejected none are.
  abbrev pub WantsMore : List ℕ → Type 0
  WantsMore bytes = WantsHead bytes ⊎ ((head : RequestHead) × (rest : List ℕ) × BeginsWith bytes head rest
      × WantsBody (plan_in origins head) rest)

  -- A request wasn't read whole: within its head, and nothing was written; or behind it, and the interim answer was,
  -- where the client awaits it.
  abbrev pub IsUnread : Option (List ℕ) → Option (List ℕ) → Option (List ℕ) → Option (List ℕ) → Type 0
  IsUnread known left old new = (Appends old new [] × ReadsWhile WantsHead known left)
      ⊎ ((awaited : Bool) × Appends old new (interim_where awaited) × IfSome known (Awaits awaited))

  -- What a head asks for was read, or not; what stands behind the head is said by the bytes that the reader still had.
  abbrev pub EndsHead : RequestHead → (List ℕ → List ℕ) → Option (List ℕ) → Option (List ℕ) → Option (List ℕ)
      → Result Received RequestFault → Type 0
  EndsHead head behind known old new (Ok got) =
      Appends old new (interim_where (awaits (plan_in origins head)))
      × IfSome known (λ left. IsAsked (plan_in origins head) (path_of head.target) (behind left) (wanted_of got.asks))
  EndsHead head behind known old new (Err Closed) = ⊥
  EndsHead head behind known old new (Err Write) =
      (awaits (plan_in origins head) ≡ true) × AppendsPrefix old new interim_text
  EndsHead head behind known old new (Err Read) = Appends old new (interim_where (awaits (plan_in origins head)))
  EndsHead head behind known old new (Err Memory) = Appends old new (interim_where (awaits (plan_in origins head)))

  -- A request was read, or not. The reader had what is known, and has what is left of it.
  abbrev pub EndsRequest : Option (List ℕ) → Option (List ℕ) → Option (List ℕ) → Option (List ℕ)
      → Result Received RequestFault → Type 0
  EndsRequest known left old new (Ok got) =
      (awaited : Bool) × Appends old new (interim_where awaited)
      × IfSome known (λ input. Requests input awaited (wanted_of got.asks))
  EndsRequest known left old new (Err Closed) = Appends old new [] × IfSome known (λ input. input ≡ [])
  EndsRequest known left old new (Err Write) = AppendsPrefix old new interim_text × IfSome known (Awaits true)
  EndsRequest known left old new (Err Read) = IsUnread known left old new
  EndsRequest known left old new (Err Memory) = IsUnread known left old new
