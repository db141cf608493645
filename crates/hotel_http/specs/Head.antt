-- The head that an input begins with. All is said of the whole input, and nothing of the pieces in which it came.
use Rattle.std.specs.Prelude.{◌≡◌, ℕ, ◌<◌, ◌≤◌, ◌⊎◌, List, [], length, take, drop}
use Rattle.httparse.specs.Grammar.{RequestHead, print_request, ReadsRequest, HasNoRequest, NeverHasRequest}
use Rattle.httparse.specs.Grammar.{MayBecomeRequest}
use Rattle.httparse.specs.{Spans.IsRequestAt, Spans.IsRequestOf, Spans.IsRequestWithin, Spans.RequestOverflows}
use Rattle.httparse.specs.{Spans.RequestExceeds, declared.spans.HeaderSpan.HeaderSpan}
use Rattle.hotel_http.specs.{declared.head.Judged.Judged, declared.head.Parsed.Parsed}
use Rattle.hotel_http.specs.declared.head.Judged.TheVariants.{More, Closed, Whole, Malformed, TooLarge}
use Rattle.hotel_http.specs.declared.head.Parsed.TheVariants as parsed
use Rattle.hotel_http.specs.declared.head.TheConstants.{HEAD_BYTES, HEAD_FIELDS}

-- The input is this head, which is within both limits, and then the rest.
pub record BeginsWith (input : List ℕ) (head : RequestHead) (rest : List ℕ) : Type 0 where
  pub reads : ReadsRequest input head rest
  pub short : length (print_request head) ≤ HEAD_BYTES
  pub few : length head.fields ≤ HEAD_FIELDS

-- It begins with no such head.
abbrev pub HasNoHead : List ℕ → Type 0
HasNoHead input = (head : RequestHead) (rest : List ℕ) → ¬ (BeginsWith input head rest)

-- The input ends inside a head, after its first byte.
pub record IsCut (input : List ℕ) : Type 0 where
  pub some : 0 < length input
  pub short : length input ≤ HEAD_BYTES
  pub none : HasNoRequest input

-- No bytes that follow can make a head of it.
abbrev pub IsMalformed : List ℕ → Type 0
IsMalformed input = NeverHasRequest input

-- The limit of bytes is passed before the head ends.
pub record IsTooLong (input : List ℕ) : Type 0 where
  pub long : HEAD_BYTES < length input
  pub none : HasNoRequest (take HEAD_BYTES input)

-- The limit of field lines is passed.
abbrev pub HasTooManyFields : List ℕ → Type 0
HasTooManyFields input = RequestExceeds HEAD_FIELDS input × HasNoHead input

-- A head is malformed or cut.
abbrev pub IsBad : List ℕ → Type 0
IsBad input = IsMalformed input ⊎ IsCut input

-- A head passes a limit.
abbrev pub IsTooLarge : List ℕ → Type 0
IsTooLarge input = IsTooLong input ⊎ HasTooManyFields input

-- What was judged is right for an input that begins with these bytes.
abbrev pub IsJudged : List ℕ → List ℕ → List HeaderSpan → Judged → Type 0
IsJudged input bytes headers More = Unit {0}
IsJudged input bytes headers Closed = input ≡ []
IsJudged input bytes headers Malformed = IsBad input
IsJudged input bytes headers TooLarge = IsTooLarge input
IsJudged input bytes headers (Whole spans) =
    (head : RequestHead) × BeginsWith input head (drop spans.len input) × IsRequestAt bytes headers spans head

-- The parts of a whole head lie within the bytes, and are those of one.
abbrev pub LiesWithin : List ℕ → List HeaderSpan → Judged → Type 0
LiesWithin bytes headers (Whole spans) = IsRequestWithin bytes headers spans × IsRequestOf bytes headers spans
LiesWithin bytes headers More = Unit {0}
LiesWithin bytes headers Closed = Unit {0}
LiesWithin bytes headers Malformed = Unit {0}
LiesWithin bytes headers TooLarge = Unit {0}

-- These bytes are no head yet, and may become one.
pub record IsUnended (bytes : List ℕ) : Type 0 where
  pub short : length bytes ≤ HEAD_BYTES
  pub none : HasNoRequest bytes
  pub may : MayBecomeRequest bytes

-- More bytes of a head are wanted behind these: there is none, or they are no head yet and may become one.
abbrev pub WantsHead : List ℕ → Type 0
WantsHead bytes = (bytes ≡ []) ⊎ IsUnended bytes

-- The head isn't judged yet.
abbrev pub IsOpen : Judged → Type 0
IsOpen More = Unit {0}
IsOpen Closed = ⊥
IsOpen Malformed = ⊥
IsOpen TooLarge = ⊥
IsOpen (Whole spans) = ⊥

-- What the parser answered of these bytes.
abbrev pub IsParsed : List ℕ → List HeaderSpan → Parsed → Type 0
IsParsed bytes headers (parsed.Whole spans) = IsRequestWithin bytes headers spans × IsRequestOf bytes headers spans
IsParsed bytes headers parsed.Part = HasNoRequest bytes × MayBecomeRequest bytes
IsParsed bytes headers parsed.TooMany = RequestOverflows HEAD_FIELDS bytes × RequestExceeds HEAD_FIELDS bytes
IsParsed bytes headers parsed.Bad = NeverHasRequest bytes
