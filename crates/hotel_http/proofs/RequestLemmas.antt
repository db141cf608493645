-- A request that is read in pieces is what the whole input asks for.
use Rattle.std.proofs.Common.{◌≡◌, ℕ, ◌≤◌, ◌<◌, List, [], ◌++◌, append_assoc, arith, length, take, drop, refl, sym, ap}
use Rattle.std.proofs.Common.{◌∙◌, subst, inl, inr, Bool, Option, Some, None, IfSome, IfOk, Result, Ok, Err}
use Rattle.std.specs.Io.KnownBytes.{Consumes, Appends, Keeps}
use Rattle.std.proofs.KnownBytes.{Appends-nil, Consumes-kept, Consumes-nil, Consumes-trans}
use Rattle.std.proofs.lemmas.List.{drop-append-le}
use Rattle.httparse.specs.{Grammar.RequestHead, Spans.IsRequestAt, Spans.IsRequestOf, Spans.IsRequestWithin}
use Rattle.httparse.specs.{declared.spans.HeaderSpan.HeaderSpan, declared.spans.RequestSpans.RequestSpans}
use Rattle.hotel_streams.specs.Reads.{ReadsWhile}
use Rattle.hotel_streams.proofs.ReadLemmas.{reads_while}
use Rattle.hotel_http.specs.{Body.ReadsBody, Body.interim_where, Head.BeginsWith, Head.IsJudged, Head.LiesWithin}
use Rattle.hotel_http.specs.{Head.WantsHead, declared.head.Judged.Judged, declared.origins.Origins.Origins}
use Rattle.hotel_http.specs.declared.head.TheConstants.{HEAD_BYTES, HEAD_FIELDS}
use Rattle.hotel_http.specs.{Plan.plan_in, Plan.path_of}
use Rattle.hotel_http.specs.Request.{IsMeant, IsAsked, awaits, wanted_of, EndsBody, EndsHead, EndsRequest}
use Rattle.hotel_http.specs.Request.{MayFollow, ReadsBehind, WantsBody, WantsMore, may_follow}
use Rattle.hotel_http.proofs.HeadLemmas.{begins}
use Rattle.hotel_http.specs.declared.head.Judged.TheVariants as judged
use Rattle.hotel_http.specs.{declared.plan.Plan.Plan, declared.rejection.Rejection.Rejection}
use Rattle.hotel_http.specs.{declared.requests.Received.Received, declared.requests.RequestFault.RequestFault}
use Rattle.hotel_http.specs.declared.requests.RequestFault.TheVariants.{Closed, Read, Memory, Write}

pub if_some : (P Q : List ℕ → Type 0) (o : Option (List ℕ)) → ((l : List ℕ) → P l → Q l) → IfSome o P → IfSome o Q
if_some P Q None f p = tt
if_some P Q (Some l) f p = f l p

-- nothing was read
pub unread : (known : Option (List ℕ)) → ReadsWhile WantsHead known known
unread known = ([], [], omega arith, Consumes-nil known, inl refl)

-- a head was read, and nothing more
pub head_kept : (known mid new : Option (List ℕ)) → ReadsWhile WantsHead known mid → Keeps mid new
    → ReadsWhile WantsHead known new
head_kept known mid new (before, last, most, taken, wanted) kept =
    (before, last, most, Consumes-kept known mid new (before ++ last) taken kept, wanted)

module _ (origins : Origins) where
  -- the body of a head's plan
  pub head_ends : (head : RequestHead) (plan : Plan) (path bytes : List ℕ) (len : ℕ) (begun : List ℕ)
      (known old new : Option (List ℕ))
      (result : Result Received RequestFault) → len ≤ length bytes
      → plan_in origins head ≡ Ok plan → path ≡ path_of head.target → begun ≡ drop len bytes
      → EndsBody plan path begun known old new result
      → EndsHead origins head (λ left. drop len (bytes ++ left)) known old new result
  head_ends head plan path bytes len begun known old new (Ok got) fits e p b ends =
      let P : Result Plan Rejection → List ℕ → Type 0 =
      λ planned its_path. Appends old new (interim_where (awaits planned)) × IfSome known
      (λ left. IsAsked planned its_path (drop len (bytes ++ left)) (wanted_of got.asks)) in
      let behind = if_some (λ left. IsMeant plan path (begun ++ left) (wanted_of got.asks))
      (λ left. IsMeant plan path (drop len (bytes ++ left)) (wanted_of got.asks)) known
      (λ left m. subst (λ (l : List ℕ). IsMeant plan path l (wanted_of got.asks))
      (ap (λ (l : List ℕ). l ++ left) b ∙ sym (drop-append-le len bytes left fits)) m) ends.1 in
      subst (λ (r : Result Plan Rejection). P r (path_of head.target)) (sym e)
      (subst (λ (l : List ℕ). P (Ok plan) l) p (ends.0, behind))
  head_ends head plan path bytes len begun known old new (Err Closed) fits e p b ends = absurd ends
  head_ends head plan path bytes len begun known old new (Err Write) fits e p b ends = (ap awaits e ∙ ends.0, ends.1)
  head_ends head plan path bytes len begun known old new (Err Read) fits e p b ends =
      subst (λ (r : Result Plan Rejection). Appends old new (interim_where (awaits r))) (sym e) ends
  head_ends head plan path bytes len begun known old new (Err Memory) fits e p b ends =
      subst (λ (r : Result Plan Rejection). Appends old new (interim_where (awaits r))) (sym e) ends

  -- a head that is rejected
  pub head_rejected : (head : RequestHead) (why : Rejection) (behind : List ℕ → List ℕ) (known old : Option (List ℕ))
      → plan_in origins head ≡ Err why → (got : Received) → got.asks ≡ Err why
      → EndsHead origins head behind known old old (Ok got)
  head_rejected head why behind known old e got is =
      let P : Result Plan Rejection → Type 0 = λ planned. Appends old old (interim_where (awaits planned))
      × IfSome known (λ left. IsAsked planned (path_of head.target) (behind left) (wanted_of got.asks)) in
      subst P (sym e) (Appends-nil old, for_all known)
    where
      for_all : (o : Option (List ℕ)) → IfSome o (λ left. wanted_of got.asks ≡ Err why)
      for_all None = tt
      for_all (Some l) = ap wanted_of is

  -- of an input that isn't known
  unknown_ends : (head : RequestHead) (behind : List ℕ → List ℕ) (mid left old new : Option (List ℕ))
      (result : Result Received RequestFault)
      → EndsHead origins head behind mid old new result → EndsRequest origins None left old new result
  unknown_ends head behind mid left old new (Ok got) ends = (awaits (plan_in origins head), ends.0, tt)
  unknown_ends head behind mid left old new (Err Closed) ends = absurd ends
  unknown_ends head behind mid left old new (Err Write) ends = (ends.1, tt)
  unknown_ends head behind mid left old new (Err Read) ends = inr (awaits (plan_in origins head), ends, tt)
  unknown_ends head behind mid left old new (Err Memory) ends = inr (awaits (plan_in origins head), ends, tt)

  known_ends : (head : RequestHead) (len : ℕ) (input items left : List ℕ) (lost old new : Option (List ℕ))
      (result : Result Received RequestFault)
      → input ≡ items ++ left → BeginsWith input head (drop len input)
      → EndsHead origins head (λ l. drop len (items ++ l)) (Some left) old new result
      → EndsRequest origins (Some input) lost old new result
  known_ends head len input items left lost old new (Ok got) taken begins ends = (
    awaits (plan_in origins head),
    ends.0,
    inl (
      head,
      drop len input,
      begins,
      refl,
      subst (λ (l : List ℕ). IsAsked (plan_in origins head) (path_of head.target) (drop len l) (wanted_of got.asks))
          (sym taken) ends.1,
    ),
  )
  known_ends head len input items left lost old new (Err Closed) taken begins ends = absurd ends
  known_ends head len input items left lost old new (Err Write) taken begins ends =
      (ends.1, (head, drop len input, begins, ends.0))
  known_ends head len input items left lost old new (Err Read) taken begins ends =
      inr (awaits (plan_in origins head), ends, (head, drop len input, begins, refl))
  known_ends head len input items left lost old new (Err Memory) taken begins ends =
      inr (awaits (plan_in origins head), ends, (head, drop len input, begins, refl))

  -- a whole head, and what was read behind it
  whole_ends : (known mid left old new : Option (List ℕ)) (items prefix : List ℕ)
      (headers : List HeaderSpan) (spans : RequestSpans)
      (result : Result Received RequestFault) → Consumes known mid items
      → IfSome known (λ input. IsJudged input prefix headers (judged.Whole spans)) → IsRequestOf prefix headers spans
      → ((head : RequestHead) → IsRequestAt prefix headers spans head
      → EndsHead origins head (λ left. drop spans.len (items ++ left)) mid old new result)
      → EndsRequest origins known left old new result
  whole_ends None mid left old new items prefix headers spans result taken found (head, at) ends =
      unknown_ends head (λ left. drop spans.len (items ++ left)) mid left old new result (ends head at)
  whole_ends (Some input) None left old new items prefix headers spans result taken found of ends = absurd taken
  whole_ends (Some input) (Some rest) left old new items prefix headers spans result taken (head, begins, at) of ends =
      known_ends head spans.len input items rest left old new result taken begins (ends head at)

  -- what may follow a whole head is as its plan says
  pub may_follow_whole : (known : Option (List ℕ)) (items : List ℕ) (headers : List HeaderSpan) {found : Judged}
      {spans : RequestSpans} (follows : Bool) → found ≡ judged.Whole spans
      → LiesWithin (take HEAD_BYTES items) headers found
      → IfSome known (λ input. IsJudged input (take HEAD_BYTES items) headers found)
      → ((head : RequestHead) → IsRequestAt (take HEAD_BYTES items) headers spans head
      → follows ≡ may_follow origins head) → IfSome known (λ input. MayFollow origins input follows)
  may_follow_whole None items headers follows is lies found says = tt
  may_follow_whole (Some input) items headers {spans = spans} follows is lies found says =
      let (head, begins, at) = subst (IsJudged input (take HEAD_BYTES items) headers) is found in
      inl (head, drop spans.len input, begins, says head at)

  pub follows_whole : (known : Option (List ℕ)) {items bytes : List ℕ} {headers : List HeaderSpan} {found : Judged}
      {spans : RequestSpans} (result : Result Received RequestFault) → found ≡ judged.Whole spans → bytes ≡ items
      → LiesWithin (take HEAD_BYTES items) headers found
      → IfSome known (λ input. IsJudged input (take HEAD_BYTES items) headers found)
      → ((head : RequestHead) → IsRequestAt (take HEAD_BYTES bytes) headers spans head
      → IfOk result (λ got. got.follows ≡ may_follow origins head))
      → IfOk result (λ got. IfSome known (λ input. MayFollow origins input got.follows))
  follows_whole known {items = items} {headers = headers} {spans = spans} (Ok got) is same lies found says =
      may_follow_whole known items headers got.follows is lies found (subst (λ (l : List ℕ). (head : RequestHead)
      → IsRequestAt (take HEAD_BYTES l) headers spans head → got.follows ≡ may_follow origins head) same says)
  follows_whole known (Err why) is same lies found says = tt

  -- a head alone was read
  pub head_read : (known mid : Option (List ℕ)) → ReadsWhile WantsHead known mid
      → ReadsWhile (WantsMore origins) known mid
  head_read known mid read = reads_while WantsHead (WantsMore origins) known mid (λ l wanted. inl wanted) read

  -- nothing was read
  pub none_read : (known : Option (List ℕ)) → ReadsWhile (WantsMore origins) known known
  none_read known = head_read known known (unread known)

  -- the body of a head's plan was read
  pub body_read : (head : RequestHead) (plan : Plan) (bytes : List ℕ) (len : ℕ) (begun : List ℕ)
      (old new : Option (List ℕ)) → len ≤ length bytes
      → plan_in origins head ≡ Ok plan → begun ≡ drop len bytes → ReadsBody begun plan.size old new
      → ReadsBehind origins head len bytes old new
  body_read head plan bytes len begun old new fits e b (inl kept) = inl kept
  body_read head plan bytes len begun old new fits e b (inr read) =
      inr (reads_while (λ came. length (begun ++ came) < plan.size)
      (λ came. WantsBody (plan_in origins head) (drop len (bytes ++ came))) old new
      (λ came short. subst (λ (r : Result Plan Rejection). WantsBody r (drop len (bytes ++ came))) (sym e)
      (subst (λ (l : List ℕ). length l < plan.size)
      (ap (λ (l : List ℕ). l ++ came) b ∙ sym (drop-append-le len bytes came fits)) short)) read)

  then_behind : (head : RequestHead) (known mid new : Option (List ℕ)) (items : List ℕ) (len : ℕ)
      → ((more : List ℕ) → BeginsWith (items ++ more) head (drop len (items ++ more)))
      → Consumes known mid items → ReadsWhile WantsHead known mid → ReadsBehind origins head len items mid new
      → ReadsWhile (WantsMore origins) known new
  then_behind head known mid new items len is taken (before, last, most, lost, wanted) (inl kept) =
      (before, last, most, Consumes-kept known mid new (before ++ last) lost kept, inl wanted)
  then_behind head known mid new items len is taken read (inr (came, last, most, lost, wanted)) = (
    items ++ came,
    last,
    most,
    subst (Consumes known new) (sym (append_assoc items came last))
        (Consumes-trans known mid new items (came ++ last) taken lost),
    inr (head, drop len (items ++ came), is came, wanted),
  )

  -- a whole head was read, and then what is behind it
  whole_read : (known mid new : Option (List ℕ)) (n : ℕ) (items : List ℕ) (headers : List HeaderSpan)
      (spans : RequestSpans) → n ≡ HEAD_BYTES → length headers ≡ HEAD_FIELDS
      → IsRequestWithin (take n items) headers spans → IsRequestOf (take n items) headers spans
      → Consumes known mid items
      → ReadsWhile WantsHead known mid
      → ((head : RequestHead) → IsRequestAt (take n items) headers spans head
      → ReadsBehind origins head spans.len items mid new)
      → ReadsWhile (WantsMore origins) known new
  whole_read known mid new n items headers spans is room within (head, at) taken read ends =
      then_behind head known mid new items spans.len
      (λ more. begins n items more headers spans head is room within at) taken read (ends head at)

  -- a head was judged whole, and so was a request read
  pub request_ends : (known mid left old new : Option (List ℕ)) (result : Result Received RequestFault)
      {items bytes : List ℕ} {headers : List HeaderSpan}
      {found : Judged} {spans : RequestSpans} → found ≡ judged.Whole spans → bytes ≡ items → Consumes known mid items
      → LiesWithin (take HEAD_BYTES items) headers found
      → IfSome known (λ input. IsJudged input (take HEAD_BYTES items) headers found)
      → ((head : RequestHead) → IsRequestAt (take HEAD_BYTES bytes) headers spans head
      → EndsHead origins head (λ left. drop spans.len (bytes ++ left)) mid old new result)
      → EndsRequest origins known left old new result
  request_ends known mid left old new result {items = items} {headers = headers} {spans = spans}
      is same taken lies judged ends =
      let (within, of) = subst (LiesWithin (take HEAD_BYTES items) headers) is lies in
      let so =
      subst (λ (j : Judged). IfSome known (λ input. IsJudged input (take HEAD_BYTES items) headers j)) is judged in
      whole_ends known mid left old new items (take HEAD_BYTES items) headers spans result taken so of
      (subst (λ (l : List ℕ). (head : RequestHead) → IsRequestAt (take HEAD_BYTES l) headers spans head
      → EndsHead origins head (λ left. drop spans.len (l ++ left)) mid old new result) same ends)

  pub request_read : (known mid new : Option (List ℕ)) {items bytes : List ℕ} {headers : List HeaderSpan}
      {found : Judged} {spans : RequestSpans} → length headers ≡ HEAD_FIELDS
      → found ≡ judged.Whole spans → bytes ≡ items → Consumes known mid items
      → LiesWithin (take HEAD_BYTES items) headers found → ReadsWhile WantsHead known mid
      → ((head : RequestHead) → IsRequestAt (take HEAD_BYTES bytes) headers spans head
      → ReadsBehind origins head spans.len bytes mid new) → ReadsWhile (WantsMore origins) known new
  request_read known mid new {items = items} {headers = headers} {spans = spans} room is same taken lies read behind =
      let (within, of) = subst (LiesWithin (take HEAD_BYTES items) headers) is lies in
      whole_read known mid new HEAD_BYTES items headers spans refl room within of taken read
      (subst (λ (l : List ℕ). (head : RequestHead)
      → IsRequestAt (take HEAD_BYTES l) headers spans head → ReadsBehind origins head spans.len l mid new) same behind)
