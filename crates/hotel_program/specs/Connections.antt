-- Connections that are answered one after the other.
use Rattle.std.specs.Prelude.{◌≡◌, ◌⊎◌, ℕ, Bool, true, false, List, [], ◌∷◌, ◌++◌, length, Option, Some, None, Result}
use Rattle.std.specs.Prelude.{Ok, Err, IfOk, IfSome}
use Rattle.std.specs.declared.io.Error.{Error}
use Rattle.rand_core.specs.Stream.{Stream}
use Rattle.keycard_rules.specs.{declared.kept.Kept.Ghosts as KeptOf, Calls.LeaveAll, Calls.Passes}
use Rattle.hotel_books.specs.declared.books.Books.{Ghosts as BooksOf}
use Rattle.hotel_model.specs.History.{History}
use Rattle.hotel_http.specs.declared.origins.Origins.TheVariants.{Local}
use Rattle.hotel_http.specs.declared.serve.Served.{Served}
use Rattle.hotel_http.specs.declared.serve.ServeFault.{ServeFault}
use Rattle.hotel_http.specs.declared.serve.ServeFault.TheVariants as serve
use Rattle.hotel_http.specs.Request.{Wanted}
use Rattle.keycard_rules.specs.Calls.{Told}
use Rattle.hotel_core.specs.Books.Happens.{HappensBy}
use Rattle.hotel_streams.specs.Reads.{ReadsWhile}
use Rattle.hotel_http.specs.Request.{MayFollow, WantsMore}
use Rattle.hotel_http.specs.Serve.{Comes, FullAnswer, ServesOver, served_in}
use Rattle.hotel_http.specs.declared.serve.Exchange.{Exchange}
use Rattle.hotel_program.specs.declared.listener.Caller.{Ghosts as CallerOf}
use Rattle.hotel_program.specs.declared.listener.Listener.{Ghosts as ListenerOf}
use Rattle.hotel_program.specs.Timed.{AreRead, AreWritten, LingersOn, Reading, Reads, ReadsRest, SecondSet, Writing}
use Rattle.hotel_program.specs.declared.connections.TheConstants.{PAUSE}
use Rattle.hotel_program.specs.declared.timed.TheConstants.{PATIENCE}
use Rattle.hotel_program.specs.declared.faults.Fault.{Fault}
use Rattle.hotel_program.specs.declared.faults.Fault.TheVariants.{Closed, Read, Memory, Write}
use Rattle.hotel_program.specs.Faults.{ReportsAll}

-- How a connection ended: as its request was served; or it couldn't be taken, and nothing was read.
abbrev pub ConnectionEnd : Type 0
ConnectionEnd = Option (Result Served ServeFault)

-- Nothing was begun, and the books weren't asked.
abbrev pub NothingCame : History → Stream → Told → History → Stream → Type 0
NothingCame h s told h' s' = (told ≡ []) × (h' ≡ h) × (s' ≡ s)

-- What a request asks for came of calls that reported this; its answer has this in it.
abbrev pub RequestCame : (FullAnswer → Type 0) → History → Stream → Told → History → Stream → Type 0
RequestCame said h s told h' s' = (wanted : Wanted) × (out : FullAnswer) × Comes wanted h s out told h' s' × said out

-- What came of a connection that ended so.
abbrev pub ConnectionCame : ConnectionEnd → History → Stream → Told → History → Stream → Type 0
ConnectionCame (Some (Ok served)) = RequestCame (λ out. (served.status ≡ out.status) × (served.acted ≡ out.acted))
ConnectionCame (Some (Err (serve.Write acted))) =
    λ h s told h' s'. RequestCame (λ out. acted ≡ out.acted) h s told h' s'
    ⊎ ((acted ≡ false) × NothingCame h s told h' s')
ConnectionCame _ = NothingCame

-- A connection was served to this end, by books and a source of words.
abbrev pub ConnectionHappens : {S R : Type 0} → KeptOf S → BooksOf S → (R → Stream) → S × R → ConnectionEnd → S × R
    → Type 0
ConnectionHappens K own stream old end new =
    HappensBy K own old.0 (λ told h h'. ConnectionCame end h (stream old.1) told h' (stream new.1)) new.0

-- What came of connections that ended so, one after the other.
abbrev pub AllCame : List ConnectionEnd → History → Stream → Told → History → Stream → Type 0
AllCame [] h s told h' s' = NothingCame h s told h' s'
AllCame (end ∷ ends) h s told h' s' = (mid : History) × (t : Stream) × (first more : Told)
    × ConnectionCame end h s first mid t × AllCame ends mid t more h' s' × (told ≡ first ++ more)

-- Connections that were served one after the other: all of that came, and the books are left as their calls leave them.
pub record ServesAll {S R : Type 0} (K : KeptOf S) (own : BooksOf S) (stream : R → Stream) (old : S × R)
    (ends : List ConnectionEnd) (new : S × R) : Type 0 where
  pub went : HappensBy K own old.0 (λ told h h'. AllCame ends h (stream old.1) told h' (stream new.1)) new.0
  pub leaves : LeaveAll K old.0 went.told new.0

abbrev pub ServersFollow : {S R : Type 0} → KeptOf S → BooksOf S → (R → Stream) → Type 0
ServersFollow {S = S} {R = R} K own stream = (old new : S × R) (ends : List ConnectionEnd)
    → Passes (ConnectionHappens K own stream) old ends new → ServesAll K own stream old ends new

-- What contracts see of a listener: the types of its connections and callers, and what is asked of it and of these.
pub record Sockets : Type 1 where
  pub Listener : Type 0
  pub Stream : Type 0
  pub Caller : Type 0
  pub listens : ListenerOf Listener Stream Caller
  pub calls : CallerOf Caller Stream

abbrev pub sockets : {L S K : Type 0} → ListenerOf L S K → CallerOf K S → Sockets
sockets {L} {S} {K} listens calls =
    record { Listener = L; Stream = S; Caller = K; listens = listens; calls = calls }

-- Whether more of a request may follow what was read.
abbrev pub follows_in : Result Exchange ServeFault → Bool
follows_in (Ok done) = done.follows
follows_in (Err why) = false

-- What is read behind an answer: where more may follow, the writing side is shut, and what comes is thrown away.
abbrev pub ThrowsAway : {S L : Type 0} → CallerOf L S → S → Bool → Reads L → L → Type 0
ThrowsAway {L = L} calls stream true old new = (shut : Result (Unit {0}) Error) × (mid : L) × (left : ℕ)
    × calls.writes_shut stream old.caller shut mid
    × LingersOn (ReadsRest (calls.reads_limited stream) calls.clock_read (calls.was_read stream)) shut (mid, old.left)
    (new, left)
ThrowsAway calls stream false old new = new ≡ old.caller

-- The request of a connection was served, by a caller that read it and one that wrote to it: the bytes of the request
-- are those that the connection had, and those of the answer it was given; each read and write was made in the time
-- that was left for it, and no more was read than is wanted.
pub record ServesInTime {S L B R : Type 0} (calls : CallerOf L S) (K : KeptOf B) (own : BooksOf B) (words : R → Stream)
    (stream : S) (reads writes : L) (old : B × R) (end : Result Exchange ServeFault) (reads' writes' : L)
    (new : B × R) : Type 0 where
  pub read : Reads L
  pub left : ℕ
  pub reads_in_time : ∥ ((readings : List Reading) × AreRead calls stream reads readings read) ∥₁
  pub writes_in_time : ∥ ((writings : List Writing) × AreWritten calls stream writes writings (writes', left)) ∥₁
  pub serves : ServesOver Local K own words (calls.remaining stream reads) (calls.remaining stream read.caller)
      (calls.contents stream writes) (calls.contents stream writes') old new (served_in end)
  pub wanted : ReadsWhile (WantsMore Local) (calls.remaining stream reads) (calls.remaining stream read.caller)
  pub follows : IfOk end (λ done. IfSome (calls.remaining stream reads) (λ input. MayFollow Local input done.follows))
  pub behind : ThrowsAway calls stream (follows_in end) read reads'

-- The limits of a connection were asked for, of both callers, and this is whether both were set.
abbrev pub Limits : {S L : Type 0} → CallerOf L S → S → L × L → Bool → L × L → Type 0
Limits calls stream old both new = (first : Result (Unit {0}) Error)
    × calls.reads_limited stream old.0 PATIENCE first new.0
    × SecondSet (λ l set l'. calls.writes_limited stream l PATIENCE set l') first old.1 new.1 both
    × (calls.remaining stream new.0 ≡ calls.remaining stream old.0)
    × (calls.contents stream new.1 ≡ calls.contents stream old.1)

-- How a connection ended that was taken, by whether its limits were set: its request was served; or it wasn't, and
-- nothing was asked of it or of the books.
abbrev pub LimitedEnds : {S L B R : Type 0} → CallerOf L S → KeptOf B → BooksOf B → (R → Stream) → S → Bool → L × L
    → B × R → ConnectionEnd → L × L → B × R → Type 0
LimitedEnds calls K own words stream true callers old end callers' new = (exchange : Result Exchange ServeFault)
    × (end ≡ Some (served_in exchange))
    × ServesInTime calls K own words stream callers.0 callers.1 old exchange callers'.0 callers'.1 new
LimitedEnds calls K own words stream false callers old end callers' new =
    (end ≡ None) × (callers'.0 ≡ callers.0) × (callers'.1 ≡ callers.1) × (new.0 ≡ old.0) × (new.1 ≡ old.1)

-- A connection that was taken ended so: two callers were made, its limits were asked for, and at last it was closed.
abbrev pub TakenEnds : {B R : Type 0} → (v : Sockets) → KeptOf B → BooksOf B → (R → Stream) → v.Stream
    → v.Listener → B × R → ConnectionEnd → v.Listener → B × R → Type 0
TakenEnds v K own words stream listener old end listener' new =
    (reads writes : v.Caller) × (mid ready : v.Listener) × v.listens.caller_made listener reads mid
    × v.listens.caller_made mid writes ready
    × (both : Bool) × (callers callers' : v.Caller × v.Caller) × Limits v.calls stream (reads, writes) both callers
    × LimitedEnds v.calls K own words stream both callers old end callers' new
    × v.listens.closed ready stream callers'.0 callers'.1 listener'

-- What comes of a connection that was asked for: where it couldn't be taken, `PAUSE` was waited for, and nothing was
-- served.
abbrev pub AskedEnds : {B R : Type 0} → (v : Sockets) → KeptOf B → BooksOf B → (R → Stream)
    → Result v.Stream Error → v.Listener → B × R → ConnectionEnd → v.Listener → B × R → Type 0
AskedEnds v K own words (Ok stream) mid old end listener new = TakenEnds v K own words stream mid old end listener new
AskedEnds v K own words (Err why) mid old end listener new =
    v.listens.waited mid PAUSE listener × (end ≡ None) × (new.0 ≡ old.0) × (new.1 ≡ old.1)

-- A connection was asked for, and ended so, over books and a source.
abbrev pub Connects : {B R : Type 0} → (v : Sockets) → KeptOf B → BooksOf B → (R → Stream)
    → v.Listener × (B × R) → ConnectionEnd → v.Listener × (B × R) → Type 0
Connects v K own words old end new = (got : Result v.Stream Error) × (mid : v.Listener)
    × v.listens.taken old.0 got mid × AskedEnds v K own words got mid old.1 end new.0 new.1

-- The fault of a request that wasn't served.
abbrev pub connection_fault : ServeFault → Fault
connection_fault serve.Closed = Closed
connection_fault serve.Read = Read
connection_fault serve.Memory = Memory
connection_fault (serve.Write acted) = Write

-- The fault of a connection that ended so: one that couldn't be taken is closed.
abbrev pub connection_end : ConnectionEnd → Result (Unit {0}) Fault
connection_end (Some (Ok served)) = Ok tt
connection_end (Some (Err why)) = Err (connection_fault why)
connection_end None = Err Closed

-- The fault that is reported, if there is one.
abbrev pub faults_at : Result (Unit {0}) Fault → List Fault
faults_at (Ok done) = []
faults_at (Err fault) = fault ∷ []

-- A connection was asked for, and ended so; and its fault was reported, if there was one.
abbrev pub ConnectsAndTells : {B R F : Type 0} → (v : Sockets) → KeptOf B → BooksOf B → (R → Stream)
    → (F → Fault → F → Type 0) → (v.Listener × (B × R)) × F → ConnectionEnd → (v.Listener × (B × R)) × F → Type 0
ConnectsAndTells v K own words tells old end new =
    Connects v K own words old.0 end new.0 × ReportsAll tells old.1 (faults_at (connection_end end)) new.1

-- So many connections were asked for, and their faults were reported, each in its order. What came of their requests
-- came over the books as over their histories.
pub record ServesEach {B R F : Type 0} (v : Sockets) (K : KeptOf B) (own : BooksOf B) (words : R → Stream)
    (tells : F → Fault → F → Type 0) (count : ℕ) (listener : v.Listener) (old : B × R) (faults : F) (new : B × R)
    (faults' : F) : Type 0 where
  pub ends : List ConnectionEnd
  pub last : v.Listener
  pub all : length ends ≡ count
  pub connects : Passes (ConnectsAndTells v K own words tells) ((listener, old), faults) ends ((last, new), faults')
  pub happened : Passes (ConnectionHappens K own words) old ends new
