-- Connections, one more at a time.
use Rattle.std.proofs.Common.{◌≡◌, ℕ, Bool, List, [], ◌∷◌, ◌++◌, refl, sym, ap, subst}
use Rattle.std.proofs.Common.{Option, Some, None, Result, Ok, Err, true, false, inl, inr}
use Rattle.std.specs.declared.io.Error.{Error}
use Rattle.rand_core.specs.Stream.{Stream}
use Rattle.keycard_rules.specs.{declared.kept.Kept.Ghosts as KeptOf, Leaves.Leaves, Calls.Passes}
use Rattle.hotel_books.specs.declared.books.Books.{Ghosts as BooksOf}
use Rattle.keycard_rules.proofs.CallsTogether.{passes_join, together}
use Rattle.hotel_model.proofs.{Invariants.Assurance.assured, LeadsOn.leads_as}
use Rattle.hotel_model.specs.History.{History}
use Rattle.hotel_core.specs.Books.Happens.{Happens}
use Rattle.hotel_core.specs.Books.Happens.{HappensBy}
use Rattle.hotel_core.proofs.OfCode.StopsAfter.{no_stops, stops_then}
use Rattle.hotel_http.specs.Serve.{Answered, Comes, Serves}
use Rattle.hotel_http.specs.declared.origins.Origins.TheVariants.{Local}
use Rattle.hotel_http.specs.declared.serve.Served.{Served}
use Rattle.hotel_http.specs.declared.serve.ServeFault.{ServeFault}
use Rattle.hotel_http.specs.declared.serve.ServeFault.TheVariants.{Closed, Read, Memory, Write}
use Rattle.hotel_http.specs.{Body.interim_where, Serve.ServesOver, Serve.served_in}
use Rattle.hotel_program.specs.Connections.{AllCame, AskedEnds, ConnectionCame, ConnectionEnd, ConnectionHappens}
use Rattle.hotel_program.specs.Connections.{ConnectsAndTells, LimitedEnds, ThrowsAway, ServersFollow, Sockets}
use Rattle.hotel_program.specs.declared.listener.Caller.{Ghosts as CallerOf}
use Rattle.hotel_program.specs.Timed.{Reads}
use Rattle.hotel_program.specs.declared.faults.Fault.{Fault}

module _ {S R : Type 0} (K : KeptOf S) (own : BooksOf S) (stream : R → Stream) where
  -- Nothing was begun of a connection of which this is a way to end.
  pub idle_served : (end : ConnectionEnd) (old new : S × R)
      → ((h : History) (s : Stream) → ConnectionCame end h s [] h s) → new.0 ≡ old.0 → new.1 ≡ old.1
      → ConnectionHappens K own stream old end new
  idle_served end old new came e f = record {
    told = [];
    happened = subst (λ (b : S). Happens K own.rows old.0 (λ h h'. ConnectionCame end h (stream old.1) [] h'
        (stream new.1)) b) (sym e) (λ honest h reached stands. (
          h,
          reached,
          stands,
          subst (λ (r : R). ConnectionCame end h (stream old.1) [] h (stream r)) (sym f)
              (came h (stream old.1)),
          assured h reached,
        ));
    calls = e;
    stops = no_stops e;
  }

  -- A request was served: where it wasn't begun, books and source are as they were.
  pub request_served : (old new : S × R) (before : Bool → List ℕ) (known left text text' : Option (List ℕ))
      (result : Result Served ServeFault)
      → Serves Local known left text text' ((new.0 ≡ old.0) × (new.1 ≡ old.1))
      (λ wanted awaited end. HappensBy K own old.0
      (Answered (Comes wanted) (stream old.1) (stream new.1) (before awaited) text text' end) new.0) result
      → ConnectionHappens K own stream old (Some result) new
  request_served old new before known left text text' (Ok served) went = record {
    told = went.3.told;
    happened = λ honest. leads_as (λ h h' a. (went.0, a.0, a.1, (a.2.0, a.2.1))) (went.3.happened honest);
    calls = went.3.calls;
    stops = went.3.stops;
  }
  request_served old new before known left text text' (Err (Write acted)) (inl went) = record {
    told = went.3.told;
    happened = λ honest. leads_as (λ h h' a. inl (went.0, a.0, a.1, a.2.0)) (went.3.happened honest);
    calls = went.3.calls;
    stops = went.3.stops;
  }
  request_served old new before known left text text' (Err (Write acted)) (inr went) =
      idle_served (Some (Err (Write acted))) old new (λ h s. inr (went.1, (refl, refl, refl))) went.0.0 went.0.1
  request_served old new before known left text text' (Err Closed) went =
      idle_served (Some (Err Closed)) old new (λ h s. (refl, refl, refl)) went.0.0 went.0.1
  request_served old new before known left text text' (Err Read) went =
      idle_served (Some (Err Read)) old new (λ h s. (refl, refl, refl)) went.0.0 went.0.1
  request_served old new before known left text text' (Err Memory) went =
      idle_served (Some (Err Memory)) old new (λ h s. (refl, refl, refl)) went.0.0 went.0.1

  pub stream_served : (old new : S × R) (known left text text' : Option (List ℕ)) (end : Result Served ServeFault)
      → ServesOver Local K own stream known left text text' old new end
      → ConnectionHappens K own stream old (Some end) new
  stream_served old new known left text text' end served =
      request_served old new interim_where known left text text' end served

  -- the same bytes
  pub same_served : {a a' b b' c c' d d' : Option (List ℕ)} (old new : S × R) (end : Result Served ServeFault)
      → a ≡ a' → b ≡ b' → c ≡ c' → d ≡ d' → ServesOver Local K own stream a b c d old new end
      → ServesOver Local K own stream a' b' c' d' old new end
  same_served {a = a} {b = b} {b' = b'} {c = c} {c' = c'} {d' = d'} old new end e f g h served =
      subst (λ (o : Option (List ℕ)). ServesOver Local K own stream o b' c' d' old new end) e
      (subst (λ (o : Option (List ℕ)). ServesOver Local K own stream a o c' d' old new end) f
      (subst (λ (o : Option (List ℕ)). ServesOver Local K own stream a b o d' old new end) g
      (subst (λ (o : Option (List ℕ)). ServesOver Local K own stream a b c o old new end) h served)))

  -- connections that were served one after the other
  all_went : (old new : S × R) (ends : List ConnectionEnd) → Passes (ConnectionHappens K own stream) old ends new
      → HappensBy K own old.0 (λ told h h'. AllCame ends h (stream old.1) told h' (stream new.1)) new.0
  all_went old new [] p = record {
    told = [];
    happened = subst
        (λ (x : S × R). Happens K own.rows old.0 (λ h h'. AllCame [] h (stream old.1) [] h' (stream x.1)) x.0)
        (sym p) (λ honest h reached stands.
        (h, reached, stands, (refl, refl, refl), assured h reached));
    calls = ap (λ (x : S × R). x.0) p;
    stops = no_stops (ap (λ (x : S × R). x.0) p);
  }
  all_went old new (end ∷ ends) p =
      let rest = all_went p.0 new ends p.2 in
      record {
        told = p.1.told ++ rest.told;
        happened = λ honest h reached stands.
            let before = (together K p.0.0 new.0 rest.told rest.calls).since.was_honest honest in
            let k = p.1.happened before h reached stands in
            let l = rest.happened honest k.0 k.1 k.2 in
            (l.0, l.1, l.2, (k.0, stream p.0.1, p.1.told, rest.told, k.3, l.3, refl), l.4);
        calls = passes_join (Leaves K) old.0 p.0.0 new.0 p.1.told rest.told p.1.calls rest.calls;
        stops = stops_then p.1.stops rest.stops;
      }

  pub servers_follow : ServersFollow K own stream
  servers_follow old new ends p =
      let went = all_went old new ends p in
      record { went = went; leaves = together K old.0 new.0 went.told went.calls }

module _ {S R : Type 0} (v : Sockets) (K : KeptOf S) (own : BooksOf S) (words : R → Stream) where
  -- nothing was asked of the books
  none_happened : (end : ConnectionEnd) (old new : S × R) → end ≡ None → new.0 ≡ old.0 → new.1 ≡ old.1
      → ConnectionHappens K own words old end new
  none_happened end old new none e f =
      subst (λ (o : ConnectionEnd). ConnectionHappens K own words old o new) (sym none)
      (idle_served K own words None old new (λ h s. (refl, refl, refl)) e f)

  limited_happened : (stream : v.Stream) (both : Bool) (callers callers' : v.Caller × v.Caller) (old new : S × R)
      (end : ConnectionEnd) → LimitedEnds v.calls K own words stream both callers old end callers' new
      → ConnectionHappens K own words old end new
  limited_happened stream true callers callers' old new end (exchange, is, served) =
      subst (λ (o : ConnectionEnd). ConnectionHappens K own words old o new) (sym is)
      (stream_served K own words old new _ _ _ _ (served_in exchange) served.serves)
  limited_happened stream false callers callers' old new end (none, same, same', e, f) =
      none_happened end old new none e f

  asked_happened : (got : Result v.Stream Error) (mid listener : v.Listener) (old new : S × R) (end : ConnectionEnd)
      → AskedEnds v K own words got mid old end listener new → ConnectionHappens K own words old end new
  asked_happened (Ok stream) mid listener old new end ends =
      limited_happened stream ends.6 ends.7 ends.8 old new end ends.10
  asked_happened (Err why) mid listener old new end ends = none_happened end old new ends.1 ends.2 ends.3

  -- what came of connections, apart from their listener and the reports of their faults
  pub all_happened : {F : Type 0} (tells : F → Fault → F → Type 0) (old new : (v.Listener × (S × R)) × F)
      (ends : List ConnectionEnd) → Passes (ConnectsAndTells v K own words tells) old ends new
      → Passes (ConnectionHappens K own words) old.0.1 ends new.0.1
  all_happened {F = F} tells old new [] p = ap (λ (x : (v.Listener × (S × R)) × F). x.0.1) p
  all_happened tells old new (end ∷ ends) p = (
    p.0.0.1,
    asked_happened p.1.0.0 p.1.0.1 p.0.0.0 old.0.1 p.0.0.1 end p.1.0.3,
    all_happened tells p.0 new ends p.2,
  )

module _ {S L : Type 0} (calls : CallerOf L S) where
  -- what was read behind an answer
  pub lingered_behind : (stream its : S) (follows : Bool) (read : Reads L) (new : L) → its ≡ stream → follows ≡ true
      → ThrowsAway calls its true read new → ThrowsAway calls stream follows read new
  lingered_behind stream its follows read new same e lingers =
      subst (λ (s : S). ThrowsAway calls s follows read new) same
      (subst (λ (b : Bool). ThrowsAway calls its b read new) (sym e) lingers)

  pub none_behind : (stream : S) (follows : Bool) (read : Reads L) (new : L) → follows ≡ false → new ≡ read.caller
      → ThrowsAway calls stream follows read new
  none_behind stream follows read new e same =
      subst (λ (b : Bool). ThrowsAway calls stream b read new) (sym e) same
