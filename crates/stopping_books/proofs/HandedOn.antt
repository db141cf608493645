-- What a sink is handed on by another one that stands before it, up to a call that fails; and what such a walk leaves.
use Rattle.std.proofs.Common.{◌≡◌, Bool, true, false, List, [], ◌∷◌, ◌++◌, Result, Ok, Err, ap, sym, ◌∙◌, subst, inl}
use Rattle.std.proofs.Common.{inr, is_some, Some, refl, rules}
use Rattle.std.proofs.lemmas.Bool.{false≢true}
use Rattle.keycard_rules.specs.{declared.kept.Kept.Ghosts as KeptOf, Calls.Passes}
use Rattle.hotel_books.specs.Books.Walks.{TakesPrefix, Hands, WalksOver, failure_of}
use Rattle.hotel_model.specs.{Rows.Rows, Refinement.Lookups.codes_in}
use Rattle.keycard_rules.specs.declared.issued.LookFault.{LookFault}
use Rattle.stopping_books.specs.Stops.{counts, CountsFailure, EndsAs, MakesCall, Stopping, StopsEither}
use Rattle.std.proofs.lemmas.List.{append-nil}
use Rattle.hotel_books.specs.declared.books.walks.WalkFault.{WalkFault}
use Rattle.stopping_books.specs.declared.stopping_walks.Passing.{Passing}
use Rattle.hotel_books.specs.declared.books.walks.WalkFault.TheVariants as why

-- what books say of their state, as `StoppingBooks` does
abbrev of_stopping : KeptOf Stopping
of_stopping = record {
  issued = λ b. codes_in b.rows;
  is_clean = λ _. Unit {0};
  is_honest = λ _. Unit {0};
  leaves_no_more = λ _ _. Unit {0};
  look_up_fails = λ _ _. Unit {0};
  is_kept = λ a b. b.rows ≡ a.rows;
  failures = counts;
  disk_failures = λ _. 0;
  never_fails = ⊥;
  never_store = λ a never. absurd never;
  clean_honest = λ a clean. clean;
  kept_refl = λ a. refl;
  kept_trans = λ a b c h k. k ∙ h;
  no_more_refl = λ a. tt;
  no_more_trans = λ a b c h k. tt;
  kept_issued = λ a b h. ap (λ rows. codes_in rows) h;
}

module _ {S R : Type 0} (after after_stop : S → R → S → Type 0) where
  -- the row was handed on
  abbrev pub Passed : Passing S → R → Passing S → Type 0
  Passed old row new = (new.sink.ghost_name ≡ old.sink.ghost_name) × after old.sink.now row new.sink.now
      × MakesCall old.calls new.calls false

  -- it stopped at the row
  abbrev pub PassedNot : Passing S → R → Passing S → Type 0
  PassedNot old row new = (new.sink.ghost_name ≡ old.sink.ghost_name)
      × StopsEither new.failed (new.sink.now ≡ old.sink.now) (after_stop old.sink.now row new.sink.now)
      × MakesCall old.calls new.calls new.failed

  took : (rows : List R) (a b : Passing S)
      → Passes Passed a rows b → (b.sink.ghost_name ≡ a.sink.ghost_name) × Passes after a.sink.now rows b.sink.now
  took [] a b t = (ap (λ (p : Passing S). p.sink.ghost_name) t, ap (λ (p : Passing S). p.sink.now) t)
  took (row ∷ rows) a b t =
      let later = took rows t.0 b t.2 in
      (later.0 ∙ t.1.0, (t.0.sink.now, t.1.1, later.1))

  -- the sink behind is the same one at the end of the walk
  same_sink : (rows : List R) (a b : Passing S) (end : Result (Unit {0}) WalkFault)
      → Hands Passed PassedNot rows a b end → b.sink.ghost_name ≡ a.sink.ghost_name
  same_sink rows a b (Ok done) h = (took rows a b h).0
  same_sink rows a b (Err why.Stopped) h = h.6.0 ∙ (took h.0 a h.4 h.5).0
  same_sink rows a b (Err why.Memory) h = (took h.0 a b h.3).0
  same_sink rows a b (Err why.Store) h = (took h.0 a b h.3).0

  -- a walk that failed handed over a prefix
  failed_after : (rows : List R) (x y : S) (end : Result (Unit {0}) WalkFault) (cause : LookFault)
      → failure_of end ≡ Some cause → TakesPrefix after rows x y → Hands after after_stop rows x y end
  failed_after rows x y (Ok done) cause some prefix = absurd (false≢true (ap is_some some))
  failed_after rows x y (Err why.Stopped) cause some prefix = absurd (false≢true (ap is_some some))
  failed_after rows x y (Err why.Memory) cause some prefix = prefix
  failed_after rows x y (Err why.Store) cause some prefix = prefix

  stopped_at : (by_call : Bool) (rows taken : List R) (row : R) (rest : List R) (x last y : S)
      (end : Result (Unit {0}) WalkFault) (cause : LookFault) → rows ≡ taken ++ row ∷ rest → Passes after x taken last
      → StopsEither by_call (y ≡ last) (after_stop last row y) → EndsAs cause (Err why.Stopped) by_call end
      → Hands after after_stop rows x y end
  stopped_at true rows taken row rest x last y end cause e prefix stop ends =
      failed_after rows x y end cause ends (taken, row ∷ rest, e, subst (Passes after x taken) (sym stop) prefix)
  stopped_at false rows taken row rest x last y end cause e prefix stop ends =
      subst (Hands after after_stop rows x y) (sym ends) (taken, row, rest, e, last, prefix, stop)

  -- what the sink before took, the sink behind took as the walk's end says
  passed_on : (rows : List R) (a b : Passing S) (beneath end : Result (Unit {0}) WalkFault) (cause : LookFault)
      → EndsAs cause beneath b.failed end → Hands Passed PassedNot rows a b beneath
      → Hands after after_stop rows a.sink.now b.sink.now end
  passed_on rows a b (Ok done) end cause (inl e) h =
      subst (Hands after after_stop rows a.sink.now b.sink.now) (sym e) (took rows a b h).1
  passed_on rows a b (Ok done) end cause (inr some) h =
      failed_after rows _ _ end cause some (rows, [], sym (append-nil rows), (took rows a b h).1)
  passed_on rows a b (Err why.Stopped) end cause ends h =
      stopped_at b.failed rows h.0 h.1 h.2 a.sink.now h.4.sink.now b.sink.now end cause h.3
      (took h.0 a h.4 h.5).1 h.6.1 ends
  passed_on rows a b (Err why.Memory) end cause ends h =
      subst (Hands after after_stop rows a.sink.now b.sink.now) (sym ends) (h.0, h.1, h.2, (took h.0 a b h.3).1)
  passed_on rows a b (Err why.Store) end cause ends h =
      subst (Hands after after_stop rows a.sink.now b.sink.now) (sym ends) (h.0, h.1, h.2, (took h.0 a b h.3).1)

  -- So a walk of a list hands its rows to the sink behind, which is the one that was given, from that sink as it was.
  -- It leaves what a look-up does, where its end leaves the rows and is counted.
  pub walked : {takes_memory : Bool} {inside old : Stopping} {named : _} {start : S} (listed : Rows → List R)
      (new : Stopping) (end beneath : Result (Unit {0}) WalkFault) (a b : Passing S) (cause : LookFault) → inside ≡ old
      → a.sink.ghost_name ≡ named → a.sink.now ≡ start
      → (rows : List R) × Hands Passed PassedNot rows a b beneath × (Unit {0} → rows ≡ listed inside.rows)
      → EndsAs cause beneath b.failed end → new.rows ≡ old.rows → CountsFailure (failure_of end) old new
      → (named ≡ b.sink.ghost_name)
      × WalksOver of_stopping takes_memory after after_stop (listed old.rows) old new start b.sink.now end
  walked listed new end beneath a b cause is_old is_named begun (rows, handed, all) ends same counted = (
    sym (same_sink rows a b beneath handed ∙ is_named),
    record {
      hands = (
        rows,
        subst (λ s. Hands after after_stop rows s b.sink.now end) begun
            (passed_on rows a b beneath end cause ends handed),
        λ honest. all honest ∙ ap (λ (b : Stopping). listed b.rows) is_old,
      );
      looks = record {
        leaves = record {
          since = record { was_clean = λ h. h; was_honest = λ h. h; counted = counted.no_fewer; disk = search rules };
          counted = λ _. counted.counted;
          vouched = λ _ _. tt;
          stays = λ _ _. inl tt;
        };
        rose = counted.rose;
        kept = λ _. same;
        cause = λ _ _. tt;
        stop = tt;
        sure = λ never. absurd never;
      };
    },
  )
