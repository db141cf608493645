-- Why a statement failed, said from before an earlier one that was answered.
use Rattle.std.proofs.Common.{◌≡◌, inl, inr, sym, subst, ◌∙◌, List, ℕ, None, Ok, All, arith}
use Rattle.sqlite_trees.specs.declared.error.StoreError.{StoreError}
use Rattle.sqlite_trees.specs.declared.error.StoreError.TheVariants.{OutOfMemory, Io, Corrupt, Full, Broken, Unstorable}
use Rattle.sqlite_resolve.specs.declared.compiled.Compiled.{Compiled}
use Rattle.sqlite.specs.Order.{Row}
use Rattle.sqlite.specs.Effect.{Database, RefusesToRead}
use Rattle.sqlite.specs.Listing.{understood, reads_listing, IsSourceOf}
use Rattle.sqlite.specs.Clock.{timed}
use Rattle.sqlite.specs.State.{State, HasCleanDisk, IsUnchanged, IsRolledBack, IsNoStatement, IsStatement, IsNotRun}
use Rattle.sqlite.specs.State.{Fails}
use Rattle.sqlite.specs.State.{FailsToShow, FailsToQuery}
use Rattle.sqlite.specs.State as sqlite
use Rattle.sqlite.specs.declared.error.Error.{Error}
use Rattle.sqlite.proofs.Callers.{IsPlain}
use Rattle.sqlite.specs.Query.{Query}
use Rattle.hotel_statements.specs.Schema.{desk_schema}
use Rattle.hotel_statements.specs.Books.{IsKept, IsBooks}
use Rattle.hotel_statements.specs.LookUps.{Asks, ShowsUnread, FailsAt, LeavesNoMore}
use Rattle.hotel_statements.specs.Walks.{ShowsMany, WalkFails}
use Rattle.hotel_statements.proofs.Looked.{plain_in}

module _ (old mid new : State) (same : IsUnchanged old mid) (crash : LeavesNoMore old mid) where
  pub unchanged_then : IsUnchanged mid new → IsUnchanged old new
  unchanged_then then = (
    record {
      was_open = same.0.was_open;
      is_open = then.0.is_open;
      now_is = then.0.now_is ∙ same.0.now_is;
      committed_is = then.0.committed_is ∙ same.0.committed_is;
      mode = then.0.mode ∙ same.0.mode;
    },
    record { changes = then.1.changes ∙ same.1.changes; last_rowid = then.1.last_rowid ∙ same.1.last_rowid },
    then.2 ∙ same.2,
  )

  back_then : IsRolledBack mid new → IsRolledBack old new
  back_then back = record {
    was_open = λ _. same.0.was_open;
    undone = λ is_open. let it = back.undone is_open in (it.0 ∙ same.0.committed_is, it.1 ∙ same.0.committed_is);
    autocommit = back.autocommit;
    unmarked = back.unmarked;
    counts = record {
      changes = back.counts.changes ∙ same.1.changes;
      last_rowid = back.counts.last_rowid ∙ same.1.last_rowid;
    };
  }

  cause_then : (cause : StoreError) → sqlite.HasCause mid new ⊥ cause → sqlite.HasCause old new ⊥ cause
  cause_then OutOfMemory h = tt
  cause_then Io h = omega (arith, crash.counts, h)
  cause_then Corrupt h = omega (arith, crash.counts, h)
  cause_then Full h = omega (arith, crash.counts, h)
  cause_then Broken h = absurd (let was = same.0.is_open in cc)
  cause_then Unstorable h = h

  fails_then : (e : Error) → Fails mid new ⊥ e → Fails old new ⊥ e
  fails_then e h = (h.0, h.1, cause_then h.0 h.2, back_then h.3, h.4)

  module _ (text : List ℕ) (params : Row) where
    is_then : (c : Compiled) → IsStatement mid text params c → IsStatement old text params c
    is_then c it = record {
      is = subst (λ (d : Database). understood d.schema text ≡ Ok c) same.0.now_is it.is;
      whole = it.whole;
      given = it.given;
      now = it.now;
    }

    no_then : (e : Error) → IsNoStatement mid text params e → IsNoStatement old text params e
    no_then e h = subst (λ (d : Database). IsNoStatement (record mid { now = d }) text params e) same.0.now_is h

    shows_then : (c : Compiled) (full : Row) (e : Error) → FailsToShow mid new text c full e None
        → FailsToShow old new text c full e None
    shows_then c full e h =
        let db = h.0 in
        let source = subst (λ (d : Database). IsSourceOf (reads_listing d.schema text) d db) same.0.now_is h.1 in
        let refuses = subst (λ limit. RefusesToRead limit c.command db full e) crash.limit h.2 in
        (db, source, refuses, unchanged_then h.3)

    pub query_then : (e : Error) → IsPlain (understood mid.now.schema text) → FailsToQuery text params mid new e
        → FailsToQuery text params old new e
    unfolding FailsToQuery IsNotRun is_then
    query_then e plain (inl (inl h)) = inl (inl (no_then e h.0, unchanged_then h.1))
    query_then e plain (inl (inr h)) = inl (inr (fails_then e h))
    query_then e plain (inr h) =
        let c = h.0 in
        let it = h.1 in
        let none = (subst IsPlain it.is plain).0 in
        let full = timed params c.formats it.now in
        let shows = shows_then c full e (subst (FailsToShow mid new text c full e) none h.2) in
        inr (c, is_then c it, subst (FailsToShow old new text c full e) (sym none) shows)

-- ---- two statements in turn, where the disk returned what was written

module _ (old mid new : State) (was_clean : HasCleanDisk new → HasCleanDisk mid)
    (unchanged : HasCleanDisk mid → IsUnchanged old mid)
    (crash : LeavesNoMore old mid) where
  pub then_unchanged : (HasCleanDisk new → IsUnchanged mid new) → HasCleanDisk new → IsUnchanged old new
  then_unchanged then clean = unchanged_then old mid new (unchanged (was_clean clean)) crash (then clean)

  module _ (text : List ℕ) (params : Row) (q : Query) (asks : Asks text q) (books : IsBooks mid)
      (clean : HasCleanDisk new) where
    same : IsUnchanged old mid
    same = unchanged (was_clean clean)

    plain : IsPlain (understood mid.now.schema text)
    plain = plain_in text q mid asks (books.desk (was_clean clean, same.0.is_open))

    was_kept : IsKept mid → IsKept old
    was_kept kept = (omega (arith, crash.clean, kept.0), same.0.was_open)

    pub error_later : (e : Error) → FailsToQuery text params mid new e → FailsToQuery text params old new e
    error_later e h = query_then old mid new same crash text params e plain h

    pub fails_later : (IsReadable : Row → Type 0) → FailsAt IsReadable text params mid new
        → FailsAt IsReadable text params old new
    fails_later IsReadable (inl h) = inl (h.0, h.1, error_later h.0 h.2)
    fails_later IsReadable (inr h) =
        inr (
          was_kept h.0,
          subst (λ (d : Database). ShowsUnread desk_schema IsReadable text params d.trees) same.0.now_is h.1,
        )

    pub walk_fails_later : (IsReadable : Row → Type 0) → WalkFails IsReadable text params mid new
        → WalkFails IsReadable text params old new
    walk_fails_later IsReadable (inl h) = inl (fails_later IsReadable h)
    walk_fails_later IsReadable (inr h) =
        inr (was_kept h.0, subst (λ (d : Database). ShowsMany text params d.trees) same.0.now_is h.1)

pub clean_before : (old new : State) → LeavesNoMore old new → HasCleanDisk new → HasCleanDisk old
clean_before old new crash clean = omega (arith, crash.clean, clean)

-- rows that aren't read by one reader aren't by another
pub walk_unread : (P Q : Row → Type 0) (text : List ℕ) (params : Row) (old new : State)
    → (IsKept old → (rows : List Row) → All Q rows → All P rows)
    → WalkFails P text params old new → WalkFails Q text params old new
walk_unread P Q text params old new gives (inl (inl h)) = inl (inl h)
walk_unread P Q text params old new gives (inl (inr h)) =
    let shows = h.1 in
    inl (inr (h.0, (shows.0, shows.1, shows.2, shows.3, λ all. shows.4 (gives h.0 shows.2 all))))
walk_unread P Q text params old new gives (inr h) = inr h
