-- Readings of tables that are made in turn.
use Rattle.std.proofs.Common.{◌≡◌, ◌⊎◌, inl, inr, sym, subst, List, [], ℕ, Ok, Err, Result, IsTrue}
use Rattle.sqlite.specs.Order.{Row}
use Rattle.sqlite.specs.Tree.{Trees}
use Rattle.sqlite.specs.Query.{Query}
use Rattle.sqlite.specs.Effect.{Database}
use Rattle.sqlite.specs.Listing.{understood}
use Rattle.sqlite.specs.State.{State, HasCleanDisk, IsUnchanged}
use Rattle.sqlite.proofs.Callers.{IsPlain}
use Rattle.keycard_rules.specs.declared.issued.LookFault.{LookFault}
use Rattle.hotel_statements.specs.declared.version.Version.{Version}
use Rattle.hotel_statements.specs.declared.version.Version.TheVariants.{First, Second}
use Rattle.sqlite.specs.Schema.{Schema}
use Rattle.hotel_statements.specs.Schema.{HasTablesOf}
use Rattle.hotel_statements.specs.Books.{IsKept}
use Rattle.hotel_statements.specs.LookUps.{AsksOf, ShowsUnread, FailsIn, LeavesNoMore}
use Rattle.hotel_statements.specs.WholeTables.{IsOurs, ReadsIf, ReadsPart, BeginsAs, LastFail, FitRowsFail}
use Rattle.hotel_statements.specs.PlainRows.{code_shown, card_shown, numbered_shown, note_shown, fit_shown}
use Rattle.hotel_statements.specs.Texts as texts
use Rattle.hotel_statements.proofs.Keeps.{then_keeps, then_survives}
use Rattle.hotel_statements.proofs.Whole.{code_whole, card_whole, inside_whole, note_whole, fit_whole}
use Rattle.hotel_statements.proofs.Since.{query_then, unchanged_then, clean_before}

-- a cause since an answered reading is one since before it
abbrev pub IsLater : Version → (State → State → Type 0) → Type 1
IsLater version Fails = (old mid new : State)
    → (HasCleanDisk new → HasCleanDisk mid) → (HasCleanDisk mid → IsUnchanged old mid)
    → LeavesNoMore old mid → IsOurs version mid → HasCleanDisk new → Fails mid new → Fails old new

pub table_later : (version : Version) (text : List ℕ) (q : Query)
    → ((schema : Schema) → HasTablesOf version schema → AsksOf schema text q) → (IsReadable : Row → Type 0)
    → IsLater version (λ old new. FailsIn old.now.schema IsReadable text [] old new)
table_later version text q asks IsReadable old mid new was unchanged crash ours clean fails = go fails
  where
    same : IsUnchanged old mid
    same = unchanged (was clean)

    plain : IsPlain (understood mid.now.schema text)
    plain = (asks mid.now.schema (ours.tables (was clean, same.0.is_open)).0).plain

    go : FailsIn mid.now.schema IsReadable text [] mid new → FailsIn old.now.schema IsReadable text [] old new
    go (inl h) = inl (h.0, h.1, query_then old mid new same crash text [] h.0 plain h.2)
    go (inr h) =
        let kept : IsKept old = (clean_before old mid crash h.0.0, same.0.was_open) in
        inr
        (kept, subst (λ (d : Database). ShowsUnread d.schema IsReadable text [] d.trees) same.0.now_is h.1)

pub either_later : (version : Version) (Before Then : State → State → Type 0) → IsLater version Before
    → IsLater version Then
    → IsLater version (λ old new. Before old new ⊎ Then old new)
either_later version Before Then first then old mid new was unchanged crash ours clean (inl h) =
    inl (first old mid new was unchanged crash ours clean h)
either_later version Before Then first then old mid new was unchanged crash ours clean (inr h) =
    inr (then old mid new was unchanged crash ours clean h)

-- a reading that failed, as what another one was to be: its cause is one of the other's
pub not_read : {A R was : Type 0} (version : Version) (Before Then : State → State → Type 0)
    (SaysFirst : A → Trees → Type 0) (Says : R → Trees → Type 0)
    (old new : State) (fault : LookFault) (result : Result R LookFault)
    → result ≡ Err fault → (Before old new → Then old new)
    → ReadsIf was version Before SaysFirst old new (Err fault) → ReadsIf was version Then Says old new result
not_read {was = was} version Before Then SaysFirst Says old new fault result is gives reads =
    subst (ReadsIf was version Then Says old new) (sym is) (record {
      ours = reads.ours;
      keeps = reads.keeps;
      says = λ _. tt;
      open_on = λ _ _. tt;
      unchanged = λ _ _. tt;
      cause = λ clean other. gives (reads.cause clean other);
      crash = reads.crash;
    })

module _ {A B was : Type 0} (version : Version) (Before Then : State → State → Type 0) (SaysFirst : A → Trees → Type 0)
    (SaysThen : B → Trees → Type 0)
    (old mid new : State) (a : A) (first : ReadsPart version Before SaysFirst old mid (Ok a)) where
  pub second_failed : {R : Type 0} (Says : R → Trees → Type 0) (fault : LookFault) (result : Result R LookFault)
      → result ≡ Err fault → IsLater version Then
      → ReadsIf was version Then SaysThen mid new (Err fault)
      → ReadsPart version (λ s t. Before s t ⊎ Then s t) Says old new result
  second_failed Says fault result is later then =
      subst (ReadsPart version (λ s t. Before s t ⊎ Then s t) Says old new) (sym is) (record {
        ours = then.ours;
        keeps = then_keeps old mid new first.keeps then.keeps;
        says = λ _. tt;
        open_on = λ _ _. tt;
        unchanged = λ _ _. tt;
        cause = λ clean other. inr
            (later old mid new (clean_before mid new then.crash) (first.unchanged tt) first.crash first.ours clean
            (then.cause clean other));
        crash = then_survives old mid new (first.open_on tt) first.crash then.crash;
      })

  pub both_read : {R : Type 0} (Says : R → Trees → Type 0) (b : B) (r : R)
      → (HasCleanDisk mid → IsTrue mid.is_open → was)
      → ((db : Trees) → SaysFirst a db → SaysThen b db → Says r db) → ReadsIf was version Then SaysThen mid new (Ok b)
      → ReadsPart version (λ s t. Before s t ⊎ Then s t) Says old new (Ok r)
  both_read Says b r asked says then =
      let was_clean = clean_before mid new then.crash in
      let unchanged : HasCleanDisk new → IsUnchanged old new = λ clean.
      let same = first.unchanged tt (was_clean clean) in
      unchanged_then old mid new same first.crash (then.unchanged (asked (was_clean clean) same.0.is_open) clean) in
      record {
        ours = then.ours;
        keeps = then_keeps old mid new first.keeps then.keeps;
        says = λ kept.
            let after = then.keeps kept in
            let before = first.keeps after.0 in
            says old.now.trees (first.says after.0)
            (subst (λ (d : Database). SaysThen b d.trees) before.1 (then.says kept));
        open_on = λ _ clean. (unchanged clean).0.is_open;
        unchanged = λ _. unchanged;
        cause = λ _. tt;
        crash = then_survives old mid new (first.open_on tt) first.crash then.crash;
      }

  -- both, as a pair
  pub pair_read : (b : B) → (HasCleanDisk mid → IsTrue mid.is_open → was)
      → ReadsIf was version Then SaysThen mid new (Ok b)
      → ReadsPart version (λ s t. Before s t ⊎ Then s t) (λ (r : A × B) db. SaysFirst r.0 db
      × SaysThen r.1 db) old new (Ok (a, b))
  pair_read b asked then =
      both_read (λ (r : A × B) db. SaysFirst r.0 db × SaysThen r.1 db) b (a, b) asked (λ db one two. (one, two)) then

-- ---- the readings that come later

pub last_later : (version : Version) → IsLater version LastFail
last_later version =
    let code = code_whole version in
    let card = card_whole version in
    let inside = inside_whole version in
    let note = note_whole version in
    either_later version _ _
    (either_later version _ _ (table_later version texts.read_code code.query code.asks (BeginsAs code_shown))
    (table_later version texts.read_card card.query card.asks (BeginsAs card_shown)))
    (either_later version _ _ (table_later version texts.read_inside inside.query inside.asks (BeginsAs numbered_shown))
    (table_later version texts.read_note note.query note.asks (BeginsAs note_shown)))

pub fits_later : (version : Version) → IsLater version (FitRowsFail version)
fits_later First old mid new was unchanged crash ours clean fails = absurd fails
fits_later Second old mid new was unchanged crash ours clean fails =
    table_later Second texts.read_fit fit_whole.query fit_whole.asks
    (BeginsAs fit_shown) old mid new was unchanged crash ours clean fails
