-- What CREATE TABLE and CREATE INDEX do.
use Rattle.std.proofs.Common.{◌≡◌, ◌⊎◌, ◌+◌, ◌<◌, ◌≤◌, inl, inr, refl, sym, ap, subst, ◌∙◌, List, [], ◌∷◌, ◌++◌}
use Rattle.std.proofs.Common.{ℕ, zero, suc, false, IsTrue, arith}
use Rattle.std.proofs.Common.{Option, None, Result, Ok}
use Rattle.std.specs.List.{AllByRecursion}
use Rattle.sqlite_tied.specs.Compute.{everything}
use Rattle.sqlite.specs.Command.TheVariants.{CreateTable, CreateIndex}
use Rattle.sqlite.specs.Table.{Table}
use Rattle.sqlite.specs.Schema.{Schema}
use Rattle.sqlite.specs.Tree.{Trees}
use Rattle.sqlite.specs.Change.{created, indexed, next_tree, KeepsRows}
use Rattle.sqlite.specs.Does.{Tally, lacks_sequence, Does, AtPlace, Defines, MakesIndex}
use Rattle.sqlite_schema.specs.declared.schema.Index.{Index}
use Rattle.sqlite.specs.Listing.{understood}
use Rattle.sqlite.specs.Effect.{Database}
use Rattle.sqlite_trees.specs.declared.store.Store.{Ghosts}
use Rattle.sqlite.specs.Held.{Held}
use Rattle.sqlite.specs.State.{State, mode_of, Writes, ExecutesIn, ExecutesInside}
use Rattle.sqlite.specs.declared.error.Error.{Error}
use Rattle.sqlite.proofs.Callers.{runs_as}
use Rattle.hotel_statements.specs.Trees.{stay_tree, card_tree, fit_tree}
use Rattle.hotel_statements.specs.Texts.{create_meta, create_kind, create_room, create_stay, create_code, create_card}
use Rattle.hotel_statements.specs.Texts.{create_inside, create_note, create_fit, create_stay_room, create_card_party}
use Rattle.hotel_statements.specs.Texts.{create_stay_arrive}
use Rattle.hotel_statements.specs.declared.version.TheConstants.{INDEXES}
use Rattle.hotel_statements.specs.Schema.{no_schema, first_schema, tables_schema, with_indexes, desk_schema}
use Rattle.hotel_statements.specs.Schema.{meta_table, kind_table, room_table, stay_table, code_table, card_table}
use Rattle.hotel_statements.specs.Schema.{inside_table, note_table, fit_table, at_tree, stay_by_room, card_by_party}
use Rattle.hotel_statements.specs.Schema.{stay_by_arrival}
use Rattle.hotel_statements.specs.NewDesk.{IsMaker, IsIndexer, HasTable, HasIndex, HasIndexes, HasNew, IsBare}
use Rattle.hotel_statements.specs.NewDesk.{IfOpenBare, MakesTable, AddsTable, AddsIndex, AddsIndexes, MakesNew}
use Rattle.hotel_statements.specs.NewDesk.{with_meta, with_kind, with_room, with_stay, with_code}
use Rattle.hotel_statements.specs.NewDesk.{with_card, with_inside, with_note}
use Rattle.hotel_statements.specs.Statements.{Statement, MakesBy, index_text, makes_index, makes_indexes}
use Rattle.hotel_statements.proofs.InTurn.{made_then, made_as}
use Rattle.hotel_statements.proofs.Writing.{went, same_value}

pub creates : (schema : Schema) (text : List ℕ) (t : Table) (old new : State) (count : ℕ)
    → IsMaker schema text t → old.now.schema ≡ schema
    → ExecutesIn false text [] old new (Ok count)
    → (new.now.schema ≡ created schema t) × (new.now.trees (next_tree schema) ≡ [])
    × KeepsRows schema.tables old.now.trees new.now.trees
creates schema text t old new count maker has h =
    let w = subst (λ x. Writes old new None CreateTable x [] count) maker.whole
    (runs_as text [] old new schema has CreateTable maker.command maker.plain count h) in
    let all = went w.changed in
    let first = went all.1 in
    let made = first.1 in
    let same : made.table ≡ t = same_value (sym made.defined ∙ maker.defines) in
    let after : first.0.schema ≡ created schema t =
    made.is ∙ ap (λ s. created s made.table) has ∙ ap (created schema) same in
    let plain : lacks_sequence first.0.schema ≡ false = ap lacks_sequence after ∙ maker.uncounted in
    let now : new.now ≡ first.0 =
    ap (λ (p : Tally × Database). p.1) (same_value all.2) ∙ same_value (rw plain at first.2) in (
      ap (λ (d : Database). d.schema) now ∙ after,
      ap (λ (d : Database). d.trees (next_tree schema)) now
          ∙ subst (λ s. first.0.trees (next_tree s) ≡ []) has made.empty,
      subst (λ (d : Database). KeepsRows schema.tables old.now.trees d.trees) (sym now)
          (subst (λ (s : Schema). KeepsRows s.tables old.now.trees first.0.trees) has made.others),
    )

still_empty : (old new : Trees) (ts : List Table) (t : Table)
    → KeepsRows ts old new → AllByRecursion (λ (x : Table). old x.tree ≡ []) ts → new t.tree ≡ []
    → AllByRecursion (λ (x : Table). new x.tree ≡ []) (ts ++ t ∷ [])
still_empty old new [] t kept all none = (none, tt)
still_empty old new (x ∷ ts) t kept all none = (kept.0 ∙ all.0, still_empty old new ts t kept.1 all.1 none)

-- a step that makes a table, whatever the tables before and their rows are
pub adds : (schema : Schema) (text : List ℕ) (t : Table) (old new : State) (count : ℕ) → IsMaker schema text t
    → (IsTrue old.is_open → old.now.schema ≡ schema) → ExecutesInside 0 text [] old new (Ok count)
    → HasTable schema t old new
adds schema text t old new count maker has h =
    let did = creates schema text t old new count maker (has h.1.was_open) h.0 in
    record {
      inside = subst IsTrue (sym h.1.mode) refl;
      was_open = h.1.was_open;
      schema_is = did.0;
      rows = did.2;
      empty = did.1;
    }

-- a step of `create`, whatever the table is
pub makes : (schema : Schema) (text : List ℕ) (t : Table) (old new : State) (count : ℕ)
    → IsMaker schema text t → IsBare schema old → ExecutesInside 0 text [] old new (Ok count)
    → IsBare (created schema t) new
makes schema text t old new count maker bare h =
    let did = adds schema text t old new count maker (λ _. bare.schema_is) h in record {
      inside = did.inside;
      schema_is = did.schema_is;
      empty = still_empty old.now.trees new.now.trees schema.tables _ did.rows bare.empty did.empty;
    }

-- a step that makes an index, whatever the tables and their rows are
pub indexes : (schema : Schema) (text : List ℕ) (at : ℕ) (t : Table) (index : Index) (old new : State) (count : ℕ)
    → IsIndexer schema text at t index → (IsTrue old.is_open → old.now.schema ≡ schema)
    → ExecutesInside 0 text [] old new (Ok count) → HasIndex schema t index old new
indexes schema text at t index old new count maker has_open h =
    let has = has_open h.1.was_open in
    let db : Database = record old.now { schema = schema } in
    let out = λ (tally : Tally). let r : Result (Tally × Database) (Option Error) = Ok (tally, new.now) in r in
    let ran = runs_as text [] old new schema has (CreateIndex at) maker.command maker.plain count h.0 in
    let w = subst (λ x. Writes old new None (CreateIndex at) x [] count) maker.whole ran in
    let run = λ (d : Database). Does old.step_limit (mode_of old) [] d text None (CreateIndex at) (out w.tally) in
    let whole = subst (λ (s : Schema). run (record old.now { schema = s })) has w.changed in
    let made = went (subst (λ o. AtPlace (λ table. Defines (mode_of old) (MakesIndex text db table)) o (out w.tally))
    maker.there whole) in
    let did = made.1 in
    let same : did.index ≡ index = same_value (sym did.defined ∙ maker.defines) in
    let now : new.now ≡ made.0 = ap (λ (p : Tally × Database). p.1) (same_value made.2) in
    record {
      inside = subst IsTrue (sym h.1.mode) refl;
      was_open = h.1.was_open;
      is_open = h.1.is_open;
      committed = h.1.committed_is;
      schema_is = ap (λ (d : Database). d.schema) now ∙ did.is ∙ ap (indexed schema t) same;
      rows = subst (λ (d : Database). KeepsRows schema.tables old.now.trees d.trees) (sym now) did.rows;
      sound = w.sound;
    }

-- ---- the indexes of ours

keeps_then : (ts : List Table) (a b c : Trees) → KeepsRows ts a b → KeepsRows ts b c → KeepsRows ts a c
keeps_then [] a b c one two = tt
keeps_then (t ∷ ts) a b c one two = (two.0 ∙ one.0, keeps_then ts a b c one.1 two.1)

keeps_first : (ts more : List Table) (a b : Trees) → KeepsRows (ts ++ more) a b → KeepsRows ts a b
keeps_first [] more a b keeps = tt
keeps_first (t ∷ ts) more a b keeps = (keeps.0, keeps_first ts more a b keeps.1)

keeps_last : (ts : List Table) (t : Table) (a b : Trees) → KeepsRows (ts ++ t ∷ []) a b → b t.tree ≡ a t.tree
keeps_last [] t a b keeps = keeps.0
keeps_last (x ∷ ts) t a b keeps = keeps_last ts t a b keeps.1

pub make_stay_room : IsIndexer (with_indexes 0) create_stay_room 3 (at_tree stay_tree stay_table) stay_by_room
unfolding understood everything
make_stay_room = record { command = refl; whole = refl; plain = (refl, refl); there = refl; defines = refl }

pub make_card_party : IsIndexer (with_indexes 1) create_card_party 5 (at_tree card_tree card_table) card_by_party
unfolding understood everything
make_card_party = record { command = refl; whole = refl; plain = (refl, refl); there = refl; defines = refl }

pub make_stay_arrive : IsIndexer (with_indexes 2) create_stay_arrive 3 (at_tree stay_tree stay_table) stay_by_arrival
unfolding understood everything
make_stay_arrive = record { command = refl; whole = refl; plain = (refl, refl); there = refl; defines = refl }

one_index : (count : ℕ) (t : Table) (index : Index) (a b : State)
    → indexed (with_indexes count) t index ≡ with_indexes (count + 1)
    → (with_indexes count).tables ≡ tables_schema.tables → HasIndex (with_indexes count) t index a b
    → HasIndexes (count + 1) a b
one_index count t index a b next same did = record {
  inside = did.inside;
  was_open = did.was_open;
  is_open = did.is_open;
  committed = did.committed;
  schema_is = did.schema_is ∙ next;
  rows = subst (λ ts. KeepsRows ts a.now.trees b.now.trees) same did.rows;
  sound = did.sound;
}

-- each, where those before it are there
pub index_added : (at : ℕ) (a b : State) → at < INDEXES → AddsIndex (index_text at) a b → AddsIndexes at (at + 1) a b
index_added zero a b low adds has = one_index 0 _ _ a b refl refl (adds _ _ _ _ make_stay_room has)
index_added (suc zero) a b low adds has = one_index 1 _ _ a b refl refl (adds _ _ _ _ make_card_party has)
index_added (suc (suc zero)) a b low adds has = one_index 2 _ _ a b refl refl (adds _ _ _ _ make_stay_arrive has)
index_added (suc (suc (suc at))) a b low adds has = absurd (omega (arith, low))

-- so far none was made, and the database is as it was; or those up to a place were made
abbrev pub AddsSoFar : ℕ → ℕ → State → State → Type 0
AddsSoFar first at old new =
    ((at ≡ first) × (IsTrue new.is_open → IsTrue old.is_open) × (new.now ≡ old.now) × (new.committed ≡ old.committed))
    ⊎ ((first < at) × AddsIndexes first at old new)

pub none_added : (first : ℕ) (a : State) → AddsSoFar first first a a
none_added first a = inl (refl, λ is_open. is_open, refl, refl)

pub one_added : (first at : ℕ) (a b c : State) → first ≤ at → AddsSoFar first at a b → AddsIndexes at (at + 1) b c
    → AddsSoFar first (at + 1) a c
one_added first at a b c up so_far next = inr (omega (arith, up), λ has. go has so_far)
  where
    go : (IsTrue a.is_open → a.now.schema ≡ with_indexes first) → AddsSoFar first at a b → HasIndexes (at + 1) a c
    go has (inl none) =
        let did = next (λ is_open. ap (λ (d : Database). d.schema) none.2 ∙ has (none.1 is_open)
        ∙ ap with_indexes (sym none.0)) in
        record {
          inside = did.inside;
          was_open = none.1 did.was_open;
          is_open = did.is_open;
          committed = did.committed ∙ none.3;
          schema_is = did.schema_is;
          rows = subst (λ (d : Database). KeepsRows tables_schema.tables d.trees c.now.trees) none.2 did.rows;
          sound = did.sound;
        }
    go has (inr some) =
        let one = some.1 has in
        let two = next (λ _. one.schema_is) in
        record {
          inside = two.inside;
          was_open = one.was_open;
          is_open = two.is_open;
          committed = two.committed ∙ one.committed;
          schema_is = two.schema_is;
          rows = keeps_then tables_schema.tables a.now.trees b.now.trees c.now.trees one.rows two.rows;
          sound = two.sound;
        }

-- all
pub all_added : (first at : ℕ) (a b : State) → first < INDEXES → INDEXES ≤ at → at ≤ INDEXES
    → AddsSoFar first at a b → AddsIndexes first INDEXES a b
all_added first at a b low past up (inl none) = absurd (omega (arith, low, past, none.0))
all_added first at a b low past up (inr some) =
    let is : at ≡ INDEXES = omega (arith, past, up) in subst (λ n. AddsIndexes first n a b) is some.1

-- their statements
pub none_yet : (first : ℕ) → first < INDEXES → makes_indexes first first ≡ []
none_yet zero low = refl
none_yet (suc zero) low = refl
none_yet (suc (suc zero)) low = refl
none_yet (suc (suc (suc first))) low = absurd (omega (arith, low))

pub and_one : (first at : ℕ) → first ≤ at → at < INDEXES
    → makes_indexes first at ++ makes_index at ∷ [] ≡ makes_indexes first (at + 1)
and_one zero zero up low = refl
and_one zero (suc zero) up low = refl
and_one zero (suc (suc zero)) up low = refl
and_one (suc zero) (suc zero) up low = refl
and_one (suc zero) (suc (suc zero)) up low = refl
and_one (suc (suc zero)) (suc (suc zero)) up low = refl
and_one first at up low = absurd (omega (arith, up, low))

pub and_others : (first at : ℕ) → first ≤ at → at ≤ INDEXES
    → makes_indexes first at ++ makes_indexes at INDEXES ≡ makes_indexes first INDEXES
and_others zero zero up low = refl
and_others zero (suc zero) up low = refl
and_others zero (suc (suc zero)) up low = refl
and_others zero (suc (suc (suc zero))) up low = refl
and_others (suc zero) (suc zero) up low = refl
and_others (suc zero) (suc (suc zero)) up low = refl
and_others (suc zero) (suc (suc (suc zero))) up low = refl
and_others (suc (suc zero)) (suc (suc zero)) up low = refl
and_others (suc (suc zero)) (suc (suc (suc zero))) up low = refl
and_others (suc (suc (suc zero))) (suc (suc (suc zero))) up low = refl
and_others first at up low = absurd (omega (arith, up, low))

-- ---- the second version

abbrev the_fits : Table
the_fits = at_tree fit_tree fit_table

-- the table of the fits and the indexes, of eight tables with rows
pub all_new : (a b c : State) → HasTable first_schema fit_table a b → HasIndexes INDEXES b c → HasNew a c
all_new a b c one more =
    let first = keeps_first first_schema.tables (the_fits ∷ []) b.now.trees c.now.trees more.rows in
    record {
      inside = more.inside;
      was_open = one.was_open;
      schema_is = more.schema_is;
      rows = keeps_then first_schema.tables a.now.trees b.now.trees c.now.trees one.rows first;
      empty = keeps_last first_schema.tables the_fits b.now.trees c.now.trees more.rows ∙ one.empty;
    }

-- of eight empty tables
pub new_bare : (old new : State) → HasNew old new → IsBare with_note old → IsBare desk_schema new
new_bare old new did bare = record {
  inside = did.inside;
  schema_is = did.schema_is;
  empty = still_empty old.now.trees new.now.trees first_schema.tables the_fits did.rows bare.empty did.empty;
}

-- ---- the tables

pub make_meta : IsMaker no_schema create_meta meta_table
unfolding understood everything
make_meta = record { command = refl; whole = refl; plain = (refl, refl); defines = refl; uncounted = refl }

pub make_kind : IsMaker with_meta create_kind kind_table
unfolding understood everything
make_kind = record { command = refl; whole = refl; plain = (refl, refl); defines = refl; uncounted = refl }

pub make_room : IsMaker with_kind create_room room_table
unfolding understood everything
make_room = record { command = refl; whole = refl; plain = (refl, refl); defines = refl; uncounted = refl }

pub make_stay : IsMaker with_room create_stay stay_table
unfolding understood everything
make_stay = record { command = refl; whole = refl; plain = (refl, refl); defines = refl; uncounted = refl }

pub make_code : IsMaker with_stay create_code code_table
unfolding understood everything
make_code = record { command = refl; whole = refl; plain = (refl, refl); defines = refl; uncounted = refl }

pub make_card : IsMaker with_code create_card card_table
unfolding understood everything
make_card = record { command = refl; whole = refl; plain = (refl, refl); defines = refl; uncounted = refl }

pub make_inside : IsMaker with_card create_inside inside_table
unfolding understood everything
make_inside = record { command = refl; whole = refl; plain = (refl, refl); defines = refl; uncounted = refl }

pub make_note : IsMaker with_inside create_note note_table
unfolding understood everything
make_note = record { command = refl; whole = refl; plain = (refl, refl); defines = refl; uncounted = refl }

pub make_fit : IsMaker with_note create_fit fit_table
unfolding understood everything
make_fit = record { command = refl; whole = refl; plain = (refl, refl); defines = refl; uncounted = refl }

-- ---- statements in turn

module _ {S : Type 0} {g : Ghosts S} {text : List ℕ} {schema : Schema} {t : Table} {b : Held S}
    (maker : IsMaker schema text t) where
  -- a first table
  pub bare_first : {one : List Statement} {a : Held S} {r : Result (Unit {0}) Error}
      → MakesBy g one (λ old new. MakesTable text old new × AddsTable text old new) a b r
      → MakesBy g one (IfOpenBare schema (created schema t)) a b r
  bare_first it = made_as (λ made. made.0 schema t maker) it

  -- and another one
  pub bare_then : {before : Schema} {one two : List Statement} {a c : Held S} {u : Unit {0}}
      {r : Result (Unit {0}) Error} → MakesBy g one (IfOpenBare before schema) a b (Ok u)
      → MakesBy g two (λ old new. MakesTable text old new × AddsTable text old new) b c r
      → MakesBy g (one ++ two) (IfOpenBare before (created schema t)) a c r
  bare_then it more = made_then (λ bare made had. made.0 schema t maker (λ _. bare had)) it more

-- the table of the fits and the indexes, whether the eight tables have rows or not
pub new_made : (a b c : State) → AddsTable create_fit a b → AddsIndexes 0 INDEXES b c
    → MakesNew a c × IfOpenBare with_note desk_schema a c
new_made a b c fits more =
    let all : MakesNew a c = λ has.
    let one = fits _ _ make_fit has in
    all_new a b c one (more (λ _. one.schema_is)) in
    (all, λ bare. let did = all (λ is_open. (bare is_open).schema_is) in new_bare a c did (bare did.was_open))
