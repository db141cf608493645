-- What each UPDATE makes of the rows of a desk.
use Rattle.std.proofs.Common.{if◌then◌else◌, ◌==◌, ◌≡◌, inl, inr, refl, ap, ap₂, subst, ◌∙◌, List, [], ◌∷◌, ℕ, pos}
use Rattle.std.proofs.Common.{Option, None, Some, Ok, false, Bool, drop, arith, eqb, nat_cmp}
use Rattle.std.proofs.lemmas.Bool.Decides.{nat_tests}
use Rattle.sqlite_value.specs.declared.value.Value.TheVariants.{Null}
use Rattle.sqlite.specs.Order.{Row, column}
use Rattle.sqlite.specs.Term.{Term, eval_all}
use Rattle.sqlite.specs.Command.{Command}
use Rattle.sqlite.specs.Command.TheVariants.{Update}
use Rattle.sqlite.specs.Edit.{edit_of, edited}
use Rattle.sqlite.specs.Rowids.TheVariants.{Given}
use Rattle.sqlite.specs.Table.{Table}
use Rattle.sqlite_rules.specs.Calls.{ids_of}
use Rattle.sqlite_rules.specs.Cast.{cast_row}
use Rattle.sqlite_rules.specs.Edit.{id_in}
use Rattle.sqlite_trees.specs.Tree.{rowid}
use Rattle.sqlite.specs.Rows.{Written, Edited}
use Rattle.sqlite.specs.Tree.{put_row, without_rowid}
use Rattle.sqlite.specs.Listing.{understood}
use Rattle.sqlite.specs.State.{State, mode_of, ExecutesIn, ExecutesInside}
use Rattle.sqlite.proofs.Callers.{one_step, statement_of}
use Rattle.hotel_nights.specs.declared.stay.Stay.{Stay}
use Rattle.hotel_nights.specs.declared.stay.StayState.{StayState}
use Rattle.hotel_model.specs.declared.rows.RoomRow.{RoomRow}
use Rattle.hotel_model.specs.declared.rows.FitRow.{FitRow}
use Rattle.hotel_model.specs.Stays.{room_of_state, in_state, now_is}
use Rattle.hotel_model.specs.Refinement.Change.{room_changed}
use Rattle.hotel_statements.specs.Trees.{meta_tree, room_tree, stay_tree}
use Rattle.hotel_statements.specs.Schema.{desk_schema, meta_table, room_table, stay_table}
use Rattle.hotel_statements.specs.Texts.{update_day, update_issued, update_party, update_noted, update_refitted}
use Rattle.hotel_statements.specs.Texts.{update_state}
use Rattle.hotel_statements.specs.Values.{int, maybe_int}
use Rattle.hotel_statements.specs.Columns.{bit_of, state_number, meta_columns, meta_of, meta_written, room_columns}
use Rattle.hotel_statements.specs.Columns.{room_of, room_written, stay_columns, stay_of, stay_written}
use Rattle.hotel_statements.specs.Tables.{AreMetas, IsTable, IsWrittenAs, in_key_order, by_key, rows_in, fits_in}
use Rattle.hotel_statements.specs.Tables.{bare_rooms_in}
use Rattle.hotel_books.specs.Refinement.Finds.{AnyRows}
use Rattle.hotel_statements.specs.Steps.{IsMidWith, MovesRows, day_set, room_issued, room_freed, room_noted}
use Rattle.hotel_statements.specs.Steps.{room_refitted, stay_set}
use Rattle.hotel_rows.specs.Joined.{with_last}
use Rattle.hotel_statements.proofs.Joins.{room_moved}
use Rattle.hotel_statements.proofs.Answers.{single, env}
use Rattle.hotel_statements.proofs.Statements.Terms.{Does, by_rowid}
use Rattle.hotel_statements.proofs.Statements.Changes as changes
use Rattle.hotel_statements.proofs.Writing.{went, same_value}
use Rattle.hotel_statements.proofs.Made.Desk as desk
use Rattle.hotel_statements.proofs.Made.Desk.{Changed, AreRowsOf, changed, steps, rooms_set, stays_set}
use Rattle.hotel_statements.proofs.Made.Entries.{Updated, update_makes, changed_at, filter_passes}
use Rattle.hotel_statements.proofs.Made.Sources.{sourced}
use Rattle.hotel_statements.proofs.Made.Reads.{meta_cast, room_cast, stay_cast, meta_stored, meta_good, meta_reads}
use Rattle.hotel_statements.proofs.Made.Reads.{meta_numbered, room_stored}
use Rattle.hotel_statements.proofs.Made.Reads.{room_good, room_reads, room_numbered, stay_stored, stay_good, stay_reads}
use Rattle.hotel_statements.proofs.Made.Reads.{stay_numbered}
use Rattle.hotel_statements.proofs.Made.Writes.{at_place, IsOn, wrote}

-- the UPDATE of the row whose number is the first parameter
abbrev update : ℕ → ℕ → List Term → Command
update at tree terms = Update at (record { lets = []; body = single tree by_rowid terms [] })

module _ {X : Type 0} (columns : Row → Row) (of : Row → ℕ × X) (written : ℕ × X → Row)
    (numbered : (r : Row) → IsWrittenAs columns of written r → column r 0 ≡ int (of (columns r)).0) where
  abbrev read : Row → ℕ × X
  read r = of (columns r)

  -- What the terms of an UPDATE give for a good row, and how that is stored: f is done to what the row says.
  pub record Gives (t : Table) (terms : List Term) (params : Row) (f : X → X) (source stored : Row → Row) : Type 0 where
    pub given : (r : Row) → IsWrittenAs columns of written r → eval_all terms (env params r) ≡ source r
    pub number : (r : Row) → rowid (source r) ≡ int (read r).0
    pub cast : (r : Row) → cast_row t (drop 1 (source r)) ≡ stored r
    pub good : (r : Row) → IsWrittenAs columns of written (stored r)
    pub reads : (r : Row) → read (stored r) ≡ ((read r).0, f (read r).1)
    pub id : (r : Row) → rowid (stored r) ≡ int (read r).0

  -- one table is written with some rows, which say f of what the row of a number said
  pub record Sets (tree k : ℕ) (f : X → X) (old new : State) : Type 0 where
    pub rows : List Row
    pub changes : Changed tree rows old new
    pub made : AreRowsOf (by_key nat_cmp) columns of written rows
        (changed_at k f (in_key_order (by_key nat_cmp) read (old.now.trees tree)))

  pub sets : {at : ℕ} {text : List ℕ} {terms : List Term} (tree : ℕ) (t : Table) (k : ℕ)
      (more : Row) (f : X → X) (source stored : Row → Row) (old new : State) (count : ℕ)
      → Does text (update at tree terms)
      → IsOn tree t (statement_of text (understood desk_schema text)) (update at tree terms) old (int k ∷ more)
      → Gives (at_place tree t) terms (int k ∷ more) f source stored
      → old.now.schema ≡ desk_schema → IsTable (by_key nat_cmp) columns of written (old.now.trees tree)
      → ExecutesIn false text (int k ∷ more) old new (Ok count) → Sets tree k f old new
  sets {at} {text} {terms} tree t k more f source stored old new count does on gives has was h =
      let db = old.now.trees in
      let keys = (mode_of old).keys in
      let table = at_place tree t in
      let done = wrote old new tree t text (int k ∷ more) (update at tree terms) count does (λ w. w) on has h in
      let given = went done.1 in
      let put = went given.2 in
      let after =
      done.2 ∙ ap (λ (it : Written). record { schema = desk_schema; trees = it.trees }) (same_value put.2) in
      elim (sourced columns of written numbered tree terms k more db given.0 was (given.1.answer Null)) [
        | inl none ↦
            let went_in = subst
            (λ all. Edited desk_schema keys db (edit_of db table (ids_of all) Given 1 all) (Ok put.0)) none.1 put.1 in
            let applied = one_step desk_schema keys db put.0 (edit_of db table [] Given 1 []) refl went_in in
            record {
              rows = db tree;
              changes = changed old new put.0 tree (db tree) after applied.rows applied.tables;
              made = update_makes columns of written numbered k f (db tree) (db tree) was (inl (none.0, refl));
            }
        | inr one ↦
            let r = one.0 in
            let e = read r in
            let number : e.0 ≡ k =
            (let t = filter_passes (λ r. eqb (read r).0 k) (db tree) r one.1.found in grind (arith, nat_tests, t)) in
            let went_in =
            subst (λ all. Edited desk_schema keys db (edit_of db table (ids_of all) Given 1 all) (Ok put.0))
            (one.1.given_is ∙ ap (λ s. s ∷ []) (gives.given r one.1.good)) put.1 in
            let edit = edit_of db table (ids_of (source r ∷ [])) Given 1 (source r ∷ []) in
            let applied = one_step desk_schema keys db put.0 edit refl went_in in
            let rows = put_row (stored r) (without_rowid (pos k) (db tree)) in
            let out : edited db edit ≡ rows =
            ap₂ (λ new id. put_row new (without_rowid (id_in id) (db tree))) (gives.cast r) (gives.number r)
            ∙ ap (λ n. put_row (stored r) (without_rowid (pos n) (db tree))) number in
            let updated : Updated columns of written numbered k f (db tree) rows r =
            record {
              found = one.1.found;
              new = stored r;
              after_is = refl;
              good = gives.good r;
              reads = gives.reads r ∙ ap (λ n. (n, f e.1)) number;
              id = gives.id r ∙ ap int number;
            } in
            record {
              rows = rows;
              changes = changed old new put.0 tree rows after (applied.rows ∙ out) applied.tables;
              made = update_makes columns of written numbered k f (db tree) rows was (inr (r, updated));
            }
      ]

-- ---- the row of meta

pub sets_meta : {at : ℕ} {text : List ℕ} {terms : List Term} (more : Row)
    (f : ℕ × Option ℕ → ℕ × Option ℕ) (old new : State) (count : ℕ) → Does text (update at meta_tree terms)
    → IsOn meta_tree meta_table (statement_of text (understood desk_schema text)) (update at meta_tree terms) old
    (int 1 ∷ more)
    → ((r : Row) → IsWrittenAs meta_columns meta_of meta_written r → eval_all terms (env (int 1 ∷ more) r)
    ≡ int (meta_of (meta_columns r)).0 ∷ meta_stored ((meta_of (meta_columns r)).0, f (meta_of (meta_columns r)).1))
    → old.now.schema ≡ desk_schema → AreMetas (old.now.trees meta_tree)
    → ExecutesIn false text (int 1 ∷ more) old new (Ok count)
    → Sets meta_columns meta_of meta_written meta_numbered meta_tree 1 f old new
sets_meta more f old new count does on given has was h =
    let e = λ (r : Row). meta_of (meta_columns r) in
    let now : Row → ℕ × (ℕ × Option ℕ) = λ r. ((e r).0, f (e r).1) in
    sets meta_columns meta_of meta_written meta_numbered meta_tree meta_table 1 more f
    (λ r. int (e r).0 ∷ meta_stored (now r)) (λ r. meta_stored (now r)) old new count does on
    (record {
      given = given;
      number = λ r. refl;
      cast = λ r. meta_cast (now r);
      good = λ r. meta_good (now r);
      reads = λ r. meta_reads (now r);
      id = λ r. refl;
    }) has was h

pub day_step : (old new : State) (day count : ℕ) → ExecutesInside 0 update_day (int 1 ∷ int day ∷ []) old new (Ok count)
    → IsMidWith AnyRows old → MovesRows old new (day_set day)
day_step old new day count h mid =
    let was = (mid h.1.was_open).0 in
    let f : ℕ × Option ℕ → ℕ × Option ℕ = λ x. (x.0, Some day) in
    let did = sets_meta (int day ∷ []) f old new count changes.update_day (λ _ does. does)
    (λ r good. ap (λ (v : Row). column v 0 ∷ column v 0 ∷ Null ∷ column v 1 ∷ int day ∷ []) good)
    was.schema was.tables.meta h.0 in
    steps old new (day_set day) h.1 did.changes
    (desk.day_set was.tables (did.made.0, did.made.1 ∙ ap (changed_at 1 f) was.tables.meta_row.1))

-- ---- a room

rooms_same : (k : ℕ) (f : RoomRow → RoomRow) (es : List (ℕ × RoomRow)) → changed_at k f es ≡ room_changed k f es
rooms_same k f [] = refl
rooms_same k f (e ∷ es) = ap (λ rest. if e.0 == k then (e.0, f e.1) ∷ es else e ∷ rest) (rooms_same k f es)

-- a fit without number
abbrev no_fit : FitRow
no_fit = record { room = 0; fit = 0; place = 0; before = 0 }

rooms_step : {text : List ℕ} {terms : List Term} (room : ℕ) (more : Row) (f : RoomRow → RoomRow) (old new : State)
    (count : ℕ) → ((x : RoomRow) → (f x).room ≡ x.room)
    → ((last : Option FitRow) (x : RoomRow) → with_last last (f x) ≡ f (with_last last x))
    → Does text (update 2 room_tree terms)
    → IsOn room_tree room_table (statement_of text (understood desk_schema text)) (update 2 room_tree terms) old
    (int room ∷ more)
    → ((r : Row) → IsWrittenAs room_columns room_of room_written r → eval_all terms (env (int room ∷ more) r)
    ≡ int (room_of (room_columns r)).0 ∷ room_stored (f (room_of (room_columns r)).1))
    → ExecutesInside 0 text (int room ∷ more) old new (Ok count) → IsMidWith AnyRows old
    → MovesRows old new (λ rows. record rows { rooms = room_changed room f rows.rooms })
rooms_step room more f old new count same apart does on given h mid =
    let was = (mid h.1.was_open).0 in
    let db = old.now.trees in
    let x = λ (r : Row). (room_of (room_columns r)).1 in
    let did = sets room_columns room_of room_written room_numbered room_tree room_table room more f
    (λ r. int (x r).room ∷ room_stored (f (x r))) (λ r. room_stored (f (x r))) old new count does on
    (record {
      given = given;
      number = λ r. refl;
      cast = λ r. room_cast (f (x r));
      good = λ r. room_good (f (x r));
      reads = λ r. room_reads (f (x r)) ∙ ap₂ (λ n row. (n, row)) (same (x r)) (apart (Some no_fit) (x r));
      id = λ r. ap int (same (x r));
    }) was.schema was.tables.room h.0 in
    let set = rooms_set was.tables (did.made.0, did.made.1 ∙ rooms_same room f (bare_rooms_in db)) in
    steps old new _ h.1 did.changes (
      set.0,
      set.1 ∙ ap (λ rooms. record (rows_in db) { rooms = rooms })
          (room_moved (fits_in db) room f apart (bare_rooms_in db)),
    )

pub issued_step : (old new : State) (room codes party : ℕ) (count : ℕ)
    → ExecutesInside 0 update_issued (int room ∷ int codes ∷ int party ∷ []) old new (Ok count)
    → IsMidWith AnyRows old → MovesRows old new (room_issued room codes party)
issued_step old new room codes party count =
    rooms_step room _ (λ x. record x { codes = codes; secured = false; party = Some party }) old new count
    (λ x. refl) (λ last x. refl) changes.update_issued (λ _ does. does)
    (λ r good. ap (λ (v : Row). column v 0 ∷ column v 0 ∷ Null ∷ column v 1 ∷ column v 2 ∷ int codes ∷ int 0 ∷ int party
    ∷ column v 6 ∷ []) good)

pub freed_step : (old new : State) (room : ℕ) (count : ℕ)
    → ExecutesInside 0 update_party (int room ∷ []) old new (Ok count) → IsMidWith AnyRows old
    → MovesRows old new (room_freed room)
freed_step old new room count =
    rooms_step room _ (λ x. record x { party = None }) old new count
    (λ x. refl) (λ last x. refl) changes.update_party (λ _ does. does)
    (λ r good. ap (λ (v : Row). column v 0 ∷ column v 0 ∷ Null ∷ column v 1 ∷ column v 2 ∷ column v 3 ∷ column v 4
    ∷ Null ∷ column v 6 ∷ []) good)

pub noted_step : (old new : State) (room lock_place : ℕ) (secured : Bool) (notes : ℕ) (count : ℕ) → ExecutesInside 0
    update_noted (int room ∷ int lock_place ∷ int (bit_of secured) ∷ int notes ∷ []) old new (Ok count)
    → IsMidWith AnyRows old → MovesRows old new (room_noted room lock_place secured notes)
noted_step old new room lock_place secured notes count =
    rooms_step room _ (λ x. record x { lock_place = lock_place; secured = secured; notes = notes }) old new count
    (λ x. refl) (λ last x. refl) changes.update_noted (λ _ does. does)
    (λ r good. ap (λ (v : Row). column v 0 ∷ column v 0 ∷ Null ∷ column v 1 ∷ int lock_place ∷ column v 3
    ∷ int (bit_of secured) ∷ column v 5 ∷ int notes ∷ []) good)

pub refitted_step : (old new : State) (room lock_place codes : ℕ) (count : ℕ)
    → ExecutesInside 0 update_refitted (int room ∷ int lock_place ∷ int codes ∷ []) old new (Ok count)
    → IsMidWith AnyRows old → MovesRows old new (room_refitted room lock_place codes)
refitted_step old new room lock_place codes count =
    rooms_step room _ (λ x. record x { lock_place = lock_place; codes = codes; secured = false }) old new count
    (λ x. refl) (λ last x. refl) changes.update_refitted (λ _ does. does)
    (λ r good. ap (λ (v : Row). column v 0 ∷ column v 0 ∷ Null ∷ column v 1 ∷ int lock_place ∷ int codes ∷ int 0
    ∷ column v 5 ∷ column v 6 ∷ []) good)

-- ---- how a stay stands

stays_same : (k : ℕ) (state : StayState) (es : List (ℕ × Stay)) → changed_at k (now_is state) es ≡ in_state k state es
stays_same k state [] = refl
stays_same k state (e ∷ es) =
    ap (λ rest. if e.0 == k then (e.0, now_is state e.1) ∷ es else e ∷ rest) (stays_same k state es)

pub state_step : (old new : State) (party : ℕ) (state : StayState) (count : ℕ) → ExecutesInside 0 update_state
    (int party ∷ int (state_number state) ∷ maybe_int (room_of_state state) ∷ []) old new (Ok count)
    → IsMidWith AnyRows old → MovesRows old new (stay_set party state)
state_step old new party state count h mid =
    let was = (mid h.1.was_open).0 in
    let x = λ (r : Row). (stay_of (stay_columns r)).1 in
    let now = int (state_number state) ∷ maybe_int (room_of_state state) ∷ [] in
    let did = sets stay_columns stay_of stay_written stay_numbered stay_tree stay_table party now (now_is state)
    (λ r. int (x r).party ∷ stay_stored (now_is state (x r))) (λ r. stay_stored (now_is state (x r))) old new count
    changes.update_state (λ _ does. does)
    (record {
      given = λ r good. ap
          (λ (v : Row). column v 0 ∷ column v 0 ∷ Null ∷ column v 1 ∷ column v 2 ∷ column v 3 ∷ column v 4 ∷ now) good;
      number = λ r. refl;
      cast = λ r. stay_cast (now_is state (x r));
      good = λ r. stay_good (now_is state (x r));
      reads = λ r. stay_reads (now_is state (x r));
      id = λ r. refl;
    }) was.schema was.tables.stay h.0 in
    steps old new (stay_set party state) h.1 did.changes
    (stays_set was.tables (did.made.0, did.made.1 ∙ stays_same party state (rows_in old.now.trees).stays))
