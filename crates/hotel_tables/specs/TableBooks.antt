-- What books over tables are for their contracts, and what they keep true.
use Rattle.std.specs.Prelude.{◌≡◌, ℕ, Bool, true, List, Option, Result, IsTrue, refl}
use Rattle.std.specs.Coded.{Coded, code_by, coded×, coded_ℕ, coded_list}
use Rattle.std.specs.Map.{values_of}
use Rattle.sqlite_trees.specs.declared.store.Store.{Ghosts}
use Rattle.sqlite.specs.Held.{Held, held_code, state}
use Rattle.sqlite.specs.State.{State, HasCleanDisk}
use Rattle.keycard_rules.specs.declared.issued.LookFault.{LookFault}
use Rattle.keycard_rules.specs.declared.issued.LookFault.TheVariants.{Memory, Store}
use Rattle.keycard_rules.specs.{Leaves.told_by, Rise.Counts, Rise.NoFewer, Rise.one_of}
use Rattle.hotel_model.specs.Rows.{Rows, has_kind}
use Rattle.hotel_model.specs.Sound.{IsSound}
use Rattle.hotel_model.specs.Rows.{rooms_of_kind}
use Rattle.hotel_books.specs.NightIndex.{CountsNights}
use Rattle.hotel_books.specs.KindRooms.{is_there, rooms_in}
use Rattle.hotel_statements.specs.Ready.{IsReady}
use Rattle.hotel_statements.specs.Tables.{rows_in}
use Rattle.hotel_statements.specs.Books.{IsKept, IsBooks}

-- the connection, the rooms of each kind and the standing stays of each night, counted, and how many calls failed
pub record Tabled (S : Type 0) : Type 0 where
  pub conn : Held S
  pub kinds : List (List ℕ × ℕ)
  pub nights : List ((List ℕ × ℕ) × List ℕ)
  pub memory : ℕ
  pub store : ℕ

abbrev pub tabled_code : {S : Type 0} → Coded S → Coded (Tabled S)
tabled_code {S} store =
    code_by (Held S × (List (List ℕ × ℕ) × (List ((List ℕ × ℕ) × List ℕ) × (ℕ × ℕ))))
    (coded× (held_code store) (coded× (coded_list (coded× (coded_list coded_ℕ) coded_ℕ))
    (coded× (coded_list (coded× (coded× (coded_list coded_ℕ) coded_ℕ) (coded_list coded_ℕ))) (coded× coded_ℕ coded_ℕ))))
    (λ b. (b.conn, (b.kinds, (b.nights, (b.memory, b.store)))))
    (λ p. record { conn = p.0; kinds = p.1.0; nights = p.1.1.0; memory = p.1.1.1.0; store = p.1.1.1.1 })
    (λ _. refl)

-- how many calls failed for a cause
abbrev pub failed : {S : Type 0} → Tabled S → LookFault → ℕ
failed b Memory = b.memory
failed b Store = b.store

-- What the connection answered is handed on by books over it, from old to new, and counted where it reports a failure.
pub record HandsOn {S A : Type 0} (told : Option LookFault) (answer result : A) (old new : Tabled S) : Type 0 where
  pub same : result ≡ answer
  pub conn : new.conn ≡ old.conn
  pub no_fewer : NoFewer (failed old) (failed new)
  pub counted : Counts (λ cause. one_of cause told) (failed old) (failed new)

-- Books, from old to new, asked their connection whether it answers, and counted a failure.
pub record AsksFirst {S : Type 0} (g : Ghosts S) (old new : Tabled S) (result : Result (Unit {0}) LookFault)
    : Type 0 where
  pub ready : IsReady (state g old.conn) (state g new.conn) result
  pub no_fewer : NoFewer (failed old) (failed new)
  pub counted : Counts (λ cause. one_of cause (told_by result)) (failed old) (failed new)

-- The counts are those of the rows, and the rows are sound. A kind that could not be added may be known with no rooms.
pub record IsCounted (kinds : List (List ℕ × ℕ)) (nights : List ((List ℕ × ℕ) × List ℕ)) (rows : Rows) : Type 0 where
  pub sound : IsSound rows
  pub known : (kind : List ℕ) → has_kind rows kind ≡ true → is_there kinds kind ≡ true
  pub rooms : (kind : List ℕ) → rooms_in kinds kind ≡ rooms_of_kind rows.rooms kind
  pub stays : CountsNights nights (values_of rows.stays)

-- What books over tables keep true, whatever has failed.
pub record IsTabled (s : State) (kinds : List (List ℕ × ℕ)) (nights : List ((List ℕ × ℕ) × List ℕ))
    (answers : Bool) : Type 0 where
  pub books : IsBooks s
  pub counted : IsKept s → IsCounted kinds nights (rows_in s.now.trees)
  -- a connection that answered when it was last asked is open
  pub answered : HasCleanDisk s → IsTrue answers → IsTrue s.is_open
