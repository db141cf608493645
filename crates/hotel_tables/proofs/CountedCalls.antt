-- A look-up or a walk of the tables whose answer was counted, as one of the books.
use Rattle.std.proofs.Common.{ℕ, ◌≡◌, ◌≤◌, ◌<◌, ◌⊎◌, inl, inr, Bool, true, false, List, [], Result, Ok, Err, Option}
use Rattle.std.proofs.Common.{Some, None}
use Rattle.std.proofs.Common.{◌+◌, nat_le, refl, ap, sym, ◌∙◌, subst, rules, arith}
use Rattle.std.specs.Prelude.{IfErr, IfOk, OnErr, OnOk, IsErrAnd, IsTrue}
use Rattle.std.specs.Result.{IsErr, IsErrAnd}
use Rattle.std.proofs.lemmas.Bool.{false≢true}
use Rattle.std.proofs.lemmas.Bool.Decides.{nat_tests}
use Rattle.sqlite_disk.specs.Disk.{MoreFaults}
use Rattle.sqlite_trees.specs.declared.store.Store.{Ghosts}
use Rattle.sqlite.specs.Effect.{Database}
use Rattle.sqlite.specs.Held.{Held, state}
use Rattle.sqlite.specs.Tree.{Trees}
use Rattle.sqlite.specs.State.{State, HasCleanDisk, Survives}
use Rattle.sqlite.proofs.StateLemmas.{survives_then, survives_weaker}
use Rattle.keycard_rules.specs.declared.kept.Kept.{Ghosts as KeptOf}
use Rattle.keycard_rules.specs.declared.issued.LookFault.{LookFault}
use Rattle.keycard_rules.specs.declared.issued.LookFault.TheVariants as why
use Rattle.keycard_rules.specs.Rise.{Counts, HasRisen, NoFewer, counted_on, one_of}
use Rattle.keycard_rules.specs.{Leaves.Leaves, Leaves.Looks, Leaves.Rose, Leaves.told_by}
use Rattle.keycard_rules.proofs.{CallsTogether.counted_told, Sinces.counts_rise, Sinces.rises_later}
use Rattle.hotel_books.specs.Books.Changes.{rows_after}
use Rattle.hotel_model.specs.Refinement.Lookups.{codes_in}
use Rattle.hotel_model.specs.Rows.{Rows}
use Rattle.hotel_model.specs.declared.change.Change.{Change}
use Rattle.hotel_model.specs.Refinement.Change.{made}
use Rattle.hotel_statements.specs.Steps.{IsMadeOf}
use Rattle.hotel_model.proofs.OfTables.Tests.{le_from}
use Rattle.hotel_books.specs.Books.Reads.{LooksUp as LooksUpBooks}
use Rattle.hotel_books.specs.Books.Walks.{Hands, WalksOver, failure_of}
use Rattle.hotel_books.specs.declared.books.walks.WalkFault.{WalkFault}
use Rattle.hotel_books.specs.declared.books.walks.WalkFault.TheVariants as walk
use Rattle.hotel_statements.specs.LookUps.{Selects as LooksUpTables, LeavesNoMore}
use Rattle.hotel_statements.specs.Ready.{IsReady}
use Rattle.hotel_statements.specs.Walks.{WalksList}
use Rattle.hotel_statements.specs.Books.{IsKept, IsBooks, KeepsRows}
use Rattle.hotel_statements.specs.Tables.{rows_in}
use Rattle.hotel_tables.specs.TableBooks.{Tabled, IsCounted, IsTabled, failed, AsksFirst, HandsOn}
use Rattle.hotel_tables.specs.{Applied.Applies, Applied.LeavesNothing, StopLaws.nothing_refl}
use Rattle.hotel_statements.proofs.Transaction.{none_new}
use Rattle.hotel_tables.specs.Causes.{HasLooked, LookFails, LookUpFails, OnceReady, ChangingFails, of_day}
use Rattle.hotel_tables.proofs.Causes.{asked_then, looked}

-- what an answer says where the state was honest, by what it says where that was clean
answered : {R : Type 0} {P Q : Type 0} (said : R → Type 0) (result : Result R LookFault)
    → P → OnOk result Q → (P × Q → IfOk result said) → IfOk result said
answered said (Ok answer) p q so = so (p, q)
answered said (Err given) p q so = tt

-- an answer reports no failure, and a failure is the one that is reported
pub vouches : {R : Type 0} {P : Type 0} (result : Result R LookFault) → OnOk result P → told_by result ≡ None → P
vouches (Ok answer) p e = p
vouches (Err given) p e = cc

only : {a b : LookFault} → Some a ≡ Some b → a ≡ b
only e = cc

pub of_told : {R P : Type 0} (result : Result R LookFault) → IfErr result (λ fault. fault ≡ why.Store → P)
    → told_by result ≡ Some why.Store → P
of_told (Ok answer) so e = cc
of_told (Err given) so e = so (only e)

fewer : (n m : ℕ) → nat_le n m ≡ false → m < n
fewer n m e = grind (arith, nat_tests)

-- a call of the disk failed
more_risen : (old new : ℕ) → MoreFaults old new → HasRisen old new
more_risen old new more = by (nat_le (old + 1) new) refl
  where
    by : (b : Bool) → nat_le (old + 1) new ≡ b → HasRisen old new
    by true e = inl (le_from (old + 1) new e)
    by false e = inr (let less = fewer (old + 1) new e in grind (arith, more, less))

-- what books over tables say of their state, as `TableBooks` does
abbrev pub over_tables : {S : Type 0} → Ghosts S → KeptOf (Tabled S)
over_tables g = record {
  issued = λ b. codes_in (rows_in (state g b.conn).now.trees);
  is_clean = λ b. IsKept (state g b.conn);
  is_honest = λ b. HasCleanDisk (state g b.conn);
  leaves_no_more = λ a b. LeavesNothing (state g a.conn) (state g b.conn);
  look_up_fails = λ a b. LookFails g a.conn b.conn;
  is_kept = λ a b. rows_in (state g b.conn).now.trees ≡ rows_in (state g a.conn).now.trees;
  failures = failed;
  disk_failures = λ b. (state g b.conn).faults;
  never_fails = ⊥;
  never_store = λ a never. absurd never;
  clean_honest = λ a kept. kept.0;
  kept_refl = λ a. refl;
  kept_trans = λ a b c h k. k ∙ h;
  no_more_refl = λ a. nothing_refl (state g a.conn);
  no_more_trans = λ a b c first later. none_new first later;
  kept_issued = λ a b h. ap codes_in h;
}

-- a call of the tables that reported this, and was counted, leaves what any call of books does
pub leaves_over : {S : Type 0} (g : Ghosts S) (old new : Tabled S) (told : Option LookFault) {Commits : Trees → Type 0}
    → (IsKept (state g new.conn) → IsKept (state g old.conn))
    → (HasCleanDisk (state g new.conn) → told ≡ None → IsTrue (state g new.conn).is_open)
    → Survives (state g old.conn) (state g new.conn) Commits → NoFewer (failed old) (failed new)
    → (HasCleanDisk (state g new.conn) → Counts (λ cause. one_of cause told) (failed old) (failed new))
    → Leaves (over_tables g) old told new
leaves_over g old new told was open_on crash no_fewer counted = record {
  since = record {
    was_clean = was;
    was_honest = search (rules, crash);
    counted = no_fewer;
    disk = crash.counts;
  };
  counted = counted;
  vouched = λ honest none. (honest, open_on honest none);
  stays = λ honest kept. shut honest (crash.closes honest kept.1);
}
  where
    shut : HasCleanDisk (state g new.conn)
        → IsTrue (state g new.conn).is_open ⊎ MoreFaults (state g old.conn).faults (state g new.conn).faults
        → IsKept (state g new.conn) ⊎ HasRisen (state g old.conn).faults (state g new.conn).faults
    shut honest (inl is_open) = inl (honest, is_open)
    shut honest (inr more) = inr (more_risen (state g old.conn).faults (state g new.conn).faults more)

-- what is read of a connection that answers leaves nothing new
none_left : (old new : State) → (HasCleanDisk old → IsTrue old.is_open) → LeavesNoMore old new → LeavesNothing old new
none_left old new ready crash = survives_weaker old new _ _ (λ clean db none.
    let before : HasCleanDisk old = omega (arith, crash.clean, clean) in
    none (before, ready before)) crash

-- a call that keeps the rows leaves books that aren't known to answer
pub still_tabled : {kinds : List (List ℕ × ℕ)} {nights : List ((List ℕ × ℕ) × List ℕ)} {answers : Bool}
    (old new : State) → IsTabled old kinds nights answers → IsBooks new → KeepsRows old new
    → IsTabled new kinds nights false
still_tabled {kinds = kinds} {nights = nights} old new was books keeps = record {
  books = books;
  counted = λ kept.
      let same = keeps kept in
      subst (λ (d : Database). IsCounted kinds nights (rows_in d.trees)) (sym same.1) (was.counted same.0);
  answered = λ clean yes. absurd (false≢true yes);
}

-- The books are these, also as they are kept; a call of the tables leaves their connection so.
module _ {S : Type 0} (g : Ghosts S) (inside self : Tabled S) (same : inside ≡ self) (conn : Held S) where
  -- the books behind that call
  abbrev called : Tabled S
  called = record inside { conn = conn }

  same_counts : (cause : LookFault) → failed called cause ≡ failed self cause
  same_counts cause = by_cause cause ∙ ap (λ (b : Tabled S). failed b cause) same
    where
      by_cause : (cause : LookFault) → failed called cause ≡ failed inside cause
      by_cause why.Memory = refl
      by_cause why.Store = refl

  -- and its answer is counted, which leaves new ones
  module _ {A : Type 0} {told : Option LookFault} {answer result : A} (new : Tabled S)
      (end : HandsOn told answer result called new) where
    -- what is known of the connection as the books have it, before and after
    pub at_books : (P : Held S → Held S → Type 0) → P inside.conn conn → P self.conn new.conn
    at_books P p =
        subst (λ (b : Tabled S). P b.conn new.conn) same (subst (λ (c : Held S). P inside.conn c) (sym end.conn) p)

    pub none_fewer : NoFewer (failed self) (failed new)
    none_fewer cause = subst (λ n. n ≤ failed new cause) (same_counts cause) (end.no_fewer cause)

    pub counts_of : Counts (λ cause. one_of cause told) (failed self) (failed new)
    counts_of cause =
        subst (λ n. failed new cause ≡ counted_on (one_of cause told) n) (same_counts cause) (end.counted cause)

  -- a look-up
  pub look_up_counted : {A R : Type 0} {takes_memory : Bool} {said : R → A} {wanted : Rows → A}
      {Fails : State → State → Type 0} {answer result : Result R LookFault} (new : Tabled S)
      → (HasCleanDisk (state g self.conn) → IsTrue (state g self.conn).is_open)
      → ((old later : State) → Fails old later → LookUpFails old later)
      → HandsOn (told_by result) answer result called new
      → LooksUpTables Fails said wanted (state g inside.conn) (state g conn) answer
      → LooksUpBooks (over_tables g) takes_memory said (wanted (rows_in (state g self.conn).now.trees)) self new
      result
  look_up_counted {R = R} {said = said} {wanted = wanted} {Fails = Fails} {answer = answer} {result = result} new ready
      more end looks =
      let old = state g self.conn in
      let later = state g new.conn in
      let looked_up : LooksUpTables Fails said wanted old later result =
      subst (λ (r : Result R LookFault). LooksUpTables Fails said wanted old later r) (sym end.same)
      (at_books new end (λ a b. LooksUpTables Fails said wanted (state g a) (state g b) answer) looks) in
      record {
        answer = λ honest. answered _ result honest (looked_up.open_on tt honest) looked_up.found;
        looks = record {
          leaves = leaves_over g self new (told_by result) (λ kept. (looked_up.keeps kept).0)
              (λ honest. vouches result (looked_up.open_on tt honest)) looked_up.crash (none_fewer new end)
              (λ _. counts_of new end);
          rose = counts_rise (told_by result) (failed self) (failed new) (counts_of new end);
          kept = λ kept. ap (λ (d : Database). rows_in d.trees) (looked_up.keeps kept).1;
          cause = λ honest store. inr (
            self.conn,
            inl refl,
            of_told result
                (looked Fails LookUpFails old later result result refl (more old later) looked_up.cause honest) store,
          );
          stop = none_left old later ready looked_up.crash;
          sure = λ never. absurd never;
        };
      }

  -- a walk
  pub walk_counted : {K R : Type 0} {takes_memory : Bool} {after after_stop : K → R → K → Type 0}
      {Fails : State → State → Type 0} {sink last : K} {answer result : Result (Unit {0}) WalkFault} (new : Tabled S)
      (list : Rows → List R) → (HasCleanDisk (state g self.conn) → IsTrue (state g self.conn).is_open)
      → ((old later : State) → Fails old later → LookUpFails old later)
      → HandsOn (failure_of result) answer result called new
      → WalksList Fails after after_stop list (state g inside.conn) (state g conn) sink last answer
      → WalksOver (over_tables g) takes_memory after after_stop (list (rows_in (state g self.conn).now.trees)) self
      new sink last result
  walk_counted {after = after} {after_stop = after_stop} {Fails = Fails} {sink = sink} {last = last} {answer = answer}
      {result = result} new list ready more end walks =
      let old = state g self.conn in
      let later = state g new.conn in
      let walked_over : WalksList Fails after after_stop list old later sink last result =
      subst (λ (r : Result (Unit {0}) WalkFault). WalksList Fails after after_stop list old later sink last r)
      (sym end.same)
      (at_books new end (λ a b. WalksList Fails after after_stop list (state g a) (state g b) sink last answer)
      walks) in
      record {
        hands = walked_over.hands;
        looks = record {
          leaves = leaves_over g self new (failure_of result) (λ kept. (walked_over.keeps kept).0)
              walked_over.open_on walked_over.crash (none_fewer new end) (λ _. counts_of new end);
          rose = counts_rise (failure_of result) (failed self) (failed new) (counts_of new end);
          kept = λ kept. ap (λ (d : Database). rows_in d.trees) (walked_over.keeps kept).1;
          cause = λ honest store. inr (self.conn, inl refl, more old later (walked_over.cause honest store));
          stop = none_left old later ready walked_over.crash;
          sure = λ never. absurd never;
        };
      }

-- Books that were asked in vain whether their connection answers: a call hands the failure over.
module _ {S : Type 0} (g : Ghosts S) {old new : Tabled S} {cause : LookFault}
    (asked : AsksFirst g old new (Err cause)) where
  pub vain_leaves : Leaves (over_tables g) old (Some cause) new
  vain_leaves =
      leaves_over g old new (Some cause) (λ kept. (asked.ready.keeps kept).0) (λ honest none. cc) asked.ready.crash
      asked.no_fewer (λ _. asked.counted)

  pub vain_fails : (Fails : Held S → Held S → Type 0) → HasCleanDisk (state g new.conn)
      → Some cause ≡ Some why.Store → OnceReady g Fails old.conn new.conn
  vain_fails Fails honest store =
      inl (asked.ready.cause honest (λ memory. let no : why.Memory ≡ why.Store = sym memory ∙ only store in cc))

  pub vain_change : (change : Change) → Survives (state g old.conn) (state g new.conn)
      (λ db. IsKept (state g old.conn) × IsMadeOf (made change) (state g old.conn).now.trees db)
  vain_change change = survives_weaker _ _ _ _ (λ _ db no. absurd no) asked.ready.crash

  pub vain_looks : {takes_memory : Bool} → Looks (over_tables g) takes_memory old (Some cause) new
  vain_looks = record {
    leaves = vain_leaves;
    rose = counts_rise (Some cause) (failed old) (failed new) asked.counted;
    kept = λ kept. ap (λ (d : Database). rows_in d.trees) (asked.ready.keeps kept).1;
    cause = vain_fails (λ a b. LookUpFails (state g a) (state g b));
    stop = asked.ready.crash;
    sure = λ never. absurd never;
  }

  -- a look-up
  pub asked_in_vain : {A R : Type 0} {takes_memory : Bool} {said : R → A} {wanted : A} (result : Result R LookFault)
      → IsErr result × IsErrAnd result (λ given. given ≡ cause)
      → LooksUpBooks (over_tables g) takes_memory said wanted old new result
  asked_in_vain (Ok answer) handed = absurd (let none = handed.0 in cc)
  asked_in_vain {takes_memory = takes_memory} (Err given) handed = record {
    answer = λ _. tt;
    looks = subst (λ it. Looks (over_tables g) takes_memory old (Some it) new) (sym handed.1) vain_looks;
  }

  -- a walk, which hands no row over
  pub walked_in_vain : {K R : Type 0} {takes_memory : Bool} {after after_stop : K → R → K → Type 0} {rows : List R}
      {sink : K} (result : Result (Unit {0}) WalkFault) → IsErrAnd result (λ fault. failure_of (Err fault) ≡ Some cause)
      → WalksOver (over_tables g) takes_memory after after_stop rows old new sink sink result
  walked_in_vain (Ok done) is = absurd is
  walked_in_vain {K = K} {R = R} {takes_memory = takes_memory} {after = after} {after_stop = after_stop} {rows = rows}
      {sink = sink} (Err fault) is = record {
        hands = (rows, none_taken fault is, λ _. refl);
        looks = subst (λ told. Looks (over_tables g) takes_memory old told new) (sym is) vain_looks;
      }
    where
      none_taken : (f : WalkFault) → failure_of (Err f) ≡ Some cause
          → Hands after after_stop rows sink sink (Err f)
      none_taken walk.Stopped told = absurd cc
      none_taken walk.Memory told = ([], rows, refl, refl)
      none_taken walk.Store told = ([], rows, refl, refl)

-- Books whose connection answered when they were asked, and a call after that.
module _ {S : Type 0} (g : Ghosts S) {old mid : Tabled S} (new : Tabled S) {u : Unit {0}}
    (asked : AsksFirst g old mid (Ok u)) where
  -- the rows are those of before
  pub ready_rows : HasCleanDisk (state g mid.conn)
      → rows_in (state g mid.conn).now.trees ≡ rows_in (state g old.conn).now.trees
  ready_rows clean = ap (λ (d : Database). rows_in d.trees) (asked.ready.unchanged clean).0.now_is

  pub is_asked : HasCleanDisk (state g mid.conn) → HasLooked g old.conn mid.conn
  is_asked clean = (asked.ready.unchanged clean, survives_weaker _ _ _ _ (λ _ db no. absurd no) asked.ready.crash)

  pub ready_leaves : {told : Option LookFault} {Commits : Trees → Type 0}
      → Survives (state g mid.conn) (state g new.conn) Commits → Leaves (over_tables g) mid told new
      → Leaves (over_tables g) old told new
  ready_leaves {told = told} {Commits = Commits} crash leaves =
      leaves_over g old new told (λ kept. (asked.ready.keeps (leaves.since.was_clean kept)).0)
      (λ honest is_none. (leaves.vouched honest is_none).1)
      (survives_then (state g old.conn) (state g mid.conn) (state g new.conn) (λ _. ⊥) Commits Commits
      (λ _ db no. absurd no) (λ _ db made. made) asked.ready.crash crash)
      (λ cause.
      let one = asked.no_fewer cause in
      let two = leaves.since.counted cause in
      omega (arith, one, two))
      (λ honest cause. counted_told told cause _ _ _ (asked.counted cause) (leaves.counted honest cause))

  pub ready_fails : (Fails : Held S → Held S → Type 0) → HasCleanDisk (state g mid.conn)
      → (begins : Held S) × ((begins ≡ mid.conn) ⊎ HasLooked g mid.conn begins) × Fails begins new.conn
      → OnceReady g Fails old.conn new.conn
  ready_fails Fails clean fails = inr (fails.0, asked_then g (inr (is_asked clean)) fails.1, fails.2)

  pub ready_rose : (told : Option LookFault) → Rose (over_tables g) mid told new → Rose (over_tables g) old told new
  ready_rose told rose = rises_later told (failed old) (failed mid) (failed new) asked.no_fewer rose

  pub ready_looks : {takes_memory : Bool} {told : Option LookFault} → Looks (over_tables g) takes_memory mid told new
      → Looks (over_tables g) takes_memory old told new
  ready_looks {told = told} looks = record {
    leaves = ready_leaves looks.stop looks.leaves;
    rose = ready_rose told looks.rose;
    kept = λ kept. looks.kept kept ∙ ap (λ (d : Database). rows_in d.trees)
        (asked.ready.keeps (looks.leaves.since.was_clean kept)).1;
    cause = λ honest store. later (looks.leaves.since.was_honest honest) (looks.cause honest store);
    stop = survives_then _ _ _ _ _ _ (λ _ db no. no) (λ _ db no. no) asked.ready.crash looks.stop;
    sure = λ never. absurd never;
  }
    where
      later : HasCleanDisk (state g mid.conn) → LookFails g mid.conn new.conn → LookFails g old.conn new.conn
      later clean (inl fails) = inr (mid.conn, inr (is_asked clean), of_day fails)
      later clean (inr fails) = ready_fails (λ a b. LookUpFails (state g a) (state g b)) clean fails

  asked_then_looked : {A R : Type 0} {takes_memory : Bool} {said : R → A} (wanted : Rows → A)
      {result : Result R LookFault}
      → LooksUpBooks (over_tables g) takes_memory said (wanted (rows_in (state g mid.conn).now.trees)) mid new result
      → LooksUpBooks (over_tables g) takes_memory said (wanted (rows_in (state g old.conn).now.trees)) old new result
  asked_then_looked {said = said} wanted {result = result} looked = record {
    answer = λ honest. subst (λ rows. IfOk result (λ a. said a ≡ wanted rows))
        (ready_rows (looked.looks.leaves.since.was_honest honest)) (looked.answer honest);
    looks = ready_looks looked.looks;
  }

  -- a look-up
  pub looked_up : {A R : Type 0} {takes_memory : Bool} {said : R → A} {Fails : State → State → Type 0}
      {inside : Tabled S} {conn : Held S} {answer result : Result R LookFault} (wanted : Rows → A)
      → ((begun ended : State) → Fails begun ended → LookUpFails begun ended) → inside ≡ mid
      → HandsOn (told_by result) answer result (record inside { conn = conn }) new
      → LooksUpTables Fails said wanted (state g inside.conn) (state g conn) answer
      → LooksUpBooks (over_tables g) takes_memory said (wanted (rows_in (state g old.conn).now.trees)) old new result
  looked_up {inside = inside} {conn = conn} wanted more same end looks =
      asked_then_looked wanted (look_up_counted g inside mid same conn new
      (λ clean. (asked.ready.unchanged clean).0.is_open) more end looks)

  asked_then_walked : {K R : Type 0} {takes_memory : Bool} {after after_stop : K → R → K → Type 0}
      {sink end : K} {result : Result (Unit {0}) WalkFault} (list : Rows → List R)
      → WalksOver (over_tables g) takes_memory after after_stop (list (rows_in (state g mid.conn).now.trees)) mid new
      sink end result
      → WalksOver (over_tables g) takes_memory after after_stop (list (rows_in (state g old.conn).now.trees)) old new
      sink end result
  asked_then_walked list walked = record {
    hands = (
      walked.hands.0,
      walked.hands.1,
      λ honest. walked.hands.2 honest
          ∙ ap list (ready_rows (walked.looks.leaves.since.was_honest honest)),
    );
    looks = ready_looks walked.looks;
  }

  -- a walk
  pub walked : {K R : Type 0} {takes_memory : Bool} {after after_stop : K → R → K → Type 0}
      {Fails : State → State → Type 0} {inside : Tabled S} {conn : Held S} {sink last : K}
      {answer result : Result (Unit {0}) WalkFault} (list : Rows → List R)
      → ((begun ended : State) → Fails begun ended → LookUpFails begun ended) → inside ≡ mid
      → HandsOn (failure_of result) answer result (record inside { conn = conn }) new
      → WalksList Fails after after_stop list (state g inside.conn) (state g conn) sink last answer
      → WalksOver (over_tables g) takes_memory after after_stop (list (rows_in (state g old.conn).now.trees)) old new
      sink last result
  walked {inside = inside} {conn = conn} list more same end walks =
      asked_then_walked list (walk_counted g inside mid same conn new list
      (λ clean. (asked.ready.unchanged clean).0.is_open) more end walks)

  -- a change
  pub ready_change : {result : Result (Unit {0}) LookFault} (change : Change)
      → Applies change (state g mid.conn) (state g new.conn) result
      → Survives (state g old.conn) (state g new.conn)
      (λ db. IsKept (state g old.conn) × IsMadeOf (made change) (state g old.conn).now.trees db)
  ready_change change applies =
      survives_then (state g old.conn) (state g mid.conn) (state g new.conn) (λ _. ⊥)
      (λ db. IsKept (state g mid.conn) → IsMadeOf (made change) (state g mid.conn).now.trees db) _
      (λ _ db no. absurd no)
      (λ clean db made_so.
      let before : HasCleanDisk (state g mid.conn) = omega (arith, applies.crash.clean, clean) in
      let same = asked.ready.unchanged before in
      let first : HasCleanDisk (state g old.conn) = omega (arith, asked.ready.crash.clean, before) in (
        (first, same.0.was_open),
        subst (λ (d : Database). IsMadeOf (made change) d.trees db) same.0.now_is
            (made_so (before, same.0.is_open)),
      )) asked.ready.crash applies.crash

-- one of books that were asked before it, and that is answered from memory, or lacks memory
pub asked_first : {S A R : Type 0} {takes_memory : Bool} {said : R → A} {wanted : A} (g : Ghosts S)
    {old mid : Tabled S} (new : Tabled S) (result : Result R LookFault) {u : Unit {0}} → AsksFirst g old mid (Ok u)
    → new.conn ≡ mid.conn
    → NoFewer (failed mid) (failed new) → Counts (λ other. one_of other (told_by result)) (failed mid) (failed new)
    → (told_by result ≡ Some why.Store → ⊥) → (IsKept (state g new.conn) → IfOk result (λ a. said a ≡ wanted))
    → LooksUpBooks (over_tables g) takes_memory said wanted old new result
asked_first g {old = old} new result {u = u} asked at later counted no_store found =
    let ready : IsReady (state g old.conn) (state g new.conn) (Ok u) =
    subst (λ (c : Held _). IsReady (state g old.conn) (state g c) (Ok u)) (sym at) asked.ready
    in
    let all_counted : Counts (λ other. one_of other (told_by result)) (failed old) (failed new) =
    λ cause. counted_told (told_by result) cause _ _ _ (asked.counted cause) (counted cause) in
    record {
      answer = λ honest. found (honest, (ready.unchanged honest).0.is_open);
      looks = record {
        leaves = leaves_over g old new (told_by result) (λ kept. (ready.keeps kept).0)
            (λ honest _. (ready.unchanged honest).0.is_open) ready.crash
            (λ cause. omega (arith, asked.no_fewer cause, later cause)) (λ _. all_counted);
        rose = counts_rise (told_by result) (failed old) (failed new) all_counted;
        kept = λ kept. ap (λ (d : Database). rows_in d.trees) (ready.keeps kept).1;
        cause = λ honest store. absurd (no_store store);
        stop = ready.crash;
        sure = λ never. absurd never;
      };
    }

-- the rows after a change that was made or not
pub rows_are : (result : Result (Unit {0}) LookFault) (change : Change) (before after : Rows)
    → OnOk result (after ≡ made change before) → OnErr result (after ≡ before)
    → after ≡ rows_after result change before
rows_are (Ok done) change before after ok err = ok
rows_are (Err given) change before after ok err = err

-- a change whose answer was counted
module _ {S : Type 0} (g : Ghosts S) (change : Change) (old mid new : Tabled S)
    (given result : Result (Unit {0}) LookFault)
    (is : result ≡ given) (at : new.conn ≡ mid.conn) where
  pub change_applies : Applies change (state g old.conn) (state g mid.conn) given
      → Applies change (state g old.conn) (state g new.conn) result
  change_applies applies =
      subst (λ (r : Result (Unit {0}) LookFault). Applies change (state g old.conn) (state g new.conn) r) (sym is)
      (subst (λ (c : Held S). Applies change (state g old.conn) (state g c) given) (sym at) applies)

  same_failed : mid.memory ≡ old.memory → mid.store ≡ old.store → (cause : LookFault)
      → failed mid cause ≡ failed old cause
  same_failed memory store why.Memory = memory
  same_failed memory store why.Store = store

  pub change_counts : mid.memory ≡ old.memory → mid.store ≡ old.store
      → Counts (λ cause. one_of cause (told_by result)) (failed mid) (failed new)
      → Counts (λ cause. one_of cause (told_by result)) (failed old) (failed new)
  change_counts memory store counted cause = subst
      (λ n. failed new cause ≡ counted_on (one_of cause (told_by result)) n)
      (same_failed memory store cause) (counted cause)

  pub change_leaves : Applies change (state g old.conn) (state g mid.conn) given → mid.memory ≡ old.memory
      → mid.store ≡ old.store → NoFewer (failed mid) (failed new)
      → Counts (λ cause. one_of cause (told_by result)) (failed mid) (failed new)
      → Leaves (over_tables g) old (told_by result) new
  change_leaves applies memory store no_fewer counted =
      leaves_over g old new (told_by result) so.was (λ honest. vouches result (so.open_on honest)) so.crash
      (λ cause. subst (λ n. n ≤ failed new cause) (same_failed memory store cause) (no_fewer cause))
      (λ _. change_counts memory store counted)
    where
      so : Applies change (state g old.conn) (state g new.conn) result
      so = change_applies applies

  pub change_cause : (HasCleanDisk (state g mid.conn)
      → IfErr given (λ fault. fault ≡ why.Store → ChangingFails g change old.conn mid.conn))
      → HasCleanDisk (state g new.conn) → told_by result ≡ Some why.Store → ChangingFails g change old.conn new.conn
  change_cause fails honest =
      let fails_so : HasCleanDisk (state g new.conn)
      → IfErr given (λ fault. fault ≡ why.Store → ChangingFails g change old.conn new.conn) =
      subst (λ (c : Held S). HasCleanDisk (state g c)
      → IfErr given (λ fault. fault ≡ why.Store → ChangingFails g change old.conn c)) (sym at) fails in
      of_told result (subst (λ (r : Result (Unit {0}) LookFault). IfErr r
      (λ fault. fault ≡ why.Store → ChangingFails g change old.conn new.conn)) (sym is) (fails_so honest))
