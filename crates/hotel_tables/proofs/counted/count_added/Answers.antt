use Rattle.std.proofs.Common.{◌≡◌, ◌∙◌, ℕ, List, Result, Ok, Err, OnOk, OnErr, true, false, ap, sym, subst}
use Rattle.std.specs.Ordering.{nat_cmp}
use Rattle.std.specs.Cmp.Lexicographic.{slice_cmp}
use Rattle.std.specs.BTreeSet.{insert_key}
use Rattle.std.specs.Map.{keys_of}
use Rattle.keycard_rules.specs.declared.chain.Memory.{Memory}
use Rattle.hotel_model.specs.declared.change.Change.{Change}
use Rattle.hotel_books.specs.KindRooms.{is_there}
use Rattle.hotel_books.proofs.OfNights.KindKeys.{known_there}
use Rattle.hotel_tables.specs.Counted.{HasItsKind}
use Rattle.hotel_tables.proofs.counted.count_added.Goals as goal

-- a kind that was made known is there, and so are those that were; where it was refused, these are
known : (r : Result (Unit {0}) Memory) (kind : List ℕ) (old new : List (List ℕ × ℕ))
    → (is_there old kind ≡ true → new ≡ old)
    → (is_there old kind ≡ false → OnOk r (keys_of new ≡ insert_key (slice_cmp nat_cmp) (keys_of old) kind))
    → OnErr r (new ≡ old)
    → OnOk r (is_there new kind ≡ true) × ((k : List ℕ) → is_there old k ≡ true → is_there new k ≡ true)
known (Ok done) kind old new same added err = known_there kind old new same added
known (Err why) kind old new same added err = (tt, λ k was. ap (λ ks. is_there ks k) err ∙ was)

pub returns-in-Kind-clause-kind : goal.returns-in-Kind-clause-kind
returns-in-Kind-clause-kind c =
    let e = c.know_kind.ensures in
    let known_so = known c.know_kind.result c.in-Kind.kind c.args.kinds.now c.know_kind.new.self e.same e.kinds e.err in
    subst (λ (change : Change). OnOk c.know_kind.result (HasItsKind change c.know_kind.new.self)) (sym c.in-Kind.is)
    known_so.0

pub returns-in-Kind-clause-rooms : goal.returns-in-Kind-clause-rooms
returns-in-Kind-clause-rooms c =
    let e = c.know_kind.ensures in
    let known_so = known c.know_kind.result c.in-Kind.kind c.args.kinds.now c.know_kind.new.self e.same e.kinds e.err in
    record { there = known_so.1; rooms = e.rooms }
