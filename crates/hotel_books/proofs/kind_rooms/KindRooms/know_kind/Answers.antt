use Rattle.std.proofs.Common.{ℕ, List, ◌≡◌, Result, Ok, Err, OnOk, OnErr, ap}
use Rattle.hotel_books.specs.KindRooms.{rooms_in}
use Rattle.hotel_books.proofs.kind_rooms.KindRooms.know_kind.Goals as goal

-- what follows where it was added, and where nothing changed
in_both : {E T P Q R : Type 0} (r : Result T E) → (P → R) → (Q → R) → OnOk r P → OnErr r Q → R
in_both (Ok t) f g p q = f p
in_both (Err e) f g p q = g q

pub returns-clause-rooms : goal.returns-clause-rooms
returns-clause-rooms c =
    let Stay : Type 0 = (k : List ℕ) → rooms_in c.add_kind.new.self k ≡ rooms_in c.args.self.now k in
    in_both {R = Stay} c.add_kind.result (λ same. same)
    (λ same kind. ap (λ ks. rooms_in ks kind) same) c.add_kind.ensures.rooms c.add_kind.ensures.err
