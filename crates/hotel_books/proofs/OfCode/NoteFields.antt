-- The fields of a note that is read are those of its value.
use Rattle.std.proofs.Common.{◌≡◌, ap}
use Rattle.hotel_books.proofs.Names.{Note}

pub room_is : {a b : Note} → a ≡ b → a.room ≡ b.room
room_is e = ap (λ (n : Note). n.room) e

pub fit_is : {a b : Note} → a ≡ b → a.fit ≡ b.fit
fit_is e = ap (λ (n : Note). n.fit) e

pub count_is : {a b : Note} → a ≡ b → a.count ≡ b.count
count_is e = ap (λ (n : Note). n.count) e

pub act_is : {a b : Note} → a ≡ b → a.act ≡ b.act
act_is e = ap (λ (n : Note). n.act) e
