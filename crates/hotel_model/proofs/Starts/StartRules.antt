-- What a test of all rows of a table tells of a row that is found there.
use Rattle.std.proofs.Common.{ℕ, ◌≡◌, Bool, true, false, Option, Some, None, refl, ap, sym, ◌∙◌, ◌==◌, is_some}
use Rattle.hotel_model.proofs.{Names.Link, Names.said_of, Names.is_that, Names.same_link, OfTables.Tests.eq_from}
use Rattle.hotel_model.proofs.{OfTables.Tests.and_true, OfTables.Tests.not_both}

-- what is said of a value that is there
pub said_true : {X : Type 0} (o : Option X) (f : X → Bool)
    → said_of o false f ≡ true → (x : X) × (o ≡ Some x) × (f x ≡ true)
said_true (Some x) f e = (x, refl, e)
said_true None f e = not_both false e refl

pub said_at : {X : Type 0} (o : Option X) (otherwise : Bool) (f : X → Bool) (x : X)
    → o ≡ Some x → said_of o otherwise f ≡ true → f x ≡ true
said_at o otherwise f x e t = ap (λ z. said_of z otherwise f) (sym e) ∙ t

pub some_of : {X : Type 0} (o : Option X) → is_some o ≡ true → (x : X) × (o ≡ Some x)
some_of (Some x) e = (x, refl)
some_of None e = not_both false e refl

pub that_is : (o : Option ℕ) (n : ℕ) → is_that o n ≡ true → o ≡ Some n
that_is (Some m) n e = ap (λ z. Some z) (eq_from m n e)
that_is None n e = not_both false e refl

pub link_is : (a b : Link) → same_link a b ≡ true → a ≡ b
link_is a b e =
    let p = and_true (a.old_code == b.old_code) (a.new_code == b.new_code) e in
    ap (λ z. let k : Link = record { old_code = z; new_code = a.new_code } in k) (eq_from a.old_code b.old_code p.0)
    ∙ ap (λ z. let k : Link = record { old_code = b.old_code; new_code = z } in k) (eq_from a.new_code b.new_code p.1)
