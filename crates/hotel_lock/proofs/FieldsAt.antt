-- A record's fields in turn.
use Rattle.std.proofs.Common.{◌≡◌, ◌+◌, ◌∙◌, ◌<◌, ℕ, zero, suc, List, [], ◌∷◌, drop, Option, Some, None, IfSome, ap}
use Rattle.std.proofs.Common.{arith, length, refl, sym, Bor}
use Rattle.csv.specs.declared.record.ByteRecord.{ByteRecord}
use Rattle.csv.specs.Records.{field_at, fields_of}
use Rattle.hotel_lock.specs.{declared.header.Columns.Columns, Fields.fields_under}
use Rattle.hotel_lock.specs.declared.header.Columns.TheVariants.{WithFit, WithoutFit}
use Rattle.csv.specs.declared.record.ByteRecordIter.{ByteRecordIter}

-- from a place on there are the field at it and those behind it
prefix_at : {f : List ℕ} (fs : List (List ℕ)) (n : ℕ) → Some f ≡ field_at fs n → drop n fs ≡ f ∷ drop (suc n) fs
unfolding field_at
prefix_at [] n e = cc e
prefix_at (f ∷ fs) zero e = cc e
prefix_at (f ∷ fs) (suc n) e = prefix_at fs n e

none_at : (fs : List (List ℕ)) (n : ℕ) → None ≡ field_at fs n → drop n fs ≡ []
unfolding field_at
none_at [] zero e = cc
none_at [] (suc n) e = cc
none_at (f ∷ fs) zero e = cc e
none_at (f ∷ fs) (suc n) e = none_at fs n e

-- a place before the end has one
pub no_field : {A : Type 0} (fs : List (List ℕ)) (n : ℕ) → n < length fs → None ≡ field_at fs n → A
unfolding field_at
no_field [] n there e = absurd (omega (arith, there))
no_field (f ∷ fs) zero there e = cc e
no_field (f ∷ fs) (suc n) there e = no_field fs n (omega (arith, there)) e

-- the fields that are left
abbrev pub left_of : ByteRecordIter → List (List ℕ)
left_of fields = drop fields.at (fields_of fields.row.now)

-- the next field was taken, or there was none
abbrev Takes : ByteRecordIter → Option (List ℕ) → ByteRecordIter → Type 0
Takes old field new = (new.row ≡ old.row) × (field ≡ field_at (fields_of old.row.now) old.at)
    × IfSome field (λ _. new.at ≡ old.at + 1)

pub took : {f : List ℕ} {fs : List (List ℕ)} (old new : ByteRecordIter) → Takes old (Some f) new → left_of new ≡ fs
    → left_of old ≡ f ∷ fs
took {f = f} old new (row, is, at) left =
    let next : suc old.at ≡ new.at = omega (arith, at) in
    prefix_at (fields_of old.row.now) old.at is
    ∙ ap (λ fs. f ∷ fs) (ap (λ n. drop n (fields_of old.row.now)) next
    ∙ ap (λ (row : Bor ByteRecord). drop new.at (fields_of row.now)) (sym row) ∙ left)

pub took_none : (old new : ByteRecordIter) → Takes old None new → left_of old ≡ []
took_none old new (row, is, at) = none_at (fields_of old.row.now) old.at is

-- all of a record's fields are left at first
pub all_left : {row : ByteRecord} (fields : ByteRecordIter) → fields.row.now ≡ row → fields.at ≡ 0
    → fields_of row ≡ left_of fields
all_left fields same at = sym (ap (λ n. drop n (fields_of fields.row.now)) at ∙ ap fields_of same)

-- the same fields under the same columns
pub under : {columns known : Columns} {fs left : List (List ℕ)} → columns ≡ known → fs ≡ left
    → fields_under columns fs ≡ fields_under known left
under {known = known} {fs = fs} is same = ap (λ columns. fields_under columns fs) is ∙ ap (fields_under known) same

-- no fields are none of a record's
pub none_under : (columns : Columns) → fields_under columns [] ≡ None
none_under WithFit = refl
none_under WithoutFit = refl
