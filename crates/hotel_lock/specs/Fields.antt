-- The fields of an audit file's record.
use Rattle.std.specs.Prelude.{ℕ, List, [], ◌∷◌, Option, Some, None, codes}
use Rattle.hotel_lock.specs.{declared.header.Columns.Columns, declared.fields.Fields.Fields}
use Rattle.hotel_lock.specs.declared.header.Columns.TheVariants.{WithFit, WithoutFit}

-- The texts of a record's fields, by the names of the columns.
pub record FieldTexts : Type 0 where
  pub room : List ℕ
  pub fit : List ℕ
  pub count : List ℕ
  pub kind : List ℕ
  pub card : List ℕ
  pub old_code : List ℕ
  pub new_code : List ℕ
  pub moment : List ℕ

-- the texts that fields borrow
abbrev pub field_texts : Fields → FieldTexts
field_texts f = record {
  room = f.room.now;
  fit = f.fit.now;
  count = f.count.now;
  kind = f.kind.now;
  card = f.card.now;
  old_code = f.old_code.now;
  new_code = f.new_code.now;
  moment = f.moment.now;
}

-- the fields of a record of this room and fit, where the others are six
abbrev pub fields_behind : List ℕ → List ℕ → List (List ℕ) → Option FieldTexts
fields_behind room fit (count ∷ kind ∷ card ∷ old_code ∷ new_code ∷ moment ∷ []) =
    Some (record {
      room = room;
      fit = fit;
      count = count;
      kind = kind;
      card = card;
      old_code = old_code;
      new_code = new_code;
      moment = moment;
    })
fields_behind room fit _ = None

-- the fields of a record, where they are as many as the columns: eight; or seven, where it is of the room's first lock
abbrev pub fields_under : Columns → List (List ℕ) → Option FieldTexts
fields_under WithFit (room ∷ fit ∷ others) = fields_behind room fit others
fields_under WithoutFit (room ∷ others) = fields_behind room (codes "1") others
fields_under columns _ = None
