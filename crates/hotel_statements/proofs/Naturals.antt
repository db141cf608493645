-- Plain rows without numbers below 0 are such as the books write.
use Rattle.std.proofs.Common.{◌≡◌, ℕ, ℤ, pos, negsuc, true, false, cond, not, eqb, Option, None, Some, refl, ap, ◌∙◌}
use Rattle.std.proofs.Common.{arith, inl, inr}
use Rattle.std.specs.Prelude.{nat_le, ◌==◌, is_some, option_map}
use Rattle.std.proofs.lemmas.Bool.{cases_Bool, false≢true}
use Rattle.std.proofs.lemmas.Bool.Decides.{nat_tests}
use Rattle.sqlite_value.specs.declared.value.Value.TheVariants.{Int}
use Rattle.sqlite.specs.Order.{Row}
use Rattle.hotel_model.specs.Stays.{room_of_state}
use Rattle.hotel_model.proofs.OfTables.Tests.{and_true}
use Rattle.hotel_statements.specs.declared.plain_rows.PlainMeta.{PlainMeta}
use Rattle.hotel_rows.specs.declared.stored.PlainKind.{PlainKind}
use Rattle.hotel_rows.specs.declared.stored.PlainRoom.{PlainRoom}
use Rattle.hotel_rows.specs.declared.stored.PlainStay.{PlainStay}
use Rattle.hotel_rows.specs.declared.stored.PlainCode.{PlainCode}
use Rattle.hotel_rows.specs.declared.stored.PlainCard.{PlainCard}
use Rattle.hotel_rows.specs.declared.stored.PlainInside.{PlainInside}
use Rattle.hotel_rows.specs.declared.stored.PlainNote.{PlainNote}
use Rattle.hotel_rows.specs.declared.stored.PlainFit.{PlainFit}
use Rattle.hotel_statements.specs.Values.{int, maybe_int}
use Rattle.hotel_statements.specs.Values as value
use Rattle.hotel_statements.specs.Columns.{meta_of, meta_written, kind_of, kind_written, room_of, room_written, bit_of}
use Rattle.hotel_statements.specs.Columns.{stay_of, stay_written, state_number, code_of, code_written, card_of}
use Rattle.hotel_statements.specs.Columns.{card_written, inside_of, inside_written, note_of, note_written, fit_of}
use Rattle.hotel_statements.specs.Columns.{fit_written, act_number, act_card, act_first, act_second}
use Rattle.hotel_rows.specs.Stored.{number_of, state_of, act_of, kind_text, room_entry, stay_entry}
use Rattle.hotel_rows.specs.Stored.{code_entry, card_entry, inside_pair, note_entry, fit_entry}
use Rattle.hotel_rows.specs.Damage.{are_room_columns, are_stay_columns, are_note_columns}
use Rattle.hotel_statements.specs.PlainRows.{maybe, is_natural, may_be_natural, meta_shown, kind_shown, room_shown}
use Rattle.hotel_statements.specs.PlainRows.{room_natural, stay_shown, stay_natural, code_shown, code_natural}
use Rattle.hotel_statements.specs.PlainRows.{card_shown, card_natural, inside_shown, inside_natural, note_shown}
use Rattle.hotel_statements.specs.PlainRows.{note_natural, fit_shown, fit_natural}

-- ---- a number, and one that may be null

is_int : (n : ℤ) → is_natural n ≡ true → Int n ≡ int (number_of n)
is_int (pos n) h = refl
is_int (negsuc n) h = absurd (false≢true h)

says : (n : ℤ) → is_natural n ≡ true → value.number_of (Int n) ≡ number_of n
says (pos n) h = refl
says (negsuc n) h = absurd (false≢true h)

is_maybe : (o : Option ℤ) → may_be_natural o ≡ true → maybe o ≡ maybe_int (option_map number_of o)
is_maybe None h = refl
is_maybe (Some n) h = is_int n h

may_say : (o : Option ℤ) → may_be_natural o ≡ true → value.option_of (maybe o) ≡ option_map number_of o
may_say None h = refl
may_say (Some (pos n)) h = refl
may_say (Some (negsuc n)) h = absurd (false≢true h)

-- ---- a bit, the state of a stay, and the act of a note

is_one : (n : ℕ) → eqb n 1 ≡ true → n ≡ 1
is_one n h = grind (arith, nat_tests)

is_zero : (n : ℕ) → nat_le n 1 ≡ true → eqb n 1 ≡ false → n ≡ 0
is_zero n h k = grind (arith, nat_tests)

is_bit : (n : ℕ) → nat_le n 1 ≡ true → n ≡ bit_of (n == 1)
is_bit n h = elim (cases_Bool (eqb n 1)) [
  | inl is ↦ rw is (is_one n is)
  | inr other ↦ rw other (is_zero n h other)
]

some_mapped : (o : Option ℤ) → is_some (option_map number_of o) ≡ is_some o
some_mapped None = refl
some_mapped (Some n) = refl

-- what is written of the state is what stood there
record IsState (n : ℕ) (room : Option ℕ) : Type 0 where
  number : n ≡ state_number (state_of n room)
  home : room ≡ room_of_state (state_of n room)

is_state : (n : ℕ) (room : Option ℕ)
    → nat_le n 3 ≡ true → (cond (is_some room) (n == 1) (not (n == 1))) ≡ true → IsState n room
is_state n None low h = elim (cases_Bool (eqb n 0)) [
  | inl zero_is ↦ record {
    number = rw zero_is (grind (arith, nat_tests));
    home = rw zero_is refl;
  }
  | inr not_zero ↦ elim (cases_Bool (eqb n 1)) [
    | inl one_is ↦ absurd (let w = rw one_is at h in false≢true w)
    | inr not_one ↦ elim (cases_Bool (eqb n 2)) [
      | inl two_is ↦ record {
        number = rw (not_zero, not_one, two_is) (grind (arith, nat_tests));
        home = rw (not_zero, not_one, two_is) refl;
      }
      | inr not_two ↦ record {
        number = rw (not_zero, not_one, not_two) (grind (arith, nat_tests));
        home = rw (not_zero, not_one, not_two) refl;
      }
    ]
  ]
]
is_state n (Some room) low h =
    let not_zero : eqb n 0 ≡ false = grind (arith, nat_tests) in
    record {
      number = rw (not_zero, h) (grind (arith, nat_tests));
      home = rw (not_zero, h) refl;
    }

record IsAct (n : ℕ) (card : Option ℕ) (first second : ℕ) : Type 0 where
  number : n ≡ act_number (act_of n card first second)
  by : card ≡ act_card (act_of n card first second)
  from : first ≡ act_first (act_of n card first second)
  to : second ≡ act_second (act_of n card first second)

is_act : (n : ℕ) (card : Option ℕ) (first second : ℕ)
    → (cond (is_some card) (nat_le n 1) (n == 2)) ≡ true → IsAct n card first second
is_act n None first second h =
    let not_zero : eqb n 0 ≡ false = grind (arith, nat_tests) in
    let not_one : eqb n 1 ≡ false = grind (arith, nat_tests) in
    record {
      number = rw (not_zero, not_one) (grind (arith, nat_tests));
      by = rw (not_zero, not_one) refl;
      from = rw (not_zero, not_one) refl;
      to = rw (not_zero, not_one) refl;
    }
is_act n (Some card) first second h = elim (cases_Bool (eqb n 0)) [
  | inl zero_is ↦ record {
    number = rw zero_is (grind (arith, nat_tests));
    by = rw zero_is refl;
    from = rw zero_is refl;
    to = rw zero_is refl;
  }
  | inr not_zero ↦
      let one_is : eqb n 1 ≡ true = grind (arith, nat_tests) in
      record {
        number = rw (not_zero, one_is) (grind (arith, nat_tests));
        by = rw (not_zero, one_is) refl;
        from = rw (not_zero, one_is) refl;
        to = rw (not_zero, one_is) refl;
      }
]

-- ---- the rows of the tables

abbrev meta_entry : PlainMeta → ℕ × (ℕ × Option ℕ)
meta_entry l = (number_of l.id, (number_of l.version, option_map number_of l.day))

abbrev Good : {L X : Type 0} → (Row → X) → (X → Row) → (L → Row) → (L → X) → L → Type 0
Good of written shown entry l = (shown l ≡ written (entry l)) × (of (shown l) ≡ entry l)

pub meta_good : {number : ℕ} (l : PlainMeta) → l.id ≡ pos 1 → l.version ≡ pos number → may_be_natural l.day ≡ true
    → Good meta_of meta_written meta_shown meta_entry l
meta_good l id version day =
    let one : is_natural l.id ≡ true = ap is_natural id in
    let two : is_natural l.version ≡ true = ap is_natural version in (
      rw (is_int l.id one, is_int l.version two, is_maybe l.day day) refl,
      rw (says l.id one, says l.version two, may_say l.day day) refl,
    )

pub kind_good : (l : PlainKind) → Good kind_of kind_written kind_shown kind_text l
kind_good l = (refl, refl)

pub code_good : (l : PlainCode) → code_natural l ≡ true → Good code_of code_written code_shown code_entry l
code_good l h =
    let b = and_true _ (is_natural l.place) h in
    let a = and_true (is_natural l.code) (is_natural l.room) b.0 in (
      rw (is_int l.code a.0, is_int l.room a.1, is_int l.place b.1) refl,
      rw (says l.code a.0, says l.room a.1, says l.place b.1) refl,
    )

pub card_good : (l : PlainCard) → card_natural l ≡ true → Good card_of card_written card_shown card_entry l
card_good l h =
    let d = and_true _ (is_natural l.new_code) h in
    let b = and_true _ (is_natural l.old_code) d.0 in
    let a = and_true (is_natural l.number) (is_natural l.party) b.0 in (
      rw (is_int l.number a.0, is_int l.party a.1, is_int l.old_code b.1, is_int l.new_code d.1) refl,
      rw (says l.number a.0, says l.party a.1, says l.old_code b.1, says l.new_code d.1) refl,
    )

pub inside_good : (l : PlainInside) → inside_natural l ≡ true → Good inside_of inside_written inside_shown inside_pair l
inside_good l h =
    let a = and_true (is_natural l.room) (is_natural l.card) h in
    (rw (is_int l.room a.0, is_int l.card a.1) refl, rw (says l.room a.0, says l.card a.1) refl)

pub fit_good : (l : PlainFit) → fit_natural l ≡ true → Good fit_of fit_written fit_shown fit_entry l
fit_good l h =
    let c = and_true _ (is_natural l.before) h in
    let b = and_true _ (is_natural l.place) c.0 in
    let a = and_true (is_natural l.room) (is_natural l.fit) b.0 in (
      rw (is_int l.room a.0, is_int l.fit a.1, is_int l.place b.1, is_int l.before c.1) refl,
      rw (says l.room a.0, says l.fit a.1, says l.place b.1, says l.before c.1) refl,
    )

pub room_good : (l : PlainRoom) → room_natural l ≡ true → are_room_columns l ≡ true
    → Good room_of room_written room_shown room_entry l
room_good l h bit =
    let f = and_true _ (is_natural l.notes) h in
    let e = and_true _ (may_be_natural l.party) f.0 in
    let d = and_true _ (is_natural l.secured) e.0 in
    let b = and_true _ (is_natural l.codes) d.0 in
    let a = and_true (is_natural l.room) (is_natural l.lock_place) b.0 in
    let secured : Int l.secured ≡ int (bit_of (number_of l.secured == 1)) =
    is_int l.secured d.1 ∙ ap int (is_bit (number_of l.secured) bit) in (
      rw (
        is_int l.room a.0,
        is_int l.lock_place a.1,
        is_int l.codes b.1,
        secured,
        is_maybe l.party e.1,
        is_int l.notes f.1,
      ) refl,
      rw (
        says l.room a.0,
        says l.lock_place a.1,
        says l.codes b.1,
        says l.secured d.1,
        may_say l.party e.1,
        says l.notes f.1,
      ) refl,
    )

pub stay_good : (l : PlainStay) → stay_natural l ≡ true → are_stay_columns l ≡ true
    → Good stay_of stay_written stay_shown stay_entry l
stay_good l h fits =
    let e = and_true _ (may_be_natural l.room) h in
    let d = and_true _ (is_natural l.state) e.0 in
    let b = and_true _ (is_natural l.depart) d.0 in
    let a = and_true (is_natural l.party) (is_natural l.arrive) b.0 in
    let n = number_of l.state in
    let room = option_map number_of l.room in
    let t = and_true (nat_le n 3) _ fits in
    let home : cond (is_some room) (n == 1) (not (n == 1)) ≡ true =
    ap (λ s. cond s (n == 1) (not (n == 1))) (some_mapped l.room) ∙ t.1 in
    let it = is_state n room t.0 home in
    let number : Int l.state ≡ int (state_number (state_of n room)) = is_int l.state d.1 ∙ ap int it.number in
    let in_room : maybe l.room ≡ maybe_int (room_of_state (state_of n room)) =
    is_maybe l.room e.1 ∙ ap maybe_int it.home in (
      rw (is_int l.party a.0, is_int l.arrive a.1, is_int l.depart b.1, number, in_room) refl,
      rw (says l.party a.0, says l.arrive a.1, says l.depart b.1, says l.state d.1, may_say l.room e.1) refl,
    )

pub note_good : (l : PlainNote) → note_natural l ≡ true → are_note_columns l ≡ true
    → Good note_of note_written note_shown note_entry l
note_good l h fits =
    let i = and_true _ (is_natural l.second) h in
    let f = and_true _ (is_natural l.day) i.0 in
    let e = and_true _ (is_natural l.second_code) f.0 in
    let d = and_true _ (is_natural l.first_code) e.0 in
    let k = and_true _ (may_be_natural l.card) d.0 in
    let b = and_true _ (is_natural l.act) k.0 in
    let a = and_true (is_natural l.room) (is_natural l.n) b.0 in
    let n = number_of l.act in
    let card = option_map number_of l.card in
    let first = number_of l.first_code in
    let second = number_of l.second_code in
    let t = and_true (nat_le n 2) _ fits in
    let by : cond (is_some card) (nat_le n 1) (n == 2) ≡ true =
    ap (λ s. cond s (nat_le n 1) (n == 2)) (some_mapped l.card) ∙ t.1 in
    let it = is_act n card first second by in
    let number : Int l.act ≡ int (act_number (act_of n card first second)) = is_int l.act b.1 ∙ ap int it.number in
    let carded : maybe l.card ≡ maybe_int (act_card (act_of n card first second)) =
    is_maybe l.card k.1 ∙ ap maybe_int it.by in
    let from : Int l.first_code ≡ int (act_first (act_of n card first second)) =
    is_int l.first_code d.1 ∙ ap int it.from in
    let to : Int l.second_code ≡ int (act_second (act_of n card first second)) =
    is_int l.second_code e.1 ∙ ap int it.to in (
      rw (is_int l.room a.0, is_int l.n a.1, number, carded, from, to, is_int l.day f.1, is_int l.second i.1) refl,
      rw (
        says l.room a.0,
        says l.n a.1,
        says l.act b.1,
        may_say l.card k.1,
        says l.first_code d.1,
        says l.second_code e.1,
        says l.day f.1,
        says l.second i.1,
      ) refl,
    )
