-- A guest's text is UTF-8 and its reader takes it.
use Rattle.std.proofs.Common.{◌≡◌, ℕ, List, Bool, IsUtf8, true, false, ◌&&◌, refl, sym, ap, ap₂, subst, inl, inr}
use Rattle.std.proofs.Common.{Result, Ok, Err, IsOkAnd, ◌∙◌, if◌then◌else◌}
use Rattle.std.proofs.lemmas.Bool.{cases_Bool}
use Rattle.std.proofs.lemmas.Str.{IsUtf8-from_is_utf8, is_utf8-from_IsUtf8}
use Rattle.std.specs.Str.{is_utf8}
use Rattle.hotel_nights.specs.{Guests.is_guest, declared.guest.GuestFault.GuestFault}
use Rattle.hotel_nights.specs.{declared.guest.GuestFault.TheVariants.Unread}
use Rattle.hotel_nights.specs.{declared.guest.GuestFault.TheVariants.Memory}
use Rattle.hotel_asks.specs.{declared.values.ValueFault.ValueFault, declared.values.ValueFault.TheVariants.Value}
use Rattle.hotel_asks.specs.{declared.values.ValueName.TheVariants.Guest}
use Rattle.hotel_asks.specs.Values.{guest_in}
use Rattle.hotel_asks.proofs.values.read_guest.Goals as goal

-- a text that is not UTF-8 is no guest
not_text : (text : List ℕ) → (IsUtf8 text → ⊥) → Err (Value Guest) ≡ guest_in text
not_text text h = elim (cases_Bool (is_utf8 text)) [
  | inl yes_text ↦ absurd (h (IsUtf8-from_is_utf8 text yes_text))
  | inr no_text ↦ rw no_text refl
]

-- a text that its reader takes is the guest
taken : (text : List ℕ) → IsUtf8 text → (is_guest text ≡ false → ⊥) → Ok text ≡ guest_in text
taken text u h = elim (cases_Bool (is_guest text)) [
  | inl is ↦
      let both : (is_utf8 text && is_guest text) ≡ true =
      ap₂ (λ (a b : Bool). a && b) (is_utf8-from_IsUtf8 text u) is in
      let pick : Bool → Result (List ℕ) ValueFault = λ b. if b then Ok text else Err (Value Guest) in
      ap pick (sym both)
  | inr not ↦ absurd (h not)
]

is_copy : (text : List ℕ) → Ok text ≡ guest_in text → IsOkAnd (guest_in text) (λ guest. true ≡ true)
is_copy text e = let P : Result (List ℕ) ValueFault → Type 0 = λ r. IsOkAnd r (λ guest. true ≡ true) in subst P e refl

abbrev refused : GuestFault → Result (List ℕ) GuestFault
refused fault = Err fault

apart : (fault : GuestFault) → fault ≡ Memory → refused fault ≡ refused Unread → ⊥
apart fault p q = cc

pub returns-in_default : goal.returns-in_default
returns-in_default c = not_text c.args.text.now c.in_default.ensures.cases.0

pub returns-in-Ok-read : goal.returns-in-Ok-read
returns-in-Ok-read c =
    let same = c.in-Ok.ensures.cases.0 in
    let reads : is_guest c.in-Ok.text.now ≡ false → ⊥ =
    λ no_guest. (let e = c.in-Ok-read.ensures.unread.1 no_guest in cc) in
    let P : List ℕ → Type 0 = λ t. Ok t ≡ guest_in c.args.text.now in
    subst P (sym (c.in-Ok-read.ensures.same ∙ same))
    (taken c.args.text.now c.in-Ok.ensures.cases.1
    (λ no_guest. reads (let Q : List ℕ → Type 0 = λ t. is_guest t ≡ false in subst Q (sym same) no_guest)))

pub returns-in-Err-Memory : goal.returns-in-Err-Memory
returns-in-Err-Memory c =
    let same = c.in-Ok.ensures.cases.0 in
    let reads : is_guest c.in-Ok.text.now ≡ false → ⊥ =
    λ no_guest. apart c.in-Err-Memory.field-0 c.in-Err-Memory.field-0-is (c.in-Err-Memory.ensures.unread.1 no_guest) in
    is_copy c.args.text.now
    (taken c.args.text.now c.in-Ok.ensures.cases.1
    (λ no_guest. reads (let Q : List ℕ → Type 0 = λ t. is_guest t ≡ false in subst Q (sym same) no_guest)))
