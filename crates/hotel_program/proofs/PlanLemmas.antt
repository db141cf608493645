-- The texts of values, one more at a time.
use Rattle.std.proofs.Common.{◌≡◌, ◌∙◌, ℕ, ◌+◌, ◌<◌, List, [], ◌∷◌, ◌++◌, length, take, drop, get_or, ap, sym, refl}
use Rattle.std.proofs.Common.{arith, subst, Result, Ok, Err}
use Rattle.std.proofs.lemmas.List.{take-append-drop, append_assoc}
use Rattle.std.proofs.lemmas.Grind.{take_at_read}
use Rattle.clap.specs.Words.{Row, Text}
use Rattle.keycard_rules.specs.Results.{◌>>=◌}
use Rattle.hotel_asks.specs.declared.values.ValueFault.{ValueFault}
use Rattle.hotel_asks.specs.declared.values.ValueName.{ValueName}
use Rattle.hotel_program.specs.declared.command_line.plan.UsageFault.{UsageFault}
use Rattle.hotel_program.specs.declared.command_line.plan.UsageFault.TheVariants.{Shown, Usage, Value, Memory}
use Rattle.hotel_program.specs.Plans.{IsRead, text_value, texts_in}

abbrev ok_or_not : {A : Type 0} → A → Result A ValueFault → A
ok_or_not a (Ok b) = b
ok_or_not a (Err why) = a

abbrev IsAnOk : {A : Type 0} → Result A ValueFault → Type 0
IsAnOk (Ok a) = Unit {0}
IsAnOk (Err why) = ⊥

abbrev both : Result Text ValueFault → Result (List Text) ValueFault → Result (List Text) ValueFault
both first rest = first >>= λ t. rest >>= λ ts. Ok (t ∷ ts)

-- both were given
was_given : (first : Result Text ValueFault) (rest : Result (List Text) ValueFault) (given : List Text)
    → both first rest ≡ Ok given
    → (t : Text) × (ts : List Text) × (first ≡ Ok t) × (rest ≡ Ok ts) × (t ∷ ts ≡ given)
was_given (Ok t) (Ok ts) given e = (t, ts, refl, refl, ap (ok_or_not []) e)
was_given (Ok t) (Err why) given e = absurd (subst IsAnOk (sym e) tt)
was_given (Err why) rest given e = absurd (subst IsAnOk (sym e) tt)

-- One more text is given.
pub more_texts : (rows : List Row) (names : List ValueName) (name : ValueName) (given : List Text) (t : Text)
    → texts_in rows names ≡ Ok given → text_value rows name ≡ Ok t
    → texts_in rows (names ++ name ∷ []) ≡ Ok (given ++ t ∷ [])
more_texts rows [] name given t e h = rw (h, sym (ap (ok_or_not given) e)) refl
more_texts rows (first ∷ names) name given t e h =
    let was = was_given (text_value rows first) (texts_in rows names) given e in
    let rest = more_texts rows names name was.1 t was.3 h in
    ap (λ r. both r (texts_in rows (names ++ name ∷ []))) was.2 ∙ ap (λ r. both (Ok was.0) r) rest
    ∙ ap (λ ts. Ok (ts ++ t ∷ [])) was.4

-- The first text that is refused.
pub first_refused : (rows : List Row) (names : List ValueName) (name : ValueName) (rest : List ValueName)
    (given : List Text) (why : ValueFault) → texts_in rows names ≡ Ok given
    → text_value rows name ≡ Err why → texts_in rows (names ++ name ∷ rest) ≡ Err why
first_refused rows [] name rest given why e h = ap (λ r. both r (texts_in rows rest)) h
first_refused rows (first ∷ names) name rest given why e h =
    let was = was_given (text_value rows first) (texts_in rows names) given e in
    ap (λ r. both r (texts_in rows (names ++ name ∷ rest))) was.2
    ∙ ap (λ r. both (Ok was.0) r) (first_refused rows names name rest was.1 why was.3 h)

-- A text that is refused in a pass over the names is refused of all of them.
pub refused_in_pass : {A B : Type 0} (of : A → Text) (to : B → List Text) (rows : List Row) (names : List ValueName)
    (i : ℕ) (d : ValueName) (given : List Text) (why : UsageFault) → i < length names
    → texts_in rows (take i names) ≡ Ok given → IsRead of (text_value rows (get_or names i d)) (Err why)
    → IsRead to (texts_in rows names) (Err why)
refused_in_pass of to rows names i d given (Value name) below e h =
    let whole : take i names ++ get_or names i d ∷ drop (i + 1) names ≡ names =
    sym (append_assoc (take i names) (get_or names i d ∷ []) (drop (i + 1) names))
    ∙ ap (λ l. l ++ drop (i + 1) names) (sym (take_at_read names i d below).1) ∙ take-append-drop (i + 1) names in
    ap (texts_in rows) (sym whole)
    ∙ first_refused rows (take i names) (get_or names i d) (drop (i + 1) names) given _ e h
refused_in_pass of to rows names i d given Memory below e h = tt
refused_in_pass of to rows names i d given (Shown text) below e h = h
refused_in_pass of to rows names i d given (Usage text) below e h = h

-- There are as many texts as names.
pub as_many_texts : (rows : List Row) (names : List ValueName) (given : List Text)
    → texts_in rows names ≡ Ok given → length given ≡ length names
as_many_texts rows [] given e = ap length (sym (ap (ok_or_not given) e))
as_many_texts rows (first ∷ names) given e =
    let was = was_given (text_value rows first) (texts_in rows names) given e in
    let rest = as_many_texts rows names was.1 was.3 in
    rw (sym was.4) (omega (arith, rest))
