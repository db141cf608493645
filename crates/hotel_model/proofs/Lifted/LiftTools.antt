-- Outcomes compared check by check, each where those before it passed.
use Rattle.std.proofs.Common.{ℕ, ◌≡◌, Bool, true, false, Option, Some, None, List, [], ◌∷◌, refl, ap, ◌∙◌, option_map}
use Rattle.hotel_model.proofs.Names.{Draw, Command, Reply, Refusal, Event, History, rows_of, Outcome, needs, unless}
use Rattle.hotel_model.proofs.Names.{by_draw, answer_to, checks, effect, change_of, outcome_on, checks_on, effect_on}
use Rattle.hotel_model.proofs.Names.{as_change}

-- Each check is as the other list's, where those before it passed, and so is what comes after them.
abbrev pub Alike : {X : Type 0} → List (Option Refusal) → List (Option Refusal) → Outcome X → Outcome X → Type 0
Alike [] [] e f = e ≡ f
Alike (c ∷ cs) (d ∷ ds) e f = (c ≡ d) × (d ≡ None → Alike cs ds e f)
Alike [] (d ∷ ds) e f = ⊥
Alike (c ∷ cs) [] e f = ⊥

-- a check that is as the other one, and what comes after it
pub alike : {C L : Type 0} → C → L → C × L
alike check later = (check, later)

first_alike : {X : Type 0} (d : Option Refusal) (cs ds : List (Option Refusal)) (e f : Outcome X)
    → (d ≡ None → unless cs e ≡ unless ds f) → unless (d ∷ cs) e ≡ unless (d ∷ ds) f
first_alike None cs ds e f later = later refl
first_alike (Some refusal) cs ds e f later = refl

pub same_unless : {X : Type 0} (cs ds : List (Option Refusal)) (e f : Outcome X)
    → Alike cs ds e f → unless cs e ≡ unless ds f
same_unless [] [] e f a = a
same_unless (c ∷ cs) (d ∷ ds) e f a =
    ap (λ x. unless (x ∷ cs) e) a.0 ∙ first_alike d cs ds e f (λ n. same_unless cs ds e f (a.1 n))
same_unless [] (d ∷ ds) e f a = absurd a
same_unless (c ∷ cs) [] e f a = absurd a

pub after_checks : (h : History) (cs : List (Option Refusal)) (e : Outcome Event)
    → unless cs (as_change h e) ≡ as_change h (unless cs e)
after_checks h [] e = refl
after_checks h (None ∷ cs) e = after_checks h cs e
after_checks h (Some refusal ∷ cs) e = refl

-- A command lifts where its checks and what comes after them do.
pub lifts_by : (h : History) (ahead : List ℕ) (command : Command) → Alike (checks_on (rows_of h) command) (checks h
    command) (effect_on (rows_of h) ahead command) (as_change h (effect h ahead command))
    → outcome_on (rows_of h) ahead command ≡ as_change h (answer_to h ahead command)
unfolding outcome_on answer_to
lifts_by h ahead command a =
    same_unless (checks_on (rows_of h) command) (checks h command) (effect_on (rows_of h) ahead command)
    (as_change h (effect h ahead command)) a
    ∙ after_checks h (checks h command) (effect h ahead command)

pub needed : (b : Bool) (r : Refusal) → needs b r ≡ None → b ≡ true
needed true r h = refl
needed false r h = cc

mapped_twice : {X Y Z : Type 0} (f : Y → Z) (g : X → Y) (o : Option X)
    → option_map (λ x. f (g x)) o ≡ option_map f (option_map g o)
mapped_twice f g None = refl
mapped_twice f g (Some x) = refl

-- What comes of a draw lifts with what happens at each code.
pub draw_lifts : (h : History) (draw : Draw) (reply_with : ℕ → Reply) (event_with : ℕ → Event)
    → by_draw draw reply_with (λ code. change_of h (event_with code)) ≡ as_change h (by_draw draw reply_with event_with)
draw_lifts h draw reply_with event_with =
    ap (λ o. record (by_draw draw reply_with (λ code. change_of h (event_with code))) { happens = o })
    (mapped_twice (change_of h) event_with draw.code)
