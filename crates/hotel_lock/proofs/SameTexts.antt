-- Texts that are compared one after the other.
use Rattle.std.proofs.Common.{arith, ◌≡◌, ◌≢◌, ◌<◌, ◌+◌, ◌&&◌, ◌∙◌, ℕ, Bool, true, false, not, zero, suc, List, [], ◌∷◌}
use Rattle.std.proofs.Common.{length, drop, map, get_or, Some, refl, sym, ap}
use Rattle.std.specs.Borrow.{Bor}
use Rattle.std.specs.Str.{bytes_eq}
use Rattle.csv.specs.Records.{field_at}
use Rattle.hotel_lock.specs.Header.{are_same_texts}

and_no : (b : Bool) → false ≡ (b && false)
and_no true = refl
and_no false = refl

-- texts that are not as many as others are not the same
pub other_length : (fields texts : List (List ℕ)) → length fields ≢ length texts → false ≡ are_same_texts fields texts
other_length [] [] other = absurd (other refl)
other_length [] (b ∷ more) other = refl
other_length (a ∷ fields) [] other = refl
other_length (a ∷ fields) (b ∷ more) other =
    and_no (bytes_eq a b) ∙ ap (λ rest. bytes_eq a b && rest) (other_length fields more (λ e. other (omega (arith, e))))

-- a field and a text at a place, and what is behind them
pub next_text : (fields : List (List ℕ)) (texts : List (Bor (List ℕ))) (i : ℕ) (d : Bor (List ℕ)) (field : List ℕ)
    → i < length texts → Some field ≡ field_at fields i
    → are_same_texts (drop i fields) (map (λ text. text.now) (drop i texts))
    ≡ (bytes_eq field (get_or texts i d).now
    && are_same_texts (drop (i + 1) fields) (map (λ text. text.now) (drop (i + 1) texts)))
unfolding field_at
next_text [] texts i d field h e = cc e
next_text (f ∷ fields) [] i d field h e = absurd (omega (arith, h))
next_text (f ∷ fields) (t ∷ texts) zero d field h e = let same : field ≡ f = cc e in rw same refl
next_text (f ∷ fields) (t ∷ texts) (suc i) d field h e =
    let later : suc i + 1 ≡ suc (i + 1) = omega arith in
    rw later (next_text fields texts i d field (omega (arith, h)) e)

-- where they differ, not all are the same
pub text_differs : (all same rest ne : Bool) → all ≡ (same && rest) → ne ≡ not same → ne ≡ true → false ≡ all
text_differs all true rest ne e is differ = cc (is, differ)
text_differs all false rest ne e is differ = sym e

-- where they are the same, those behind them decide
pub text_is_same : (all same rest ne : Bool) → all ≡ (same && rest) → ne ≡ not same → ne ≡ false → rest ≡ all
text_is_same all true rest ne e is alike = sym e
text_is_same all false rest ne e is alike = cc (is, alike)
