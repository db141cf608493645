-- The words of a list, one after the other.
use Rattle.std.proofs.Common.{◌≡◌, ℕ, zero, suc, ◌-◌, ◌<◌, ◌≤◌, List, [], ◌∷◌, ◌++◌, length, take, replicate, arith}
use Rattle.std.proofs.Common.{refl, sym, ap, ◌∙◌}
use Rattle.rand_core.specs.{Stream.Stream, Steps.steps_u64_low}
use Rattle.rand_core.proofs.StepsLemmas.{next_u64-stream_of}
use Rattle.keycard_rules.specs.{Draw.words, ListedWords.next_listed, ListedWords.listed_stream, ListedWords.last_listed}
use Rattle.keycard_rules.specs.{ListedWords.first_listed}
use Rattle.keycard_rules.proofs.Drawing.{words-zero, words-suc}

-- more at the end than is taken
take-replicate : (n m : ℕ) (xs : List ℕ) (x : ℕ) → n ≤ m → take n (xs ++ replicate m x) ≡ take n (xs ++ replicate n x)
take-replicate zero m xs x h = refl
take-replicate (suc n) m (y ∷ ys) x h =
    ap (λ r. y ∷ r) (take-replicate n m ys x (omega arith) ∙ sym (take-replicate n (suc n) ys x (omega arith)))
take-replicate (suc n) zero [] x h = absurd (omega arith)
take-replicate (suc n) (suc m) [] x h = ap (λ r. x ∷ r) (take-replicate n m [] x (omega arith))

last_listed-more : (x y : ℕ) (ys : List ℕ) → last_listed (x ∷ y ∷ ys) ≡ last_listed (y ∷ ys)
last_listed-more x y ys =
    let e : suc (suc (length ys)) - 1 ≡ suc (suc (length ys) - 1) = omega arith in
    rw e refl

words-first : (n word : ℕ) (list left : List ℕ)
    → next_listed list ≡ (word, left) → words (suc n) (listed_stream list) ≡ word ∷ words n (listed_stream left)
words-first n word list left e =
    words-suc n (listed_stream list)
    ∙ ap (λ (p : ℕ × Stream). p.0 ∷ words n p.1) (next_u64-stream_of (steps_u64_low next_listed) list
    ∙ ap (λ (p : ℕ × List ℕ). (p.0, listed_stream p.1)) e)

pub words-listed : (n : ℕ) (list : List ℕ) → 0 < length list → words n (listed_stream list) ≡ first_listed n list
words-listed zero list h = words-zero (listed_stream list)
words-listed (suc n) [] h = absurd (omega arith)
words-listed (suc n) (x ∷ []) h =
    words-first n x (x ∷ []) (x ∷ []) refl
    ∙ ap (λ r. x ∷ r) (words-listed n (x ∷ []) h)
words-listed (suc n) (x ∷ y ∷ ys) h =
    words-first n x (x ∷ y ∷ ys) (y ∷ ys) refl
    ∙ ap (λ r. x ∷ r) (words-listed n (y ∷ ys) (omega arith)
    ∙ sym (take-replicate n (suc n) (y ∷ ys) (last_listed (y ∷ ys)) (omega arith))
    ∙ ap (λ z. take n ((y ∷ ys) ++ replicate (suc n) z)) (sym (last_listed-more x y ys)))
