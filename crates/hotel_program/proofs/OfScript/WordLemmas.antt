-- The words of a line, one after the other.
use Rattle.std.proofs.Common.{◌≡◌, ℕ, suc, ◌+◌, ◌==◌, List, [], ◌∷◌, length, arith, refl, ap, true, false, inl, inr}
use Rattle.std.proofs.lemmas.Bool.{cases_Bool}
use Rattle.std.proofs.lemmas.Bool.Decides.{nat_tests}
use Rattle.std.specs.List.{prefix_len, position_or_len}
use Rattle.hotel_program.specs.Script.Words.{words, next_word, words_from, trimmed_start, first_word, after_word}
use Rattle.hotel_program.specs.Script.Words.{with_first}

spaces-skip : (b : ℕ) (rest : List ℕ) → (b == 32) ≡ true → trimmed_start (b ∷ rest) ≡ trimmed_start rest
unfolding trimmed_start
spaces-skip b rest h =
    let e : 1 + prefix_len (λ b. b == 32) rest ≡ suc (prefix_len (λ b. b == 32) rest) = omega arith in rw (h, e) refl

spaces-stop : (b : ℕ) (rest : List ℕ) → (b == 32) ≡ false → trimmed_start (b ∷ rest) ≡ b ∷ rest
unfolding trimmed_start
spaces-stop b rest h = rw h refl

first-more : (b : ℕ) (rest : List ℕ) → (b == 32) ≡ false → first_word (b ∷ rest) ≡ b ∷ first_word rest
unfolding first_word
first-more b rest h =
    let e : 1 + position_or_len (λ b. b == 32) rest ≡ suc (position_or_len (λ b. b == 32) rest) = omega arith in
    rw (h, e) refl

after-more : (b : ℕ) (rest : List ℕ) → (b == 32) ≡ false → after_word (b ∷ rest) ≡ after_word rest
unfolding after_word
after-more b rest h =
    let e : 1 + position_or_len (λ b. b == 32) rest ≡ suc (position_or_len (λ b. b == 32) rest) = omega arith in
    rw (h, e) refl

first-stop : (b : ℕ) (rest : List ℕ) → (b == 32) ≡ true → first_word (b ∷ rest) ≡ []
unfolding first_word
first-stop b rest h = rw h refl

after-stop : (b : ℕ) (rest : List ℕ) → (b == 32) ≡ true → after_word (b ∷ rest) ≡ b ∷ rest
unfolding after_word
after-stop b rest h = rw h refl

first-nil : first_word [] ≡ []
unfolding first_word
first-nil = refl

after-nil : after_word [] ≡ []
unfolding after_word
after-nil = refl

words-skip : (b : ℕ) (rest : List ℕ) → (b == 32) ≡ true → words (b ∷ rest) ≡ words rest
unfolding words
words-skip b rest h = rw h refl

-- a text that begins with a word
words-first : (b : ℕ) (rest : List ℕ)
    → (b == 32) ≡ false → words (b ∷ rest) ≡ first_word (b ∷ rest) ∷ words (after_word (b ∷ rest))
unfolding words
words-first b [] h = rw (first-more b [] h, after-more b [] h, first-nil, after-nil, h) refl
words-first b (x ∷ rest) h = elim (cases_Bool (x == 32)) [
  | inl y ↦ rw (first-more b (x ∷ rest) h, after-more b (x ∷ rest) h, first-stop x rest y, after-stop x rest y, h, y)
      refl
  | inr n ↦
      let k = words-first x rest n in
      rw (first-more b (x ∷ rest) h, after-more b (x ∷ rest) h, h, n) (rw n at (ap (with_first b) k))
]

words-nil : words [] ≡ words_from (next_word [])
unfolding words trimmed_start
words-nil = refl

-- the words of a text are its first word and the words of what comes after it
pub words_next : (text : List ℕ) → words text ≡ words_from (next_word text)
words_next [] = words-nil
words_next (b ∷ rest) = elim (cases_Bool (b == 32)) [
  | inl y ↦ rw (words-skip b rest y, spaces-skip b rest y) (words_next rest)
  | inr n ↦
      let z : (length (b ∷ rest) == 0) ≡ false = grind (arith, nat_tests) in
      rw (spaces-stop b rest n, z) (words-first b rest n)
]
