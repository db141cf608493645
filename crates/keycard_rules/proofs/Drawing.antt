-- A draw, as far as it has come.
use Rattle.std.proofs.Common.{ℕ, zero, suc, ◌≡◌, ◌+◌, ◌≤◌, ◌<◌, Bool, true, false, List, [], ◌∷◌, Option, Some, None}
use Rattle.std.proofs.Common.{refl, ap, sym, ◌∙◌, arith, add-one, cond}
use Rattle.rand_core.specs.Stream.{Stream, next_u64}
use Rattle.keycard_rules.specs.Words.{is_one_of}
use Rattle.keycard_rules.specs.Draw.{words, past, code_of, Draw, draw_from, drawn}

-- the same draw, n more words examined before it
abbrev pub more : ℕ → Draw → Draw
more n draw = record { code = draw.code; examined = n + draw.examined }

-- the same, one more
abbrev one_more : Draw → Draw
one_more draw = record draw { examined = draw.examined + 1 }

pub past-suc : (n : ℕ) (s : Stream) → past (suc n) s ≡ (next_u64 (past n s)).1
unfolding past
past-suc zero s = refl
past-suc (suc n) s = past-suc n (next_u64 s).1

-- one more word
pub past-next : (n word : ℕ) (s0 s1 s2 : Stream) → s1 ≡ past n s0 → (word, s2) ≡ next_u64 s1 → s2 ≡ past (n + 1) s0
past-next n word s0 s1 s2 m next = rw add-one (ap (λ p. p.1) next ∙ ap (λ s. (next_u64 s).1) m ∙ sym (past-suc n s0))

pub past-zero : (s : Stream) → past 0 s ≡ s
unfolding past
past-zero s = refl

pub words-suc : (n : ℕ) (s : Stream) → words (suc n) s ≡ (next_u64 s).0 ∷ words n (next_u64 s).1
unfolding words
words-suc n s = refl

pub words-zero : (s : Stream) → words 0 s ≡ []
unfolding words
words-zero s = refl

-- n words gave issued codes, and the draw is what the words that are left give
pub record SoFar (issued : List ℕ) (s0 : Stream) (n : ℕ) (s1 : Stream) : Type 0 where
  pub left : ℕ
  pub all : n + left ≡ 64
  pub moved : s1 ≡ past n s0
  pub same : drawn issued s0 ≡ more n (draw_from issued (words left s1))

pub so_far_none : (issued : List ℕ) (s : Stream) → SoFar issued s 0 s
unfolding drawn
so_far_none issued s = record {
  left = 64;
  all = refl;
  moved = sym (past-zero s);
  same = ap (λ (k : ℕ). let d : Draw = record { code = (drawn issued s).code; examined = k } in d) (omega arith);
}

more_one : (n : ℕ) (d : Draw) → more n (one_more d) ≡ more (suc n) d
more_one n d = ap (λ (k : ℕ). let e : Draw = record { code = d.code; examined = k } in e) (omega arith)

issued_first : (issued later : List ℕ) (word : ℕ)
    → is_one_of (code_of word) issued ≡ true → draw_from issued (word ∷ later) ≡ one_more (draw_from issued later)
unfolding draw_from
issued_first issued later word h = rw h

fresh_first : (issued later : List ℕ) (word : ℕ) → is_one_of (code_of word) issued ≡ false
    → draw_from issued (word ∷ later) ≡ record { code = Some (code_of word); examined = 1 }
unfolding draw_from
fresh_first issued later word h = rw h

at_least_one : (issued later : List ℕ) (w : ℕ) → 1 ≤ (draw_from issued (w ∷ later)).examined
unfolding draw_from
at_least_one issued later w = at_least_one_by (is_one_of (code_of w) issued) (draw_from issued later) (code_of w)
  where
    at_least_one_by : (b : Bool) (d : Draw) (c : ℕ)
        → 1 ≤ (let r : Draw = cond b (one_more d) (record { code = Some c; examined = 1 }) in r).examined
    at_least_one_by true d c = omega arith
    at_least_one_by false d c = omega arith

-- at one more word
module _ (issued : List ℕ) (s0 s1 s2 : Stream) (n word : ℕ) (h : SoFar issued s0 n s1) (low : n < 64)
    (next : (word, s2) ≡ next_u64 s1) where
  is_later : (next_u64 s1).1 ≡ s2
  is_later = ap (λ p. p.1) (sym next)

  at_next : (left : ℕ) → n + left ≡ 64 → drawn issued s0 ≡ more n (draw_from issued (words left s1))
      → (m : ℕ) × (left ≡ suc m) × (drawn issued s0 ≡ more n (draw_from issued (word ∷ words m s2)))
  at_next zero e d = absurd (omega arith)
  at_next (suc m) e d =
      (m, refl, d ∙ ap (λ ws. more n (draw_from issued ws)) (words-suc m s1 ∙ ap (λ p. p.0 ∷ words m p.1) (sym next)))

  pub moved_on : s2 ≡ past (n + 1) s0
  moved_on = rw add-one (sym is_later ∙ ap (λ s. (next_u64 s).1) h.moved ∙ sym (past-suc n s0))

  pub so_far_more : is_one_of (code_of word) issued ≡ true → SoFar issued s0 (n + 1) s2
  so_far_more hit =
      let t = at_next h.left h.all h.same in
      record {
        left = t.0;
        all = omega arith;
        moved = moved_on;
        same = rw add-one (t.2 ∙ ap (more n) (issued_first issued (words t.0 s2) word hit)
            ∙ more_one n (draw_from issued (words t.0 s2)));
      }

  pub found : is_one_of (code_of word) issued ≡ false
      → drawn issued s0 ≡ record { code = Some (code_of word); examined = n + 1 }
  found miss =
      let t = at_next h.left h.all h.same in
      t.2 ∙ ap (more n) (fresh_first issued (words t.0 s2) word miss)

  -- the draw goes at least as far as this word
  pub examines : n + 1 ≤ (drawn issued s0).examined
  examines =
      let t = at_next h.left h.all h.same in
      let e : (drawn issued s0).examined ≡ n + (draw_from issued (word ∷ words t.0 s2)).examined =
      ap (λ d. d.examined) t.2 in
      omega (arith, e, at_least_one issued (words t.0 s2) word)

-- no word is left
no_more_at : (issued : List ℕ) (s0 s1 : Stream) (n left : ℕ)
    → n + left ≡ 64 → 64 ≤ n → drawn issued s0 ≡ more n (draw_from issued (words left s1))
    → drawn issued s0 ≡ record { code = None; examined = n }
unfolding draw_from
no_more_at issued s0 s1 n zero a e d = d ∙ ap (λ ws. more n (draw_from issued ws)) (words-zero s1) ∙ ap
    (λ (k : ℕ). let d : Draw = record { code = None; examined = k } in d) (omega arith)
no_more_at issued s0 s1 n (suc left) a e d = absurd (omega arith)

pub no_more : (issued : List ℕ) (s0 s1 : Stream) (n : ℕ)
    → SoFar issued s0 n s1 → 64 ≤ n → drawn issued s0 ≡ record { code = None; examined = n }
no_more issued s0 s1 n h e = no_more_at issued s0 s1 n h.left h.all e h.same

-- an answer of a look-up, of the word's code and the codes at the start
pub answer_at : (now then_ : List ℕ) (word code : ℕ) (was b : Bool)
    → was ≡ is_one_of code now → was ≡ b → now ≡ then_ → code ≡ code_of word → is_one_of (code_of word) then_ ≡ b
answer_at now then_ word code was b a e s k =
    sym (ap (λ x. is_one_of x now) k ∙ ap (λ xs. is_one_of (code_of word) xs) s) ∙ sym a ∙ e

-- a draw that is known
pub draw_is : (issued : List ℕ) (s0 s2 : Stream) (code : Option ℕ) (n : ℕ)
    → drawn issued s0 ≡ record { code = code; examined = n } → s2 ≡ past n s0
    → ((drawn issued s0).code ≡ code) × (s2 ≡ past (drawn issued s0).examined s0)
draw_is issued s0 s2 code n d m = (ap (λ x. x.code) d, m ∙ ap (λ k. past k s0) (sym (ap (λ x. x.examined) d)))
