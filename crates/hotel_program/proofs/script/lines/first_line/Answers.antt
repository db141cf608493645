use Rattle.std.proofs.Common.{rules, arith, ◌≡◌, ℕ, zero, suc, ◌+◌, ◌<◌, List, [], ◌∷◌, length, take, drop, get_or}
use Rattle.std.proofs.Common.{refl, add-one}
use Rattle.std.proofs.lemmas.Bool.{ne_eqb}
use Rattle.std.proofs.lemmas.List.{take_rest, length-drop}
use Rattle.hotel_program.specs.Script.Lines.{lines}
use Rattle.hotel_program.proofs.script.lines.first_line.Goals as goal

-- a text with no line feed is one line
lines-whole : (text : List ℕ)
    → 0 < length text → ((k : ℕ) → k < length text → get_or text k 0 ≡ 10 → ⊥) → lines text ≡ text ∷ []
unfolding lines
lines-whole [] h n = absurd (omega arith)
lines-whole (b ∷ []) h n = rw (ne_eqb b 10 (n 0 (omega arith))) refl
lines-whole (b ∷ x ∷ rest) h n =
    rw (ne_eqb b 10 (n 0 (omega arith)), lines-whole (x ∷ rest) (omega arith) (λ k lt e. n (suc k) (omega arith) e))
    refl

-- a text with its first line feed at i
lines-at : (text : List ℕ) (i : ℕ) → i < length text → get_or text i 0 ≡ 10
    → ((k : ℕ) → k < i → get_or text k 0 ≡ 10 → ⊥) → lines text ≡ take i text ∷ lines (drop (suc i) text)
unfolding lines
lines-at [] i h e n = absurd (omega arith)
lines-at (b ∷ rest) zero h e n = rw e refl
lines-at (b ∷ rest) (suc i) h e n =
    rw (ne_eqb b 10 (n 0 (omega arith)), lines-at rest i (omega arith) e (λ k lt f. n (suc k) (omega arith) f)) refl

no_lines : (text : List ℕ) → length text ≡ 0 → lines text ≡ []
unfolding lines
no_lines [] h = refl
no_lines (b ∷ rest) h = absurd (omega arith)

pub returns-then-is_empty-clause-none : goal.returns-then-is_empty-clause-none
returns-then-is_empty-clause-none c = λ _. no_lines c.args.text.now (search rules)

pub returns-clause-some : goal.returns-clause-some
returns-clause-some c =
    let text = c.args.text.now in
    let e = c.line_end-end.ensures in
    rw (take_rest text (c.line_end-end.result + 1), add-one)
    (lines-at text c.line_end-end.result (omega arith) (e.found (omega arith)) e.before)

pub returns-then-end-text-clause-some : goal.returns-then-end-text-clause-some
returns-then-end-text-clause-some c =
    let text = c.args.text.now in
    let at : c.line_end-end.result ≡ length text = omega arith in
    let rest : length (drop c.line_end-end.result text) ≡ 0 = omega (arith, length-drop c.line_end-end.result text) in
    let tail = no_lines (drop c.line_end-end.result text) rest in
    rw (take_rest text c.line_end-end.result, tail)
    (lines-whole text (search rules) (λ k lt e. c.line_end-end.ensures.before k (omega arith) e))
