-- What comes of a command on the books, as far as the command went.
use Rattle.std.proofs.Common.{Bool, ℕ, ◌≡◌, Some, ap, sym, ◌∙◌, subst, Ok, option_map}
use Rattle.hotel_books.proofs.Names.{Stream, draw_from, words, Change, Reply, Refused, NoFreshCode, said_of, Rows}
use Rattle.hotel_books.proofs.Names.{codes_in, DrawsCode, Outcome, accepted, by_draw}
use Rattle.hotel_books.specs.declared.books.Books.{Ghosts as BooksOf}
use Rattle.hotel_model.specs.Refinement.Answered.{IsOutcome, IsAnswered}
use Rattle.hotel_core.proofs.OfCode.Parts.{SoFar}
use Rattle.keycard_rules.specs.declared.kept.Kept.{Ghosts as KeptOf}

-- An outcome that equals one that comes of a command comes of it too.
pub comes_of : (rows : Rows) (a b : Outcome Change) → IsOutcome rows a → a ≡ b → IsOutcome rows b
comes_of rows a b o e = subst (λ x. IsOutcome rows x) e o

-- what comes of the command on the rows at its start comes of it on the rows as they are now
pub comes_now : {S : Type 0} {K : KeptOf S} {B : BooksOf S} {v : Bool} {facts : Rows → Type 0} {start now : S}
    (outcome : Rows → Outcome Change)
    → SoFar K B v facts start now
    → (K.is_clean start → facts (B.rows start) → IsOutcome (B.rows start) (outcome (B.rows start)))
    → K.is_clean now → IsOutcome (B.rows now) (outcome (B.rows now))
comes_now outcome s h clean =
    subst (λ rs. IsOutcome rs (outcome rs)) (sym (s.same clean)) (h (s.since.was_clean clean) (s.facts_hold clean))

-- the command is accepted with this change and this reply
pub answers : {S : Type 0} {K : KeptOf S} {B : BooksOf S} {v : Bool} {facts : Rows → Type 0} {start now : S}
    {change : Change} {reply : Reply}
    → SoFar K B v facts start now
    → (K.is_clean start → facts (B.rows start) → IsOutcome (B.rows start) (accepted reply change))
    → K.is_clean now → IsAnswered (B.rows now) change reply
answers {change = change} {reply = reply} s h clean = (0, comes_now (λ rs. accepted reply change) s h clean)

drawn_answer : (rows : Rows) (o : Outcome Change) (reply_with : ℕ → Reply)
    (change_with : ℕ → Change) (source : Stream) (code : ℕ)
    → o ≡ by_draw (draw_from (codes_in rows) (words 64 source)) reply_with change_with
    → (draw_from (codes_in rows) (words 64 source)).code ≡ Some code
    → o ≡ (let x : Outcome Change = record {
      reply = reply_with code;
      happens = Some (change_with code);
      examined = (draw_from (codes_in rows) (words 64 source)).examined;
    } in x)
drawn_answer rows o reply_with change_with source code e c =
    let n = (draw_from (codes_in rows) (words 64 source)).examined in
    e ∙ ap (λ found. let x : Outcome Change = record {
      reply = said_of found (Refused NoFreshCode) reply_with;
      happens = option_map change_with found;
      examined = n;
    } in x) c

-- a code was drawn, and with it the command is accepted
pub drawn_answers : {S : Type 0} {K : KeptOf S} {B : BooksOf S} {v : Bool} {facts : Rows → Type 0} {start old new : S}
    {source rest : Stream} {code : ℕ} (reply_with : ℕ → Reply) (change_with : ℕ → Change)
    → SoFar K B v facts start old → DrawsCode K B old new source rest (Ok code)
    → (K.is_clean start → facts (B.rows start)
    → IsOutcome (B.rows start) (by_draw (draw_from (codes_in (B.rows start)) (words 64 source)) reply_with change_with))
    → K.is_clean new → IsAnswered (B.rows new) (change_with code) (reply_with code)
drawn_answers {B = B} {start = start} {old = old} {source = source} {code = code} reply_with change_with s d h clean =
    let before = d.leaves.since.was_clean clean in
    let o = h (s.since.was_clean before) (s.facts_hold before) in
    let drawn =
    ap (λ rs. (draw_from (codes_in rs) (words 64 source)).code) (sym (s.same before)) ∙ (d.answer clean).0 in
    subst (λ rs. IsAnswered rs (change_with code) (reply_with code)) (sym (d.same clean ∙ s.same before)) (
      (draw_from (codes_in (B.rows start)) (words 64 source)).examined,
      (o.0, o.1, o.2, drawn_answer (B.rows start) _ reply_with change_with source code o.3 drawn),
    )
