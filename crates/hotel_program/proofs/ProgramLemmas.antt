-- A script over a new desk, and how the program ends by it.
use Rattle.std.proofs.Common.{◌≡◌, ◌+◌, ◌-◌, ◌^◌, ◌∙◌, ◌++◌, ℕ, zero, suc, min, arith, List, [], ◌∷◌}
use Rattle.std.proofs.Common.{take, Option, Result, Ok, Err, refl, sym, subst, ap}
use Rattle.std.specs.Prelude.{⊤}
use Rattle.rand_core.specs.Stream.{Stream}
use Rattle.keycard_rules.specs.{declared.kept.Kept.Ghosts as KeptOf, Rise.counted_on, Rise.times}
use Rattle.hotel_books.specs.declared.books.Books.{Ghosts as BooksOf}
use Rattle.keycard_rules.specs.declared.issued.LookFault.TheVariants as look
use Rattle.keycard_rules.proofs.CallsTogether.{together}
use Rattle.keycard_rules.specs.Calls.{Told}
use Rattle.hotel_core.specs.Books.Happens.{HappensBy}
use Rattle.hotel_model.specs.Rows.{no_rows}
use Rattle.hotel_model.specs.History.{History, start}
use Rattle.hotel_model.specs.Sound.{IsSound}
use Rattle.hotel_model.proofs.Starts.StartRows.{rows_of_start}
use Rattle.hotel_program.specs.declared.script.ScriptEnd.{ScriptEnd}
use Rattle.hotel_program.specs.declared.script.ScriptFault.{ScriptFault}
use Rattle.hotel_program.specs.declared.script.ScriptFault.TheVariants.{Read, TooLarge, Memory, Write}
use Rattle.hotel_program.specs.Script.{Lines.answered_lines, LineAnswers.Sure}
use Rattle.hotel_program.proofs.OfScript.ScriptLemmas.{goes_weaker, scripts_happen}
use Rattle.hotel_program.specs.Program.{zero_seeded, OverNewDesk, EndsOverNewDesk}
use Rattle.hotel_program.specs.Script.WholeScript.{ScriptAnswered, ScriptCut, ScriptRan}

no_more : (k n m : ℕ) → n ≡ 0 → m ≡ 0 → m ≡ counted_on k n → k ≡ 0
no_more zero n m e f p = refl
no_more (suc k) n m e f p =
    let q : m ≡ min (n + suc k) (2 ^ 64 - 1) = p in absurd (grind (arith, q, e, f))

new_desk : {B : Type 0} {K : KeptOf B} {own : BooksOf B} {books books' : B}
    (went : Stream → Stream → Type 0 → Told → History → History → Type 0) (s s' : Stream)
    → ((told : Told) (h h' : History) → went s s' (K.is_clean books') told h h' → went s s' ⊤ told h h')
    → K.is_clean books' → own.rows books ≡ no_rows → K.failures books look.Store ≡ 0 → K.failures books' look.Store ≡ 0
    → s ≡ zero_seeded → IsSound no_rows → HappensBy K own books (went s s' (K.is_clean books')) books'
    → OverNewDesk went
new_desk {K = K} {own = own} {books = books} {books' = books'} went s s' known clean at_rows none none' at_source
    sound p =
    let honest = K.clean_honest books' clean in
    let q = p.happened honest (start no_rows) sound (λ was. at_rows ∙ sym (rows_of_start no_rows sound)) in
    let all = together K books books' p.told p.calls in (
      q.0,
      s',
      p.told,
      subst (λ x. went x s' ⊤ p.told (start no_rows) q.0) at_source (known p.told (start no_rows) q.0 q.3),
      no_more (times look.Store p.told) _ _ none none' (all.counted honest look.Store),
      q.4,
    )

answered_known : (lines : List (List ℕ)) (s s' : Stream) (old new : Option (List ℕ)) (was is : Type 0) (told : Told)
    (h h' : History) → (is → was) → ScriptAnswered lines s s' old new was told h h'
    → ScriptAnswered lines s s' old new is told h h'
answered_known lines s s' old new was is told h h' back a =
    (a.0, goes_weaker (Sure was) (Sure is) lines a.0 h h' s s' told (λ t sure tells. back (sure tells)) a.1, a.2)

cut_known : (lines : List (List ℕ)) (s s' : Stream) (old new : Option (List ℕ)) (was is : Type 0) (told : Told)
    (h h' : History) → (is → was) → ScriptCut lines s s' old new was told h h'
    → ScriptCut lines s s' old new is told h h'
cut_known lines s s' old new was is told h h' back a = (
  a.0,
  a.1,
  goes_weaker (λ t. was) (λ t. is) lines (a.0 ++ a.1 ∷ []) h h' s s' told (λ t sure. back sure) a.2,
  a.3,
  a.4,
  a.5,
)

-- a script over rows that are none and a source of zeros ended so
pub script_ends : {W B S : Type 0} (K : KeptOf B) (own : BooksOf B) (stream : S → Stream)
    (contents : W → Option (List ℕ)) (known : Option (List ℕ)) (old new : W) (books books' : B) (source source' : S)
    (end : Result ScriptEnd ScriptFault) → K.is_clean books' → own.rows books ≡ no_rows
    → K.failures books look.Store ≡ 0 → K.failures books' look.Store ≡ 0 → stream source ≡ zero_seeded
    → IsSound no_rows
    → ScriptRan K own stream contents known (books, source, old) end (books', source', new)
    → EndsOverNewDesk contents known old new end
script_ends K own stream contents known old new books books' source source' (Ok end) clean at_rows none none' at_source
    sound (script, input, count, answered) = (
      script,
      input,
      count,
      new_desk (λ s s'. ScriptAnswered (answered_lines script) s s' (contents old) (contents new)) (stream source)
          (stream source') (λ told h h'. answered_known _ _ _ _ _ _ _ told h h' (λ _. clean)) clean at_rows none none'
          at_source sound ((scripts_happen K own stream contents).answered (books, source, old) (books', source', new)
          (answered_lines script) answered),
    )
script_ends K own stream contents known old new books books' source source' (Err (Write done)) clean at_rows none none'
    at_source sound (script, input, some, within, cut) = (
      script,
      input,
      some,
      within,
      new_desk (λ s s'. ScriptCut (take done (answered_lines script)) s s' (contents old) (contents new))
          (stream source)
          (stream source') (λ told h h'. cut_known _ _ _ _ _ _ _ told h h' (λ _. clean)) clean at_rows none none'
          at_source sound ((scripts_happen K own stream contents).cut (books, source, old) (books', source', new)
          (take done (answered_lines script)) cut),
    )
script_ends K own stream contents known old new books books' source source' (Err TooLarge) clean at_rows none none'
    at_source sound (same, large) = (large, ap (λ x. x.2) same)
script_ends K own stream contents known old new books books' source source' (Err Read) clean at_rows none none'
    at_source sound same = ap (λ x. x.2) same
script_ends K own stream contents known old new books books' source source' (Err Memory) clean at_rows none none'
    at_source sound same = ap (λ x. x.2) same
