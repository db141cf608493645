-- The lines of a file, one after the other.
use Rattle.std.proofs.Common.{◌≡◌, List, [], ◌∷◌, ◌++◌, arith, length, refl}
use Rattle.std.specs.Prelude.{zip}
use Rattle.hotel_core.proofs.OfCode.Happens.{zip-push}
use Rattle.keycard_rules.specs.Calls.{Passes}
use Rattle.keycard_rules.proofs.CallsTogether.{passes_push}
use Rattle.hotel_lock.specs.declared.line.Line.{Line}
use Rattle.hotel_audit.specs.declared.answer.LineAnswer.{LineAnswer}
use Rattle.hotel_audit.specs.Import.{AreAnswered}

-- the answers to lines and to further lines
pub AreAnswered-append : (lines more : List Line) (answers others : List LineAnswer)
    → AreAnswered lines answers → AreAnswered more others → AreAnswered (lines ++ more) (answers ++ others)
AreAnswered-append [] more [] others h k = k
AreAnswered-append (l ∷ lines) more (a ∷ answers) others h k = (h.0, AreAnswered-append lines more answers others h.1 k)
AreAnswered-append [] more (a ∷ answers) others h k = absurd h
AreAnswered-append (l ∷ lines) more [] others h k = absurd h

-- there are as many answers as lines
as_many : (lines : List Line) (answers : List LineAnswer) → AreAnswered lines answers → length answers ≡ length lines
as_many [] [] each = refl
as_many (l ∷ lines) (a ∷ answers) each = omega (arith, as_many lines answers each.1)
as_many [] (a ∷ answers) each = absurd each
as_many (l ∷ lines) [] each = absurd each

-- one more line was answered
pub passes_next : {B : Type 0} (asks : B → Line × LineAnswer → B → Type 0) (old : B) {mid new : B} (lines : List Line)
    (answers : List LineAnswer) (l : Line) (a : LineAnswer)
    → AreAnswered lines answers → Passes asks old (zip lines answers) mid → asks mid (l, a) new
    → Passes asks old (zip (lines ++ l ∷ []) (answers ++ a ∷ [])) new
passes_next asks old lines answers l a each before asked =
    rw (zip-push lines answers l a (as_many lines answers each)) (passes_push asks old (zip lines answers) before asked)
