-- The answer to an audit file: its head, and then the texts of its lines.
use Rattle.std.proofs.Common.{◌≡◌, ℕ, ◌+◌, ◌<◌, List, [], ◌++◌, length, take, get_or, arith, sym, ap, subst, ◌∙◌}
use Rattle.std.proofs.Common.{append-nil, length-append, Option}
use Rattle.std.proofs.lemmas.List.{take-append-le}
use Rattle.std.specs.Prelude.{Result, Ok, Err, OnOk, OnErr}
use Rattle.std.specs.Io.KnownBytes.{Appends}
use Rattle.std.proofs.KnownBytes.{Appends-trans}
use Rattle.hotel_streams.specs.Bytes.{AppendsPrefix}
use Rattle.hotel_streams.proofs.BytesLemmas.{prefix_next}
use Rattle.hotel_audit.proofs.AnswersWritten.{answers_more}
use Rattle.hotel_audit.specs.{Answers.answer_text, Answers.answers_text, declared.answer.LineAnswer.LineAnswer}

-- One more text, and its length.
pub answers_longer : (i : ℕ) (answers : List LineAnswer) (a : LineAnswer) (text : List ℕ)
    → i < length answers → a ≡ get_or answers i a → text ≡ answer_text (i + 1) a
    → length (answers_text 1 (take (i + 1) answers)) ≡ length (answers_text 1 (take i answers)) + length text
answers_longer i answers a text h e said =
    ap length (answers_more i answers a h e) ∙ length-append (answers_text 1 (take i answers)) (answer_text (i + 1) a)
    ∙ ap (λ (l : List ℕ). length (answers_text 1 (take i answers)) + length l) (sym said)

-- A prefix of the head of an answer, where its text is the head.
pub prefix_of_head : (old new : Option (List ℕ)) (head body : List ℕ) {text : List ℕ}
    → text ≡ head → AppendsPrefix old new text → AppendsPrefix old new (head ++ body)
prefix_of_head old new head body is written =
    let (n, within, took) = subst (AppendsPrefix old new) is written in
    (n, rw length-append (omega arith), subst (Appends old new) (sym (take-append-le n head body within)) took)

-- The head, and then its body.
pub then_ok : {A E : Type 0} (r : Result A E) (old mid new : Option (List ℕ)) (text head body : List ℕ) → text ≡ head
    → Appends old mid text → OnOk r (Appends mid new body) → OnOk r (Appends old new (head ++ body))
then_ok (Ok a) old mid new text head body is first next =
    Appends-trans old mid new head body (subst (Appends old mid) is first) next
then_ok (Err e) old mid new text head body is first next = tt

-- The head, and then a prefix of its body.
pub then_err : {A E : Type 0} (r : Result A E) (old mid new : Option (List ℕ)) (text head body : List ℕ) → text ≡ head
    → Appends old mid text → OnErr r (AppendsPrefix mid new body) → OnErr r (AppendsPrefix old new (head ++ body))
then_err (Ok a) old mid new text head body is first next = tt
then_err (Err e) old mid new text head body is first next =
    subst (AppendsPrefix old new) (append-nil (head ++ body))
    (prefix_next old mid new head body [] (subst (Appends old mid) is first) next)
