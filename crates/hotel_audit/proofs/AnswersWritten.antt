-- The texts of answers, one after the other.
use Rattle.std.proofs.Common.{◌≡◌, ℕ, ◌+◌, ◌<◌, List, [], ◌∷◌, ◌++◌, length, take, drop, get_or, arith, refl, sym, ap}
use Rattle.std.proofs.Common.{subst, ◌∙◌, append_assoc, append-nil, take-append-drop, add-zero, length-take-le, Option}
use Rattle.std.proofs.lemmas.List.{take_more}
use Rattle.std.specs.Io.KnownBytes.{Appends}
use Rattle.std.proofs.KnownBytes.{Appends-trans}
use Rattle.hotel_streams.specs.Bytes.{AppendsPrefix}
use Rattle.hotel_streams.proofs.BytesLemmas.{prefix_next}
use Rattle.hotel_audit.specs.{Answers.answer_text, Answers.answers_text, declared.answer.LineAnswer.LineAnswer}

answers_text-append : (number : ℕ) (answers more : List LineAnswer)
    → answers_text number (answers ++ more) ≡ answers_text number answers ++ answers_text (number + length answers) more
answers_text-append number [] more = rw add-zero refl
answers_text-append number (a ∷ answers) more =
    let e : number + 1 + length answers ≡ number + length (a ∷ answers) = omega arith in
    ap (λ l. answer_text number a ++ l) (answers_text-append (number + 1) answers more
    ∙ ap (λ n. answers_text (number + 1) answers ++ answers_text n more) e)
    ∙ sym (append_assoc (answer_text number a) (answers_text (number + 1) answers)
    (answers_text (number + length (a ∷ answers)) more))

-- the text of one more answer
answers_text-push : (i : ℕ) (answers : List LineAnswer) (a : LineAnswer)
    → length answers ≡ i → answers_text 1 (answers ++ a ∷ []) ≡ answers_text 1 answers ++ answer_text (i + 1) a
answers_text-push i answers a e =
    let n : 1 + length answers ≡ i + 1 = omega (arith, e) in
    answers_text-append 1 answers (a ∷ [])
    ∙ ap (λ l. answers_text 1 answers ++ l) (append-nil (answer_text (1 + length answers) a))
    ∙ ap (λ k. answers_text 1 answers ++ answer_text k a) n

pub answers_more : (i : ℕ) (answers : List LineAnswer) (a : LineAnswer) → i < length answers → a ≡ get_or answers i a
    → answers_text 1 (take (i + 1) answers) ≡ answers_text 1 (take i answers) ++ answer_text (i + 1) a
answers_more i answers a h e =
    let step : take (i + 1) answers ≡ take i answers ++ a ∷ [] =
    take_more answers i a h ∙ ap (λ x. take i answers ++ x ∷ []) (sym e) in
    let count : length (take i answers) ≡ i = length-take-le i answers (omega arith) in
    ap (answers_text 1) step ∙ answers_text-push i (take i answers) a count

pub answers_written : (old mid new : Option (List ℕ)) (i : ℕ) (answers : List LineAnswer) (a : LineAnswer)
    (text : List ℕ) → i < length answers → a ≡ get_or answers i a → text ≡ answer_text (i + 1) a
    → Appends old mid (answers_text 1 (take i answers)) → Appends mid new text
    → Appends old new (answers_text 1 (take (i + 1) answers))
answers_written old mid new i answers a text h e said first next =
    subst (Appends old new) (sym (answers_more i answers a h e))
    (Appends-trans old mid new _ _ first (subst (Appends mid new) said next))

pub answers_prefix : (old mid new : Option (List ℕ)) (i : ℕ) (answers : List LineAnswer) (a : LineAnswer)
    (text : List ℕ) → i < length answers → a ≡ get_or answers i a → text ≡ answer_text (i + 1) a
    → Appends old mid (answers_text 1 (take i answers)) → AppendsPrefix mid new text
    → AppendsPrefix old new (answers_text 1 answers)
answers_prefix old mid new i answers a text h e said first next =
    let rest = answers_text (1 + length (take (i + 1) answers)) (drop (i + 1) answers) in
    let whole : answers_text 1 answers ≡ (answers_text 1 (take i answers) ++ answer_text (i + 1) a) ++ rest =
    ap (answers_text 1) (sym (take-append-drop (i + 1) answers))
    ∙ answers_text-append 1 (take (i + 1) answers) (drop (i + 1) answers)
    ∙ ap (λ l. l ++ rest) (answers_more i answers a h e) in
    subst (AppendsPrefix old new) (sym whole)
    (prefix_next old mid new _ _ rest first (subst (AppendsPrefix mid new) said next))
