use Rattle.std.proofs.Common.{◌≡◌, ◌∙◌, refl, Result, Ok, Err, IfOk}
use Rattle.hotel_audit.proofs.NoteReplies.{answered_reply}
use Rattle.hotel_audit.proofs.imports.answer_line.Goals as goal

if_ok : {A E : Type 0} (r : Result A E) (P : A → Type 0) → ((a : A) → Ok a ≡ r → P a) → IfOk r P
if_ok (Ok a) P h = h a refl
if_ok (Err e) P h = tt

pub returns-in-Unread-clause-answer : goal.returns-in-Unread-clause-answer
returns-in-Unread-clause-answer g c = rw c.in-Unread.is refl

pub returns-in-Unread-clause-went : goal.returns-in-Unread-clause-went
returns-in-Unread-clause-went g c = rw c.in-Unread.is (refl, refl)

pub returns-in-Note-clause-answer : goal.returns-in-Note-clause-answer
returns-in-Note-clause-answer g c = rw c.in-Note.is
    (if_ok c.answer_of.result _ (λ a e. (answered_reply c.in-Note.note c.report.result a (e ∙ c.answer_of.ensures)).0))

pub returns-in-Note-clause-went : goal.returns-in-Note-clause-went
returns-in-Note-clause-went g c =
    rw c.in-Note.is (c.report.result, c.answer_of.ensures, c.report.ensures.note, c.report.ensures.noted)
