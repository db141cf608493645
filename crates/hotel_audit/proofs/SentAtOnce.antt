-- Lines in which no lock's counts fall change nothing when they come again at once.
use Rattle.std.proofs.Common.{◌≡◌, ◌∙◌, List, [], ◌∷◌, ◌++◌, ap, sym}
use Rattle.hotel_books.proofs.Names.{History, Note}
use Rattle.hotel_lock.specs.declared.line.Line.{Line}
use Rattle.hotel_audit.specs.SentAtOnce.{CountsDoNotFall, NoneLower}
use Rattle.hotel_audit.specs.{SentAtOnce.SentAtOnce, SentAtOnce.StoppedAndSent}
use Rattle.hotel_lock.specs.declared.line.Line.TheVariants as line
use Rattle.hotel_audit.proofs.IdleNotes.{AreIdle, after_lines, after_lines-append, all_idle, lead_to, still}

prefix_idle : (h : History) (prefix rest : List Line) → AreIdle h (prefix ++ rest) → AreIdle h prefix
prefix_idle h [] rest i = tt
prefix_idle h (line.Note note ∷ prefix) rest i = (i.0, prefix_idle h prefix rest i.1)
prefix_idle h (line.Unread cause ∷ prefix) rest i = prefix_idle h prefix rest i

none_lower_prefix : (note : Note) (prefix rest : List Line) → NoneLower note (prefix ++ rest) → NoneLower note prefix
none_lower_prefix note [] rest c = tt
none_lower_prefix note (line.Note later ∷ prefix) rest c = (c.0, none_lower_prefix note prefix rest c.1)
none_lower_prefix note (line.Unread cause ∷ prefix) rest c = none_lower_prefix note prefix rest c

prefix_does_not_fall : (prefix rest : List Line) → CountsDoNotFall (prefix ++ rest) → CountsDoNotFall prefix
prefix_does_not_fall [] rest c = tt
prefix_does_not_fall (line.Note note ∷ prefix) rest c =
    (none_lower_prefix note prefix rest c.0, prefix_does_not_fall prefix rest c.1)
prefix_does_not_fall (line.Unread cause ∷ prefix) rest c = prefix_does_not_fall prefix rest c

-- a prefix of lines that came changes nothing
prefix_still : (h : History) (prefix rest : List Line) → CountsDoNotFall (prefix ++ rest)
    → after_lines (after_lines h (prefix ++ rest)) prefix ≡ after_lines h (prefix ++ rest)
prefix_still h prefix rest c =
    let now = after_lines h (prefix ++ rest) in
    still now prefix (prefix_idle now prefix rest (all_idle h (prefix ++ rest) c))

pub sent_at_once : SentAtOnce
sent_at_once h mid end s source t s' prefix rest answers again c first second =
    let after_all : mid ≡ after_lines h (prefix ++ rest) =
    lead_to h mid s source (prefix ++ rest) answers first.0 first.1 in
    let after_prefix : end ≡ after_lines mid prefix = lead_to mid end t s' prefix again second.0 second.1 in
    after_prefix ∙ ap (λ z. after_lines z prefix) after_all ∙ prefix_still h prefix rest c ∙ sym after_all

pub stopped_and_sent : StoppedAndSent
stopped_and_sent h mid end once s source t s' u u' prefix rest answers again whole c first second all =
    let after_prefix : mid ≡ after_lines h prefix = lead_to h mid s source prefix answers first.0 first.1 in
    let after_again : end ≡ after_lines mid (prefix ++ rest) =
    lead_to mid end t s' (prefix ++ rest) again second.0 second.1 in
    let after_all : once ≡ after_lines h (prefix ++ rest) = lead_to h once u u' (prefix ++ rest) whole all.0 all.1 in
    let now = after_lines h prefix in
    let same : after_lines now prefix ≡ now =
    still now prefix (all_idle h prefix (prefix_does_not_fall prefix rest c)) in
    after_again ∙ after_lines-append mid prefix rest ∙ ap (λ z. after_lines (after_lines z prefix) rest) after_prefix
    ∙ ap (λ z. after_lines z rest) same ∙ sym (after_lines-append h prefix rest) ∙ sym after_all
