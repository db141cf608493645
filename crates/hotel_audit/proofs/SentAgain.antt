-- Lines that were all Taken or Seen are seen when they come again.
use Rattle.std.proofs.Common.{◌≡◌, ◌∙◌, List, [], ◌∷◌, map, false, sym, refl, subst, ap, All}
use Rattle.hotel_books.proofs.Names.{All-head, All-tail, Stream, Note, words, Event, History, Outcome, grown, Runs}
use Rattle.hotel_books.proofs.Names.{StepsIf}
use Rattle.hotel_model.specs.{declared.command.Command.Command, declared.reply.Reply.Reply}
use Rattle.hotel_model.specs.declared.command.Command.TheVariants as command
use Rattle.hotel_model.specs.declared.reply.Reply.TheVariants as reply
use Rattle.hotel_lock.specs.declared.line.Line.{Line}
use Rattle.hotel_audit.specs.{declared.answer.LineAnswer.LineAnswer, Import.AreAnswered}
use Rattle.hotel_audit.specs.{Import.commands_of, Import.replies_in}
use Rattle.hotel_audit.specs.declared.answer.LineAnswer.TheVariants.{Taken, Seen, Unread, Refused}
use Rattle.hotel_lock.specs.declared.line.Line.TheVariants as line
use Rattle.hotel_audit.specs.SentAgain.{IsTakenOrSeen, SeenAgain}
use Rattle.hotel_audit.proofs.NotesKnown.{Knows, known_seen, knows_along, knows_step}

-- each line is a note that was taken
abbrev pub KnowsLines : History → List Line → Type 0
KnowsLines h [] = Unit {0}
KnowsLines h (line.Note note ∷ lines) = Knows h note × KnowsLines h lines
KnowsLines h (line.Unread cause ∷ lines) = ⊥

knows_lines : (h mid : History) (s s' : Stream) (lines : List Line) (answers : List LineAnswer)
    → All IsTakenOrSeen answers → AreAnswered lines answers
    → Runs h s (commands_of lines) (replies_in answers) mid s' → KnowsLines mid lines
knows_lines h mid s s' [] [] all each r = tt
knows_lines h mid s s' (line.Note note ∷ lines) (Taken ∷ answers) all each r = (
  knows_along r.0 mid r.1 s' (commands_of lines) (replies_in answers) note r.3
      (knows_step h s note reply.Taken r.0 r.1 tt r.2),
  knows_lines r.0 mid r.1 s' lines answers (All-tail IsTakenOrSeen Taken answers all) each.1 r.3,
)
knows_lines h mid s s' (line.Note note ∷ lines) (Seen ∷ answers) all each r = (
  knows_along r.0 mid r.1 s' (commands_of lines) (replies_in answers) note r.3
      (knows_step h s note reply.Seen r.0 r.1 tt r.2),
  knows_lines r.0 mid r.1 s' lines answers (All-tail IsTakenOrSeen Seen answers all) each.1 r.3,
)
knows_lines h mid s s' (line.Note note ∷ lines) (Unread cause ∷ answers) all each r = absurd each.0
knows_lines h mid s s' (line.Note note ∷ lines) (Refused why ∷ answers) all each r =
    absurd (All-head IsTakenOrSeen (Refused why) answers all)
knows_lines h mid s s' (line.Unread cause ∷ lines) (a ∷ answers) all each r =
    absurd (subst (λ x. IsTakenOrSeen x) each.0 (All-head IsTakenOrSeen a answers all))
knows_lines h mid s s' [] (a ∷ answers) all each r = absurd each
knows_lines h mid s s' (line.Note note ∷ lines) [] all each r = absurd each
knows_lines h mid s s' (line.Unread cause ∷ lines) [] all each r = absurd each

-- a known note that didn't fail was seen, and nothing happened
seen_step : (h : History) (s : Stream) (note : Note) (given : Reply) (h' : History) (s' : Stream)
    → Knows h note → StepsIf false h s (command.Reported note) given h' s' → (given ≡ reply.Seen) × (h' ≡ h)
seen_step h s note given h' s' k d =
    let seen = known_seen h (words 64 s) note k in
    (d.0 ∙ ap (λ (o : Outcome Event). o.reply) seen, d.1 ∙ ap (λ (o : Outcome Event). grown h o.happens) seen)

pub seen_lines : (h end : History) (s s' : Stream) (lines : List Line) (again : List LineAnswer)
    → KnowsLines h lines → AreAnswered lines again
    → Runs h s (commands_of lines) (replies_in again) end s' → (again ≡ map (λ l. Seen) lines) × (end ≡ h)
seen_lines h end s s' [] [] k each r = (refl, r.0)
seen_lines h end s s' (line.Note note ∷ lines) (Taken ∷ again) k each r =
    let d = seen_step h s note reply.Taken r.0 r.1 k.0 r.2 in cc (d.0)
seen_lines h end s s' (line.Note note ∷ lines) (Seen ∷ again) k each r =
    let d = seen_step h s note reply.Seen r.0 r.1 k.0 r.2 in
    let more = seen_lines r.0 end r.1 s' lines again (subst (λ z. KnowsLines z lines) (sym d.1) k.1) each.1 r.3 in
    (ap (λ xs. Seen ∷ xs) more.0, more.1 ∙ d.1)
seen_lines h end s s' (line.Note note ∷ lines) (Unread cause ∷ again) k each r = absurd each.0
seen_lines h end s s' (line.Note note ∷ lines) (Refused why ∷ again) k each r =
    let d = seen_step h s note (reply.Refused why) r.0 r.1 k.0
    (subst (λ b. StepsIf b h s (command.Reported note) (reply.Refused why) r.0 r.1) each.0 r.2) in
    cc (d.0)
seen_lines h end s s' (line.Unread cause ∷ lines) again k each r = absurd k
seen_lines h end s s' [] (a ∷ again) k each r = absurd each
seen_lines h end s s' (line.Note note ∷ lines) [] k each r = absurd each

pub knows_lines_along : (h h' : History) (s s' : Stream) (commands : List Command) (replies : List Reply)
    (lines : List Line) → Runs h s commands replies h' s' → KnowsLines h lines → KnowsLines h' lines
knows_lines_along h h' s s' commands replies [] r k = tt
knows_lines_along h h' s s' commands replies (line.Note note ∷ lines) r k =
    (knows_along h h' s s' commands replies note r k.0, knows_lines_along h h' s s' commands replies lines r k.1)
knows_lines_along h h' s s' commands replies (line.Unread cause ∷ lines) r k = absurd k

pub seen_again : SeenAgain
seen_again h mid later end s source rest s' lines answers again commands replies all first between second =
    seen_lines later end rest s' lines again (knows_lines_along mid later source rest commands replies lines between
    (knows_lines h mid s source lines answers all first.0 first.1)) second.0 second.1
