-- What is refused, and a note that was seen before, has no event, and leaves the history.
use Rattle.std.proofs.Common.{ℕ, ◌≡◌, Bool, true, false, Option, Some, None, List, [], ◌∷◌, refl, ap, sym, ◌∙◌}
use Rattle.std.proofs.Common.{option_map, is_none}
use Rattle.hotel_model.proofs.Names.{Act, draw_from, Note, Command, Reply, Refusal, NoFreshCode, NoCard, CardDiffers}
use Rattle.hotel_model.proofs.Names.{LockShut, NotInside, HeldDiffers, NotAwaited, said_of, is_one_of, Event, History}
use Rattle.hotel_model.proofs.Names.{issued_codes, awaited, inside, is_card, has_link, opens, Standing, standing}
use Rattle.hotel_model.proofs.Names.{After, Conflicting, Copy, Next, OfOldFit, Outcome, needs, unless, answer_to}
use Rattle.hotel_model.proofs.Names.{checks, effect, reported, told, words, grown, answered, is_failed, StepsIf}
use Rattle.keycard_rules.specs.declared.note.Act.TheVariants as act
use Rattle.hotel_model.specs.declared.command.Command.TheVariants as command
use Rattle.hotel_model.specs.declared.reply.Reply.TheVariants.{Refused}
use Rattle.hotel_model.specs.Cases.{holds}
use Rattle.hotel_model.specs.FurtherLaws.{RefusalsHaveNoEvent, RefusalsKeep, tells_no_change}

-- the outcome has no event exactly where its reply tells of no change
abbrev Agrees : Outcome Event → Type 0
Agrees o = is_none o.happens ≡ tells_no_change o.reply

unless_agrees : (checks : List (Option Refusal)) (o : Outcome Event) → Agrees o → Agrees (unless checks o)
unless_agrees [] o e = e
unless_agrees (Some refusal ∷ checks) o e = refl
unless_agrees (None ∷ checks) o e = unless_agrees checks o e

drawn_agrees : (found : Option ℕ) (reply_with : ℕ → Reply) (event_with : ℕ → Event)
    → ((code : ℕ) → tells_no_change (reply_with code) ≡ false)
    → is_none (option_map event_with found) ≡ tells_no_change (said_of found (Refused NoFreshCode) reply_with)
drawn_agrees None reply_with event_with tells = refl
drawn_agrees (Some code) reply_with event_with tells = sym (tells code)

told_agrees : (h : History) (note : Note) (what : Act) → Agrees (told h note what)
told_agrees h note (act.Entered number link) = unless_agrees
    (needs (is_card h number) NoCard ∷ needs (has_link h number link) CardDiffers
    ∷ needs (opens h note.room link) LockShut ∷ []) _ refl
told_agrees h note (act.Left number link) = unless_agrees
    (needs (is_card h number) NoCard ∷ needs (has_link h number link) CardDiffers
    ∷ needs (is_one_of number (inside h note.room)) NotInside ∷ []) _ refl
told_agrees h note (act.Recoded from to) = unless_agrees
    (needs (holds h note.room from) HeldDiffers ∷ needs (is_one_of to (awaited h note.room)) NotAwaited ∷ []) _ refl

reported_agrees : (h : History) (note : Note) (stands : Standing) → Agrees (reported h note stands)
reported_agrees h note Copy = refl
reported_agrees h note Conflicting = refl
reported_agrees h note OfOldFit = refl
reported_agrees h note (After expected) = refl
reported_agrees h note Next = told_agrees h note note.act

effect_agrees : (h : History) (ahead : List ℕ) (command : Command) → Agrees (effect h ahead command)
effect_agrees h ahead (command.Begin day) = refl
effect_agrees h ahead (command.AddKind kind) = refl
effect_agrees h ahead (command.AddRoom room kind) =
    drawn_agrees (draw_from (issued_codes h) ahead).code _ _ (λ code. refl)
effect_agrees h ahead (command.Reserve guest kind arrive nights) = refl
effect_agrees h ahead (command.Cancel party) = refl
effect_agrees h ahead (command.CheckIn party room) =
    drawn_agrees (draw_from (issued_codes h) ahead).code _ _ (λ code. refl)
effect_agrees h ahead (command.Spare party) = refl
effect_agrees h ahead (command.Reissue party) =
    drawn_agrees (draw_from (issued_codes h) ahead).code _ _ (λ code. refl)
effect_agrees h ahead (command.Transfer party room) =
    drawn_agrees (draw_from (issued_codes h) ahead).code _ _ (λ code. refl)
effect_agrees h ahead (command.CheckOut party) = refl
effect_agrees h ahead (command.Refit room) =
    drawn_agrees (draw_from (issued_codes h) ahead).code _ _ (λ code. refl)
effect_agrees h ahead command.NextDay = refl
effect_agrees h ahead (command.Reported note) = reported_agrees h note (standing h note)

pub refusals_have_no_event : RefusalsHaveNoEvent
unfolding answer_to
refusals_have_no_event h ahead command =
    unless_agrees (checks h command) (effect h ahead command) (effect_agrees h ahead command)

-- where nothing happens, the history stays
grown_kept : (h : History) (happens : Option Event) → is_none happens ≡ true → grown h happens ≡ h
grown_kept h None e = refl
grown_kept h (Some event) e = cc

pub refusals_keep : RefusalsKeep
refusals_keep h h' s s' command reply step tells = by (is_failed reply) step
  where
    by : (failed : Bool) → StepsIf failed h s command reply h' s' → h' ≡ h
    by true step = step.0
    by false step = step.1 ∙ grown_kept h (answered h s command).happens
        (refusals_have_no_event h (words 64 s) command ∙ ap tells_no_change (sym step.0) ∙ tells)
