-- No answer of the model says that memory or the store failed.
use Rattle.std.proofs.Common.{ℕ, ◌≡◌, Bool, true, false, Option, Some, None, List, [], ◌∷◌, refl, option_map}
use Rattle.hotel_model.proofs.Names.{Act, draw_from, Note, Command, Reply, Refusal, KindFull, NoFreshCode, NoCard}
use Rattle.hotel_model.proofs.Names.{CardDiffers, LockShut, NotInside, HeldDiffers, NotAwaited, said_of, is_one_of}
use Rattle.hotel_model.proofs.Names.{Event, History, issued_codes, awaited, inside, first_full, is_card, has_link}
use Rattle.hotel_model.proofs.Names.{opens, Standing, Next, standing, Outcome, accepted, needs, bars, unless, answer_to}
use Rattle.hotel_model.proofs.Names.{checks, effect, reported, told, moment_of, is_failed}
use Rattle.keycard_rules.specs.declared.note.Act.TheVariants as act
use Rattle.hotel_model.specs.declared.command.Command.TheVariants as command
use Rattle.hotel_model.specs.declared.reply.Reply.TheVariants as reply
use Rattle.hotel_model.specs.Event as event
use Rattle.hotel_model.specs.Cases.{holds}

-- a check reports no failure
abbrev pub Tells : Option Refusal → Type 0
Tells None = Unit {0}
Tells (Some refusal) = is_failed (reply.Refused refusal) ≡ false

abbrev pub AllTell : List (Option Refusal) → Type 0
AllTell [] = Unit {0}
AllTell (check ∷ checks) = Tells check × AllTell checks

needs_tell : (b : Bool) (refusal : Refusal) → is_failed (reply.Refused refusal) ≡ false → Tells (needs b refusal)
needs_tell true refusal e = tt
needs_tell false refusal e = e

bars_tell : (b : Bool) (refusal : Refusal) → is_failed (reply.Refused refusal) ≡ false → Tells (bars b refusal)
bars_tell true refusal e = e
bars_tell false refusal e = tt

full_tell : (o : Option ℕ) → Tells (option_map KindFull o)
full_tell None = tt
full_tell (Some day) = refl

unless_tell : (checks : List (Option Refusal)) (o : Outcome Event)
    → AllTell checks → is_failed o.reply ≡ false → is_failed (unless checks o).reply ≡ false
unless_tell [] o a e = e
unless_tell (Some refusal ∷ checks) o a e = a.0
unless_tell (None ∷ checks) o a e = unless_tell checks o a.1 e

checks_tell : (h : History) (command : Command) → AllTell (checks h command)
checks_tell h (command.Begin day) = (bars_tell _ _ refl, tt)
checks_tell h (command.AddKind kind) = (needs_tell _ _ refl, (bars_tell _ _ refl, tt))
checks_tell h (command.AddRoom room kind) = (needs_tell _ _ refl, (needs_tell _ _ refl, (bars_tell _ _ refl, tt)))
checks_tell h (command.Reserve guest kind arrive nights) = (
  needs_tell _ _ refl,
  (
    needs_tell _ _ refl,
    (bars_tell _ _ refl, (bars_tell _ _ refl, (full_tell (first_full h kind arrive nights), (bars_tell _ _ refl, tt)))),
  ),
)
checks_tell h (command.Cancel party) = (needs_tell _ _ refl, (needs_tell _ _ refl, (needs_tell _ _ refl, tt)))
checks_tell h (command.CheckIn party room) = (
  needs_tell _ _ refl,
  (
    needs_tell _ _ refl,
    (
      needs_tell _ _ refl,
      (
        needs_tell _ _ refl,
        (
          bars_tell _ _ refl,
          (bars_tell _ _ refl, (needs_tell _ _ refl, (bars_tell _ _ refl, (bars_tell _ _ refl, tt)))),
        ),
      ),
    ),
  ),
)
checks_tell h (command.Spare party) =
    (needs_tell _ _ refl, (needs_tell _ _ refl, (needs_tell _ _ refl, (bars_tell _ _ refl, tt))))
checks_tell h (command.Reissue party) =
    (needs_tell _ _ refl, (needs_tell _ _ refl, (needs_tell _ _ refl, (bars_tell _ _ refl, tt))))
checks_tell h (command.Transfer party room) = (
  needs_tell _ _ refl,
  (
    needs_tell _ _ refl,
    (
      needs_tell _ _ refl,
      (
        needs_tell _ _ refl,
        (needs_tell _ _ refl, (bars_tell _ _ refl, (bars_tell _ _ refl, (bars_tell _ _ refl, tt)))),
      ),
    ),
  ),
)
checks_tell h (command.CheckOut party) = (needs_tell _ _ refl, (needs_tell _ _ refl, (needs_tell _ _ refl, tt)))
checks_tell h (command.Refit room) =
    (needs_tell _ _ refl, (needs_tell _ _ refl, (bars_tell _ _ refl, (bars_tell _ _ refl, tt))))
checks_tell h command.NextDay = (needs_tell _ _ refl, (needs_tell _ _ refl, tt))
checks_tell h (command.Reported note) = (needs_tell _ _ refl, (needs_tell _ _ refl, (needs_tell _ _ refl, tt)))

draw_tells : (o : Option ℕ) (f : ℕ → Reply)
    → ((code : ℕ) → is_failed (f code) ≡ false) → is_failed (said_of o (reply.Refused NoFreshCode) f) ≡ false
draw_tells None f e = refl
draw_tells (Some code) f e = e code

-- the next note, where what it says passes its needs or not
needs_told : (a b c : Bool) (r q p : Refusal) (e : Event)
    → is_failed (reply.Refused r) ≡ false → is_failed (reply.Refused q) ≡ false → is_failed (reply.Refused p) ≡ false
    → is_failed (unless (needs a r ∷ needs b q ∷ needs c p ∷ []) (accepted reply.Taken e)).reply ≡ false
needs_told false b c r q p e f g k = f
needs_told true false c r q p e f g k = g
needs_told true true false r q p e f g k = k
needs_told true true true r q p e f g k = refl

needs_told_two : (a b : Bool) (r q : Refusal) (e : Event)
    → is_failed (reply.Refused r) ≡ false → is_failed (reply.Refused q) ≡ false
    → is_failed (unless (needs a r ∷ needs b q ∷ []) (accepted reply.Taken e)).reply ≡ false
needs_told_two false b r q e f g = f
needs_told_two true false r q e f g = g
needs_told_two true true r q e f g = refl

note_told : (h : History) (note : Note) (what : Act) → is_failed (told h note what).reply ≡ false
note_told h note (act.Entered number link) =
    needs_told (is_card h number) (has_link h number link) (opens h note.room link) NoCard CardDiffers LockShut
    (event.Entered note.room note.fit note.count number link (moment_of note)) refl refl refl
note_told h note (act.Left number link) =
    needs_told (is_card h number) (has_link h number link) (is_one_of number (inside h note.room)) NoCard CardDiffers
    NotInside (event.Left note.room note.fit note.count number link (moment_of note)) refl refl refl
note_told h note (act.Recoded from to) =
    needs_told_two (holds h note.room from) (is_one_of to (awaited h note.room)) HeldDiffers NotAwaited
    (event.Recoded note.room note.fit note.count from to (moment_of note)) refl refl

note_reported : (h : History) (note : Note) (s : Standing) → is_failed (reported h note s).reply ≡ false
note_reported h note Next = note_told h note note.act
note_reported h note _ = refl

effect_tells : (h : History) (ahead : List ℕ) (command : Command) → is_failed (effect h ahead command).reply ≡ false
effect_tells h ahead (command.AddRoom room kind) = draw_tells (draw_from (issued_codes h) ahead).code _ (λ code. refl)
effect_tells h ahead (command.CheckIn party room) = draw_tells (draw_from (issued_codes h) ahead).code _ (λ code. refl)
effect_tells h ahead (command.Reissue party) = draw_tells (draw_from (issued_codes h) ahead).code _ (λ code. refl)
effect_tells h ahead (command.Transfer party room) = draw_tells (draw_from (issued_codes h) ahead).code _ (λ code. refl)
effect_tells h ahead (command.Refit room) = draw_tells (draw_from (issued_codes h) ahead).code _ (λ code. refl)
effect_tells h ahead (command.Reported note) = note_reported h note (standing h note)
effect_tells h ahead _ = refl

pub answers_tell : (h : History) (ahead : List ℕ) (command : Command)
    → is_failed (answer_to h ahead command).reply ≡ false
unfolding answer_to
answers_tell h ahead command =
    unless_tell (checks h command) (effect h ahead command) (checks_tell h command) (effect_tells h ahead command)
