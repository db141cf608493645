-- Without a premise: what is promised doesn't hold, by a note that the desk refuses, or by what it says of the room.
use Rattle.hotel_nights.specs.FullNight.{nights_taken, first_day}
use Rattle.std.proofs.Common.{ℕ, ◌≡◌, ◌<◌, true, false, Some, List, [], ◌∷◌, refl, ap, ◌∙◌, arith, lit≤, lit<, inl}
use Rattle.std.proofs.Common.{◌==◌}
use Rattle.std.specs.Str.{is_utf8, chars}
use lib.Utf8.{encode}
use Rattle.hotel_model.proofs.Names.{said_of, Card, Note, Event, Outcome}
use Rattle.hotel_model.specs.{Answer.answer_to}
use Rattle.keycard_rules.specs.Draw.{draw_from}
use Rattle.keycard_rules.specs.declared.note.Act.TheVariants.{Entered, Left, Recoded}
use Rattle.hotel_model.specs.declared.command.Command.TheVariants.{Reported}
use Rattle.hotel_model.specs.declared.reply.Refusal.TheVariants.{NoCard, NotAwaited, NotInside}
use Rattle.hotel_model.specs.Scenes.Words.{may, M, a0, a1, a2, a3, DBL, bo, reserve, check_in, check_out, refit}
use Rattle.hotel_model.specs.Scenes.Words.{card_of, link, note, refused, taken}
use Rattle.hotel_building.specs.Building.{Building, door, desk}
use Rattle.hotel_building.specs.Promises.{Promised}
use Rattle.hotel_building.proofs.Opened.{opened, words}
use Rattle.hotel_building.proofs.scenes.premises.Goals as goal

-- the next note of a room is taken
told : (b : Building) (r : ℕ) (x : Note) (later : List Note) → Promised b → (door b r).unread ≡ x ∷ later
    → (answer_to (desk b) [] (Reported x)).reply ≡ taken
told b r x later p e = ap (λ (o : Outcome Event). o.reply) ((p.at_rooms r).true_notes x later [] e)

pub returns-clause-copied_card : goal.returns-clause-copied_card
unfolding answer_to draw_from nights_taken first_day is_utf8 chars encode
returns-clause-copied_card c = (
  opened,
  λ p. let e : refused NoCard ≡ taken = told _ 101 (note 101 1 1 (Entered 9 (link a0 a1)) M) [] p refl in cc,
  refl,
)

pub returns-clause-exit_without_entry : goal.returns-clause-exit_without_entry
unfolding answer_to draw_from nights_taken first_day is_utf8 chars encode
returns-clause-exit_without_entry c = (
  opened,
  λ p. let e : refused NotInside ≡ taken = told _ 101 (note 101 1 1 (Left 1 (link a0 a1)) M) [] p refl in cc,
  refl,
)

pub returns-clause-set_to_any_code : goal.returns-clause-set_to_any_code
unfolding answer_to draw_from nights_taken first_day is_utf8 chars encode
returns-clause-set_to_any_code c = (
  opened,
  λ p. let e : refused NotAwaited ≡ taken = told _ 101 (note 101 1 1 (Recoded a0 a3) M) [] p refl in cc,
  refl,
)

pub returns-clause-replaced_with_somebody_inside : goal.returns-clause-replaced_with_somebody_inside
unfolding answer_to draw_from nights_taken first_day is_utf8 chars encode
returns-clause-replaced_with_somebody_inside c = (
  (((opened, (refl, (refl, lit< tt, (lit≤ tt, lit≤ tt)))), tt), ((refl, [], check_out 1, refl, tt), tt)),
  λ p. let there = ((p.at_rooms 101).all_are_so.1 1).1 (inl (0, lit< tt, refl)) in
      let lt : there.0 < 0 = there.1 in absurd (omega (arith, lt)),
  refl,
)

pub returns-clause-enters_unread : goal.returns-clause-enters_unread
unfolding answer_to draw_from nights_taken first_day is_utf8 chars encode
returns-clause-enters_unread c = (
  (
    (
      (
        (
          (
            (
              (
                (
                  (opened, (refl, (refl, lit< tt, (lit≤ tt, lit≤ tt)))),
                  (refl, (refl, lit< tt, (lit≤ tt, lit≤ tt)), inl (0, lit< tt, refl)),
                ),
                ((refl, [], check_out 1, refl, tt), tt),
              ),
              ((refl, [], reserve DBL (may 1) 2 bo, refl, (refl, lit< tt, lit≤ tt, lit≤ tt)), tt),
            ),
            ((refl, words a2, check_in 2 101, refl, lit< tt), tt),
          ),
          (refl, (refl, lit< tt, (lit≤ tt, lit≤ tt))),
        ),
        tt,
      ),
      tt,
    ),
    tt,
  ),
  λ p. let its = (p.at_rooms 101).secured_is_so 2 refl refl in
      let card = its.1 1 (0, lit< tt, refl) in
      let is : Some (card_of 1 1 a0 a1) ≡ Some card.0 = card.1 in
      let of_two : true ≡ false =
      ap (λ o. said_of o false (λ (k : Card). k.party == 1)) is ∙ ap (λ n. n == 1) card.3 in cc,
  refl,
)

pub returns-clause-forged_note : goal.returns-clause-forged_note
unfolding answer_to draw_from nights_taken first_day is_utf8 chars encode
returns-clause-forged_note c = (
  opened,
  λ p. let e : true ≡ false = ap (λ n. n == a0) ((p.at_rooms 101).secured_is_so 1 refl refl).0 in cc,
  refl,
)

pub returns-clause-lock_elsewhere : goal.returns-clause-lock_elsewhere
unfolding answer_to draw_from nights_taken first_day is_utf8 chars encode
returns-clause-lock_elsewhere c = (
  ((opened, ((refl, [], check_out 1, refl, tt), tt)), ((refl, words a2, refit 101, refl, lit< tt), refl)),
  λ p. let e : true ≡ false = ap (λ n. n == a0) ((p.at_rooms 101).shut_out refl refl).0 in cc,
  refl,
)

pub returns-clause-restored_backup : goal.returns-clause-restored_backup
unfolding answer_to draw_from nights_taken first_day is_utf8 chars encode
returns-clause-restored_backup c = (
  opened,
  λ p. let e : true ≡ false = ap (λ n. n == a0) (p.at_rooms 101).all_are_so.0 in cc,
  refl,
)
