-- The change that comes of a command on sound rows fits them.
use Rattle.std.proofs.Common.{◌≡◌, Option, Some, None, refl, ap, sym, ◌∙◌, subst, option_map}
use Rattle.hotel_model.proofs.Names.{Change, Reply, Rows, IsSound, IsReply, start, ◌▷◌, rows_of, Reached, Outcome}
use Rattle.hotel_model.proofs.Names.{answer_to, change_of, outcome_on, as_change}
use Rattle.hotel_model.specs.{Refinement.Fits.Fits, Refinement.Answered.IsAnswered}
use Rattle.hotel_model.proofs.{SoundRows.AllSound.rows_follow, Invariants.EventRanges.event_in_range}
use Rattle.hotel_model.proofs.{Lifted.LiftAll.answers_lift, Starts.StartRows.rows_of_start}

-- a change that comes of an event
of_event : {X Y : Type 0} (f : X → Y) (o : Option X) (y : Y)
    → option_map f o ≡ Some y → (x : X) × (o ≡ Some x) × (f x ≡ y)
of_event f (Some x) y e = (x, refl, cc)
of_event f None y e = cc

-- The change that comes of a command on sound rows fits them, where the reply's codes are in their range.
pub fits_after : (rows : Rows) (change : Change) (reply : Reply)
    → IsSound rows → IsReply reply → IsAnswered rows change reply → Fits change rows
fits_after rows change reply s r a =
    let back : rows_of (start rows) ≡ rows = rows_of_start rows s in
    let o : Outcome Change = record { reply = reply; happens = Some change; examined = a.0 } in
    let lifted : as_change (start rows) (answer_to (start rows) a.1.0 a.1.1) ≡ o =
    sym (answers_lift (start rows) a.1.1 s a.1.2 a.1.0) ∙ ap (λ rs. outcome_on rs a.1.0 a.1.1) back ∙ a.1.3 in
    let replied : (answer_to (start rows) a.1.0 a.1.1).reply ≡ reply = ap (λ x. x.reply) lifted in
    let e = of_event (change_of (start rows)) (answer_to (start rows) a.1.0 a.1.1).happens change
    (ap (λ x. x.happens) lifted) in
    let ok : Reached (start rows ▷ e.0) =
    (s, a.1.0, a.1.1, e.1, event_in_range (start rows) a.1.0 a.1.1 e.0 a.1.2 (subst IsReply (sym replied) r) e.1) in
    let fits : Fits (change_of (start rows) e.0) (rows_of (start rows)) = (rows_follow (start rows) e.0 ok).1 in
    subst (λ c. Fits c rows) e.2 (subst (λ rs. Fits (change_of (start rows) e.0) rs) back fits)
