use Rattle.std.proofs.Common.{map, ap, sym, subst, ◌∙◌}
use Rattle.hotel_model.specs.Words.{pair_cmp}
use Rattle.hotel_model.specs.SoundRooms.{are_in_order}
use Rattle.hotel_rows.specs.Keys.{note_key}
use Rattle.hotel_rows.specs.NoteRuns.{NoteRunsOf}
use Rattle.hotel_rows.proofs.OfDamage.InTurn.{first_fails, second_fails, third_tells}
use Rattle.hotel_rows.proofs.OfDamage.NoteCounts.{notes_together, counts_as_due}
use Rattle.hotel_rows.proofs.damage.notes.notes_hold.Goals as goal

pub returns-then-not-rise_in_pairs : goal.returns-then-not-rise_in_pairs
returns-then-not-rise_in_pairs c =
    let order = c.rise_in_pairs.ensures ∙ ap (are_in_order pair_cmp) (c.deref-2.ensures.value ∙ c.in_ok-keys.ensures
    ∙ ap (map note_key) c.deref.ensures.value) in
    first_fails _ _ (notes_together c.args.stored.now) (sym order ∙ c.if-not-rise_in_pairs.true)

pub returns-then-not-notes_fit : goal.returns-then-not-notes_fit
returns-then-not-notes_fit c =
    let order = c.rise_in_pairs.ensures ∙ ap (are_in_order pair_cmp) (c.deref-2.ensures.value ∙ c.in_ok-keys.ensures
    ∙ ap (map note_key) c.deref.ensures.value) in
    second_fails _ (notes_together c.args.stored.now) (sym order ∙ c.if-not-rise_in_pairs.false)
    (sym c.notes_fit.ensures ∙ c.if-not-notes_fit.true)

pub returns : goal.returns
returns c =
    let s = c.args.stored.now in
    let order = c.rise_in_pairs.ensures ∙ ap (are_in_order pair_cmp) (c.deref-2.ensures.value ∙ c.in_ok-keys.ensures
    ∙ ap (map note_key) c.deref.ensures.value) in
    c.rooms_have_counts.ensures ∙ sym
    (counts_as_due s c.in_ok-runs.runs.entries
    (subst (NoteRunsOf c.in_ok-runs.runs.entries) c.deref-3.ensures.value c.in_ok-runs.ensures))
    ∙ third_tells (notes_together s) (sym order ∙ c.if-not-rise_in_pairs.false)
    (sym c.notes_fit.ensures ∙ c.if-not-notes_fit.false)
