use Rattle.std.proofs.Common.{◌≡◌, [], ◌∷◌, ◌++◌, ◌∙◌, ap, sym, subst, true, Ok, rules}
use Rattle.hotel_lock.specs.Door.{fitted}
use Rattle.hotel_lock.specs.Logged.{MakesAll}
use Rattle.hotel_lock.proofs.Logs.{left_less, made_more, take_one}
use Rattle.hotel_lock.proofs.logged.LoggedLock.replayed.Goals as goal

pub loop-note-preserved : goal.loop-note-preserved
loop-note-preserved c =
    let note = c.note-item.result in
    let old = c.loop-note.logged in
    let new = c.repeat.new.self in
    let ok : c.repeat.result ≡ Ok true = search rules in
    let makes = c.repeat.ensures.makes ok in
    let log = c.repeat.ensures.log ok in
    let start = fitted c.args.room c.args.fit c.args.code in
    record {
      first = c.repeat.ensures.first ∙ c.loop-note.invariant.first;
      so_far = log ∙ ap (λ items. items ++ (note ∷ [])) c.loop-note.invariant.so_far
          ∙ sym (take_one _ c.loop-note.note-index note c.loop-note-test.true c.note-item.is);
      log = subst (λ items. MakesAll start [] items new.lock) (sym log)
          (made_more start [] old.notes old.lock note new.lock c.loop-note.invariant.log makes);
      left = λ end h. left_less old.lock new.lock old.notes new.notes _ c.loop-note.note-index note end
          c.loop-note-test.true c.note-item.is makes log (c.loop-note.invariant.left end h);
    }
