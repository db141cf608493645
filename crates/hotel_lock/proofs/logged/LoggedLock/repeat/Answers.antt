use Rattle.std.proofs.Common.{rules, ◌≡◌, ◌∙◌, ap, sym, Some}
use Rattle.hotel_nights.specs.Moments.{moment_of}
use Rattle.hotel_lock.specs.Logged.{does}
use Rattle.hotel_lock.proofs.Logs.{done_is}
use Rattle.hotel_lock.proofs.logged.LoggedLock.repeat.Goals as goal

pub returns-in_ok-keep-in-Some-clause-makes : goal.returns-in_ok-keep-in-Some-clause-makes
returns-in_ok-keep-in-Some-clause-makes c = λ e.
    let same : c.in-Some.made ≡ c.args.note.now = search rules in
    let lock : c.self.inside.lock ≡ c.args.self.now.lock = search rules in
    let notes : c.deref.result.now ≡ c.args.self.now.notes = search rules in
    let act : c.note.inside.act ≡ c.args.note.now.act = search rules in
    let did : does c.self.inside.lock c.deref.result.now c.note.inside.act c.of.result
    ≡ does c.args.self.now.lock c.args.self.now.notes c.args.note.now.act (moment_of c.args.note.now) =
    λ i. does (lock i) (notes i) (act i) (c.of.ensures i) in
    let kept : c.keep.new.self.lock ≡ c.does.new.self = search rules in
    sym did ∙ done_is c.self.inside.lock c.keep.new.self.lock _ c.args.note.now
    (sym c.in-Some.ensures.note ∙ ap (λ x. Some x) same) (kept ∙ c.in-Some.ensures.lock)
