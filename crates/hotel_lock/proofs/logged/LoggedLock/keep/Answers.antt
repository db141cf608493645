use Rattle.std.proofs.Common.{◌≡◌, [], ◌∷◌, ◌++◌, rules}
use Rattle.hotel_lock.proofs.Logs.{kept_log}
use Rattle.hotel_lock.proofs.logged.LoggedLock.keep.Goals as goal

pub invariant_of-self-2 : goal.invariant_of-self-2
invariant_of-self-2 c =
    let items : c.push.new.self.items ≡ c.self.inside.notes.items ++ (c.args.note ∷ []) = search rules in
    let makes = rw (← c.self.view_is) at c.requires in
    kept_log _ _ c.self.inside.notes.items _ c.args.note c.args.lock c.self.invariant makes items
