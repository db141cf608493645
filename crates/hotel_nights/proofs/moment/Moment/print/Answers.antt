use Rattle.std.proofs.Common.{◌≡◌, ℕ, List, Some, sym, subst}
use Rattle.hotel_nights.specs.Moments.{read_moment}
use Rattle.hotel_nights.proofs.MomentLemmas.{moment_text-is, read_moment-text}
use Rattle.hotel_nights.proofs.moment.Moment.print.Goals as goal

pub returns-clause-text : goal.returns-clause-text
returns-clause-text c =
    rw (← c.self.view_is) (moment_text-is c.self.inside.day c.self.inside.second c.print.result c.print_time.result
    c.print.ensures.text c.print_time.ensures)

pub returns-clause-reads_back : goal.returns-clause-reads_back
returns-clause-reads_back c =
    subst (λ (t : List ℕ). read_moment t ≡ Some c.args.self.now) (sym (returns-clause-text c))
    (rw (← c.self.view_is)
    (read_moment-text c.self.inside.day c.self.inside.second c.self.invariant.0 c.self.invariant.1))
