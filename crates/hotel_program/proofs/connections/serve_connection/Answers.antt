use Rattle.std.proofs.Common.{refl, subst, ℕ, None, Ok, Err}
use Rattle.hotel_program.proofs.connections.serve_connection.Goals as goal

pub returns-in-Ok-clause-ends : goal.returns-in-Ok-clause-ends
returns-in-Ok-clause-ends g c =
    let ends = c.serve_taken.ensures.ends in
    (ends.0, ends.1, (Ok c.in-Ok.stream, c.accept.new.self, c.in-Ok.ensures.taken, ends.2))

pub returns-in-Err-clause-ends : goal.returns-in-Err-clause-ends
returns-in-Err-clause-ends g c =
    let waited = subst (λ (t : ℕ). g.L.Listener.waited c.accept.new.self t c.wait.new.self) c.from_nanos.ensures
    c.wait.ensures.waited in
    (None, refl, (Err _, c.accept.new.self, c.in-Err.ensures.taken, (waited, refl, refl, refl)))
