use Rattle.std.proofs.Common.{◌≡◌, true, false, refl, sym, ◌∙◌}
use Rattle.hotel_books.proofs.Names.{same_link}
use Rattle.hotel_core.proofs.OfCode.CheckParts.{refused_unfound, refused_found, passed_found}
use Rattle.hotel_core.proofs.commands.lock_codes.noted_card.Goals as goal

pub returns-in_err-card : goal.returns-in_err-card
returns-in_err-card g c =
    refused_unfound c.from_residual.result c.from_residual.ensures.1 c.in_err-card.ensures (λ e. rw e refl)

pub returns-then-not-same_link : goal.returns-then-not-same_link
returns-then-not-same_link g c =
    let differ : same_link c.in_ok-card.card.link c.args.link.now ≡ false =
    sym c.same_link.ensures ∙ c.if-not-same_link.true in
    refused_found c.in_ok-card.ensures refl (λ e. rw (e, differ) refl)

pub returns : goal.returns
returns g c =
    let same : same_link c.in_ok-card.card.link c.args.link.now ≡ true =
    sym c.same_link.ensures ∙ c.if-not-same_link.false in
    passed_found c.in_ok-card.ensures (λ e. rw (e, same) refl)
