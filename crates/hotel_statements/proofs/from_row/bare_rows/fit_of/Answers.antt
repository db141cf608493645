use Rattle.std.proofs.Common.{◌≡◌, ◌∙◌, sym, ap, cond, take, Some, true, false, nat_lt, arith}
use Rattle.std.proofs.lemmas.Bool.Decides.{nat_tests}
use Rattle.hotel_rows.specs.Joined.{fit_of_number}
use Rattle.hotel_statements.proofs.Joins.{of_taken}
use Rattle.hotel_statements.proofs.from_row.bare_rows.fit_of.Goals as goal
use Rattle.hotel_statements.proofs.from_row.bare_rows.fit_of.Goals.{then-fit-number, else-fit-number}

pub fits-preserved : goal.fits-preserved
fits-preserved c =
    let fits = c.args.fits.now in
    let n = c.args.number in
    let fit = c.index-fits-i.result in
    let more = of_taken fits c.fits.i fit n c.fits-test.true c.index-fits-i.is in
    elim c.if-fit-number.branch [
      | then-fit-number w ↦
          let low : nat_lt fit.before n ≡ true = grind (arith, nat_tests, w.if-fit-number) in
          w.last-is ∙ sym (more ∙ ap (λ b. cond b (Some fit) (fit_of_number (take c.fits.i fits) n)) low)
      | else-fit-number w ↦
          let other : nat_lt fit.before n ≡ false = grind (arith, nat_tests, w.if-fit-number) in
          w.last-is ∙ c.fits.invariant ∙ sym (more
          ∙ ap (λ b. cond b (Some fit) (fit_of_number (take c.fits.i fits) n)) other)
    ]
