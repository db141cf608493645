use Rattle.hotel_program.proofs.FileLemmas.{seed_taken}
use Rattle.hotel_program.proofs.files.seed_in.Goals as goal

pub returns-in-Some-clause-seed : goal.returns-in-Some-clause-seed
returns-in-Some-clause-seed g c =
    let first = c.in-Some.ensures.cases in
    seed_taken (g.R.Read.remaining c.args.reader.now) c.in-Ok.bytes.items _ c.in-Ok.ensures.prefix
    (rw (← c.as_slice.ensures.value) first.enough) (rw (← c.as_slice.ensures.value) first.same)
