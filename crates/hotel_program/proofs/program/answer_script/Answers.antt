-- The books are new, and the source is the one of a seed of zeros.
use Rattle.std.proofs.Common.{◌≡◌, refl, subst}
use Rattle.rand_core.specs.Steps.{steps_u32, stream_of}
use Rattle.rand_chacha.specs.ChaCha.{next_word}
use Rattle.hotel_model.specs.Rows.{no_rows}
use Rattle.hotel_model.specs.Sound.{IsSound}
use Rattle.hotel_program.specs.Program.{zero_seeded}
use Rattle.hotel_program.proofs.OfScript.CountLemmas.{calls_of}
use Rattle.hotel_program.proofs.ProgramLemmas.{script_ends}
use Rattle.hotel_program.proofs.program.answer_script.Goals as goal

pub returns-clause-ends : goal.returns-clause-ends
returns-clause-ends g c =
    let e = c.run_script_by-end.ensures in
    let rows : c.empty-books.result.rows ≡ no_rows = rw c.empty-books.ensures refl in
    let source : stream_of (steps_u32 (next_word 10)) c.from_seed-source.result ≡ zero_seeded =
    rw c.from_seed-source.ensures refl in (
      c.run_script_by-end.result,
      c.end_of_script.ensures.end,
      script_ends _ _ (stream_of (steps_u32 (next_word 10))) g.W.Write.contents (g.I.Read.remaining c.args.reader.now)
          c.args.writer.now c.run_script_by-end.new.writer _ _ _ _ c.run_script_by-end.result tt rows refl refl source
          (subst IsSound rows (c.known_sound.ensures tt)) e.ends,
    )

pub returns-clause-calls : goal.returns-clause-calls
returns-clause-calls g c = calls_of _ _ c.run_script_by-end.result c.end_of_script.result c.end_of_script.ensures.end
    c.run_script_by-end.ensures.calls
