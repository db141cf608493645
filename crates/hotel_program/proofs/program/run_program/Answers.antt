-- The words that were given are those that were run.
use Rattle.hotel_program.proofs.WordsLemmas.{of_words}
use Rattle.hotel_program.proofs.program.run_program.Goals as goal

pub returns-clause-words : goal.returns-clause-words
returns-clause-words g c =
    of_words _ c.in-Ok.words c.deref.result.now _ c.in-Ok.is c.deref.ensures.value c.run_words.ensures
