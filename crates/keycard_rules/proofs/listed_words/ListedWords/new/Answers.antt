use Rattle.keycard_rules.proofs.ListedLemmas.{words-listed}
use Rattle.keycard_rules.proofs.listed_words.ListedWords.new.Goals as goal

pub returns-clause-stream : goal.returns-clause-stream
returns-clause-stream c = λ n. words-listed n c.args.list.items c.requires.some_words
