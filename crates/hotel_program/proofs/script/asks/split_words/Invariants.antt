-- the words found and those of the rest are the text's
use Rattle.std.proofs.Common.{◌≡◌, ◌-◌, ◌≤◌, ◌++◌, length}
use Rattle.hotel_program.specs.Script.Words.{words}
use Rattle.hotel_asks.specs.declared.texts.TheConstants.{MOST_VALUES}
use Rattle.hotel_program.proofs.script.asks.split_words.Given as goal

abbrev pub invariant-loop-word : goal.invariant-loop-word
invariant-loop-word l = (length l.values ≤ MOST_VALUES) × (l.values ++ words l.rest ≡ words l.text)

abbrev pub decreases-loop-word : goal.decreases-loop-word
decreases-loop-word l = MOST_VALUES - length l.values
