use Rattle.keycard_rules.proofs.NumeralLemmas.{numeral-from}
use Rattle.keycard_rules.proofs.numerals.read_numeral.Goals as goal

pub returns : goal.returns
returns c = numeral-from _ c.args.base c.args.most c.args.text.now c.read_digits.ensures
