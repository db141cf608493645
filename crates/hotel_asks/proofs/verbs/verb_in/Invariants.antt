-- the rows that are left decide
use Rattle.std.proofs.Common.{◌≡◌, drop}
use Rattle.hotel_asks.specs.Verbs.{texts, verb_in}
use Rattle.hotel_asks.proofs.verbs.verb_in.Given as goal

abbrev pub invariant-loop-text : goal.invariant-loop-text
invariant-loop-text l = verb_in l.word (texts (drop l.text-index l.rows)) ≡ verb_in l.word (texts l.rows)
