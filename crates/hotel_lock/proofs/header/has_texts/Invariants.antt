-- the texts that are left decide
use Rattle.std.proofs.Common.{◌≡◌, drop, length, map}
use Rattle.csv.specs.Records.{fields_of}
use Rattle.hotel_lock.specs.Header.{are_same_texts}
use Rattle.hotel_lock.proofs.header.has_texts.Given as goal

abbrev pub invariant-loop-index : goal.invariant-loop-index
invariant-loop-index l = (length (fields_of l.row) ≡ length l.texts)
    × (are_same_texts (drop l.index (fields_of l.row)) (map (λ text. text.now) (drop l.index l.texts))
    ≡ are_same_texts (fields_of l.row) (map (λ text. text.now) l.texts))
