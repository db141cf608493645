use Rattle.std.proofs.Common.{◌≡◌, arith, true, List, ℕ, subst, sym, replicate, drop, length, ◌++◌}
use Rattle.std.proofs.lemmas.Bool.Decides.{nat_tests}
use Rattle.hotel_nights.specs.Kinds.{is_kind}
use Rattle.hotel_nights.proofs.KindLemmas.{padded, IsPadded}
use Rattle.hotel_nights.proofs.kind.KindCode.read.Goals as goal

pub invariant_of-result : goal.invariant_of-result
invariant_of-result c =
    let text = c.args.text.now in
    let k : is_kind text ≡ true = grind (arith, nat_tests) in
    subst (λ (l : List ℕ). IsPadded (l ++ drop (length text) (replicate 8 0)) (length text))
    (sym c.copy_from_slice.ensures.after) (padded text (omega arith) k)
