use Rattle.std.proofs.Common.{◌≡◌, ◌≤◌, length, take, get_or, sym, subst, ◌∙◌, arith, nat_cmp, length-take-le}
use Rattle.std.specs.BTreeMap.{insert_entry}
use Rattle.std.proofs.lemmas.List.{take_more}
use Rattle.hotel_rows.specs.Keys.{IndexesFirst}
use Rattle.hotel_rows.proofs.OfDamage.FoundKeys.{finds_again, finds_more}
use Rattle.hotel_rows.proofs.damage.by_key.index_of.Goals as goal

pub loop-i-preserved-then-contains_key : goal.loop-i-preserved-then-contains_key
loop-i-preserved-then-contains_key c =
    let keys = c.args.keys.now in
    let i = c.loop-i.i in
    let places = c.loop-i.places.entries in
    subst (λ ks. IndexesFirst places ks) (sym (take_more keys i 0 c.loop-i-test.true))
    (finds_again places (take i keys) (get_or keys i 0) c.loop-i.invariant
    (sym c.contains_key.ensures ∙ c.if-contains_key.true))

pub loop-i-preserved : goal.loop-i-preserved
loop-i-preserved c =
    let keys = c.args.keys.now in
    let i = c.loop-i.i in
    let places = c.loop-i.places.entries in
    let later = c.insert.new.self.entries in
    let low : i ≤ length keys = omega (arith, c.loop-i-test.true) in
    let put = subst (λ n. later ≡ insert_entry nat_cmp places (get_or keys i 0) n)
    (sym (length-take-le i keys low)) c.in-Ok.ensures.entries in
    subst (λ ks. IndexesFirst later ks) (sym (take_more keys i 0 c.loop-i-test.true))
    (finds_more places later (take i keys) (get_or keys i 0) c.loop-i.invariant
    (sym c.contains_key.ensures ∙ c.if-contains_key.false) put)
