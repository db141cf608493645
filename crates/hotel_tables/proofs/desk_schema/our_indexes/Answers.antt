use Rattle.std.proofs.Common.{◌≤◌, ◌∙◌, true≢false, sym, ap, arith}
use Rattle.std.proofs.lemmas.Bool.Decides.{nat_tests}
use Rattle.hotel_statements.specs.SameSchema.{same_prefix}
use Rattle.hotel_tables.proofs.MemoryDesk.{prefix_is_nine, nine_is_taken, nine_has}
use Rattle.hotel_tables.proofs.desk_schema.our_indexes.Goals as goal
use Rattle.hotel_tables.proofs.desk_schema.our_indexes.Goals.{
  then-indexes-lt-KEYS-via-then-indexes-lt-KEYS,
  then-indexes-lt-KEYS-via-else-indexes-lt-KEYS+then-indexes,
}

pub returns-then-indexes-lt-KEYS-clause-none : goal.returns-then-indexes-lt-KEYS-clause-none
returns-then-indexes-lt-KEYS-clause-none g c = λ _ count is.
    let has = nine_has _ _ c.schema-schema.ensures.value count is in
    let low : 7 ≤ c.len-indexes.result = omega (arith, c.len-indexes.ensures, has.0) in
    let high : c.len-indexes.result ≤ 10 = omega (arith, c.len-indexes.ensures, has.1) in
    elim c.then-indexes-lt-KEYS.branch [
      | then-indexes-lt-KEYS-via-then-indexes-lt-KEYS w ↦
          let less = w.if-indexes-lt-KEYS.true in absurd (grind (arith, nat_tests, less, low))
      | then-indexes-lt-KEYS-via-else-indexes-lt-KEYS+then-indexes w ↦
          let more = w.if-indexes.true in absurd (grind (arith, nat_tests, more, high))
    ]

pub returns-else-same_prefix-clause-none : goal.returns-else-same_prefix-clause-none
returns-else-same_prefix-clause-none g c = λ _ count is.
    let taken = nine_is_taken _ _ _ _ c.schema-schema.ensures.value c.schema.ensures.value c.requires count is in
    let here = ap (λ n. same_prefix 9 n c.schema-schema.result.now c.schema.result.now) c.len-indexes.ensures in
    true≢false (sym (c.same_prefix.ensures ∙ here ∙ taken) ∙ c.if-same_prefix.false)

pub returns-then-same_prefix-clause-some : goal.returns-then-same_prefix-clause-some
returns-then-same_prefix-clause-some g c =
    let less = c.if-indexes-lt-KEYS.false in
    let more = c.if-indexes.false in
    let low : 7 ≤ c.len-indexes.result = grind (arith, nat_tests, less) in
    let high : c.len-indexes.result ≤ 10 = grind (arith, nat_tests, more) in
    prefix_is_nine _ _ _ _ c.len-indexes.result c.schema-schema.ensures.value c.schema.ensures.value c.requires low high
    (sym c.same_prefix.ensures ∙ c.if-same_prefix.true)
