use Rattle.std.proofs.Common.{rules, arith, ◌∙◌}
use Rattle.csv.specs.Records.{fields_of}
use Rattle.std.proofs.lemmas.List.{length-map}
use Rattle.hotel_lock.proofs.FieldsAt.{no_field}
use Rattle.hotel_lock.proofs.SameTexts.{next_text, other_length, text_differs, text_is_same}
use Rattle.hotel_lock.proofs.header.has_texts.Goals as goal

pub returns-then-len-texts : goal.returns-then-len-texts
returns-then-len-texts c = other_length (fields_of c.args.row.now) _
    (λ e. c.if-len-texts.true (c.len.ensures ∙ e ∙ length-map c.args.texts.now _))

pub returns-in_default : goal.returns-in_default
returns-in_default c = no_field (fields_of c.args.row.now) c.loop-index.index
    (omega (arith, c.loop-index.invariant.0, c.loop-index-test.true)) (search rules)

pub returns-then-ne : goal.returns-then-ne
returns-then-ne c =
    let i = c.loop-index.index in
    let next = next_text (fields_of c.args.row.now) c.args.texts.now i _ c.in-Some.field.now
    c.loop-index-test.true (search rules) in
    text_differs _ _ _ c.ne.result next (rw c.as_bytes.ensures.value at c.ne.ensures) c.if-ne.true
    ∙ c.loop-index.invariant.1

pub loop-index-preserved : goal.loop-index-preserved
loop-index-preserved c =
    let i = c.loop-index.index in
    let next = next_text (fields_of c.args.row.now) c.args.texts.now i _ c.in-Some.field.now
    c.loop-index-test.true (search rules) in (
      c.loop-index.invariant.0,
      text_is_same _ _ _ c.ne.result next (rw c.as_bytes.ensures.value at c.ne.ensures) c.if-ne.false
          ∙ c.loop-index.invariant.1,
    )
