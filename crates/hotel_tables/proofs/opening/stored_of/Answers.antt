use Rattle.std.proofs.Common.{◌≡◌, ◌∙◌, sym, ap, subst, map, true, true≢false, inl, inr, List}
use Rattle.std.specs.Ordering.{int_cmp}
use Rattle.hotel_statements.specs.declared.plain_rows.NumberedInside.{NumberedInside}
use Rattle.hotel_tables.specs.Opening.{id_inside, plain_inside}
use Rattle.hotel_tables.proofs.Opened.{stored_are, read_meta, ids_apart}
use Rattle.hotel_statements.specs.Tables.{AreApart}
use Rattle.hotel_tables.proofs.opening.stored_of.Goals as goal

pub returns-clause-ok : goal.returns-clause-ok
returns-clause-ok c = λ db read.
    let t = c.args.tables in
    let is = c.in_ok-meta.ensures.ok in
    let apart = subst (λ (ls : List NumberedInside). c.in-Ok-true.field-0 ≡ true → AreApart int_cmp (map id_inside ls))
    c.deref.ensures.value c.in-Ok-true.ensures.0 in
    let inside = c.in-Ok.ensures ∙ ap (map plain_inside) c.deref-2.ensures.value in (
      stored_are {of = c.args.version} t db c.in_ok-meta.meta c.in-Ok.inside read is inside,
      ids_apart t.inside.items db read.1.0.1.0.0 (apart c.in-Ok-true.field-0-test),
    )

pub returns-in-Ok-false-clause-err : goal.returns-in-Ok-false-clause-err
returns-in-Ok-false-clause-err c = λ db read.
    let t = c.args.tables in
    let back : AreApart int_cmp (map id_inside t.inside.items) → c.in-Ok-false.field-0 ≡ true =
    subst (λ (ls : List NumberedInside). AreApart int_cmp (map id_inside ls) → c.in-Ok-false.field-0 ≡ true)
    c.deref.ensures.value c.in-Ok-false.ensures.1 in
    inr (
      read_meta c.args.version t db c.in_ok-meta.meta read c.in_ok-meta.ensures.ok,
      inl (t, read, λ apart. true≢false (sym (back apart) ∙ c.in-Ok-false.field-0-test)),
    )
