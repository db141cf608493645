use Rattle.std.proofs.Common.{◌≡◌, arith, rules, ap, length}
use Rattle.std.specs.Fmt.{decimal}
use Rattle.std.proofs.lemmas.Fmt.{length-decimal-le_wide}
use Rattle.keycard_rules.proofs.short_text.ShortText.push_number.Goals as goal

pub push-requires : goal.push-requires
push-requires g c =
    let t : c.as_bytes.result.now ≡ decimal c.args.number = search rules in
    let b = length-decimal-le_wide g.row.DIGITS c.args.number c.requires.few.0 c.requires.few.1 (omega arith) in
    omega (arith, ap length t, c.requires.room)

pub returns-clause-len : goal.returns-clause-len
returns-clause-len g c =
    let t : c.as_bytes.result.now ≡ decimal c.args.number = search rules in
    let b = length-decimal-le_wide g.row.DIGITS c.args.number c.requires.few.0 c.requires.few.1 (omega arith) in
    omega (arith, ap length t, c.push.ensures.len)
