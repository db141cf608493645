use Rattle.std.proofs.Common.{arith, ◌≡◌, ap, sym, ◌∙◌}
use Rattle.std.proofs.lemmas.Grind.{common_steps}
use Rattle.std.proofs.lemmas.Str.{is_utf8-from_IsUtf8}
use Rattle.std.specs.Prelude.{◌&&◌, ◌-◌, ◌==◌, not, nat_le, length, slice_index}
use Rattle.std.specs.List.{list_all}
use Rattle.std.specs.Char.{is_control}
use Rattle.std.specs.Str.{chars}
use Rattle.hotel_nights.proofs.guest.is_guest.Goals as goal

pub returns : goal.returns
returns c =
    let text = c.args.text.now in
    let rest = nat_le 1 (length text) && nat_le (length text) 60 && not (slice_index text 0 == 32)
    && not (slice_index text (length text - 1) == 32)
    && list_all (λ d. not (is_control d)) (chars text) in
    let same : c.has_no_control.result ≡ rest = grind (arith, common_steps) in
    same ∙ ap (λ b. b && rest) (sym (is_utf8-from_IsUtf8 text c.utf8.text))
