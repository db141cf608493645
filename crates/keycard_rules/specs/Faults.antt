-- What faults print.
use Rattle.std.specs.Prelude.{ℕ, List, codes}
use Rattle.keycard_rules.specs.declared.chain.RecodeFault.{RecodeFault}
use Rattle.keycard_rules.specs.declared.chain.RecodeFault.TheVariants as recode
use Rattle.keycard_rules.specs.declared.draw.DrawFault.{DrawFault}
use Rattle.keycard_rules.specs.declared.draw.DrawFault.TheVariants as draw
use Rattle.keycard_rules.specs.declared.issued.LookFault.{LookFault}
use Rattle.keycard_rules.specs.declared.issued.LookFault.TheVariants as look

abbrev pub recode_text : RecodeFault → List ℕ
recode_text recode.HeldDiffers = codes "HeldDiffers"
recode_text recode.NotAwaited = codes "NotAwaited"

abbrev pub look_text : LookFault → List ℕ
look_text look.Memory = codes "memory"
look_text look.Store = codes "store"

abbrev pub draw_text : DrawFault → List ℕ
draw_text draw.NoFreshCode = codes "NoFreshCode"
draw_text draw.Memory = codes "memory"
draw_text draw.Store = codes "store"
