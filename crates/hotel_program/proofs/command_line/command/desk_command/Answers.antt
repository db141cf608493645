-- The subcommands of verbs, and the three others.
use Rattle.std.proofs.Common.{ap, ap₂, ◌∙◌, ◌||◌}
use Rattle.std.proofs.lemmas.Result.{IfOk-weaker}
use Rattle.clap.specs.Words.{App, with_subcommand}
use Rattle.hotel_program.specs.CommandLine.{desk}
use Rattle.hotel_program.proofs.command_line.command.desk_command.Goals as goal

pub returns-clause-shape : goal.returns-clause-shape
unfolding desk
returns-clause-shape c =
    let one = c.in_ok-subcommand.ensures.shape c.in_ok-audit.ensures.globals
    ∙ ap₂ with_subcommand c.in_ok-with_verbs.ensures.shape (ap (λ (a : App). a.top) c.in_ok-audit.ensures.shape) in
    let two = c.in_ok-subcommand-2.ensures.shape c.in_ok-script.ensures.globals
    ∙ ap₂ with_subcommand one (ap (λ (a : App). a.top) c.in_ok-script.ensures.shape) in
    IfOk-weaker c.subcommand-3.result _ _ (λ r h. h.shape c.in_ok-serve.ensures.globals
    ∙ ap₂ with_subcommand two (ap (λ (a : App). a.top) c.in_ok-serve.ensures.shape)) c.subcommand-3.ensures

pub returns-clause-globals : goal.returns-clause-globals
returns-clause-globals c =
    let one =
    c.in_ok-subcommand.ensures.globals ∙ ap₂ ◌||◌ c.in_ok-with_verbs.ensures.globals c.in_ok-audit.ensures.globals in
    let two = c.in_ok-subcommand-2.ensures.globals ∙ ap₂ ◌||◌ one c.in_ok-script.ensures.globals in
    IfOk-weaker c.subcommand-3.result _ _
    (λ r h. h.globals ∙ ap₂ ◌||◌ two c.in_ok-serve.ensures.globals) c.subcommand-3.ensures
