use Rattle.std.proofs.Common.{◌≡◌, true, ap, ap₂, ◌∙◌, codes, Some, ◌||◌}
use Rattle.std.proofs.lemmas.Result.{IfOk-weaker}
use Rattle.clap.specs.Words.{rule_of, App, Rule, with_rule}
use Rattle.clap.specs.Simple.{app_of_fields}
use Rattle.hotel_program.specs.CommandLine.{option_rule}
use Rattle.hotel_program.proofs.command_line.command.with_options.Goals as goal

pub returns-clause-shape : goal.returns-clause-shape
returns-clause-shape c =
    let db : rule_of c.help-database.result ≡ option_rule (codes "db") = ap rule_of c.help-database.ensures
    ∙ ap rule_of c.value_name.ensures
    ∙ ap (λ (r : Rule). record r { value_names = 1 }) (ap rule_of c.long.ensures
    ∙ ap (λ (r : Rule). record r { long = Some (codes "db") }) c.new.ensures.rule) in
    let seed : rule_of c.help-seed_file.result ≡ option_rule (codes "seed-file") =
    ap rule_of c.help-seed_file.ensures ∙ ap rule_of c.value_name-2.ensures
    ∙ ap (λ (r : Rule). record r { value_names = 1 }) (ap rule_of c.long-2.ensures
    ∙ ap (λ (r : Rule). record r { long = Some (codes "seed-file") }) c.new-2.ensures.rule) in
    let db_local =
    ap (λ a. a.global) c.help-database.ensures ∙ ap (λ a. a.global) c.value_name.ensures
    ∙ ap (λ a. a.global) c.long.ensures ∙ c.new.ensures.optional.1 in
    let seed_local = ap (λ a. a.global) c.help-seed_file.ensures ∙ ap (λ a. a.global) c.value_name-2.ensures
    ∙ ap (λ a. a.global) c.long-2.ensures ∙ c.new-2.ensures.optional.1 in
    let called = ap app_of_fields c.in_ok-bin_name.ensures.0 ∙ c.new-3.ensures.app in
    let versed = ap app_of_fields c.version.ensures
    ∙ ap (λ (a : App). record a { top = record a.top { has_version = true } }) called in
    let a0 = ap app_of_fields c.about.ensures ∙ versed in
    let a1 = ap app_of_fields c.no_binary_name.ensures
    ∙ ap (λ (a : App). record a { top = record a.top { no_binary_name = true } }) a0 in
    let a2 = ap app_of_fields c.subcommand_required.ensures
    ∙ ap (λ (a : App). record a { top = record a.top { subcommand_required = true } }) a1 in
    let a3 = c.in_ok-arg.ensures.shape db_local ∙ ap₂ with_rule a2 db in
    IfOk-weaker c.arg-2.result _ _ (λ r h. h.shape seed_local ∙ ap₂ with_rule a3 seed) c.arg-2.ensures

pub returns-clause-globals : goal.returns-clause-globals
returns-clause-globals c =
    let db_local =
    ap (λ a. a.global) c.help-database.ensures ∙ ap (λ a. a.global) c.value_name.ensures
    ∙ ap (λ a. a.global) c.long.ensures ∙ c.new.ensures.optional.1 in
    let seed_local = ap (λ a. a.global) c.help-seed_file.ensures ∙ ap (λ a. a.global) c.value_name-2.ensures
    ∙ ap (λ a. a.global) c.long-2.ensures ∙ c.new-2.ensures.optional.1 in
    let g0 = ap (λ f. f.has_globals) c.about.ensures ∙ ap (λ f. f.has_globals) c.version.ensures
    ∙ ap (λ f. f.has_globals) c.in_ok-bin_name.ensures.0 ∙ c.new-3.ensures.local in
    let g1 = ap (λ f. f.has_globals) c.no_binary_name.ensures ∙ g0 in
    let g2 = ap (λ f. f.has_globals) c.subcommand_required.ensures ∙ g1 in
    let g3 = c.in_ok-arg.ensures.globals ∙ ap₂ ◌||◌ g2 db_local in
    IfOk-weaker c.arg-2.result _ _ (λ r h. h.globals ∙ ap₂ ◌||◌ g3 seed_local) c.arg-2.ensures
