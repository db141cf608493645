-- One value more of a subcommand.
use Rattle.std.proofs.Common.{arith, ◌≡◌, map, true, [], ℕ, ◌+◌, ◌<◌, take, ap, ap₂, ◌||◌, refl, ◌∙◌, List, ◌∷◌, ◌++◌}
use Rattle.std.proofs.Common.{sym, length, get_or}
use Rattle.std.proofs.lemmas.List.{map-append}
use Rattle.std.proofs.lemmas.Grind.{take_at_read}
use Rattle.clap.specs.Words.{rule_of, App, Rule, with_rule, Text, new_rule}
use Rattle.clap.specs.Simple.{app_of_fields}
use Rattle.hotel_asks.specs.declared.values.ValueName.{ValueName}
use Rattle.hotel_program.specs.CommandLine.{leaf, value_rule}
use Rattle.hotel_program.proofs.command_line.command.with_values.Goals as goal

leaf-more : (name : Text) (values : List ValueName) (i : ℕ) (d : ValueName) → i < length values
    → with_rule (record { top = leaf name (take i values); subs = [] }) (value_rule (get_or values i d))
    ≡ record { top = leaf name (take (i + 1) values); subs = [] }
leaf-more name values i d h =
    let more : map value_rule (take (i + 1) values)
    ≡ map value_rule (take i values) ++ value_rule (get_or values i d) ∷ [] =
    rw ((take_at_read values i d h).1, map-append) refl in
    ap (λ (rs : List Rule). record { top = record (leaf name []) { rules = rs }; subs = [] }) (sym more)

pub loop-value-init : goal.loop-value-init
loop-value-init c = record {
  shape = ap app_of_fields c.about-command.ensures ∙ c.new.ensures.app;
  globals = ap (λ f. f.has_globals) c.about-command.ensures ∙ c.new.ensures.local;
}

pub loop-value-preserved : goal.loop-value-preserved
loop-value-preserved c =
    let rule = ap rule_of c.required-arg.ensures
    ∙ ap (λ (r : Rule). record r { required = true }) (ap rule_of c.help.ensures ∙ c.new-in-loop-value.ensures.rule) in
    let global = ap (λ a. a.global) c.required-arg.ensures ∙ ap (λ a. a.global) c.help.ensures
    ∙ c.new-in-loop-value.ensures.optional.1 in
    record {
      shape = c.in_ok-command.ensures.shape global
          ∙ ap (λ (a : App). with_rule a (rule_of c.required-arg.result)) c.loop-value.invariant.shape
          ∙ ap (λ (r : Rule). with_rule
          (record { top = leaf c.args.name.now (take c.loop-value.value-index c.args.values.now); subs = [] }) r) rule
          ∙ ap (λ (t : Text). with_rule (record {
            top = leaf c.args.name.now (take c.loop-value.value-index c.args.values.now);
            subs = [];
          }) (record (new_rule t) { required = true })) c.text.ensures.same
          ∙ leaf-more c.args.name.now c.args.values.now c.loop-value.value-index _ (omega arith);
      globals = c.in_ok-command.ensures.globals ∙ ap₂ ◌||◌ c.loop-value.invariant.globals global;
    }
