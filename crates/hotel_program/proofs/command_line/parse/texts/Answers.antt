use Rattle.std.proofs.Common.{◌∙◌, ℕ, List, take, ap, Bor, arith, rules}
use Rattle.std.proofs.lemmas.Grind.{take_at_read}
use Rattle.clap.specs.Words.{found_of, rows_of, Text}
use Rattle.hotel_program.specs.Plans.{texts_in}
use Rattle.hotel_program.proofs.PlanLemmas.{as_many_texts, more_texts, refused_in_pass}
use Rattle.hotel_program.proofs.command_line.parse.texts.Goals as goal

pub returns-in_err-text : goal.returns-in_err-text
returns-in_err-text c =
    let refused =
    refused_in_pass (λ (s : Bor (List ℕ)). s.now) (λ (texts : List Text). texts)
    (rows_of (found_of c.args.matches.now)) c.values-name-items.result.now c.loop-name.name-index _ _ _ (omega arith)
    c.loop-name.invariant c.in_err-text.ensures in
    search rules

pub push-requires : goal.push-requires
push-requires c =
    let many = as_many_texts (rows_of (found_of c.args.matches.now))
    (take c.loop-name.name-index c.values-name-items.result.now) c.loop-name.texts c.loop-name.invariant in
    search rules

pub loop-name-preserved : goal.loop-name-preserved
loop-name-preserved c =
    let more = more_texts (rows_of (found_of c.args.matches.now))
    (take c.loop-name.name-index c.values-name-items.result.now) _ _ _ c.loop-name.invariant c.in_ok-text.ensures in
    ap (texts_in (rows_of (found_of c.args.matches.now)))
    (take_at_read c.values-name-items.result.now c.loop-name.name-index _ (omega arith)).1 ∙ more ∙ search rules
