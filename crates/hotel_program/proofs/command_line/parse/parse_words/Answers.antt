use Rattle.std.proofs.Common.{sym, subst, map, rules, string_bytes, ap, ◌∙◌, ◌∷◌, []}
use Rattle.std.proofs.lemmas.Result.{IfErr-weaker, IfOk-weaker}
use Rattle.clap.specs.Words.{App, fault_of, first_of, is_simple, is_simple_and_free, kind_of, matches_of}
use Rattle.clap.specs.Words.{subcommand_of}
use Rattle.clap.specs.Kinds.{HasKind, Kinds}
use Rattle.hotel_program.specs.Plans.{act_in}
use Rattle.hotel_program.proofs.CommandLineLemmas.{desk_is_free, desk_is_simple, desk_wants_subcommand}
use Rattle.hotel_program.proofs.CommandLineLemmas.{refuses_none, told_by, told_of_plan}
use Rattle.hotel_program.proofs.command_line.parse.parse_words.Goals as goal

pub plan-requires : goal.plan-requires
plan-requires c =
    let from = c.in-Ok-try_get_matches_from.ensures.parsed in
    let wants = ap (λ (a : App). a.top.subcommand_required) c.in-Ok.ensures.shape ∙ desk_wants_subcommand in
    (from.parsed (from.from.globals ∙ c.in-Ok.ensures.globals)).checked.subcommand (from.from.needs_subcommand ∙ wants)

pub returns-in-Ok-try_get_matches_from : goal.returns-in-Ok-try_get_matches_from
returns-in-Ok-try_get_matches_from c =
    let words = map string_bytes c.args.words.now in
    let m = c.in-Ok-try_get_matches_from.ensures.matches (ap is_simple c.in-Ok.ensures.shape ∙ desk_is_simple) in
    let rows = m.0 ∙ ap (λ (a : App). matches_of a words) c.in-Ok.ensures.shape in
    let sub = m.1 ∙ ap (λ (a : App). subcommand_of a words) c.in-Ok.ensures.shape in
    let none = sym (ap (λ (a : App). fault_of a words) c.in-Ok.ensures.shape)
    ∙ c.in-Ok-try_get_matches_from.ensures.kinds (ap is_simple_and_free c.in-Ok.ensures.shape ∙ desk_is_free) in
    record {
      clean = IfOk-weaker c.plan.result _ _ (λ p h. none) c.plan.ensures.act;
      act = IfOk-weaker c.plan.result _ _ (λ p h. ap act_in (sym sub) ∙ h) c.plan.ensures.act;
      db = IfOk-weaker c.plan.result _ _ (λ p h. h ∙ ap (first_of (100 ∷ 98 ∷ [])) rows) c.plan.ensures.db;
      seed = IfOk-weaker c.plan.result _ _
          (λ p h. h ∙ ap (first_of (115 ∷ 101 ∷ 101 ∷ 100 ∷ 45 ∷ 102 ∷ 105 ∷ 108 ∷ 101 ∷ [])) rows) c.plan.ensures.seed;
      value = IfErr-weaker c.plan.result _ _ (λ e h v r. ap act_in (sym sub) ∙ h v r) c.plan.ensures.value;
      told = IfErr-weaker c.plan.result _ _ (λ e h. told_of_plan _ e h none) c.plan.ensures.only;
    }

pub returns-in-Err : goal.returns-in-Err
returns-in-Err c =
    let same = ap (λ (a : App). fault_of a (map string_bytes c.args.words.now)) c.in-Ok.ensures.shape in
    record {
      clean = tt;
      act = tt;
      db = tt;
      seed = tt;
      value = refuses_none _ (kind_of c.in-Err.error) c.usage_fault.result c.usage_fault.ensures.kind;
      told = told_by _ (kind_of c.in-Err.error) c.usage_fault.result
          (subst (λ (k : Kinds). HasKind k c.in-Err.error) same
          (c.in-Err.ensures.kinds (ap is_simple_and_free c.in-Ok.ensures.shape ∙ desk_is_free)))
          c.usage_fault.ensures.kind;
    }
