use Rattle.std.proofs.Common.{ap, ◌∙◌, subst}
use Rattle.std.proofs.lemmas.Result.{IfErr-weaker, IfOk-weaker}
use Rattle.clap.specs.Words.{App, FailsBy, fault_of, is_simple, is_simple_and_free, subcommand_of, takes}
use Rattle.dexasm_plan.specs.Plans.{texts_of}
use Rattle.dexasm_plan.proofs.Shapes.{requests_subcommand, is_free_command, is_simple_command}
use Rattle.dexasm_plan.proofs.reading.parse.Goals as goal

pub returns : goal.returns
returns c =
    let parse = c.try_get_matches_from in
    let is = c.in_ok-command.ensures.shape in
    record {
      met = IfOk-weaker parse.result _ _ (λ m p.
          (p.parsed (p.from.globals ∙ c.in_ok-command.ensures.local)).checked.subcommand
          (p.from.needs_subcommand ∙ ap (λ (a : App). a.top.subcommand_required) is ∙ requests_subcommand)) parse.ensures.parsed;
      rows = IfOk-weaker parse.result _ _ (λ m h. (h (ap is_simple is ∙ is_simple_command)).1 ∙ ap (λ (a : App). subcommand_of a (texts_of c.args.words.now)) is) parse.ensures.matches;
      passes = IfErr-weaker parse.result _ _ (λ e h t. h (ap (λ (a : App). takes a (texts_of c.args.words.now)) is ∙ t)) parse.ensures.passes;
      kinds = subst (λ (a : App). FailsBy (fault_of a (texts_of c.args.words.now)) parse.result) is
          (parse.ensures.kinds (ap is_simple_and_free is ∙ is_free_command));
    }
