use Rattle.std.proofs.Common.{◌≡◌, false, codes, ap, ap₂, ◌∙◌, ◌||◌}
use Rattle.std.proofs.lemmas.Result.{IfOk-weaker}
use Rattle.clap.specs.Words.{app_of, with_rule, with_subcommand, App}
use Rattle.clap.specs.declared.builder.command.Command.TheViews.{out-Command}
use Rattle.dexasm_plan.specs.Commands.{align_rule, job_app}
use Rattle.dexasm_plan.proofs.command.with_assemble.Goals as goal

pub returns : goal.returns
returns c =
    let sub : app_of c.in_ok-arg.field-0 ≡ with_rule (job_app (codes "assemble")) align_rule =
    c.in_ok-arg.ensures.shape c.align_arg-align.ensures.local ∙ ap₂ with_rule c.in_ok-assemble.ensures.shape c.align_arg-align.ensures.rule in
    let local : (out-Command c.in_ok-arg.field-0).has_globals ≡ false =
    c.in_ok-arg.ensures.globals ∙ ap₂ (λ x y. x || y) c.in_ok-assemble.ensures.local c.align_arg-align.ensures.local in
    record {
      shape = IfOk-weaker c.subcommand.result _ _ (λ m h. h.shape local ∙ ap (λ (a : App). with_subcommand (app_of c.args.whole) a.top) sub) c.subcommand.ensures;
      local = λ e. IfOk-weaker c.subcommand.result _ _ (λ m h. h.globals ∙ ap₂ (λ x y. x || y) e local) c.subcommand.ensures;
    }
