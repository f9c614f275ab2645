use Rattle.std.proofs.Common.{ap, ap₂, ◌∙◌, ◌||◌}
use Rattle.std.proofs.lemmas.Result.{IfOk-weaker}
use Rattle.clap.specs.Words.{app_of, with_subcommand, App}
use Rattle.dexasm_plan.proofs.command.with_job.Goals as goal

pub returns : goal.returns
returns c = record {
  shape = IfOk-weaker c.subcommand.result _ _ (λ m h. h.shape c.in_ok-job_command.ensures.local ∙ ap (λ (a : App). with_subcommand (app_of c.args.whole) a.top) c.in_ok-job_command.ensures.shape) c.subcommand.ensures;
  local = λ e. IfOk-weaker c.subcommand.result _ _ (λ m h. h.globals ∙ ap₂ (λ x y. x || y) e c.in_ok-job_command.ensures.local) c.subcommand.ensures;
}
