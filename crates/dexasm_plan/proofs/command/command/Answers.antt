use Rattle.std.proofs.Common.{codes, ap, ◌∙◌}
use Rattle.std.proofs.lemmas.Result.{IfOk-weaker}
use Rattle.clap.specs.Words.{with_rule, with_subcommand, App}
use Rattle.dexasm_plan.specs.Commands.{align_rule, dexasm, job_app}
use Rattle.dexasm_plan.proofs.command.command.Goals as goal

abbrev after : App → App → App
after sub whole = with_subcommand whole sub.top

pub returns : goal.returns
unfolding dexasm
returns c =
    let one = c.in_ok-whole.ensures.shape ∙ ap (after (job_app (codes "check"))) c.tool.ensures.shape in
    let two = c.in_ok-whole-2.ensures.shape ∙ ap (after (job_app (codes "list"))) one in
    let three = c.in_ok-whole-3.ensures.shape ∙ ap (after (with_rule (job_app (codes "assemble")) align_rule)) two in
    record {
      shape = IfOk-weaker c.with_job-3.result _ _ (λ m h. h ∙ ap (after (job_app (codes "strip"))) three) c.with_job-3.ensures.shape;
      local = c.with_job-3.ensures.local (c.in_ok-whole-3.ensures.local (c.in_ok-whole-2.ensures.local (c.in_ok-whole.ensures.local c.tool.ensures.local)));
    }
