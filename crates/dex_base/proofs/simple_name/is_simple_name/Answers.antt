use Rattle.std.proofs.Common.{arith}
use Rattle.std.proofs.lemmas.Bool.{eqb-true, eq-eqb}
use Rattle.dex_base.proofs.NameLaws.{run_all, run_is_all, simple_some}
use Rattle.dex_base.proofs.simple_name.is_simple_name.Goals as goal

pub returns-then-run-eq0 : goal.returns-then-run-eq0
returns-then-run-eq0 c = (λ h. absurd cc, λ s. let l = simple_some c.args.units.now s in let e = run_is_all c.args.units.now c.name_run-run.result c.name_run-run.ensures.run s in absurd (omega (arith, c.if-run-eq0.true)))

pub returns : goal.returns
returns c = (λ h. let e = eqb-true _ _ h in run_all c.args.units.now c.name_run-run.result c.name_run-run.ensures.run (omega (arith, e, c.if-run-eq0.false)) e, λ s. eq-eqb _ _ (run_is_all c.args.units.now c.name_run-run.result c.name_run-run.ensures.run s))
