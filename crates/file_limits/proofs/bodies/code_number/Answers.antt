use Rattle.std.proofs.Common.{◌≡◌, ◌≢◌, ap, arith}
use Rattle.dex_base.specs.Fault.{memory}
use Rattle.dex_base.specs.declared.fault.Fault.{Fault}
use Rattle.tables_names.specs.Closure.{NameRanks}
use Rattle.program_types.specs.View as view
use Rattle.file_limits.proofs.BodyLaws.{one_fits, one_breaks}
use Rattle.file_limits.proofs.RankLaws.{caught_below}
use Rattle.file_limits.proofs.bodies.code_number.Goals as goal

pub fits-requires-clause-caught : goal.fits-requires-clause-caught
fits-requires-clause-caught c = caught_below c.args.ranks.now (view.code c.args.code.now) c.requires.few c.requires.ready.ranked

pub returns-in-Ok-clause-ok : goal.returns-in-Ok-clause-ok
returns-in-Ok-clause-ok c = one_fits (NameRanks c.args.ranks.now) (view.code c.args.code.now) c.in-Ok.ensures.ok

pub returns-else-refusal-clause-ok : goal.returns-else-refusal-clause-ok
returns-else-refusal-clause-ok c =
    let ne : c.in-Err.refusal ≢ memory = λ e. let k : c.in-Err.refusal.code ≡ 255 = ap (λ (f : Fault). f.code) e in omega (arith, k) in
    one_breaks (NameRanks c.args.ranks.now) (view.code c.args.code.now) c.in-Err.refusal (c.in-Err.ensures.err ne)
