use Rattle.std.proofs.Common.{map}
use Rattle.program_types.specs.View.{class}
use Rattle.program_rules.proofs.OrderLaws.{first-broken, one-more, all-kept}
use Rattle.program_rules.proofs.program.well_formed.Goals as goal
use Rattle.dex_base.proofs.ListFacts.{passed}

pub returns-in_err-check_class-clause-err : goal.returns-in_err-check_class-clause-err
returns-in_err-check_class-clause-err c =
    passed _ _ _ c.from_residual.ensures.1 (first-broken c.args.all.now.classes.now c.loop-i.i _ _ c.loop-i-test.true c.loop-i.invariant (c.in_err-check_class.ensures.err (map class c.args.all.now.classes.now) c.order_holds-is_in_order.ensures))

pub loop-i-preserved : goal.loop-i-preserved
loop-i-preserved c = one-more c.args.all.now.classes.now c.loop-i.i _ c.loop-i-test.true c.loop-i.invariant (c.in_ok-check_class.ensures.ok (map class c.args.all.now.classes.now) c.order_holds-is_in_order.ensures) c.in_ok-check_class.ensures.ranges

pub returns-clause-formed : goal.returns-clause-formed
returns-clause-formed c = all-kept c.args.all.now.classes.now c.loop-i.i c.loop-i-test.false c.loop-i.invariant
