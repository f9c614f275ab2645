use Rattle.std.proofs.Common.{map}
use Rattle.program_types.specs.View.{class}
use Rattle.program_rules.proofs.NumberLaws.{not-yet}
use Rattle.program_rules.proofs.OrderLaws.{class-at, first-broken, one-more, all-kept}
use Rattle.program_rules.specs.Rules.{CodesHold}
use Rattle.program_rules.specs.inner.Valid.{InsnsAreNamed}
use Rattle.program_rules.proofs.program.check_classes.Goals as goal
use Rattle.dex_base.proofs.ListFacts.{passed, all_at}

pub returns-in_err-check_class-clause-err : goal.returns-in_err-check_class-clause-err
returns-in_err-check_class-clause-err c =
    let p = map class c.args.classes.now in
    let at = class-at c.args.classes.now c.loop-i.i _ c.loop-i-test.true in
    let order = c.in_ok-is_in_order.ensures.ok p c.requires.numbers at (not-yet p c.loop-i.i _ c.requires.numbers.again (λ k d m e. (c.loop-i.invariant k d m e).0)) in
    passed _ _ _ c.from_residual-in_err-check_class.ensures.1 (λ other. first-broken c.args.classes.now c.loop-i.i _ _ c.loop-i-test.true c.loop-i.invariant (c.in_err-check_class.ensures.err p order))

pub loop-i-preserved : goal.loop-i-preserved
loop-i-preserved c =
    let p = map class c.args.classes.now in
    let at = class-at c.args.classes.now c.loop-i.i _ c.loop-i-test.true in
    let order = c.in_ok-is_in_order.ensures.ok p c.requires.numbers at (not-yet p c.loop-i.i _ c.requires.numbers.again (λ k d m e. (c.loop-i.invariant k d m e).0)) in
    one-more c.args.classes.now c.loop-i.i _ c.loop-i-test.true c.loop-i.invariant (c.in_ok-check_class.ensures.ok p order) c.in_ok-check_class.ensures.ranges

pub returns-clause-formed : goal.returns-clause-formed
returns-clause-formed c = all-kept c.args.classes.now c.loop-i.i c.loop-i-test.false c.loop-i.invariant

pub check_class-requires-clause-named : goal.check_class-requires-clause-named
check_class-requires-clause-named c = λ known. all_at (CodesHold InsnsAreNamed) class c.args.classes.now c.loop-i.i _ c.loop-i-test.true (c.requires.named known)
