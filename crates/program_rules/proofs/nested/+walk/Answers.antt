use Rattle.std.proofs.Common.{subst}
use Rattle.program_types.specs.View.{value}
use Rattle.program_rules.specs.inner.Nested.{IsWalked, IsProgress}
use Rattle.program_rules.specs.declared.nested.Progress.{Progress}
use Rattle.program_types.specs.declared.value.Value.{Value as Held}
use Rattle.program_rules.proofs.NestedLaws.{progress-deeper, progress-whole}
use Rattle.program_rules.proofs.nested.+walk.Goals as goal

pub examine_array-loop-each-preserved : goal.examine_array-loop-each-preserved
examine_array-loop-each-preserved n c =
    let seen = subst (λ (v : Held). IsWalked (value v) c.step.result) c.each-item.is c.step.ensures in
    c.joined-so_far.ensures c.args.all.now c.loop-each.each-index c.each-item.result c.loop-each-test.true c.requires.array c.loop-each.invariant seen

pub examine_array-returns : goal.examine_array-returns
examine_array-returns n c = progress-whole _ c.args.all.now c.loop-each.each-index c.loop-each.so_far c.requires.array c.loop-each-test.false c.loop-each.invariant

pub walk-loop-seen-preserved : goal.walk-loop-seen-preserved
walk-loop-seen-preserved n c =
    let left = subst (λ (k : Progress). IsProgress (value c.args.root.now) k) c.in-One.is c.loop-seen.invariant in
    progress-deeper _ (value c.in-One.inner.now) c.examine-seen-in-One.result left.0 left.1 c.examine-seen-in-One.ensures
