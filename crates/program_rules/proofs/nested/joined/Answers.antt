use Rattle.std.proofs.Common.{get_or, subst}
use Rattle.program_types.specs.View.{value}
use Rattle.program_rules.specs.inner.Nested.{IsWalked, IsSoFar}
use Rattle.program_rules.specs.declared.nested.Walked.{Walked}
use Rattle.program_rules.specs.declared.nested.Progress.{Progress}
use Rattle.program_rules.proofs.NestedLaws.{good-at, one-left}
use Rattle.program_rules.proofs.nested.joined.Goals as goal

pub returns-in-Invalid : goal.returns-in-Invalid
returns-in-Invalid c = λ xs i one l e s n g.
    let bad = subst (λ (w : Walked). IsWalked (value (get_or xs i one)) w) c.in-Invalid.is n in
    bad (good-at xs i one l g)

pub returns-in-Valid-so_far : goal.returns-in-Valid-so_far
returns-in-Valid-so_far c = λ xs i one l e s n.
    let left = subst (λ (w : Walked). IsWalked (value (get_or xs i one)) w) c.in-Left.is n in
    let before = subst (λ (k : Progress). IsSoFar (value c.args.array.now) xs i k) c.in-Valid-so_far.is s in
    one-left xs i one _ l before left.0 left.1
