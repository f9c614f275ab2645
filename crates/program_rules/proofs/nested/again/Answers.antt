use Rattle.std.proofs.Common.{subst}
use Rattle.program_types.specs.View.{value}
use Rattle.program_rules.specs.inner.Nested.{IsWalked}
use Rattle.program_rules.specs.declared.nested.Walked.{Walked}
use Rattle.program_rules.proofs.NestedLaws.{walked-deeper}
use Rattle.program_rules.proofs.nested.again.Goals as goal

pub returns-in-Left : goal.returns-in-Left
returns-in-Left c = λ v h.
    let left = subst (λ (w : Walked). IsWalked v w) c.in-Left.is h in
    walked-deeper v (value c.in-Left.left.now) c.walk.result left.0 left.1 c.walk.ensures
