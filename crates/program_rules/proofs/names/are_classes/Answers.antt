use Rattle.std.proofs.Common.{rules}
use Rattle.dex_base.specs.Descriptor.{IsClass}
use Rattle.program_types.specs.View.{desc}
use Rattle.program_rules.proofs.AllLaws.{all-here}
use Rattle.program_rules.proofs.names.are_classes.Goals as goal

pub returns-then-not-is_class_type : goal.returns-then-not-is_class_type
returns-then-not-is_class_type c = (
  λ t. absurd cc,
  λ h. let x = c.is_class_type.ensures.1 (all-here IsClass desc c.args.types.now c.loop-ty.ty-index _ c.loop-ty-test.true (c.loop-ty.invariant.0 h)) in search rules,
)
