use Rattle.std.proofs.Common.{◌-◌, length}
use Rattle.dex_base.proofs.DescriptorLaws.{IsTailAt}
use Rattle.dex_base.proofs.descriptor.class_tail_length.Given as goal

abbrev pub invariant-loop-at : goal.invariant-loop-at
invariant-loop-at l = IsTailAt l.units l.at

abbrev pub decreases-loop-at : goal.decreases-loop-at
decreases-loop-at l = length l.units - l.at
