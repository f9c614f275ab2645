use Rattle.std.proofs.Common.{map, take}
use Rattle.std.specs.List.{AllByRecursion}
use Rattle.dex_base.specs.Descriptor.{IsDescriptor}
use Rattle.program_types.specs.View.{desc}
use Rattle.dex_samples.proofs.names.has_shorty.Given as goal

-- the parameters so far are descriptors
abbrev pub invariant-loop-param : goal.invariant-loop-param
invariant-loop-param l = AllByRecursion IsDescriptor (map desc (take l.param-index l.param-items))
