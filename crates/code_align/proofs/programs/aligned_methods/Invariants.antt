use Rattle.std.proofs.Common.{map, drop, List, ◌++◌}
use Rattle.std.specs.Prelude.{IfSome}
use Rattle.std.specs.List.{AllByRecursion}
use Rattle.code_align.specs.Programs.{Pairwise, AlignedMethod}
use Rattle.program_types.specs.Content.{Method}
use Rattle.program_types.specs.Formed.{IsFormed}
use Rattle.program_types.specs.View.{method}
use Rattle.code_align.proofs.programs.aligned_methods.Given as goal

abbrev pub invariant-loop-one : goal.invariant-loop-one
invariant-loop-one l = ((ns : List Method) → Pairwise AlignedMethod (map method (drop l.one-index l.all)) ns → Pairwise AlignedMethod (map method l.all) (map method l.methods.items ++ ns))
    × AllByRecursion (λ (n : Method). IfSome n.code IsFormed) (map method l.methods.items)
