use Rattle.std.proofs.Common.{map, drop, List, ◌++◌}
use Rattle.std.specs.List.{AllByRecursion}
use Rattle.code_align.specs.Programs.{Pairwise, AlignedClass}
use Rattle.program_types.specs.Content.{Class}
use Rattle.program_types.specs.Formed.{IsFormed}
use Rattle.program_types.specs.View.{class}
use Rattle.program_rules.specs.Rules.{CodesHold}
use Rattle.code_align.proofs.programs.aligned_classes.Given as goal

abbrev pub invariant-loop-one : goal.invariant-loop-one
invariant-loop-one l = ((ds : List Class) → Pairwise AlignedClass (map class (drop l.one-index l.all)) ds → Pairwise AlignedClass (map class l.all) (map class l.classes.items ++ ds))
    × AllByRecursion (CodesHold IsFormed) (map class l.classes.items)
