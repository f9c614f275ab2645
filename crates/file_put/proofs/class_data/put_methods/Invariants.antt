use Rattle.std.proofs.Common.{map, take}
use Rattle.program_types.specs.Content.{Descriptor}
use Rattle.program_types.specs.View as view
use Rattle.tables_names.specs.Closure.{method_of_class}
use Rattle.tables_names.specs.Noted.{AreRanks}
use Rattle.file_put.proofs.MemberRuns.{MethodsTo}
use Rattle.file_put.proofs.class_data.put_methods.Given as goal

abbrev pub invariant-loop-i : goal.invariant-loop-i
invariant-loop-i l =
    (owner : Descriptor) → AreRanks l.ranks (map (method_of_class owner) (map view.method l.methods)) l.own → MethodsTo l.ranks owner (take l.i l.codes) l.fn.out.items l.out.items (map view.method (take l.i l.methods)) l.last
